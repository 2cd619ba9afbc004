use Rattle.std.proofs.Common.{◌≡◌}
use Rattle.mr_iter.specs.Versions.{Version}
use Rattle.mr_chain.proofs.Reading.{child_live, child_some, child_if}
use Rattle.mr_chain.proofs.chain.ChainListed.key.Goals as goal

pub child-requires : goal.child-requires
child-requires g c = child_live g.C.Listed.cursor c.args.self.now.placed c.deref.result.now c.args.self.now.children.items c.args.self.now.here c.deref.ensures.value c.requires

pub key-requires : goal.key-requires
key-requires g c = child_some g.C.Listed.cursor c.args.self.now.placed (g.C.Listed.cursor c.child.result.now).current c.deref.result.now c.args.self.now.children.items c.args.self.now.here c.child.ensures c.deref.ensures.value c.requires

pub returns : goal.returns
returns g c = child_if g.C.Listed.cursor (λ (v : Version). c.key.result.now ≡ v.key) c.args.self.now.placed (g.C.Listed.cursor c.child.result.now).current c.deref.result.now c.args.self.now.children.items c.args.self.now.here c.child.ensures c.deref.ensures.value c.requires c.key.ensures
