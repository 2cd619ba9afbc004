use Rattle.std.proofs.Common.{◌≡◌}
use Rattle.mr_iter.specs.Versions.{Version}
use Rattle.mr_iter.proofs.ChildLaws.{front_some, front_if}
use Rattle.mr_iter.proofs.merge.MergeListed.key.Goals as goal

pub key-requires : goal.key-requires
key-requires g c = front_some g.C.Listed.cursor (g.C.Listed.cursor c.front.result.now).current c.deref.result.now c.args.self.now.children.items c.args.self.now.order.items c.front.ensures c.deref.ensures.value c.requires

pub returns : goal.returns
returns g c = front_if g.C.Listed.cursor (λ (v : Version). c.key.result.now ≡ v.key) (g.C.Listed.cursor c.front.result.now).current c.deref.result.now c.args.self.now.children.items c.args.self.now.order.items c.front.ensures c.deref.ensures.value c.key.ensures
