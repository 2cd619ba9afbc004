use Rattle.std.proofs.Common.{◌≡◌, is_some}
use Rattle.mr_iter.specs.Versions.{Version}
use Rattle.mr_iter.proofs.ChildLaws.{front_some, front_if}
use Rattle.mr_iter.proofs.merge.MergeListed.is_put.Goals as goal

pub is_put-requires : goal.is_put-requires
is_put-requires g c = front_some g.C.Listed.cursor (g.C.Listed.cursor c.front.result.now).current c.deref.result.now c.args.self.now.children.items c.args.self.now.order.items c.front.ensures c.deref.ensures.value c.requires

pub returns : goal.returns
returns g c = front_if g.C.Listed.cursor (λ (v : Version). c.is_put.result ≡ is_some v.put) (g.C.Listed.cursor c.front.result.now).current c.deref.result.now c.args.self.now.children.items c.args.self.now.order.items c.front.ensures c.deref.ensures.value c.is_put.ensures
