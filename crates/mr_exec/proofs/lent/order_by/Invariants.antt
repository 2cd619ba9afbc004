use Rattle.std.proofs.Common.{◌≡◌, IfSome, drop}
use Rattle.mr_bound.specs.BoundSelects.{order_by}
use Rattle.mr_exec.proofs.lent.order_by.Given as goal

abbrev pub invariant-loop-item : goal.invariant-loop-item
invariant-loop-item g l = IfSome (g.F.Fields.current l.fields) (λ r. order_by (g.F.Fields.def l.fields) (drop l.item-index l.order) r l.row ≡ order_by (g.F.Fields.def l.fields) l.order r l.row)
