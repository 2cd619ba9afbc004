use Rattle.std.proofs.Common.{◌≡◌, IfSome, drop}
use Rattle.mr_spec.specs.Rows.{columns_cmp}
use Rattle.mr_exec.proofs.lent.columns_cmp.Given as goal

abbrev pub invariant-loop-place : goal.invariant-loop-place
invariant-loop-place g l = IfSome (g.F.Fields.current l.fields) (λ r. columns_cmp (g.F.Fields.def l.fields) (drop l.place-index l.places) r l.row ≡ columns_cmp (g.F.Fields.def l.fields) l.places r l.row)
