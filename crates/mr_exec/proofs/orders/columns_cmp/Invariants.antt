use Rattle.std.proofs.Common.{◌≡◌, drop}
use Rattle.mr_spec.specs.Rows.{columns_cmp}
use Rattle.mr_exec.proofs.orders.columns_cmp.Given as goal

abbrev pub invariant-loop-place : goal.invariant-loop-place
invariant-loop-place l = columns_cmp l.def (drop l.place-index l.places) l.r l.s ≡ columns_cmp l.def l.places l.r l.s
