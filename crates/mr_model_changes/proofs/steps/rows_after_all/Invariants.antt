use Rattle.std.proofs.Common.{◌≡◌, drop, fold}
use Rattle.mr_spec.specs.Rows.{rows_after}
use Rattle.mr_orders.specs.Orders.{IsAscending}
use Rattle.mr_model_changes.proofs.steps.rows_after_all.Given as goal

abbrev pub invariant-loop-change : goal.invariant-loop-change
invariant-loop-change l = record {
  same : fold (rows_after l.def) l.all (drop l.change-index l.made) ≡ fold (rows_after l.def) l.fn.rows l.made;
  rising : IsAscending l.def l.all;
}
