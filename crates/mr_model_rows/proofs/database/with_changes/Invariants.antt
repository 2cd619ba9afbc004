use Rattle.std.proofs.Common.{◌≡◌, drop}
use Rattle.mr_spec.specs.Database.{with_changes}
use Rattle.mr_orders.specs.Orders.{AreAscending}
use Rattle.mr_model_rows.proofs.database.with_changes.Given as goal

abbrev pub invariant-loop-change : goal.invariant-loop-change
invariant-loop-change l = record {
  same : with_changes l.all (drop l.change-index l.changes) ≡ with_changes l.fn.tables l.changes;
  rising : AreAscending l.all;
}
