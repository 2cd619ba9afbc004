use Rattle.std.proofs.Common.{◌≡◌, ◌++◌, length, reverse}
use Rattle.mr_spec.specs.Database.{changed}
use Rattle.mr_orders.specs.Orders.{AreAscending}
use Rattle.mr_model_rows.proofs.database.changed.Given as goal

abbrev pub invariant-tables : goal.invariant-tables
invariant-tables l = record {
  same : changed l.before l.change ++ reverse l.after ≡ changed l.fn.tables l.change;
  rising : AreAscending l.before;
}

abbrev pub decreases-tables : goal.decreases-tables
decreases-tables l = length l.before
