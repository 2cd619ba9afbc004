use Rattle.std.proofs.Common.{◌≡◌, drop}
use Rattle.mr_spec.specs.Database.{with_commits, replay}
use Rattle.mr_orders.specs.Orders.{AreAscending}
use Rattle.mr_model_rows.proofs.database.replay.Given as goal

abbrev pub invariant-loop-commit : goal.invariant-loop-commit
invariant-loop-commit l = record {
  same : with_commits l.all (drop l.commit-index l.commits) ≡ replay l.commits;
  rising : AreAscending l.all;
}
