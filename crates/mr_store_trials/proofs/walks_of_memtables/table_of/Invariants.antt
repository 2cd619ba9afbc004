use Rattle.std.proofs.Common.{◌≡◌}
use Rattle.mr_store_trials.proofs.walks_of_memtables.table_of.Given as goal

abbrev pub invariant-adding : goal.invariant-adding
invariant-adding l = l.table.direction ≡ l.fn.direction
