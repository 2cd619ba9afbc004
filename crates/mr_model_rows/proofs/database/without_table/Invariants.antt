use Rattle.std.proofs.Common.{◌≡◌, ◌++◌, ◌-◌, length, take, drop}
use Rattle.mr_model_rows.specs.Keyed.{tables_without}
use Rattle.mr_model_rows.proofs.database.without_table.Given as goal

abbrev pub invariant-loop-at : goal.invariant-loop-at
invariant-loop-at l = take l.at l.kept ++ tables_without l.name (drop l.at l.kept) ≡ tables_without l.name l.fn.tables

abbrev pub decreases-loop-at : goal.decreases-loop-at
decreases-loop-at l = length l.kept - l.at
