use Rattle.std.proofs.Common.{◌≡◌, take}
use Rattle.mr_model_rows.proofs.database.copy_tables.Given as goal

abbrev pub invariant-loop-table : goal.invariant-loop-table
invariant-loop-table l = l.all ≡ take l.table-index l.tables
