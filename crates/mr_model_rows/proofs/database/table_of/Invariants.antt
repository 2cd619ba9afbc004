use Rattle.std.proofs.Common.{◌≡◌, drop}
use Rattle.mr_spec.specs.Database.{table_of}
use Rattle.mr_model_rows.proofs.database.table_of.Given as goal

abbrev pub invariant-loop-table : goal.invariant-loop-table
invariant-loop-table l = table_of l.name (drop l.table-index l.tables) ≡ table_of l.name l.tables
