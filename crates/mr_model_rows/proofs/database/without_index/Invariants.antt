use Rattle.std.proofs.Common.{◌≡◌, ◌++◌, length, reverse}
use Rattle.mr_spec.specs.Database.{with_schema}
use Rattle.mr_types.specs.declared.row.Schema.TheVariants as schema
use Rattle.mr_model_rows.proofs.database.without_index.Given as goal

abbrev pub invariant-tables : goal.invariant-tables
invariant-tables l = with_schema l.before (schema.DropIndex l.name l.key) ++ reverse l.after ≡ with_schema l.fn.tables (schema.DropIndex l.name l.key)

abbrev pub decreases-tables : goal.decreases-tables
decreases-tables l = length l.before
