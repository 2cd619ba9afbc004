use Rattle.std.proofs.Common.{◌≡◌, drop, length, []}
use Rattle.mr_types.specs.Refusals.{in_turn}
use Rattle.mr_spec.specs.ColumnChecks.{with_column}
use Rattle.mr_schema.proofs.columns.columns_of.Given as goal

abbrev pub invariant-loop-column : goal.invariant-loop-column
invariant-loop-column l = record {
  checked : in_turn (with_column l.text.keys) l.columns (drop l.column-index l.written) ≡ in_turn (with_column l.text.keys) [] l.written;
  count : length l.columns ≡ l.column-index;
}
