use Rattle.std.proofs.Common.{◌≡◌, ◌+◌, ◌≤◌, drop}
use Rattle.mr_rowval.specs.NullBits.{nullable_count}
use Rattle.mr_rowval.proofs.nulls.nullable_count.Given as goal

abbrev pub invariant-loop-column : goal.invariant-loop-column
invariant-loop-column l = (l.count + nullable_count (drop l.column-index l.columns) ≡ nullable_count l.columns) × (l.count ≤ l.column-index)
