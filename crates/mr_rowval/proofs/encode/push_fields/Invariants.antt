use Rattle.std.proofs.Common.{◌≡◌, ◌++◌, drop}
use Rattle.mr_rowval.specs.RowValue.{fields_bytes}
use Rattle.mr_rowval.proofs.encode.push_fields.Given as goal

abbrev pub invariant-loop-at : goal.invariant-loop-at
invariant-loop-at l = l.out.items ++ fields_bytes l.places l.at (drop l.at l.columns) (drop l.at l.values) ≡ l.fn.out.items ++ fields_bytes l.places 0 l.columns l.values
