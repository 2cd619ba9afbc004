use Rattle.std.proofs.Common.{◌≡◌, ◌++◌, take}
use Rattle.mr_spec.specs.RowForm.{values_bytes}
use Rattle.std.specs.List.{AllByRecursion}
use Rattle.mr_fields.specs.Fitting.{ValueHasPlace}
use Rattle.mr_fields.proofs.write_rows.write_values.Given as goal

abbrev pub invariant-writing : goal.invariant-writing
invariant-writing l = (l.out.items ≡ l.fn.out.items ++ values_bytes (take l.value-index l.values)) × AllByRecursion ValueHasPlace (take l.value-index l.values)
