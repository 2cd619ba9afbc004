-- How wide keys are.
use Rattle.std.specs.Prelude.{ℕ, List, slice_get}
use Rattle.std.specs.Option.{option_map_or}
use Rattle.mr_types.specs.declared.definition.ColumnDef.{ColumnDef}
use Rattle.mr_spec.specs.KeyChecks.{key_bytes}

-- the bytes that the column at a place counts for in a key
abbrev pub width_at : List ColumnDef → ℕ → ℕ
width_at columns i = option_map_or (λ c. key_bytes c.ty.kind) (slice_get columns i) 0
