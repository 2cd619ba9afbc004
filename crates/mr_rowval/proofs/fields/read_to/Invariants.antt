use Rattle.std.proofs.Common.{◌≡◌, ◌≤◌, ℕ, List, Bool, drop, length, Some}
use Rattle.mr_types.specs.declared.value.Value.{Value}
use Rattle.mr_rowval.specs.NullBits.{nullable_count, flags_read}
use Rattle.mr_rowval.specs.KeyParts.{Held}
use Rattle.mr_rowval.specs.RowValue.{fields_read}
use Rattle.mr_rowval.specs.Walking.{bits_read, and_values}
use Rattle.mr_rowval.proofs.fields.read_to.Given as goal

abbrev pub invariant-loop-at : goal.invariant-loop-at
invariant-loop-at l = (length l.rest ≤ length l.bytes) × ((held : Held) (flags : List Bool) (after : List ℕ) → flags_read (nullable_count l.columns) 0 0 l.nulls ≡ Some (flags, after) →
    (front : List Value) × (later : List Bool) × (length front ≡ l.at) × (bits_read (nullable_count (drop l.at l.columns)) l.bits ≡ Some (later, after))
    × (fields_read l.places held 0 l.columns flags l.bytes ≡ and_values front (fields_read l.places held l.at (drop l.at l.columns) later l.rest)))
