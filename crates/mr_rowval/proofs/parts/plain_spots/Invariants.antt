use Rattle.std.proofs.Common.{◌≡◌, ℕ, List, Bool, Some, Ok, length}
use Rattle.mr_types.specs.declared.value.Value.{Value}
use Rattle.mr_rowval.specs.NullBits.{nullable_count, flags_read}
use Rattle.mr_rowval.specs.KeyParts.{Held}
use Rattle.mr_rowval.specs.RowValue.{fields_read}
use Rattle.mr_rowval.specs.Parts.{Ends}
use Rattle.mr_rowval.proofs.SpotWalk.{SpotsTo}
use Rattle.mr_rowval.proofs.parts.plain_spots.Given as goal

abbrev pub invariant-loop-at : goal.invariant-loop-at
invariant-loop-at l = (length l.spots ≡ 64) × ((held : Held) (flags : List Bool) (after : List ℕ) (fields : List Value) (rest : List ℕ) → Ends l.value l.plain → flags_read (nullable_count l.columns) 0 0 l.nulls ≡ Some (flags, after) → fields_read l.places held 0 l.columns flags l.plain ≡ Ok (fields, rest) → SpotsTo l.columns l.places l.at flags l.plain held after l.bits l.rest l.value fields l.spots)
