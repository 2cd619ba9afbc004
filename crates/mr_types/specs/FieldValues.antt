-- The values of fields.
use Rattle.std.specs.Prelude.{◌≡◌, ◌≤◌, ℕ, Bool, true, false, List, [], take, length}
use Rattle.mr_lanes.specs.Kernels.{upper}
use Rattle.mr_pieces.specs.declared.collation.Collation.{Collation}
use Rattle.mr_pieces.specs.declared.collation.Collation.TheVariants.{Bin, Ci}
use Rattle.mr_types.specs.declared.kind.Kind.{Kind}
use Rattle.mr_types.specs.declared.kind.Kind.TheVariants.{VarChar}
use Rattle.mr_types.specs.declared.value.Value.{Value}
use Rattle.mr_types.specs.declared.value.Value.TheVariants.{Null, Number, Text, Bytes}
use Rattle.mr_types.specs.declared.field.FieldRef.{FieldRef}
use Rattle.mr_types.specs.declared.field.FieldRef.TheVariants as fields

-- bytes that lie in a column of the kind
abbrev pub value_of_bytes : Kind → List ℕ → Value
value_of_bytes (VarChar n collation) bytes = Text bytes
value_of_bytes _ bytes = Bytes bytes

-- the bytes of a text or of bytes
abbrev pub bytes_of : FieldRef → List ℕ
bytes_of fields.Null = []
bytes_of (fields.Number z) = []
bytes_of (fields.Slice slice) = slice.now
bytes_of (fields.Pieces pieces) = pieces

abbrev pub field_value : Kind → FieldRef → Value
field_value kind fields.Null = Null
field_value kind (fields.Number z) = Number z
field_value kind (fields.Slice slice) = value_of_bytes kind slice.now
field_value kind (fields.Pieces pieces) = value_of_bytes kind pieces

-- ---- values that stand in fields

-- the bytes of a text or of bytes
abbrev pub bytes_in : Value → List ℕ
bytes_in Null = []
bytes_in (Number n) = []
bytes_in (Text text) = text
bytes_in (Bytes bytes) = bytes

-- a column of the kind has such values: texts where it is one of texts, bytes elsewhere
abbrev pub is_held_by : Kind → Value → Bool
is_held_by (VarChar n collation) (Bytes bytes) = false
is_held_by (VarChar n collation) _ = true
is_held_by _ (Text text) = false
is_held_by _ _ = true

-- ---- bytes as they are compared

abbrev pub folded_byte : Collation → ℕ → ℕ
folded_byte Bin b = b
folded_byte Ci b = upper b

-- the first so many bytes of both are the same
abbrev pub Common : List ℕ → List ℕ → ℕ → Type 0
Common a b count = (take count a ≡ take count b) × (count ≤ length a) × (count ≤ length b)
