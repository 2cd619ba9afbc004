-- The order of values.
use Rattle.std.specs.Prelude.{◌≡◌, Bool}
use Rattle.std.specs.Ordering.{is_eq, int_cmp}
use Rattle.std.specs.declared.cmp.Ordering.{Ordering}
use Rattle.std.specs.declared.cmp.Ordering.TheVariants.{Less, Equal, Greater}
use Rattle.mr_pieces.specs.declared.collation.Collation.{Collation}
use Rattle.mr_pieces.specs.declared.collation.Collation.TheVariants.{Bin}
use Rattle.mr_pieces.specs.Order.{text_cmp, bytes_cmp}
use Rattle.mr_types.specs.declared.value.Value.{Value}
use Rattle.mr_types.specs.declared.value.Value.TheVariants.{Null, Number, Text, Bytes}
use Rattle.mr_types.specs.declared.kind.Kind.{Kind}
use Rattle.mr_types.specs.declared.kind.Kind.TheVariants.{VarChar}

abbrev pub collation_of : Kind → Collation
collation_of (VarChar n collation) = collation
collation_of _ = Bin

-- NULL first; numbers by size; texts folded and padded with spaces; bytes as in a dictionary
abbrev pub value_cmp : Kind → Value → Value → Ordering
value_cmp kind Null Null = Equal
value_cmp kind Null (Number b) = Less
value_cmp kind Null (Text b) = Less
value_cmp kind Null (Bytes b) = Less
value_cmp kind (Number a) Null = Greater
value_cmp kind (Number a) (Number b) = int_cmp a b
value_cmp kind (Number a) (Text b) = Less
value_cmp kind (Number a) (Bytes b) = Less
value_cmp kind (Text a) Null = Greater
value_cmp kind (Text a) (Number b) = Greater
value_cmp kind (Text a) (Text b) = text_cmp (collation_of kind) a b
value_cmp kind (Text a) (Bytes b) = Less
value_cmp kind (Bytes a) Null = Greater
value_cmp kind (Bytes a) (Number b) = Greater
value_cmp kind (Bytes a) (Text b) = Greater
value_cmp kind (Bytes a) (Bytes b) = bytes_cmp a b

-- neither is less
abbrev pub IsSame : Kind → Value → Value → Type 0
IsSame kind a b = value_cmp kind a b ≡ Equal

abbrev pub is_same : Kind → Value → Value → Bool
is_same kind a b = is_eq (value_cmp kind a b)
