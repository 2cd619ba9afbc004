-- The key of a row is a list of bytes.
use Rattle.std.proofs.Common.{ℕ, zero, suc, ◌-◌, ◌<◌, ℤ, List, [], ◌∷◌, ◌++◌, Bool, true, false, cond, Option, Some, None, arith, replicate, slice_get, nat_lt}
use Rattle.std.specs.Prelude.{map, nat_le, ◌&&◌, ◌==◌}
use Rattle.std.specs.List.{AllByRecursion}
use Rattle.std.specs.Int.{byte_at, bytes_high_first}
use Rattle.byteorder.specs.Endian.{big_bytes}
use Rattle.mr_lanes.specs.Kernels.{upper}
use Rattle.mr_pieces.specs.declared.collation.Collation.{Collation}
use Rattle.mr_pieces.specs.declared.collation.Collation.TheVariants.{Bin, Ci}
use Rattle.mr_pieces.specs.Order.{folded, IsAscii}
use Rattle.mr_pieces.specs.Pieces.{bytes_from, trim_onto, trimmed, mark, text_from, text_pieces}
use Rattle.mr_types.specs.declared.kind.Kind.{Kind}
use Rattle.mr_types.specs.declared.kind.Kind.TheVariants.{Int, IntUnsigned, BigInt, BigIntUnsigned, VarChar, VarBinary}
use Rattle.mr_types.specs.declared.definition.ColumnDef.{ColumnDef}
use Rattle.mr_types.specs.declared.definition.TableDef.{TableDef}
use Rattle.mr_types.specs.declared.row.Row.{Row}
use Rattle.mr_types.specs.declared.value.Value.{Value}
use Rattle.mr_types.specs.declared.value.Value.TheVariants.{Null, Number, Text, Bytes}
use Rattle.mr_types.specs.Order.{collation_of}
use Rattle.mr_types.specs.Rows.{IsValue, AreFields, IsRowOf}
use Rattle.mr_memcmp.specs.Keys.{sign_flipped, magnitude, number_bytes, value_bytes, flagged_bytes, bytes_by_flag, column_bytes, part_bytes, parts_bytes, hidden_bytes}
use Rattle.mr_memcmp.specs.ComeBack.{AreBytes}
use Rattle.mr_memcmp.specs.Parts.{row_key}

abbrev All : List ℕ → Type 0
All bytes = AllByRecursion (λ b. b < 256) bytes

both : (a b : List ℕ) → All a → All b → All (a ++ b)
both [] b h k = k
both (x ∷ a) b h k = (h.0, both a b h.1 k)

are_bytes : (bytes : List ℕ) → All bytes → AreBytes bytes
are_bytes [] all = λ i. omega arith
are_bytes (b ∷ bytes) all = λ i. at_index i b bytes all.0 (are_bytes bytes all.1)
  where
    at_index : (i b : ℕ) (bytes : List ℕ) → b < 256 → AreBytes bytes → Rattle.std.specs.Prelude.slice_index (b ∷ bytes) i < 256
    at_index zero b bytes h more = h
    at_index (suc i) b bytes h more = more i

-- ---- numbers

one_byte : (i n : ℕ) → byte_at i n < 256
one_byte zero n = omega arith
one_byte (suc i) n = omega arith

number_all : (k n : ℕ) → All (bytes_high_first k n)
number_all zero n = tt
number_all (suc k) n = (one_byte k n, number_all k n)

kind_all : (kind : Kind) (z : ℤ) → All (number_bytes kind z)
kind_all Int z = number_all 4 (sign_flipped 31 z)
kind_all IntUnsigned z = number_all 4 (magnitude z)
kind_all BigInt z = number_all 8 (sign_flipped 63 z)
kind_all BigIntUnsigned z = number_all 8 (magnitude z)
kind_all (VarChar n c) z = tt
kind_all (VarBinary n) z = tt

-- ---- pieces

again : (n b : ℕ) → b < 256 → All (replicate n b)
again zero b h = tt
again (suc n) b h = (h, again n b h)

bytes_all : (left : ℕ) (bytes : List ℕ) → All bytes → All (bytes_from left bytes)
bytes_all left [] all = both (replicate left 0) ((8 - left) ∷ []) (again left 0 (omega arith)) (omega arith, tt)
bytes_all zero (b ∷ bytes) all = (omega arith, (all.0, bytes_all 7 bytes all.1))
bytes_all (suc left) (b ∷ bytes) all = (all.0, bytes_all left bytes all.1)

mark_small : (text : List ℕ) → mark text < 256
unfolding mark
mark_small [] = omega arith
mark_small (c ∷ text) = by_tests (nat_lt c 32) (c == 32) (mark text) (mark_small text)
  where
    by_tests : (a b : Bool) (m : ℕ) → m < 256 → cond a 1 (cond b m 3) < 256
    by_tests true b m h = omega arith
    by_tests false true m h = h
    by_tests false false m h = omega arith

text_all : (left : ℕ) (text : List ℕ) → All text → All (text_from left text)
text_all left [] all = both (replicate left 32) (2 ∷ []) (again left 32 (omega arith)) (omega arith, tt)
text_all zero (c ∷ text) all = (mark_small (c ∷ text), (all.0, text_all 7 text all.1))
text_all (suc left) (c ∷ text) all = (all.0, text_all left text all.1)

trimmed_all : (text : List ℕ) → All text → All (trimmed text)
trimmed_all [] all = tt
trimmed_all (c ∷ text) all = onto c (trimmed text) all.0 (trimmed_all text all.1)
  where
    by_test : (b : Bool) (c : ℕ) → c < 256 → All (cond b [] (c ∷ []))
    by_test true c h = tt
    by_test false c h = (h, tt)

    onto : (c : ℕ) (text : List ℕ) → c < 256 → All text → All (trim_onto c text)
    onto c [] h all = by_test (c == 32) c h
    onto c (x ∷ xs) h all = (h, all)

upper_small : (b : ℕ) → b < 128 → upper b < 256
upper_small b h = by_test (nat_le 97 b && nat_le b 122) b h
  where
    by_test : (t : Bool) (b : ℕ) → b < 128 → cond t (b - 32) b < 256
    by_test true b h = omega arith
    by_test false b h = omega arith

folded_all : (c : Collation) (text : List ℕ) → IsAscii text → All (folded c text)
folded_all Bin [] ascii = tt
folded_all Bin (b ∷ text) ascii = let low = ascii.0 in (omega arith, folded_all Bin text ascii.1)
folded_all Ci [] ascii = tt
folded_all Ci (b ∷ text) ascii = (upper_small b ascii.0, folded_all Ci text ascii.1)

pieces_all : (c : Collation) (text : List ℕ) → IsAscii text → All (text_pieces c text)
pieces_all c text ascii = text_all 8 (trimmed (folded c text)) (trimmed_all (folded c text) (folded_all c text ascii))

-- ---- columns

value_all : (kind : Kind) (v : Value) → IsValue v → All (value_bytes kind v)
value_all kind Null is = tt
value_all kind (Number z) is = kind_all kind z
value_all kind (Text text) is = pieces_all (collation_of kind) text is
value_all kind (Bytes bytes) is = bytes_all 8 bytes is

flagged_all : (kind : Kind) (v : Value) → IsValue v → All (flagged_bytes kind v)
flagged_all kind Null is = (omega arith, tt)
flagged_all kind (Number z) is = (omega arith, value_all kind (Number z) is)
flagged_all kind (Text text) is = (omega arith, value_all kind (Text text) is)
flagged_all kind (Bytes bytes) is = (omega arith, value_all kind (Bytes bytes) is)

by_flag : (nullable : Bool) (kind : Kind) (v : Value) → IsValue v → All (bytes_by_flag nullable kind v)
by_flag true kind v is = flagged_all kind v is
by_flag false kind v is = value_all kind v is

column_all : (column : ColumnDef) (v : Value) → IsValue v → All (column_bytes column.ty v)
unfolding column_bytes
column_all column v is = by_flag column.ty.nullable column.ty.kind v is

part_all : (columns : List ColumnDef) (fields : List Value) (p : ℕ) → AreFields columns fields → All (part_bytes (slice_get columns p) (slice_get fields p))
part_all [] [] p h = tt
part_all [] (v ∷ fields) p h = absurd h
part_all (column ∷ columns) [] p h = absurd h
part_all (column ∷ columns) (v ∷ fields) zero h = column_all column v h.0.is_value
part_all (column ∷ columns) (v ∷ fields) (suc p) h = part_all columns fields p h.1

parts_all : (columns : List ColumnDef) (fields : List Value) (places : List ℕ) → AreFields columns fields → All (parts_bytes columns fields places)
parts_all columns fields [] h = tt
parts_all columns fields (p ∷ places) h = both (part_bytes (slice_get columns p) (slice_get fields p)) (parts_bytes columns fields places) (part_all columns fields p h) (parts_all columns fields places h)

hidden_all : (o : Option ℕ) → All (hidden_bytes o)
hidden_all None = tt
hidden_all (Some n) = number_all 8 n

pub key_bytes_are : (index : Option ℕ) (def : TableDef) (places : List ℕ) (row : Row) → IsRowOf def row → AreBytes (row_key index def places row)
key_bytes_are None def places row is = are_bytes (parts_bytes def.columns row.fields places ++ hidden_bytes row.hidden) (both (parts_bytes def.columns row.fields places) (hidden_bytes row.hidden) (parts_all def.columns row.fields places is.fields) (hidden_all row.hidden))
key_bytes_are (Some index) def places row is =
    let columns = both (big_bytes 4 index) (parts_bytes def.columns row.fields places) (number_all 4 index) (parts_all def.columns row.fields places is.fields) in
    are_bytes (big_bytes 4 index ++ parts_bytes def.columns row.fields places ++ hidden_bytes row.hidden) (both (big_bytes 4 index ++ parts_bytes def.columns row.fields places) (hidden_bytes row.hidden) columns (hidden_all row.hidden))
