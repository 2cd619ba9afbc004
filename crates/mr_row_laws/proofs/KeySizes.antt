-- Keys of rows are short.
use Rattle.std.proofs.Common.{◌≡◌, ℕ, zero, suc, ◌+◌, ◌-◌, ◌*◌, ◌≤◌, ℤ, List, [], ◌∷◌, ◌++◌, length, refl, sym, ap, ◌∙◌, arith, replicate, slice_get, Bool, true, false, cond, Option, Some, None, Ok}
use Rattle.std.specs.Prelude.{◌==◌}
use Rattle.std.specs.Option.{option_map_or}
use Rattle.std.specs.List.{AllByRecursion}
use Rattle.std.proofs.lemmas.List.Sums.{sum-map, sum_by-cons}
use Rattle.std.proofs.lemmas.List.{length-append, length-replicate, length-map}
use Rattle.byteorder.specs.Endian.{big_bytes}
use Rattle.byteorder.specs.Numbers.{length-bytes_high_first}
use Rattle.mr_lanes.specs.Kernels.{upper}
use Rattle.mr_pieces.specs.declared.collation.Collation.{Collation}
use Rattle.mr_pieces.specs.declared.collation.Collation.TheVariants.{Bin, Ci}
use Rattle.mr_pieces.specs.Order.{folded}
use Rattle.mr_pieces.specs.Pieces.{bytes_from, trim_onto, trimmed, text_from, text_pieces}
use Rattle.mr_types.specs.declared.kind.Kind.{Kind}
use Rattle.mr_types.specs.declared.kind.Kind.TheVariants.{Int, IntUnsigned, BigInt, BigIntUnsigned, VarChar, VarBinary}
use Rattle.mr_types.specs.declared.definition.ColumnDef.{ColumnDef}
use Rattle.mr_types.specs.declared.definition.IndexDef.{IndexDef}
use Rattle.mr_types.specs.declared.definition.TableDef.{TableDef}
use Rattle.mr_types.specs.declared.row.Row.{Row}
use Rattle.mr_types.specs.declared.value.Value.{Value}
use Rattle.mr_types.specs.declared.value.Value.TheVariants.{Null, Number, Text, Bytes}
use Rattle.mr_types.specs.Rows.{AreFields, IsRowOf}
use Rattle.mr_types.specs.Order.{collation_of}
use Rattle.mr_types.specs.Values.{assign_to}
use Rattle.mr_memcmp.specs.Keys.{sign_flipped, magnitude, number_bytes, value_bytes, flagged_bytes, bytes_by_flag, column_bytes, part_bytes, parts_bytes, hidden_bytes, key_bytes_of}
use Rattle.mr_memcmp.proofs.Fitted.{kept, text_taken, bytes_taken}
use Rattle.mr_memcmp.proofs.Assigned.{text_short, bytes_short}
use Rattle.mr_spec.specs.KeyChecks.{key_bytes, width_of}
use Rattle.mr_rowval.specs.KeyParts.{is_in}
use Rattle.mr_entry.specs.Entry.{columns_of, not_among, entry_places}
use Rattle.mr_row_laws.proofs.CheckedDefinitions.{IsIndex, IsFormed}

-- ---- pieces: 9 bytes for each 8, and 9 more

bytes_size : (left : ℕ) (bytes : List ℕ) → left ≤ 7 → 8 * length (bytes_from left bytes) + left ≤ 9 * length bytes + 71
bytes_size left [] small = let a : length (bytes_from left []) ≡ left + 1 = length-append (replicate left 0) ((8 - left) ∷ []) ∙ ap (λ n. n + 1) (length-replicate left 0) in omega (arith, a)
bytes_size zero (b ∷ bytes) small = let more = bytes_size 7 bytes (omega arith) in omega arith
bytes_size (suc left) (b ∷ bytes) small = let more = bytes_size left bytes (omega arith) in omega arith

text_size : (left : ℕ) (text : List ℕ) → left ≤ 7 → 8 * length (text_from left text) + left ≤ 9 * length text + 71
text_size left [] small = let a : length (text_from left []) ≡ left + 1 = length-append (replicate left 32) (2 ∷ []) ∙ ap (λ n. n + 1) (length-replicate left 32) in omega (arith, a)
text_size zero (c ∷ text) small = let more = text_size 7 text (omega arith) in omega arith
text_size (suc left) (c ∷ text) small = let more = text_size left text (omega arith) in omega arith

whole_bytes : (bytes : List ℕ) → 8 * length (bytes_from 8 bytes) ≤ 9 * length bytes + 72
whole_bytes [] = omega arith
whole_bytes (b ∷ bytes) = let more = bytes_size 7 bytes (omega arith) in omega arith

whole_text : (text : List ℕ) → 8 * length (text_from 8 text) ≤ 9 * length text + 72
whole_text [] = omega arith
whole_text (c ∷ text) = let more = text_size 7 text (omega arith) in omega arith

pub trimmed_size : (text : List ℕ) → length (trimmed text) ≤ length text
trimmed_size [] = omega arith
trimmed_size (c ∷ text) = onto c (trimmed text) (length text) (trimmed_size text)
  where
    by_test : (b : Bool) (c : ℕ) → length (cond b [] (c ∷ [])) ≤ 1
    by_test true c = omega arith
    by_test false c = omega arith

    onto : (c : ℕ) (rest : List ℕ) (n : ℕ) → length rest ≤ n → length (trim_onto c rest) ≤ suc n
    onto c [] n h = let one = by_test (c == 32) c in omega arith
    onto c (x ∷ xs) n h = omega arith

pub folded_size : (c : Collation) (text : List ℕ) → length (folded c text) ≡ length text
folded_size Bin text = refl
folded_size Ci text = length-map text upper

pieces_size : (c : Collation) (text : List ℕ) (n : ℕ) → length text ≤ n → 8 * length (text_pieces c text) ≤ 9 * n + 72
pieces_size c text n h = omega (arith, whole_text (trimmed (folded c text)), trimmed_size (folded c text), folded_size c text)

-- ---- a column: its bytes by the length that it counts for in a key

numbers_size : (kind : Kind) (z : ℤ) → 8 * length (number_bytes kind z) ≤ 9 * key_bytes kind + 72
numbers_size Int z = omega (arith, length-bytes_high_first 4 (sign_flipped 31 z))
numbers_size IntUnsigned z = omega (arith, length-bytes_high_first 4 (magnitude z))
numbers_size BigInt z = omega (arith, length-bytes_high_first 8 (sign_flipped 63 z))
numbers_size BigIntUnsigned z = omega (arith, length-bytes_high_first 8 (magnitude z))
numbers_size (VarChar n c) z = omega arith
numbers_size (VarBinary n) z = omega arith

texts_size : (nullable : Bool) (kind : Kind) (t : List ℕ) → assign_to (record { kind = kind; nullable = nullable }) (Text t) ≡ kept (Text t) → 8 * length (text_pieces (collation_of kind) t) ≤ 9 * key_bytes kind + 72
texts_size nullable Int t e = absurd (text_taken Int t e)
texts_size nullable IntUnsigned t e = absurd (text_taken IntUnsigned t e)
texts_size nullable BigInt t e = absurd (text_taken BigInt t e)
texts_size nullable BigIntUnsigned t e = absurd (text_taken BigIntUnsigned t e)
texts_size nullable (VarChar n c) t e = pieces_size c t n (text_short n c t e)
texts_size nullable (VarBinary n) t e = absurd (text_taken (VarBinary n) t e)

binaries_size : (nullable : Bool) (kind : Kind) (b : List ℕ) → assign_to (record { kind = kind; nullable = nullable }) (Bytes b) ≡ kept (Bytes b) → 8 * length (bytes_from 8 b) ≤ 9 * key_bytes kind + 72
binaries_size nullable Int b e = absurd (bytes_taken Int b e)
binaries_size nullable IntUnsigned b e = absurd (bytes_taken IntUnsigned b e)
binaries_size nullable BigInt b e = absurd (bytes_taken BigInt b e)
binaries_size nullable BigIntUnsigned b e = absurd (bytes_taken BigIntUnsigned b e)
binaries_size nullable (VarChar n c) b e = absurd (bytes_taken (VarChar n c) b e)
binaries_size nullable (VarBinary n) b e = omega (arith, whole_bytes b, bytes_short n b e)

value_size : (nullable : Bool) (kind : Kind) (v : Value) → assign_to (record { kind = kind; nullable = nullable }) v ≡ kept v → 8 * length (value_bytes kind v) ≤ 9 * key_bytes kind + 72
value_size nullable kind Null e = omega arith
value_size nullable kind (Number z) e = numbers_size kind z
value_size nullable kind (Text t) e = texts_size nullable kind t e
value_size nullable kind (Bytes b) e = binaries_size nullable kind b e

flagged_size : (kind : Kind) (v : Value) → 8 * length (value_bytes kind v) ≤ 9 * key_bytes kind + 72 → 8 * length (flagged_bytes kind v) ≤ 9 * key_bytes kind + 80
flagged_size kind Null h = omega arith
flagged_size kind (Number z) h = omega arith
flagged_size kind (Text t) h = omega arith
flagged_size kind (Bytes b) h = omega arith

by_flag : (nullable : Bool) (kind : Kind) (v : Value) → 8 * length (value_bytes kind v) ≤ 9 * key_bytes kind + 72 → 8 * length (bytes_by_flag nullable kind v) ≤ 9 * key_bytes kind + 80
by_flag true kind v h = flagged_size kind v h
by_flag false kind v h = omega arith

column_size : (column : ColumnDef) (v : Value) → assign_to column.ty v ≡ Ok v → 8 * length (column_bytes column.ty v) ≤ 9 * key_bytes column.ty.kind + 80
unfolding column_bytes
column_size column v e = by_flag column.ty.nullable column.ty.kind v (value_size column.ty.nullable column.ty.kind v e)

abbrev pub width_at : List ColumnDef → ℕ → ℕ
width_at columns p = option_map_or (λ c. key_bytes c.ty.kind) (slice_get columns p) 0

part_size : (columns : List ColumnDef) (fields : List Value) (p : ℕ) → AreFields columns fields → 8 * length (part_bytes (slice_get columns p) (slice_get fields p)) ≤ 9 * width_at columns p + 80
part_size [] [] p h = omega arith
part_size [] (v ∷ fields) p h = absurd h
part_size (column ∷ columns) [] p h = absurd h
part_size (column ∷ columns) (v ∷ fields) zero h = column_size column v h.0.as_it_is
part_size (column ∷ columns) (v ∷ fields) (suc p) h = part_size columns fields p h.1

pub width_cons : (columns : List ColumnDef) (p : ℕ) (places : List ℕ) → width_of columns (p ∷ places) ≡ width_at columns p + width_of columns places
width_cons columns p places = sum-map (width_at columns) (p ∷ places) ∙ sum_by-cons (width_at columns) p places ∙ ap (λ n. width_at columns p + n) (sym (sum-map (width_at columns) places))

parts_size : (columns : List ColumnDef) (fields : List Value) (places : List ℕ) → AreFields columns fields → 8 * length (parts_bytes columns fields places) ≤ 9 * width_of columns places + 80 * length places
parts_size columns fields [] h = omega arith
parts_size columns fields (p ∷ places) h =
    let a = length-append (part_bytes (slice_get columns p) (slice_get fields p)) (parts_bytes columns fields places) in
    let b = part_size columns fields p h in
    let c = parts_size columns fields places h in
    omega (arith, a, b, c, width_cons columns p places)

-- ---- the columns of an entry: those of two keys at most

width_append : (columns : List ColumnDef) (a b : List ℕ) → width_of columns (a ++ b) ≡ width_of columns a + width_of columns b
width_append columns [] b = omega arith
width_append columns (p ∷ a) b = let more = width_append columns a b in omega (arith, more, width_cons columns p a, width_cons columns p (a ++ b))

rest_size : (columns : List ColumnDef) (own primary : List ℕ) → (length (not_among own primary) ≤ length primary) × (width_of columns (not_among own primary) ≤ width_of columns primary)
rest_size columns own [] = (omega arith, omega arith)
rest_size columns own (q ∷ primary) = by_test columns (is_in own q) q (not_among own primary) primary (rest_size columns own primary).0 (rest_size columns own primary).1
  where
    by_test : (columns : List ColumnDef) (b : Bool) (q : ℕ) (l primary : List ℕ) → length l ≤ length primary → width_of columns l ≤ width_of columns primary → (length (cond b l (q ∷ l)) ≤ suc (length primary)) × (width_of columns (cond b l (q ∷ l)) ≤ width_of columns (q ∷ primary))
    by_test columns true q l primary h k = (omega arith, omega (arith, width_cons columns q primary))
    by_test columns false q l primary h k = (omega arith, omega (arith, width_cons columns q l, width_cons columns q primary))

pub record AreFew (columns : List ColumnDef) (places : List ℕ) : Type 0 where
  pub few : length places ≤ 32
  pub narrow : width_of columns places ≤ 1534

own_few : (columns : List ColumnDef) (keys : List IndexDef) (i : ℕ) → AllByRecursion (IsIndex columns) keys → (length (columns_of (slice_get keys i)) ≤ 16) × (width_of columns (columns_of (slice_get keys i)) ≤ 767)
own_few columns [] i all = (omega arith, omega arith)
own_few columns (key ∷ keys) zero all = (all.0.few, all.0.narrow)
own_few columns (key ∷ keys) (suc i) all = own_few columns keys i all.1

pub few : (def : TableDef) (index : ℕ) → IsFormed def → AreFew def.columns (entry_places def index)
few def zero formed = let a = formed.primary.few in let b = formed.primary.narrow in record { few = omega arith; narrow = omega arith }
few def (suc i) formed =
    let own = columns_of (slice_get def.secondary i) in
    let primary = def.primary.columns in
    let o = own_few def.columns def.secondary i formed.secondary in
    let r = rest_size def.columns own primary in
    record {
      few = omega (arith, o.0, r.0, formed.primary.few, length-append own (not_among own primary));
      narrow = omega (arith, o.1, r.1, formed.primary.narrow, width_append def.columns own (not_among own primary));
    }

pub hidden_size : (o : Option ℕ) → length (hidden_bytes o) ≤ 8
hidden_size None = omega arith
hidden_size (Some n) = omega (arith, length-bytes_high_first 8 n)

pub key_size : (def : TableDef) (row : Row) (number index : ℕ) → IsFormed def → IsRowOf def row → length (key_bytes_of number def (entry_places def index) row) ≤ 8192
key_size def row number index formed is =
    let places = entry_places def index in
    let parts = parts_bytes def.columns row.fields places in
    let f = few def index formed in
    omega (arith, f.few, f.narrow, parts_size def.columns row.fields places is.fields, hidden_size row.hidden, length-bytes_high_first 4 number, length-append (big_bytes 4 number) parts, length-append (big_bytes 4 number ++ parts) (hidden_bytes row.hidden))
