-- A value that a column takes as it is fits it, and so do the values of a row.
use Rattle.std.proofs.Common.{◌≡◌, ◌≢◌, ℕ, zero, suc, ◌<◌, ℤ, pos, negsuc, List, [], ◌∷◌, take, drop, length, refl, sym, ap, ◌∙◌, arith, Bool, true, false, Result, Ok, Err, Option, Some, None, cond}
use Rattle.std.specs.Prelude.{not, nat_lt, slice_get, slice_index_or}
use Rattle.std.specs.List.{list_all}
use Rattle.std.specs.Fmt.{signed_decimal}
use Rattle.std.proofs.lemmas.Bool.Decides.{nat_tests}
use Rattle.mr_lanes.specs.Kernels.{is_space}
use Rattle.mr_types.specs.declared.kind.Kind.{Kind}
use Rattle.mr_types.specs.declared.kind.Kind.TheVariants.{Int, IntUnsigned, BigInt, BigIntUnsigned, VarChar, VarBinary}
use Rattle.mr_types.specs.declared.definition.ColumnDef.{ColumnDef}
use Rattle.mr_types.specs.declared.definition.TableDef.{TableDef}
use Rattle.mr_types.specs.declared.row.Row.{Row}
use Rattle.mr_types.specs.declared.value.Value.{Value}
use Rattle.mr_types.specs.declared.value.Value.TheVariants.{Null, Number, Text, Bytes}
use Rattle.mr_types.specs.Refusals.{◌>>=◌, ◌>>◌, refuse_where, some_or}
use Rattle.mr_types.specs.Values.{assign_to, convert_to, fitted, whole_number, is_in_kind, is_ascii, length_of_kind}
use Rattle.mr_types.specs.Rows.{AreFields, IsRowOf}
use Rattle.mr_memcmp.specs.Fitting.{FitsColumn, FitsPart, AllFit, IsNumber, HoldsTexts, HoldsBytes}

abbrev pub kept : Value → Result Value ℕ
kept v = Ok v

-- ---- the sort of a value

abbrev sort_number : Value → ℕ
sort_number Null = 0
sort_number (Number z) = 1
sort_number (Text t) = 2
sort_number (Bytes b) = 3

-- an answer, if there is one, is of the sort
abbrev Gives : ℕ → Result Value ℕ → Type 0
Gives sort (Ok v) = sort_number v ≡ sort
Gives sort (Err e) = Unit {0}

refused_or : (sort : ℕ) (refused : Bool) (code : ℕ) (v : Value) → sort_number v ≡ sort → Gives sort (refuse_where code refused >> Ok v)
refused_or sort true code v e = tt
refused_or sort false code v e = e

text_gives : (refused : Bool) (t : List ℕ) → Gives 2 (refuse_where 1406 refused >> Ok (Text t))
text_gives refused t = refused_or 2 refused 1406 (Text t) refl

fitted_gives : (kind : Kind) (v : Value) → Gives (sort_number v) (fitted kind v)
fitted_gives kind Null = refl
fitted_gives kind (Number z) = refused_or 1 (not (is_in_kind kind z)) 1264 (Number z) refl
fitted_gives kind (Text t) = text_gives (not (list_all is_space (drop (length_of_kind kind) t))) (take (length_of_kind kind) t)
fitted_gives kind (Bytes b) = refused_or 3 (nat_lt (length_of_kind kind) (length b)) 1406 (Bytes b) refl

read_gives : (kind : Kind) (o : Option ℤ) → Gives 1 ((some_or 1366 o >>= (λ n. Ok (Number n))) >>= fitted kind)
read_gives kind None = tt
read_gives kind (Some n) = fitted_gives kind (Number n)

ascii_gives : (kind : Kind) (ascii : Bool) (b : List ℕ) → Gives 2 (cond ascii (Ok (Text b)) (Err 1366) >>= fitted kind)
ascii_gives kind true b = fitted_gives kind (Text b)
ascii_gives kind false b = tt

its_sort : (sort : ℕ) (answer : Result Value ℕ) (v : Value) → Gives sort answer → answer ≡ kept v → sort_number v ≡ sort
its_sort sort (Ok w) v gives e = let same : w ≡ v = cc in sym (ap sort_number same) ∙ gives
its_sort sort (Err code) v gives e = absurd cc

other_sort : (m n : ℕ) → m ≢ n → m ≡ n → ⊥
other_sort m n other same = other same

-- ---- a value that is taken as it is

not_refused : (inside : Bool) (v : Value) → (refuse_where 1264 (not inside) >> Ok v) ≡ kept v → inside ≡ true
not_refused true v e = refl
not_refused false v e = absurd cc

in_int : (z : ℤ) → is_in_kind Int z ≡ true → IsNumber Int z
in_int (pos n) h = grind (arith, nat_tests)
in_int (negsuc n) h = grind (arith, nat_tests)

in_int_unsigned : (z : ℤ) → is_in_kind IntUnsigned z ≡ true → IsNumber IntUnsigned z
in_int_unsigned (pos n) h = grind (arith, nat_tests)
in_int_unsigned (negsuc n) h = absurd cc

in_bigint : (z : ℤ) → is_in_kind BigInt z ≡ true → IsNumber BigInt z
in_bigint (pos n) h = grind (arith, nat_tests)
in_bigint (negsuc n) h = grind (arith, nat_tests)

in_bigint_unsigned : (z : ℤ) → is_in_kind BigIntUnsigned z ≡ true → IsNumber BigIntUnsigned z
in_bigint_unsigned (pos n) h = grind (arith, nat_tests)
in_bigint_unsigned (negsuc n) h = absurd cc

abbrev pub Taken : Kind → Value → Type 0
Taken kind v = (convert_to kind v >>= fitted kind) ≡ kept v

pub number_taken : (kind : Kind) (z : ℤ) → Taken kind (Number z) → IsNumber kind z
number_taken Int z e = in_int z (not_refused (is_in_kind Int z) (Number z) e)
number_taken IntUnsigned z e = in_int_unsigned z (not_refused (is_in_kind IntUnsigned z) (Number z) e)
number_taken BigInt z e = in_bigint z (not_refused (is_in_kind BigInt z) (Number z) e)
number_taken BigIntUnsigned z e = in_bigint_unsigned z (not_refused (is_in_kind BigIntUnsigned z) (Number z) e)
number_taken (VarChar n c) z e = other_sort 1 2 (omega arith) (its_sort 2 (fitted (VarChar n c) (Text (signed_decimal z))) (Number z) (fitted_gives (VarChar n c) (Text (signed_decimal z))) e)
number_taken (VarBinary n) z e = other_sort 1 3 (omega arith) (its_sort 3 (fitted (VarBinary n) (Bytes (signed_decimal z))) (Number z) (fitted_gives (VarBinary n) (Bytes (signed_decimal z))) e)

abbrev read_as : Kind → List ℕ → Result Value ℕ
read_as kind t = (some_or 1366 (whole_number t) >>= (λ n. Ok (Number n))) >>= fitted kind

text_read : (kind : Kind) (t : List ℕ) → read_as kind t ≡ kept (Text t) → ⊥
text_read kind t e = other_sort 2 1 (omega arith) (its_sort 1 (read_as kind t) (Text t) (read_gives kind (whole_number t)) e)

bytes_read : (kind : Kind) (b : List ℕ) → read_as kind b ≡ kept (Bytes b) → ⊥
bytes_read kind b e = other_sort 3 1 (omega arith) (its_sort 1 (read_as kind b) (Bytes b) (read_gives kind (whole_number b)) e)

pub text_taken : (kind : Kind) (t : List ℕ) → Taken kind (Text t) → HoldsTexts kind
text_taken Int t e = text_read Int t e
text_taken IntUnsigned t e = text_read IntUnsigned t e
text_taken BigInt t e = text_read BigInt t e
text_taken BigIntUnsigned t e = text_read BigIntUnsigned t e
text_taken (VarChar n c) t e = tt
text_taken (VarBinary n) t e = other_sort 2 3 (omega arith) (its_sort 3 (fitted (VarBinary n) (Bytes t)) (Text t) (fitted_gives (VarBinary n) (Bytes t)) e)

pub bytes_taken : (kind : Kind) (b : List ℕ) → Taken kind (Bytes b) → HoldsBytes kind
bytes_taken Int b e = bytes_read Int b e
bytes_taken IntUnsigned b e = bytes_read IntUnsigned b e
bytes_taken BigInt b e = bytes_read BigInt b e
bytes_taken BigIntUnsigned b e = bytes_read BigIntUnsigned b e
bytes_taken (VarChar n c) b e = other_sort 3 2 (omega arith) (its_sort 2 (cond (is_ascii b) (Ok (Text b)) (Err 1366) >>= fitted (VarChar n c)) (Bytes b) (ascii_gives (VarChar n c) (is_ascii b) b) e)
bytes_taken (VarBinary n) b e = tt

pub value_taken : (nullable : Bool) (kind : Kind) (v : Value) → assign_to (record { kind = kind; nullable = nullable }) v ≡ kept v → FitsColumn (record { kind = kind; nullable = nullable }) v
value_taken false kind Null e = absurd (let no : Result Value ℕ = Err 1048 in let f : no ≡ kept Null = e in cc)
value_taken true kind Null e = refl
value_taken nullable kind (Number z) e = number_taken kind z e
value_taken nullable kind (Text t) e = text_taken kind t e
value_taken nullable kind (Bytes b) e = bytes_taken kind b e

-- ---- rows

part_fits : (columns : List ColumnDef) (values : List Value) (p : ℕ) → AreFields columns values → FitsPart (slice_get columns p) (slice_get values p)
part_fits [] values p h = tt
part_fits (column ∷ columns) [] p h = absurd h
part_fits (column ∷ columns) (value ∷ values) zero h = value_taken column.ty.nullable column.ty.kind value h.0.as_it_is
part_fits (column ∷ columns) (value ∷ values) (suc p) h = part_fits columns values p h.1

all_fit : (columns : List ColumnDef) (values : List Value) (places : List ℕ) → AreFields columns values → AllFit columns values places
all_fit columns values [] h = tt
all_fit columns values (p ∷ places) h = (part_fits columns values p h, all_fit columns values places h)

pub row_fits : (def : TableDef) (row : Row) (places : List ℕ) → IsRowOf def row → AllFit def.columns row.fields places
row_fits def row places h = all_fit def.columns row.fields places h.fields

-- the value at one of the places
pub fits_at : (columns : List ColumnDef) (values : List Value) (places : List ℕ) (i : ℕ) → AllFit columns values places → i < length places → FitsPart (slice_get columns (slice_index_or places i 0)) (slice_get values (slice_index_or places i 0))
fits_at columns values [] i h p = absurd (omega arith)
fits_at columns values (q ∷ places) zero h p = h.0
fits_at columns values (q ∷ places) (suc i) h p = fits_at columns values places i h.1 (omega arith)
