-- A row's entry is read again.
use Rattle.std.proofs.Common.{◌≡◌, ℕ, zero, suc, ◌+◌, ◌-◌, ◌*◌, ◌/◌, ◌%◌, ◌^◌, ◌<◌, ◌≤◌, ℤ, pos, negsuc, List, [], ◌∷◌, ◌++◌, length, refl, sym, ap, ◌∙◌, arith, append_assoc, Bool, true, false, Option, Some, None, Result, Ok, Err, inl, inr, ◌≢◌}
use Rattle.std.specs.Prelude.{slice_get, nat_le, ◌&&◌, is_some}
use Rattle.std.specs.List.{list_all}
use Rattle.std.proofs.lemmas.List.{take_at, drop_at, length-append}
use Rattle.std.proofs.lemmas.Bool.{eq-eqb, ne_eqb, le-leb, le-ltb, lt-ltb, and_from, cases_eq}
use Rattle.std.proofs.lemmas.Nat.{from_be_bytes-to_be_bytes_2}
use Rattle.mr_lanes.specs.Kernels.{is_low}
use Rattle.mr_pieces.specs.Order.{IsAscii}
use Rattle.mr_types.specs.declared.kind.Kind.{Kind}
use Rattle.mr_types.specs.declared.kind.Kind.TheVariants.{Int, IntUnsigned, BigInt, BigIntUnsigned, VarChar, VarBinary}
use Rattle.mr_types.specs.declared.kind.ColumnType.{ColumnType}
use Rattle.mr_types.specs.declared.definition.ColumnDef.{ColumnDef}
use Rattle.mr_types.specs.declared.definition.Ttl.{Ttl}
use Rattle.mr_types.specs.declared.row.Row.{Row}
use Rattle.mr_types.specs.declared.value.Value.{Value}
use Rattle.mr_types.specs.declared.value.Value.TheVariants.{Null, Number, Text, Bytes}
use Rattle.mr_types.specs.Refusals.{◌>>=◌}
use Rattle.mr_types.specs.Values.{is_null, is_equal}
use Rattle.mr_types.specs.Rows.{IsValue, AreFields, IsWanted, IsStampOf}
use Rattle.mr_memcmp.specs.Fitting.{IsNumber, IsSigned, IsUnsigned}
use Rattle.mr_memcmp.specs.Keys.{magnitude, part_bytes, parts_bytes, hidden_bytes}
use Rattle.mr_memcmp.specs.Reading.{ReadValue, as_number}
use Rattle.mr_memcmp.specs.ComeBack.{IsKind, IsTaken, unpack_bytes, part_unpack, parts_unpack}
use Rattle.mr_memcmp.proofs.Fitted.{Taken, number_taken, text_taken, bytes_taken}
use Rattle.mr_memcmp.proofs.Assigned.{text_short, bytes_short}
use Rattle.mr_memcmp.proofs.ColumnTrip.{kept_again, full_again, four_again, eight_again}
use Rattle.mr_rowval.specs.NullBits.{with_flag, null_flags, one_more_if, nullable_count, bit_of, bits_from, null_bits, is_odd, after_flag, flags_read}
use Rattle.mr_rowval.specs.Plain.{complement, plain_number, text16, plain_bytes, signed, length16, text16_read, is_any, is_ascii_text, plain_read}
use Rattle.mr_rowval.specs.KeyParts.{Held, is_in, found, behind, part_kept, parts_kept, as_some, wanted_read, ReadPart, held_at, kept_full, part_full, parts_full, and_held}
use Rattle.mr_rowval.specs.RowValue.{field_bytes, fields_bytes, flags_at, flags_or, first_flag, later_flags, field_read, and_value, fields_read, is_stamp_at, is_column_stamp, is_stamp_of}
use Rattle.mr_rowval.specs.Encoding.{TakesPart}
use Rattle.mr_rowval.specs.Promises.{HasKinds}
use Rattle.mr_rowval.proofs.Pairs.{IsPair}
use Rattle.mr_rowval.proofs.Written.{part_taken}

abbrev some_column : ColumnDef → Option ColumnDef
some_column column = Some column

-- ---- null bits

odd_bit : (flag : Bool) (n : ℕ) → is_odd (bit_of flag + 2 * n) ≡ flag
odd_bit true n = let e : (1 + 2 * n) % 2 ≡ 1 = omega arith in rw e refl
odd_bit false n = let e : (0 + 2 * n) % 2 ≡ 0 = omega arith in rw e refl

half_bit : (flag : Bool) (n : ℕ) → (bit_of flag + 2 * n) / 2 ≡ n
half_bit true n = omega arith
half_bit false n = omega arith

flags_again : (flags : List Bool) (left : ℕ) (more : List ℕ) → flags_read (length flags) left (bits_from left flags).0 ((bits_from left flags).1 ++ more) ≡ Some (flags, more)
flags_again [] left more = refl
flags_again (flag ∷ flags) zero more = rw (odd_bit flag (bits_from 7 flags).0, half_bit flag (bits_from 7 flags).0) (ap (after_flag flag) (flags_again flags 7 more))
flags_again (flag ∷ flags) (suc left) more = rw (odd_bit flag (bits_from left flags).0, half_bit flag (bits_from left flags).0) (ap (after_flag flag) (flags_again flags left more))

none_first : (flags : List Bool) → (bits_from 0 flags).0 ≡ 0
none_first [] = refl
none_first (flag ∷ flags) = refl

flag_count : (nullable flag : Bool) (flags : List Bool) → length (with_flag nullable flag flags) ≡ one_more_if nullable (length flags)
flag_count true flag flags = refl
flag_count false flag flags = refl

flags_count : (columns : List ColumnDef) (values : List Value) → AreFields columns values → length (null_flags columns values) ≡ nullable_count columns
flags_count [] [] h = refl
flags_count [] (value ∷ values) h = absurd h
flags_count (column ∷ columns) [] h = absurd h
flags_count (column ∷ columns) (value ∷ values) h = flag_count column.ty.nullable (is_null value) (null_flags columns values) ∙ ap (one_more_if column.ty.nullable) (flags_count columns values h.1)

pub nulls_again : (columns : List ColumnDef) (values : List Value) (more : List ℕ) → AreFields columns values → flags_at (nullable_count columns) (null_bits (null_flags columns values) ++ more) ≡ Ok (null_flags columns values, more)
nulls_again columns values more h =
    let flags = null_flags columns values in
    let bytes = null_bits flags ++ more in
    let read : flags_read (nullable_count columns) 0 0 bytes ≡ Some (flags, more) =
    ap (λ (n : ℕ). flags_read n 0 0 bytes) (sym (flags_count columns values h)) ∙ ap (λ (n : ℕ). flags_read (length flags) 0 n bytes) (sym (none_first flags)) ∙ flags_again flags 0 more in
    ap (flags_or (length bytes)) read

-- ---- the key

pub wanted_again : (wanted : Bool) (o : Option ℕ) (more : List ℕ) → IsWanted wanted o → wanted_read wanted (hidden_bytes o ++ more) ≡ Ok (o, more)
wanted_again true (Some n) more h = ap as_some (eight_again n more h)
wanted_again true None more h = absurd h
wanted_again false (Some n) more h = absurd h
wanted_again false None more h = refl

part_again : (column : Option ColumnDef) (value : Option Value) (rest : List ℕ) → IsPair column value → TakesPart column value → part_kept column (part_bytes column value ++ rest) ≡ Ok rest
part_again None None rest both h = refl
part_again None (Some value) rest both h = refl
part_again (Some column) None rest both h = absurd both
part_again (Some column) (Some value) rest both h = ap behind (kept_again column.ty value rest h)

-- a column has its value
pub pair_at : (columns : List ColumnDef) (values : List Value) (p : ℕ) → AreFields columns values → IsPair (slice_get columns p) (slice_get values p)
pair_at [] [] p h = tt
pair_at [] (value ∷ values) p h = absurd h
pair_at (column ∷ columns) [] p h = absurd h
pair_at (column ∷ columns) (value ∷ values) zero h = tt
pair_at (column ∷ columns) (value ∷ values) (suc p) h = pair_at columns values p h.1

abbrev Kept : Type 0
Kept = Result (List ℕ) ℕ

pub parts_again : (columns : List ColumnDef) (values : List Value) (places rest : List ℕ) → AreFields columns values → parts_kept columns places (parts_bytes columns values places ++ rest) ≡ Ok rest
parts_again columns values [] rest h = refl
parts_again columns values (p ∷ places) rest h =
    let part = part_bytes (slice_get columns p) (slice_get values p) in
    let more = parts_bytes columns values places in
    ap (λ (l : List ℕ). part_kept (slice_get columns p) l >>= parts_kept columns places) (append_assoc part more rest)
    ∙ ap (λ (r : Kept). r >>= parts_kept columns places) (part_again (slice_get columns p) (slice_get values p) (more ++ rest) (pair_at columns values p h) (part_taken columns values p h))
    ∙ parts_again columns values places rest h

-- ---- its whole values

-- the values of the columns at a place
abbrev pub held_part : Option ColumnDef → Option Value → ℕ → Held
held_part (Some column) (Some value) p = (p, value) ∷ []
held_part _ _ p = []

abbrev pub held_of_row : List ColumnDef → List Value → List ℕ → Held
held_of_row columns values [] = []
held_of_row columns values (p ∷ places) = held_part (slice_get columns p) (slice_get values p) p ++ held_of_row columns values places

abbrev IsKindOf : Option ColumnDef → Type 0
IsKindOf None = Unit {0}
IsKindOf (Some column) = IsKind column.ty.kind

kind_of : (columns : List ColumnDef) (p : ℕ) → HasKinds columns → IsKindOf (slice_get columns p)
kind_of [] p h = tt
kind_of (column ∷ columns) zero h = h.0
kind_of (column ∷ columns) (suc p) h = kind_of columns p h.1

full_part : (column : Option ColumnDef) (value : Option Value) (p : ℕ) (key unpack : List ℕ) → IsPair column value → TakesPart column value → IsKindOf column → part_full column p (part_bytes column value ++ key) (part_unpack column value ++ unpack) ≡ Ok (held_part column value p, key, unpack)
full_part None None p key unpack both h real = refl
full_part None (Some value) p key unpack both h real = refl
full_part (Some column) None p key unpack both h real = absurd both
full_part (Some column) (Some value) p key unpack both h real =
    ap (kept_full column p (unpack_bytes column.ty.kind value ++ unpack)) (kept_again column.ty value key h) ∙ ap (held_at p key) (full_again column.ty value unpack real h)

abbrev AllRead : Type 0
AllRead = Result (Held × List ℕ) ℕ

pub full_again_all : (columns : List ColumnDef) (values : List Value) (places key unpack : List ℕ) → HasKinds columns → AreFields columns values → parts_full columns places (parts_bytes columns values places ++ key) (parts_unpack columns values places ++ unpack) ≡ Ok (held_of_row columns values places, unpack)
full_again_all columns values [] key unpack real h = refl
full_again_all columns values (p ∷ places) key unpack real h =
    let part = part_bytes (slice_get columns p) (slice_get values p) in
    let form = part_unpack (slice_get columns p) (slice_get values p) in
    let more = parts_bytes columns values places in
    let forms = parts_unpack columns values places in
    ap (λ (l : List ℕ). part_full (slice_get columns p) p l ((form ++ forms) ++ unpack) >>= (λ x. and_held x.0 (parts_full columns places x.1 x.2))) (append_assoc part more key)
    ∙ ap (λ (l : List ℕ). part_full (slice_get columns p) p (part ++ (more ++ key)) l >>= (λ x. and_held x.0 (parts_full columns places x.1 x.2))) (append_assoc form forms unpack)
    ∙ ap (λ (r : ReadPart). r >>= (λ x. and_held x.0 (parts_full columns places x.1 x.2))) (full_part (slice_get columns p) (slice_get values p) p (more ++ key) (forms ++ unpack) (pair_at columns values p h) (part_taken columns values p h) (kind_of columns p real))
    ∙ ap (and_held (held_part (slice_get columns p) (slice_get values p) p)) (full_again_all columns values places key unpack real h)

-- ---- the columns that aren't in the key

signed_32 : (z : ℤ) → IsSigned 31 z → signed 31 (complement 32 z) ≡ z
signed_32 (pos n) h = rw (lt-ltb n (2 ^ 31) h) refl
signed_32 (negsuc n) h =
    let back : 2 ^ 32 - suc (2 ^ 32 - suc n) ≡ n = omega arith in
    rw (le-ltb (2 ^ 32 - suc n) (2 ^ 31) (omega arith)) (ap negsuc back)

signed_64 : (z : ℤ) → IsSigned 63 z → signed 63 (complement 64 z) ≡ z
signed_64 (pos n) h = rw (lt-ltb n (2 ^ 63) h) refl
signed_64 (negsuc n) h =
    let back : 2 ^ 64 - suc (2 ^ 64 - suc n) ≡ n = omega arith in
    rw (le-ltb (2 ^ 64 - suc n) (2 ^ 63) (omega arith)) (ap negsuc back)

complement_32 : (z : ℤ) → IsSigned 31 z → complement 32 z < 2 ^ 32
complement_32 (pos n) h = omega arith
complement_32 (negsuc n) h = omega arith

complement_64 : (z : ℤ) → IsSigned 63 z → complement 64 z < 2 ^ 64
complement_64 (pos n) h = omega arith
complement_64 (negsuc n) h = omega arith

unsigned_back : (width : ℕ) (z : ℤ) → IsUnsigned width z → (pos (magnitude z) ≡ z) × (magnitude z < 2 ^ width)
unsigned_back width (pos n) h = (refl, h)
unsigned_back width (negsuc n) h = absurd h

abbrev value_ok : Value → List ℕ → ReadValue
value_ok value rest = Ok (value, rest)

number_again : (kind : Kind) (z : ℤ) (rest : List ℕ) → IsNumber kind z → plain_read kind (plain_number kind z ++ rest) ≡ value_ok (Number z) rest
unfolding plain_read
number_again Int z rest h = ap (as_number (signed 31)) (four_again (complement 32 z) rest (complement_32 z h)) ∙ ap (λ (y : ℤ). value_ok (Number y) rest) (signed_32 z h)
number_again IntUnsigned z rest h = let u = unsigned_back 32 z h in ap (as_number (λ m. pos m)) (four_again (magnitude z) rest u.1) ∙ ap (λ (y : ℤ). value_ok (Number y) rest) u.0
number_again BigInt z rest h = ap (as_number (signed 63)) (eight_again (complement 64 z) rest (complement_64 z h)) ∙ ap (λ (y : ℤ). value_ok (Number y) rest) (signed_64 z h)
number_again BigIntUnsigned z rest h = let u = unsigned_back 64 z h in ap (as_number (λ m. pos m)) (eight_again (magnitude z) rest u.1) ∙ ap (λ (y : ℤ). value_ok (Number y) rest) u.0
number_again (VarChar n c) z rest h = absurd h
number_again (VarBinary n) z rest h = absurd h

all_low : (t : List ℕ) → IsAscii t → list_all is_low t ≡ true
all_low [] h = refl
all_low (b ∷ t) h = and_from (is_low b) (list_all is_low t) (lt-ltb b 128 h.0) (all_low t h.1)

text16_again : (n : ℕ) (test : List ℕ → Bool) (value : List ℕ → Value) (t rest : List ℕ) → length t ≤ n → length t < 2 ^ 16 → test t ≡ true → text16_read n test value (text16 t ++ rest) ≡ value_ok (value t) rest
text16_again n test value t rest fits short passes =
    let size : length16 (text16 t ++ rest) ≡ length t = from_be_bytes-to_be_bytes_2 (length t) short in
    let long : nat_le 2 (length (text16 t ++ rest)) ≡ true = le-leb _ _ (omega arith) in
    let inside : nat_le (length t) n ≡ true = le-leb _ _ fits in
    let room : nat_le (length t) (length (t ++ rest)) ≡ true = le-leb _ _ (omega (arith, length-append t rest)) in
    let front = take_at t rest (length t) refl in
    let back = drop_at t rest (length t) refl in
    rw (long, size, inside, room, front, back, passes) refl

plain_again : (kind : Kind) (v : Value) (rest : List ℕ) → IsKind kind → is_null v ≡ false → IsValue v → Taken kind v → plain_read kind (plain_bytes kind v ++ rest) ≡ value_ok v rest
unfolding plain_read
plain_again kind Null rest real some ok taken = absurd cc
plain_again kind (Number z) rest real some ok taken = number_again kind z rest (number_taken kind z taken)
plain_again (VarChar n c) (Text t) rest real some ok taken =
    let short = text_short n c t taken in
    text16_again n is_ascii_text (λ x. Text x) t rest short (omega arith) (all_low t ok)
plain_again kind (Text t) rest real some ok taken = absurd (text_taken kind t taken)
plain_again (VarBinary n) (Bytes b) rest real some ok taken =
    let short = bytes_short n b taken in
    text16_again n is_any (λ x. Bytes x) b rest short (omega arith) refl
plain_again kind (Bytes b) rest real some ok taken = absurd (bytes_taken kind b taken)

null_taken : (kind : Kind) → IsTaken (record { kind = kind; nullable = false }) Null → ⊥
null_taken kind h = let no : Result Value ℕ = Err 1048 in let yes_is : Result Value ℕ = Ok Null in let e : no ≡ yes_is = h.as_it_is in cc

flag_here : (nullable flag : Bool) (flags : List Bool) → first_flag nullable (with_flag nullable flag flags) ≡ (nullable && flag)
flag_here true flag flags = refl
flag_here false flag flags = refl

flags_later : (nullable flag : Bool) (flags : List Bool) → later_flags nullable (with_flag nullable flag flags) ≡ flags
flags_later true flag flags = refl
flags_later false flag flags = refl

outside_again : (nullable : Bool) (kind : Kind) (v held : Value) (rest : List ℕ) → IsKind kind → IsTaken (record { kind = kind; nullable = nullable }) v → field_read false (nullable && is_null v) held kind (plain_bytes kind v ++ rest) ≡ value_ok v rest
outside_again true kind Null held rest real h = refl
outside_again false kind Null held rest real h = absurd (null_taken kind h)
outside_again true kind (Number z) held rest real h = plain_again kind (Number z) rest real refl h.is_value h.as_it_is
outside_again true kind (Text t) held rest real h = plain_again kind (Text t) rest real refl h.is_value h.as_it_is
outside_again true kind (Bytes b) held rest real h = plain_again kind (Bytes b) rest real refl h.is_value h.as_it_is
outside_again false kind (Number z) held rest real h = plain_again kind (Number z) rest real refl h.is_value h.as_it_is
outside_again false kind (Text t) held rest real h = plain_again kind (Text t) rest real refl h.is_value h.as_it_is
outside_again false kind (Bytes b) held rest real h = plain_again kind (Bytes b) rest real refl h.is_value h.as_it_is

field_again : (in_key : Bool) (column : ColumnType) (v held : Value) (flags : List Bool) (rest : List ℕ) → IsKind column.kind → IsTaken column v → (in_key ≡ true → held ≡ v) → field_read in_key (first_flag column.nullable (with_flag column.nullable (is_null v) flags)) held column.kind (field_bytes in_key column.kind v ++ rest) ≡ value_ok v rest
field_again true column v held flags rest real h same = ap (λ (x : Value). value_ok x rest) (same refl)
field_again false column v held flags rest real h same =
    ap (λ (b : Bool). field_read false b held column.kind (plain_bytes column.kind v ++ rest)) (flag_here column.nullable (is_null v) flags) ∙ outside_again column.nullable column.kind v held rest real h

-- what is held of the key are the columns' values
abbrev pub Agrees : List ℕ → Held → ℕ → List Value → Type 0
Agrees places held at values = (p q : ℕ) (v : Value) → q ≡ at + p → slice_get values p ≡ Some v → is_in places q ≡ true → found held q ≡ v

pub fields_again : (places : List ℕ) (held : Held) (at : ℕ) (columns : List ColumnDef) (values : List Value) → HasKinds columns → AreFields columns values → Agrees places held at values → fields_read places held at columns (null_flags columns values) (fields_bytes places at columns values) ≡ Ok (values, [])
fields_again places held at [] [] real h agrees = refl
fields_again places held at [] (value ∷ values) real h agrees = absurd h
fields_again places held at (column ∷ columns) [] real h agrees = absurd h
fields_again places held at (column ∷ columns) (value ∷ values) real h agrees =
    let taken : IsTaken column.ty value = record { is_value = h.0.is_value; as_it_is = h.0.as_it_is } in
    let flags = null_flags columns values in
    let more = fields_bytes places (suc at) columns values in
    let later = later_flags column.ty.nullable (with_flag column.ty.nullable (is_null value) flags) in
    ap (λ (r : ReadValue). r >>= (λ x. and_value x.0 (fields_read places held (suc at) columns later x.1))) (field_again (is_in places at) column.ty value (found held at) flags more real.0 taken (λ there. agrees 0 at value (omega arith) refl there))
    ∙ ap (λ (l : List Bool). and_value value (fields_read places held (suc at) columns l more)) (flags_later column.ty.nullable (is_null value) flags)
    ∙ ap (and_value value) (fields_again places held (suc at) columns values real.1 h.1 (λ p q v e s there. agrees (suc p) q v (omega arith) s there))

skip_part : (column : Option ColumnDef) (value : Option Value) (p q : ℕ) (more : Held) → p ≢ q → found (held_part column value p ++ more) q ≡ found more q
skip_part None value p q more other = refl
skip_part (Some column) None p q more other = refl
skip_part (Some column) (Some value) p q more other = rw (ne_eqb p q other) refl

pub column_at : (columns : List ColumnDef) (values : List Value) (q : ℕ) (v : Value) → AreFields columns values → slice_get values q ≡ Some v → (column : ColumnDef) × (slice_get columns q ≡ Some column)
column_at [] [] q v h e = absurd cc
column_at [] (value ∷ values) q v h e = absurd h
column_at (column ∷ columns) [] q v h e = absurd h
column_at (column ∷ columns) (value ∷ values) zero v h e = (column, refl)
column_at (column ∷ columns) (value ∷ values) (suc q) v h e = column_at columns values q v h.1 e

pub found_again : (columns : List ColumnDef) (values : List Value) (places : List ℕ) (q : ℕ) (column : ColumnDef) (v : Value) → slice_get columns q ≡ Some column → slice_get values q ≡ Some v → is_in places q ≡ true → found (held_of_row columns values places) q ≡ v
found_again columns values [] q column v c s there = absurd cc
found_again columns values (p ∷ places) q column v c s there =
    elim (cases_eq p q) [
      | inl same ↦
          let more = held_of_row columns values places in
          ap (λ (o : Option ColumnDef). found (held_part o (slice_get values p) p ++ more) q) (ap (slice_get columns) same ∙ c)
          ∙ ap (λ (o : Option Value). found (held_part (some_column column) o p ++ more) q) (ap (slice_get values) same ∙ s)
          ∙ rw (eq-eqb p q same) refl
      | inr other ↦
          skip_part (slice_get columns p) (slice_get values p) p q (held_of_row columns values places) other
          ∙ found_again columns values places q column v c s (rw (ne_eqb p q other) at there)
    ]

-- ---- the stamp

equal_itself : (s : ℕ) → is_equal (Number (pos s)) (Number (pos s)) ≡ true
equal_itself s = rw (le-ltb s s (omega arith)) refl

stamp_at : (stamp : Option ℕ) (o : Option Value) → IsWanted true stamp → ((s : ℕ) → stamp ≡ Some s → o ≡ Some (Number (pos s))) → is_stamp_at o stamp ≡ true
stamp_at (Some s) o wanted h = ap (λ (x : Option Value). is_stamp_at x (Some s)) (h s refl) ∙ equal_itself s
stamp_at None o wanted h = absurd wanted

column_stamp : (column : Option ℕ) (row : Row) → IsWanted true row.stamp → ((place stamp : ℕ) → column ≡ Some place → row.stamp ≡ Some stamp → slice_get row.fields place ≡ Some (Number (pos stamp))) → is_column_stamp column row ≡ true
column_stamp None row wanted h = refl
column_stamp (Some place) row wanted h = stamp_at row.stamp (slice_get row.fields place) wanted (λ s e. h place s refl e)

pub stamp_again : (ttl : Option Ttl) (row : Row) → IsWanted (is_some ttl) row.stamp → IsStampOf ttl row → is_stamp_of ttl row ≡ true
stamp_again None row wanted h = refl
stamp_again (Some ttl) row wanted h = column_stamp ttl.column row wanted h
