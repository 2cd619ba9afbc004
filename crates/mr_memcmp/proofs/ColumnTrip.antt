-- A column that was written is read again.
use Rattle.std.proofs.Common.{◌≡◌, ℕ, suc, ◌+◌, ◌-◌, ◌<◌, ◌≤◌, ◌^◌, ℤ, pos, negsuc, List, ◌++◌, length, refl, ap, ◌∙◌, arith, Bool, true, false, Ok, ltb}
use Rattle.std.specs.Int.{Width, w32, w64, byte_len, from_be_bytes, to_be_bytes}
use Rattle.std.proofs.lemmas.Bool.{le-ltb, lt-ltb, le-leb, false≢true}
use Rattle.std.proofs.lemmas.List.{take_at, drop_at, length-append}
use Rattle.std.proofs.lemmas.Nat.{from_be_bytes-to_be_bytes_4, from_be_bytes-to_be_bytes_8}
use Rattle.mr_pieces.specs.Pieces.{shortened}
use Rattle.mr_pieces.proofs.Kept.{come_back}
use Rattle.mr_pieces.proofs.Whole.{both_parts, shortened_size}
use Rattle.mr_types.specs.declared.kind.Kind.{Kind}
use Rattle.mr_types.specs.declared.kind.Kind.TheVariants.{Int, IntUnsigned, BigInt, BigIntUnsigned, VarChar, VarBinary}
use Rattle.mr_types.specs.declared.kind.ColumnType.{ColumnType}
use Rattle.mr_types.specs.declared.value.Value.{Value}
use Rattle.mr_types.specs.declared.value.Value.TheVariants.{Null, Number, Text, Bytes}
use Rattle.mr_types.specs.Order.{collation_of}
use Rattle.mr_types.specs.Rows.{IsValue}
use Rattle.mr_memcmp.specs.Fitting.{FitsColumn, IsNumber, IsSigned, IsUnsigned}
use Rattle.mr_memcmp.specs.Keys.{sign_flipped, magnitude, number_bytes, value_bytes, bytes_by_flag, column_bytes}
use Rattle.mr_memcmp.specs.Reading.{ReadValue, as_number, number_read, unflipped, of_length, kind_read, flagged_read, kept_read, as_text, full_read, with_rest, completed, field_read}
use Rattle.mr_memcmp.specs.ComeBack.{IsKind, unpack_bytes, IsTaken, ColumnComesBack}
use Rattle.mr_memcmp.proofs.Columns.{flipped_below, magnitude_below}
use Rattle.mr_memcmp.proofs.Fitted.{Taken, number_taken, text_taken, bytes_taken, value_taken}
use Rattle.mr_memcmp.proofs.Assigned.{text_short, bytes_short}
use Rattle.mr_memcmp.proofs.UnpackTrip.{unpack_again}

abbrev value_ok : Value → List ℕ → ReadValue
value_ok value rest = Ok (value, rest)

-- what a key keeps of a value
abbrev pub kept_of : Kind → Value → Value
kept_of kind Null = Null
kept_of kind (Number z) = Number z
kept_of kind (Text text) = Text (shortened (collation_of kind) text)
kept_of kind (Bytes bytes) = Bytes bytes

-- ---- numbers

unflipped_back : (half : ℕ) (z : ℤ) → IsSigned half z → unflipped half (sign_flipped half z) ≡ z
unflipped_back half (pos n) h =
    let less : 2 ^ half + n - 2 ^ half ≡ n = omega arith in
    rw (le-ltb (2 ^ half + n) (2 ^ half) (omega arith), less) refl
unflipped_back half (negsuc n) h =
    let back : 2 ^ half - suc (2 ^ half - suc n) ≡ n = omega arith in
    rw (lt-ltb (2 ^ half - suc n) (2 ^ half) (omega arith), back) refl

magnitude_back : (width : ℕ) (z : ℤ) → IsUnsigned width z → pos (magnitude z) ≡ z
magnitude_back width (pos n) h = refl
magnitude_back width (negsuc n) h = absurd h

pub plain_again : (w : Width) (n : ℕ) (rest : List ℕ) → length (to_be_bytes w n) ≡ byte_len w → from_be_bytes w (to_be_bytes w n) ≡ n → number_read w (to_be_bytes w n ++ rest) ≡ Ok (n, rest)
plain_again w n rest len back =
    let long : ltb (length (to_be_bytes w n ++ rest)) (byte_len w) ≡ false = le-ltb _ _ (omega (arith, length-append (to_be_bytes w n) rest)) in
    rw (long, take_at (to_be_bytes w n) rest (byte_len w) len, drop_at (to_be_bytes w n) rest (byte_len w) len, back) refl

pub four_again : (n : ℕ) (rest : List ℕ) → n < 2 ^ 32 → number_read w32 (to_be_bytes w32 n ++ rest) ≡ Ok (n, rest)
four_again n rest small = plain_again w32 n rest refl (from_be_bytes-to_be_bytes_4 n small)

pub eight_again : (n : ℕ) (rest : List ℕ) → n < 2 ^ 64 → number_read w64 (to_be_bytes w64 n ++ rest) ≡ Ok (n, rest)
eight_again n rest small = plain_again w64 n rest refl (from_be_bytes-to_be_bytes_8 n small)

number_again : (start : ℕ) (kind : Kind) (z : ℤ) (rest : List ℕ) → IsNumber kind z → kind_read start kind (number_bytes kind z ++ rest) ≡ value_ok (Number z) rest
unfolding kind_read
number_again start Int z rest h = ap (as_number (unflipped 31)) (four_again (sign_flipped 31 z) rest (flipped_below 31 z h)) ∙ ap (λ (y : ℤ). value_ok (Number y) rest) (unflipped_back 31 z h)
number_again start IntUnsigned z rest h = ap (as_number (λ m. pos m)) (four_again (magnitude z) rest (magnitude_below 32 z h)) ∙ ap (λ (y : ℤ). value_ok (Number y) rest) (magnitude_back 32 z h)
number_again start BigInt z rest h = ap (as_number (unflipped 63)) (eight_again (sign_flipped 63 z) rest (flipped_below 63 z h)) ∙ ap (λ (y : ℤ). value_ok (Number y) rest) (unflipped_back 63 z h)
number_again start BigIntUnsigned z rest h = ap (as_number (λ m. pos m)) (eight_again (magnitude z) rest (magnitude_below 64 z h)) ∙ ap (λ (y : ℤ). value_ok (Number y) rest) (magnitude_back 64 z h)
number_again start (VarChar n c) z rest h = absurd h
number_again start (VarBinary n) z rest h = absurd h

-- ---- a column of a key

of_length_again : (start n : ℕ) (value : List ℕ → Value) (xs rest : List ℕ) → length xs ≤ n → of_length start n value (Ok (xs, rest)) ≡ value_ok (value xs) rest
of_length_again start n value xs rest fits = rw (le-leb (length xs) n fits) refl

kind_again : (start : ℕ) (kind : Kind) (v : Value) (rest : List ℕ) → FitsColumn (record { kind = kind; nullable = false }) v → IsValue v → Taken kind v → kind_read start kind (value_bytes kind v ++ rest) ≡ value_ok (kept_of kind v) rest
unfolding kind_read
kind_again start kind Null rest some ok taken = absurd (false≢true some)
kind_again start kind (Number z) rest some ok taken = number_again start kind z rest (number_taken kind z taken)
kind_again start (VarChar n c) (Text t) rest some ok taken =
    let short = text_short n c t taken in
    let parts = both_parts t in
    ap (of_length start n (λ x. Text x)) (come_back.of_texts c t rest ok) ∙ of_length_again start n (λ x. Text x) (shortened c t) rest (omega (arith, shortened_size c t))
kind_again start kind (Text t) rest some ok taken = absurd (text_taken kind t taken)
kind_again start (VarBinary n) (Bytes b) rest some ok taken = ap (of_length start n (λ x. Bytes x)) (come_back.of_bytes b rest) ∙ of_length_again start n (λ x. Bytes x) b rest (bytes_short n b taken)
kind_again start kind (Bytes b) rest some ok taken = absurd (bytes_taken kind b taken)

some_again : (start : ℕ) (kind : Kind) (v : Value) (rest : List ℕ) → (nullable : Bool) → FitsColumn (record { kind = kind; nullable = nullable }) v → IsValue v → Taken kind v → flagged_read nullable kind (bytes_by_flag nullable kind v ++ rest) ≡ value_ok (kept_of kind v) rest
some_again start kind v rest false fits ok taken = kind_again (length (value_bytes kind v ++ rest)) kind v rest fits ok taken
some_again start kind Null rest true fits ok taken = refl
some_again start kind (Number z) rest true fits ok taken = kind_again (suc (length (value_bytes kind (Number z) ++ rest))) kind (Number z) rest fits ok taken
some_again start kind (Text t) rest true fits ok taken = kind_again (suc (length (value_bytes kind (Text t) ++ rest))) kind (Text t) rest fits ok taken
some_again start kind (Bytes b) rest true fits ok taken = kind_again (suc (length (value_bytes kind (Bytes b) ++ rest))) kind (Bytes b) rest fits ok taken

convertible : (nullable : Bool) (kind : Kind) (v : Value) → IsTaken (record { kind = kind; nullable = nullable }) v → Taken kind v
convertible nullable kind Null h = refl
convertible nullable kind (Number z) h = h.as_it_is
convertible nullable kind (Text t) h = h.as_it_is
convertible nullable kind (Bytes b) h = h.as_it_is

pub kept_again : (column : ColumnType) (v : Value) (rest : List ℕ) → IsTaken column v → kept_read column (column_bytes column v ++ rest) ≡ Ok (kept_of column.kind v, rest)
unfolding kept_read column_bytes
kept_again column v rest h = some_again 0 column.kind v rest column.nullable (value_taken column.nullable column.kind v h.as_it_is) h.is_value (convertible column.nullable column.kind v h)

-- ---- and the whole value

text_again : (kind : Kind) (t unpack : List ℕ) → Taken kind (Text t) → length t < 2 ^ 16 → full_read kind (kept_of kind (Text t)) (unpack_bytes kind (Text t) ++ unpack) ≡ value_ok (Text t) unpack
text_again (VarChar n c) t unpack taken short = ap as_text (unpack_again c n t unpack (text_short n c t taken) short)
text_again kind t unpack taken short = absurd (text_taken kind t taken)

text_below : (kind : Kind) (t : List ℕ) → IsKind kind → Taken kind (Text t) → length t < 2 ^ 16
text_below (VarChar n c) t real taken = let short = text_short n c t taken in omega arith
text_below kind t real taken = absurd (text_taken kind t taken)

pub full_again : (column : ColumnType) (v : Value) (unpack : List ℕ) → IsKind column.kind → IsTaken column v → full_read column.kind (kept_of column.kind v) (unpack_bytes column.kind v ++ unpack) ≡ Ok (v, unpack)
full_again column Null unpack real h = refl
full_again column (Number z) unpack real h = refl
full_again column (Text t) unpack real h = text_again column.kind t unpack h.as_it_is (text_below column.kind t real h.as_it_is)
full_again column (Bytes b) unpack real h = refl

pub field_again : (column : ColumnType) (v : Value) → IsKind column.kind → IsTaken column v → ColumnComesBack column v
unfolding field_read
field_again column v real h = λ key unpack.
    let start = length (column_bytes column v ++ key) in
    ap (completed column.kind start (unpack_bytes column.kind v ++ unpack)) (kept_again column v key h) ∙ ap (with_rest start key) (full_again column v unpack real h)
