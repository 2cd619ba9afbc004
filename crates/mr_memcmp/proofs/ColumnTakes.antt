-- Only what was written is read.
use Rattle.std.proofs.Common.{◌≡◌, ℕ, zero, suc, ◌+◌, ◌*◌, ◌/◌, ◌<◌, ◌≤◌, ◌^◌, ℤ, pos, List, [], ◌∷◌, ◌++◌, length, take, drop, get_or, refl, sym, ap, subst, ◌∙◌, arith, Bool, true, false, cond, Ok, Err, inl, inr}
use Rattle.std.specs.Prelude.{nat_le, nat_lt}
use Rattle.std.specs.List.{AllByRecursion}
use Rattle.std.specs.Int.{Width, w32, w64, byte_len, from_be_bytes, to_be_bytes}
use Rattle.std.proofs.lemmas.Bool.{cases_lt, leb-true, le-ltb, lt-ltb}
use Rattle.std.proofs.lemmas.Bool.Decides.{nat_tests}
use Rattle.std.proofs.lemmas.List.{length-take, take-append-drop, get_or-take, get_or_past, get_or_append_left}
use Rattle.std.proofs.lemmas.Nat.{be_bytes_4, be_bytes_8}
use Rattle.mr_pieces.specs.declared.collation.Collation.{Collation}
use Rattle.mr_pieces.specs.Pieces.{text_from, bytes_from}
use Rattle.mr_pieces.specs.Reading.{Read, IsShortened, bytes_read, text_read}
use Rattle.mr_pieces.specs.UnpackReading.{unpack_read}
use Rattle.mr_pieces.proofs.Lengths.{bytes_at, bytes_within}
use Rattle.mr_pieces.proofs.RoundTrip.{bytes_takes}
use Rattle.mr_pieces.proofs.TextTakes.{text_takes}
use Rattle.mr_pieces.proofs.TextTrip.{trimmed_same}
use Rattle.mr_types.specs.declared.kind.Kind.{Kind}
use Rattle.mr_types.specs.declared.kind.Kind.TheVariants.{Int, IntUnsigned, BigInt, BigIntUnsigned, VarChar, VarBinary}
use Rattle.mr_types.specs.declared.kind.ColumnType.{ColumnType}
use Rattle.mr_types.specs.declared.value.Value.{Value}
use Rattle.mr_types.specs.declared.value.Value.TheVariants.{Null, Number, Text, Bytes}
use Rattle.mr_types.specs.Rows.{IsValue}
use Rattle.mr_types.specs.Values.{is_null}
use Rattle.mr_memcmp.specs.Fitting.{IsNumber, IsSigned}
use Rattle.mr_memcmp.specs.Keys.{sign_flipped, number_bytes, value_bytes, flagged_bytes, bytes_by_flag, column_bytes}
use Rattle.mr_memcmp.specs.Reading.{ReadNumber, ReadValue, ReadColumn, as_number, number_read, unflipped, of_length, kind_read, flagged_read, kept_read, as_text, full_read, with_rest, completed, field_read}
use Rattle.mr_memcmp.specs.ComeBack.{AreBytes, unpack_bytes, IsTaken, WasWritten, OnlyWrittenIsRead}
use Rattle.mr_memcmp.proofs.Fitted.{Taken}
use Rattle.mr_memcmp.proofs.Assigned.{text_taken_back, bytes_taken_back, number_taken_back}
use Rattle.mr_memcmp.proofs.UnpackTrip.{unpack_takes}

abbrev value_ok : Value → List ℕ → ReadValue
value_ok value rest = Ok (value, rest)

abbrev read_ok : List ℕ → List ℕ → Read
read_ok xs rest = Ok (xs, rest)

abbrev number_ok : ℕ → List ℕ → ReadNumber
number_ok n rest = Ok (n, rest)

-- ---- the parts of an answer

same_number : (x y : ℕ × List ℕ) → let a : ReadNumber = Ok x in let b : ReadNumber = Ok y in a ≡ b → x ≡ y
same_number x y e = cc

same_value : (x y : Value × List ℕ) → let a : ReadValue = Ok x in let b : ReadValue = Ok y in a ≡ b → x ≡ y
same_value x y e = cc

value_parts : (a c : Value) (b d : List ℕ) → value_ok a b ≡ value_ok c d → (a ≡ c) × (b ≡ d)
value_parts a c b d e =
    let same = same_value (a, b) (c, d) e in
    (ap (λ (x : Value × List ℕ). x.0) same, ap (λ (x : Value × List ℕ). x.1) same)

-- ---- numbers

pub record NumberTaken (w : Width) (key : List ℕ) (n : ℕ) (rest : List ℕ) : Type 0 where
  pub room : byte_len w ≤ length key
  pub is : from_be_bytes w (take (byte_len w) key) ≡ n
  pub behind : drop (byte_len w) key ≡ rest

tried_number : (short : Bool) (left : ℕ) (x y : ℕ × List ℕ) → let ok : ReadNumber = Ok y in cond short (Err left) (Ok x) ≡ ok → (short ≡ false) × (x ≡ y)
tried_number false left x y e = (refl, same_number x y e)
tried_number true left x y e = absurd cc

long_enough : (m n : ℕ) → nat_lt m n ≡ false → n ≤ m
long_enough m n e = grind (arith, nat_tests)

pub plain_takes : (w : Width) (key : List ℕ) (n : ℕ) (rest : List ℕ) → number_read w key ≡ Ok (n, rest) → NumberTaken w key n rest
plain_takes w key n rest e =
    let test = tried_number (nat_lt (length key) (byte_len w)) (length key) (from_be_bytes w (take (byte_len w) key), drop (byte_len w) key) (n, rest) e in
    record {
      room = long_enough (length key) (byte_len w) test.0;
      is = ap (λ (x : ℕ × List ℕ). x.0) test.1;
      behind = ap (λ (x : ℕ × List ℕ). x.1) test.1;
    }

front_bytes : (n : ℕ) (key : List ℕ) (i : ℕ) → AreBytes key → get_or (take n key) i 0 < 256
front_bytes n key i bytes =
    elim (cases_lt i n) [
      | inl within ↦ let e = get_or-take n key i 0 within in let b = bytes i in rw e b
      | inr past ↦ let e = get_or_past (take n key) i 0 (omega (arith, length-take n key)) in rw e (omega arith)
    ]

joined_back : (n : ℕ) (key bytes rest : List ℕ) → bytes ≡ take n key → drop n key ≡ rest → key ≡ bytes ++ rest
joined_back n key bytes rest front back = sym (take-append-drop n key) ∙ ap (λ (l : List ℕ). l ++ drop n key) (sym front) ∙ ap (λ (l : List ℕ). bytes ++ l) back

below_4 : (bs : List ℕ) (n : ℕ) → ((i : ℕ) → get_or bs i 0 < 256) → from_be_bytes w32 bs ≡ n → n < 2 ^ 32
below_4 bs n bytes is =
    let a = bytes 0 in
    let b = bytes 1 in
    let c = bytes 2 in
    let d = bytes 3 in
    omega arith

below_8 : (bs : List ℕ) (n : ℕ) → ((i : ℕ) → get_or bs i 0 < 256) → from_be_bytes w64 bs ≡ n → n < 2 ^ 64
below_8 bs n bytes is =
    let a = bytes 0 in
    let b = bytes 1 in
    let c = bytes 2 in
    let d = bytes 3 in
    let e = bytes 4 in
    let f = bytes 5 in
    let g = bytes 6 in
    let h = bytes 7 in
    omega arith

pub four_takes : (key : List ℕ) (n : ℕ) (rest : List ℕ) → AreBytes key → number_read w32 key ≡ Ok (n, rest) → (key ≡ to_be_bytes w32 n ++ rest) × (n < 2 ^ 32)
four_takes key n rest bytes e =
    let taken = plain_takes w32 key n rest e in
    let front = be_bytes_4 (take 4 key) n (omega (arith, length-take 4 key, taken.room)) (λ i. front_bytes 4 key i bytes) (sym taken.is) in
    (joined_back 4 key (to_be_bytes w32 n) rest front taken.behind, below_4 (take 4 key) n (λ i. front_bytes 4 key i bytes) taken.is)

pub eight_takes : (key : List ℕ) (n : ℕ) (rest : List ℕ) → AreBytes key → number_read w64 key ≡ Ok (n, rest) → (key ≡ to_be_bytes w64 n ++ rest) × (n < 2 ^ 64)
eight_takes key n rest bytes e =
    let taken = plain_takes w64 key n rest e in
    let front = be_bytes_8 (take 8 key) n (omega (arith, length-take 8 key, taken.room)) (λ i. front_bytes 8 key i bytes) (sym taken.is) in
    (joined_back 8 key (to_be_bytes w64 n) rest front taken.behind, below_8 (take 8 key) n (λ i. front_bytes 8 key i bytes) taken.is)

pub flipped_again : (half n : ℕ) → n < 2 * 2 ^ half → (sign_flipped half (unflipped half n) ≡ n) × IsSigned half (unflipped half n)
flipped_again half n small =
    elim (cases_lt n (2 ^ half)) [
      | inl low ↦ rw (lt-ltb n (2 ^ half) low) (omega arith, omega arith)
      | inr high ↦ rw (le-ltb n (2 ^ half) high) (omega arith, omega arith)
    ]

number_parts : (signed : ℕ → ℤ) (r : ReadNumber) (k : Value) (rest : List ℕ) → as_number signed r ≡ value_ok k rest → (n : ℕ) × (r ≡ Ok (n, rest)) × (Number (signed n) ≡ k)
number_parts signed (Ok x) k rest e =
    let parts = value_parts (Number (signed x.0)) k x.1 rest e in
    (x.0, ap (λ (l : List ℕ). number_ok x.0 l) parts.1, parts.0)
number_parts signed (Err left) k rest e = absurd cc

-- ---- a value that isn't NULL

-- what was read, and what it is written as
pub record KindTaken (kind : Kind) (v : Value) (key rest unpack more : List ℕ) : Type 0 where
  pub of_key : key ≡ value_bytes kind v ++ rest
  pub of_unpack : unpack ≡ unpack_bytes kind v ++ more
  pub is_value : IsValue v
  pub taken : Taken kind v
  pub some : is_null v ≡ false

number_done : (kind : Kind) (z : ℤ) (k v : Value) (key rest unpack more : List ℕ) → Number z ≡ k → key ≡ number_bytes kind z ++ rest → IsNumber kind z → full_read kind k unpack ≡ value_ok v more → KindTaken kind v key rest unpack more
number_done kind z k v key rest unpack more is cut fits full =
    let parts = value_parts (Number z) v unpack more (subst (λ (q : Value). full_read kind q unpack ≡ value_ok v more) (sym is) full) in
    let whole : KindTaken kind (Number z) key rest unpack unpack = record { of_key = cut; of_unpack = refl; is_value = tt; taken = number_taken_back kind z fits; some = refl } in
    subst (λ (q : Value). KindTaken kind q key rest unpack more) parts.0 (subst (λ (l : List ℕ). KindTaken kind (Number z) key rest unpack l) parts.1 whole)

tried_value : (test : Bool) (left : ℕ) (a k : Value) (b rest : List ℕ) → cond test (value_ok a b) (Err left) ≡ value_ok k rest → (test ≡ true) × (a ≡ k) × (b ≡ rest)
tried_value true left a k b rest e = let parts = value_parts a k b rest e in (refl, parts.0, parts.1)
tried_value false left a k b rest e = absurd cc

length_parts : (start n : ℕ) (value : List ℕ → Value) (r : Read) (k : Value) (rest : List ℕ) → of_length start n value r ≡ value_ok k rest → (xs : List ℕ) × (r ≡ Ok (xs, rest)) × (value xs ≡ k) × (length xs ≤ n)
length_parts start n value (Ok x) k rest e =
    let parts = tried_value (nat_le (length x.0) n) start (value x.0) k x.1 rest e in
    (x.0, ap (λ (l : List ℕ). read_ok x.0 l) parts.2, parts.1, leb-true (length x.0) n parts.0)
length_parts start n value (Err left) k rest e = absurd cc

text_parts : (r : Read) (v : Value) (more : List ℕ) → as_text r ≡ value_ok v more → (t : List ℕ) × (r ≡ Ok (t, more)) × (Text t ≡ v)
text_parts (Ok x) v more e =
    let parts = value_parts (Text x.0) v x.1 more e in
    (x.0, ap (λ (l : List ℕ). read_ok x.0 l) parts.1, parts.0)
text_parts (Err left) v more e = absurd cc

text_done : (n : ℕ) (c : Collation) (xs : List ℕ) (k v : Value) (key rest unpack more : List ℕ) → Text xs ≡ k → text_read c key ≡ Ok (xs, rest) → AreBytes unpack → full_read (VarChar n c) k unpack ≡ value_ok v more → KindTaken (VarChar n c) v key rest unpack more
text_done n c xs k v key rest unpack more is read bytes full =
    let cut = text_takes (length key) c key xs rest (omega arith) read in
    let short : IsShortened c xs = record { without_spaces = trimmed_same xs cut.trim; in_order = cut.good } in
    let parts = text_parts (unpack_read c n xs unpack) v more (subst (λ (q : Value). full_read (VarChar n c) q unpack ≡ value_ok v more) (sym is) full) in
    let form = unpack_takes c n xs unpack parts.0 more short bytes parts.1 in
    let whole : KindTaken (VarChar n c) (Text parts.0) key rest unpack more = record {
      of_key = cut.spelled ∙ ap (λ (l : List ℕ). text_from 8 l ++ rest) (sym form.keeps);
      of_unpack = form.form;
      is_value = form.ascii;
      taken = text_taken_back n c parts.0 form.fits;
      some = refl;
    } in
    subst (λ (q : Value). KindTaken (VarChar n c) q key rest unpack more) parts.2 whole

all_below : (xs : List ℕ) → ((i : ℕ) → i < length xs → get_or xs i 0 < 256) → AllByRecursion (λ b. b < 256) xs
all_below [] h = tt
all_below (x ∷ xs) h = (h 0 (omega arith), all_below xs (λ i within. h (suc i) (omega arith)))

byte_within : (xs key rest : List ℕ) (i : ℕ) → AreBytes key → key ≡ bytes_from 8 xs ++ rest → i < length xs → get_or xs i 0 < 256
byte_within xs key rest i bytes is within =
    let there : get_or key (i + i / 8) 0 ≡ get_or xs i 0 = ap (λ (l : List ℕ). get_or l (i + i / 8) 0) is ∙ get_or_append_left (bytes_from 8 xs) rest 0 (i + i / 8) (bytes_within xs (bytes_from 8 xs) i refl within) ∙ bytes_at xs i within in
    let small = bytes (i + i / 8) in
    omega arith

bytes_done : (n : ℕ) (xs : List ℕ) (k v : Value) (key rest unpack more : List ℕ) → Bytes xs ≡ k → length xs ≤ n → bytes_read true key ≡ Ok (xs, rest) → AreBytes key → full_read (VarBinary n) k unpack ≡ value_ok v more → KindTaken (VarBinary n) v key rest unpack more
bytes_done n xs k v key rest unpack more is fits read bytes full =
    let cut = bytes_takes (length key) true key xs rest (omega arith) read in
    let parts = value_parts (Bytes xs) v unpack more (subst (λ (q : Value). full_read (VarBinary n) q unpack ≡ value_ok v more) (sym is) full) in
    let whole : KindTaken (VarBinary n) (Bytes xs) key rest unpack unpack = record {
      of_key = cut.0;
      of_unpack = refl;
      is_value = all_below xs (λ i within. byte_within xs key rest i bytes cut.0 within);
      taken = bytes_taken_back n xs fits;
      some = refl;
    } in
    subst (λ (q : Value). KindTaken (VarBinary n) q key rest unpack more) parts.0 (subst (λ (l : List ℕ). KindTaken (VarBinary n) (Bytes xs) key rest unpack l) parts.1 whole)

kind_takes : (start : ℕ) (kind : Kind) (k v : Value) (key rest unpack more : List ℕ) → AreBytes key → AreBytes unpack → kind_read start kind key ≡ value_ok k rest → full_read kind k unpack ≡ value_ok v more → KindTaken kind v key rest unpack more
unfolding kind_read
kind_takes start Int k v key rest unpack more bytes form read full =
    let parts = number_parts (unflipped 31) (number_read w32 key) k rest read in
    let cut = four_takes key parts.0 rest bytes parts.1 in
    let back = flipped_again 31 parts.0 cut.1 in
    number_done Int (unflipped 31 parts.0) k v key rest unpack more parts.2 (cut.0 ∙ ap (λ (n : ℕ). to_be_bytes w32 n ++ rest) (sym back.0)) back.1 full
kind_takes start IntUnsigned k v key rest unpack more bytes form read full =
    let parts = number_parts (λ m. pos m) (number_read w32 key) k rest read in
    let cut = four_takes key parts.0 rest bytes parts.1 in
    number_done IntUnsigned (pos parts.0) k v key rest unpack more parts.2 cut.0 cut.1 full
kind_takes start BigInt k v key rest unpack more bytes form read full =
    let parts = number_parts (unflipped 63) (number_read w64 key) k rest read in
    let cut = eight_takes key parts.0 rest bytes parts.1 in
    let back = flipped_again 63 parts.0 cut.1 in
    number_done BigInt (unflipped 63 parts.0) k v key rest unpack more parts.2 (cut.0 ∙ ap (λ (n : ℕ). to_be_bytes w64 n ++ rest) (sym back.0)) back.1 full
kind_takes start BigIntUnsigned k v key rest unpack more bytes form read full =
    let parts = number_parts (λ m. pos m) (number_read w64 key) k rest read in
    let cut = eight_takes key parts.0 rest bytes parts.1 in
    number_done BigIntUnsigned (pos parts.0) k v key rest unpack more parts.2 cut.0 cut.1 full
kind_takes start (VarChar n c) k v key rest unpack more bytes form read full =
    let parts = length_parts start n (λ x. Text x) (text_read c key) k rest read in
    text_done n c parts.0 k v key rest unpack more parts.2 parts.1 form full
kind_takes start (VarBinary n) k v key rest unpack more bytes form read full =
    let parts = length_parts start n (λ x. Bytes x) (bytes_read true key) k rest read in
    bytes_done n parts.0 k v key rest unpack more parts.2 parts.3 parts.1 bytes full

-- ---- a column

flagged_some : (kind : Kind) (v : Value) → is_null v ≡ false → flagged_bytes kind v ≡ 1 ∷ value_bytes kind v
flagged_some kind Null some = absurd cc
flagged_some kind (Number z) some = refl
flagged_some kind (Text t) some = refl
flagged_some kind (Bytes b) some = refl

some_taken : (nullable : Bool) (kind : Kind) (v : Value) → is_null v ≡ false → IsValue v → Taken kind v → IsTaken (record { kind = kind; nullable = nullable }) v
some_taken nullable kind Null some ok taken = absurd cc
some_taken nullable kind (Number z) some ok taken = record { is_value = ok; as_it_is = taken }
some_taken nullable kind (Text t) some ok taken = record { is_value = ok; as_it_is = taken }
some_taken nullable kind (Bytes b) some ok taken = record { is_value = ok; as_it_is = taken }

-- what was read of a column, and what it is written as
pub record ColumnTaken (nullable : Bool) (kind : Kind) (v : Value) (key rest unpack more : List ℕ) : Type 0 where
  pub of_key : key ≡ bytes_by_flag nullable kind v ++ rest
  pub of_unpack : unpack ≡ unpack_bytes kind v ++ more
  pub taken : IsTaken (record { kind = kind; nullable = nullable }) v

null_done : (kind : Kind) (k v : Value) (key rest unpack more : List ℕ) → value_ok Null key ≡ value_ok k rest → full_read kind k unpack ≡ value_ok v more → ColumnTaken true kind v (0 ∷ key) rest unpack more
null_done kind k v key rest unpack more read full =
    let kept = value_parts Null k key rest read in
    let parts = value_parts Null v unpack more (subst (λ (q : Value). full_read kind q unpack ≡ value_ok v more) (sym kept.0) full) in
    let whole : ColumnTaken true kind Null (0 ∷ key) rest unpack unpack = record { of_key = ap (λ (l : List ℕ). 0 ∷ l) kept.1; of_unpack = refl; taken = record { is_value = tt; as_it_is = refl } } in
    subst (λ (q : Value). ColumnTaken true kind q (0 ∷ key) rest unpack more) parts.0 (subst (λ (l : List ℕ). ColumnTaken true kind Null (0 ∷ key) rest unpack l) parts.1 whole)

flagged_takes : (nullable : Bool) (kind : Kind) (k v : Value) (key rest unpack more : List ℕ) → AreBytes key → AreBytes unpack → flagged_read nullable kind key ≡ value_ok k rest → full_read kind k unpack ≡ value_ok v more → ColumnTaken nullable kind v key rest unpack more
flagged_takes false kind k v key rest unpack more bytes form read full =
    let t = kind_takes (length key) kind k v key rest unpack more bytes form read full in
    record { of_key = t.of_key; of_unpack = t.of_unpack; taken = some_taken false kind v t.some t.is_value t.taken }
flagged_takes true kind k v [] rest unpack more bytes form read full = absurd cc
flagged_takes true kind k v (zero ∷ key) rest unpack more bytes form read full = null_done kind k v key rest unpack more read full
flagged_takes true kind k v (suc zero ∷ key) rest unpack more bytes form read full =
    let t = kind_takes (suc (length key)) kind k v key rest unpack more (λ i. bytes (suc i)) form read full in
    record { of_key = ap (λ (l : List ℕ). 1 ∷ l) t.of_key ∙ ap (λ (l : List ℕ). l ++ rest) (sym (flagged_some kind v t.some)); of_unpack = t.of_unpack; taken = some_taken true kind v t.some t.is_value t.taken }
flagged_takes true kind k v (suc (suc b) ∷ key) rest unpack more bytes form read full = absurd cc

pub kept_takes : (column : ColumnType) (k v : Value) (key rest unpack more : List ℕ) → AreBytes key → AreBytes unpack → kept_read column key ≡ Ok (k, rest) → full_read column.kind k unpack ≡ Ok (v, more) → WasWritten column v key rest unpack more
unfolding kept_read column_bytes
kept_takes column k v key rest unpack more bytes form read full =
    let t = flagged_takes column.nullable column.kind k v key rest unpack more bytes form read full in
    record { of_key = t.of_key; of_unpack = t.of_unpack; taken = t.taken }

same_column : (x y : Value × List ℕ × List ℕ) → let a : ReadColumn = Ok x in let b : ReadColumn = Ok y in a ≡ b → x ≡ y
same_column x y e = cc

rest_parts : (start : ℕ) (key : List ℕ) (r : ReadValue) (x : Value × List ℕ × List ℕ) → with_rest start key r ≡ Ok x → (r ≡ value_ok x.0 x.2) × (key ≡ x.1)
rest_parts start key (Ok y) x e =
    let same = same_column (y.0, key, y.1) x e in
    (ap (λ (z : Value × List ℕ × List ℕ). value_ok z.0 z.2) same, ap (λ (z : Value × List ℕ × List ℕ). z.1) same)
rest_parts start key (Err left) x e = absurd cc

completed_parts : (kind : Kind) (start : ℕ) (unpack : List ℕ) (r : ReadValue) (x : Value × List ℕ × List ℕ) → completed kind start unpack r ≡ Ok x → (k : Value) × (r ≡ value_ok k x.1) × (full_read kind k unpack ≡ value_ok x.0 x.2)
completed_parts kind start unpack (Ok y) x e =
    let parts = rest_parts start y.1 (full_read kind y.0 unpack) x e in
    (y.0, ap (λ (l : List ℕ). value_ok y.0 l) parts.1, parts.0)
completed_parts kind start unpack (Err left) x e = absurd cc

pub field_takes : (column : ColumnType) → OnlyWrittenIsRead column
unfolding field_read
field_takes column = λ v key rest unpack more bytes form read.
    let parts = completed_parts column.kind (length key) unpack (kept_read column key) (v, rest, more) read in
    kept_takes column parts.0 v key rest unpack more bytes form parts.1 parts.2
