-- Only what was written is read of a column that isn't in the key.
use Rattle.std.proofs.Common.{◌≡◌, ℕ, suc, ◌+◌, ◌^◌, ◌<◌, ◌≤◌, ℤ, pos, List, [], ◌∷◌, ◌++◌, length, take, drop, get_or, refl, sym, ap, subst, ◌∙◌, arith, append_assoc, Bool, true, false, cond, Ok, Err, inl, inr}
use Rattle.std.specs.Prelude.{nat_le, ◌&&◌}
use Rattle.std.specs.List.{list_all, AllByRecursion}
use Rattle.std.specs.Int.{w16, w32, w64, to_be_bytes}
use Rattle.std.proofs.lemmas.Bool.{cases_lt, lt-ltb, le-ltb, leb-true, ltb-true, and_parts}
use Rattle.std.proofs.lemmas.List.{length-take, take-append-drop, get_or-take, get_or_past, get_or-drop}
use Rattle.std.proofs.lemmas.Nat.{be_bytes_2}
use Rattle.mr_lanes.specs.Kernels.{is_low}
use Rattle.mr_pieces.specs.Order.{IsAscii}
use Rattle.mr_types.specs.declared.kind.Kind.{Kind}
use Rattle.mr_types.specs.declared.kind.Kind.TheVariants.{Int, IntUnsigned, BigInt, BigIntUnsigned, VarChar, VarBinary}
use Rattle.mr_types.specs.declared.value.Value.{Value}
use Rattle.mr_types.specs.declared.value.Value.TheVariants.{Number, Text, Bytes}
use Rattle.mr_types.specs.Values.{is_null}
use Rattle.mr_types.specs.Rows.{IsValue}
use Rattle.mr_memcmp.specs.Fitting.{IsNumber, IsSigned}
use Rattle.mr_memcmp.specs.Reading.{ReadValue, ReadNumber, as_number, number_read}
use Rattle.mr_memcmp.specs.ComeBack.{AreBytes}
use Rattle.mr_memcmp.proofs.Fitted.{Taken}
use Rattle.mr_memcmp.proofs.Assigned.{text_taken_back, bytes_taken_back, number_taken_back}
use Rattle.mr_memcmp.proofs.ColumnTakes.{four_takes, eight_takes}
use Rattle.mr_rowval.specs.Plain.{complement, plain_number, text16, plain_bytes, signed, length16, is_text16, is_any, is_ascii_text, plain_read}

abbrev pub value_ok : Value → List ℕ → ReadValue
value_ok value rest = Ok (value, rest)

abbrev pub number_ok : ℕ → List ℕ → ReadNumber
number_ok n rest = Ok (n, rest)

same_value : (x y : Value × List ℕ) → let a : ReadValue = Ok x in let b : ReadValue = Ok y in a ≡ b → x ≡ y
same_value x y e = cc

pub ok_parts : (a c : Value) (b d : List ℕ) → value_ok a b ≡ value_ok c d → (a ≡ c) × (b ≡ d)
ok_parts a c b d e =
    let same = same_value (a, b) (c, d) e in
    (ap (λ (x : Value × List ℕ). x.0) same, ap (λ (x : Value × List ℕ). x.1) same)

-- ---- numbers

signed_32 : (n : ℕ) → n < 2 ^ 32 → (complement 32 (signed 31 n) ≡ n) × IsSigned 31 (signed 31 n)
signed_32 n small =
    elim (cases_lt n (2 ^ 31)) [
      | inl low ↦ rw (lt-ltb n (2 ^ 31) low) (refl, low)
      | inr high ↦ rw (le-ltb n (2 ^ 31) high) (omega arith, omega arith)
    ]

signed_64 : (n : ℕ) → n < 2 ^ 64 → (complement 64 (signed 63 n) ≡ n) × IsSigned 63 (signed 63 n)
signed_64 n small =
    elim (cases_lt n (2 ^ 63)) [
      | inl low ↦ rw (lt-ltb n (2 ^ 63) low) (refl, low)
      | inr high ↦ rw (le-ltb n (2 ^ 63) high) (omega arith, omega arith)
    ]

pub number_parts : (view : ℕ → ℤ) (r : ReadNumber) (v : Value) (rest : List ℕ) → as_number view r ≡ value_ok v rest → (n : ℕ) × (r ≡ Ok (n, rest)) × (Number (view n) ≡ v)
number_parts view (Ok x) v rest e =
    let parts = ok_parts (Number (view x.0)) v x.1 rest e in
    (x.0, ap (λ (l : List ℕ). number_ok x.0 l) parts.1, parts.0)
number_parts view (Err left) v rest e = absurd cc

-- what was read, and what it is written as
pub record PlainTaken (kind : Kind) (v : Value) (bytes rest : List ℕ) : Type 0 where
  pub written : bytes ≡ plain_bytes kind v ++ rest
  pub is_value : IsValue v
  pub taken : Taken kind v
  pub some : is_null v ≡ false

number_done : (kind : Kind) (z : ℤ) (v : Value) (bytes rest : List ℕ) → Number z ≡ v → bytes ≡ plain_number kind z ++ rest → IsNumber kind z → PlainTaken kind v bytes rest
number_done kind z v bytes rest is written fits = subst (λ (q : Value). PlainTaken kind q bytes rest) is (record { written = written; is_value = tt; taken = number_taken_back kind z fits; some = refl })

-- ---- texts and bytes

pub tried : (test : Bool) (left : ℕ) (a v : Value) (b rest : List ℕ) → cond test (value_ok a b) (Err left) ≡ value_ok v rest → (test ≡ true) × (a ≡ v) × (b ≡ rest)
tried true left a v b rest e = let parts = ok_parts a v b rest e in (refl, parts.0, parts.1)
tried false left a v b rest e = absurd cc

first_bytes : (bytes : List ℕ) (i : ℕ) → AreBytes bytes → get_or (take 2 bytes) i 0 < 256
first_bytes bytes i are =
    elim (cases_lt i 2) [
      | inl within ↦ let e = get_or-take 2 bytes i 0 within in let b = are i in rw e b
      | inr past ↦ let e = get_or_past (take 2 bytes) i 0 (omega (arith, length-take 2 bytes)) in rw e (omega arith)
    ]

-- the parts of a text behind its length
pub record Text16 (n : ℕ) (test : List ℕ → Bool) (t bytes rest : List ℕ) : Type 0 where
  pub written : bytes ≡ text16 t ++ rest
  pub fits : length t ≤ n
  pub passes : test t ≡ true
  pub below : (i : ℕ) → i < length t → get_or t i 0 < 256

text16_parts : (n : ℕ) (test : List ℕ → Bool) (bytes : List ℕ) → AreBytes bytes → is_text16 n test bytes ≡ true → Text16 n test (take (length16 bytes) (drop 2 bytes)) bytes (drop (length16 bytes) (drop 2 bytes))
text16_parts n test bytes are whole =
    let m = length16 bytes in
    let t = take m (drop 2 bytes) in
    let rest = drop m (drop 2 bytes) in
    let one = and_parts (nat_le 2 (length bytes)) (nat_le m n && (nat_le m (length (drop 2 bytes)) && test t)) whole in
    let two = and_parts (nat_le m n) (nat_le m (length (drop 2 bytes)) && test t) one.1 in
    let three = and_parts (nat_le m (length (drop 2 bytes))) (test t) two.1 in
    let room = leb-true 2 (length bytes) one.0 in
    let inside = leb-true m (length (drop 2 bytes)) three.0 in
    let size : length t ≡ m = omega (arith, length-take m (drop 2 bytes)) in
    let front : to_be_bytes w16 m ≡ take 2 bytes = be_bytes_2 (take 2 bytes) m (omega (arith, length-take 2 bytes)) (λ i. first_bytes bytes i are) refl in
    let head : to_be_bytes w16 (length t) ++ t ++ rest ≡ take 2 bytes ++ (t ++ rest) = ap (λ (k : ℕ). to_be_bytes w16 k ++ t ++ rest) size ∙ ap (λ (l : List ℕ). l ++ t ++ rest) front ∙ append_assoc (take 2 bytes) t rest in
    record {
      written = sym (head ∙ ap (λ (l : List ℕ). take 2 bytes ++ l) (take-append-drop m (drop 2 bytes)) ∙ take-append-drop 2 bytes);
      fits = let most = leb-true m n two.0 in omega arith;
      passes = three.1;
      below = λ i within.
          let e = get_or-take m (drop 2 bytes) i 0 (omega arith) in
          let d = get_or-drop 2 bytes i 0 in
          let b = are (2 + i) in
          omega (arith, e, d, b);
    }

all_low : (t : List ℕ) → list_all is_low t ≡ true → IsAscii t
all_low [] h = tt
all_low (b ∷ t) h = let parts = and_parts (is_low b) (list_all is_low t) h in (ltb-true b 128 parts.0, all_low t parts.1)

all_below : (xs : List ℕ) → ((i : ℕ) → i < length xs → get_or xs i 0 < 256) → AllByRecursion (λ b. b < 256) xs
all_below [] h = tt
all_below (x ∷ xs) h = (h 0 (omega arith), all_below xs (λ i within. h (suc i) (omega arith)))

pub plain_takes : (kind : Kind) (v : Value) (bytes rest : List ℕ) → AreBytes bytes → plain_read kind bytes ≡ value_ok v rest → PlainTaken kind v bytes rest
unfolding plain_read
plain_takes Int v bytes rest are read =
    let parts = number_parts (signed 31) (number_read w32 bytes) v rest read in
    let cut = four_takes bytes parts.0 rest are parts.1 in
    let back = signed_32 parts.0 cut.1 in
    number_done Int (signed 31 parts.0) v bytes rest parts.2 (cut.0 ∙ ap (λ (n : ℕ). to_be_bytes w32 n ++ rest) (sym back.0)) back.1
plain_takes IntUnsigned v bytes rest are read =
    let parts = number_parts (λ m. pos m) (number_read w32 bytes) v rest read in
    let cut = four_takes bytes parts.0 rest are parts.1 in
    number_done IntUnsigned (pos parts.0) v bytes rest parts.2 cut.0 cut.1
plain_takes BigInt v bytes rest are read =
    let parts = number_parts (signed 63) (number_read w64 bytes) v rest read in
    let cut = eight_takes bytes parts.0 rest are parts.1 in
    let back = signed_64 parts.0 cut.1 in
    number_done BigInt (signed 63 parts.0) v bytes rest parts.2 (cut.0 ∙ ap (λ (n : ℕ). to_be_bytes w64 n ++ rest) (sym back.0)) back.1
plain_takes BigIntUnsigned v bytes rest are read =
    let parts = number_parts (λ m. pos m) (number_read w64 bytes) v rest read in
    let cut = eight_takes bytes parts.0 rest are parts.1 in
    number_done BigIntUnsigned (pos parts.0) v bytes rest parts.2 cut.0 cut.1
plain_takes (VarChar n c) v bytes rest are read =
    let t = take (length16 bytes) (drop 2 bytes) in
    let test = tried (is_text16 n is_ascii_text bytes) (length bytes) (Text t) v (drop (length16 bytes) (drop 2 bytes)) rest read in
    let parts = text16_parts n is_ascii_text bytes are test.0 in
    let whole : PlainTaken (VarChar n c) (Text t) bytes (drop (length16 bytes) (drop 2 bytes)) = record { written = parts.written; is_value = all_low t parts.passes; taken = text_taken_back n c t parts.fits; some = refl } in
    subst (λ (q : Value). PlainTaken (VarChar n c) q bytes rest) test.1 (subst (λ (l : List ℕ). PlainTaken (VarChar n c) (Text t) bytes l) test.2 whole)
plain_takes (VarBinary n) v bytes rest are read =
    let t = take (length16 bytes) (drop 2 bytes) in
    let test = tried (is_text16 n is_any bytes) (length bytes) (Bytes t) v (drop (length16 bytes) (drop 2 bytes)) rest read in
    let parts = text16_parts n is_any bytes are test.0 in
    let whole : PlainTaken (VarBinary n) (Bytes t) bytes (drop (length16 bytes) (drop 2 bytes)) = record { written = parts.written; is_value = all_below t parts.below; taken = bytes_taken_back n t parts.fits; some = refl } in
    subst (λ (q : Value). PlainTaken (VarBinary n) q bytes rest) test.1 (subst (λ (l : List ℕ). PlainTaken (VarBinary n) (Bytes t) bytes l) test.2 whole)
