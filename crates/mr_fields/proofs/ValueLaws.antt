-- Values are read from their bytes, and from nothing else.
use Rattle.std.proofs.Common.{◌≡◌, ℕ, ℤ, pos, negsuc, suc, ◌-◌, ◌^◌, ◌<◌, ◌≤◌, List, [], ◌∷◌, ◌++◌, length, refl, ap, sym, ◌∙◌, arith, Bool, true, false, cond, nat_lt, inl, inr, ◌⊎◌, subst, Ok, Err, IfOk}
use Rattle.std.specs.Int.{cast_signed, w64}
use Rattle.std.specs.List.{list_all}
use Rattle.std.proofs.lemmas.Bool.{ltb-true, ltb-false}
use Rattle.std.proofs.lemmas.Int.{to_z_pos}
use Rattle.std.proofs.Math.Facts.{to_z-neg}
use Rattle.byteorder.specs.Endian.{big_bytes}
use Rattle.mr_types.specs.declared.value.Value.{Value}
use Rattle.mr_types.specs.declared.value.Value.TheVariants.{Null, Number, Text, Bytes}
use Rattle.mr_types.specs.Refusals.{◌>>=◌}
use Rattle.mr_spec.specs.RowForm.{number_bytes, text16_bytes, value_bytes, values_bytes}
use Rattle.mr_fields.specs.Fields.{Read, is_byte, number_in, text16_in, is_text, is_any, listed_bytes}
use Rattle.mr_fields.specs.Rows.{signed_in, great_in, text_in, binary_in, value_in}
use Rattle.mr_fields.specs.Fitting.{ValueFits, NumberFits}
use Rattle.mr_fields.proofs.Reading.{IsRead, Front, same_front, then_read, where_false, by_mark}
use Rattle.mr_fields.proofs.FieldLaws.{and_true, Number as IsNumber, number_only, number_back, text16_only, text16_back}

tells : (b : Bool) → (b ≡ true) ⊎ (b ≡ false)
tells true = inl refl
tells false = inr refl

-- ---- numbers

complement : (n : ℕ) → n < 2 ^ 64 → 2 ^ 64 - suc (2 ^ 64 - suc n) ≡ n
complement n lt = omega (arith, lt)

signed_again : (n : ℕ) → n < 2 ^ 64 → 1 ∷ big_bytes 8 n ≡ number_bytes (cast_signed w64 n)
signed_again n lt = elim (tells (nat_lt n (2 ^ 63))) [
  | inl low ↦ ap (λ (b : Bool). cond b 1 2 ∷ big_bytes 8 n) (sym low) ∙ ap number_bytes (sym (to_z_pos w64 n (ltb-true n (2 ^ 63) low)))
  | inr high ↦
      let below : suc (2 ^ 64 - suc n) ≤ 2 ^ 63 = omega (arith, lt, ltb-false n (2 ^ 63) high) in
      ap (λ (m : ℕ). 1 ∷ big_bytes 8 m) (sym (complement n lt))
      ∙ ap number_bytes (sym (to_z-neg w64 (2 ^ 64 - suc n) below) ∙ ap (cast_signed w64) (complement n lt))
]

-- behind a mark
abbrev Behind : ℕ → List ℕ → Value × List ℕ → Type 0
Behind mark s p = IsRead (mark ∷ s) (value_bytes p.0) p.1

marked : (mark : ℕ) (s front rest : List ℕ) → IsRead s front rest → IsRead (mark ∷ s) (mark ∷ front) rest
marked mark s front rest is = record { whole = ap (λ (x : List ℕ). mark ∷ x) is.whole; rest_bytes = is.rest_bytes }

signed_only : (s : List ℕ) → list_all is_byte s ≡ true → IfOk (signed_in s) (Behind 1 s)
signed_only s e = then_read (IsNumber 8 s) (Behind 1 s) (number_in 8 s) _ (number_only 8 s e) (λ n is.
    same_front (1 ∷ s) (1 ∷ big_bytes 8 n.0) (number_bytes (cast_signed w64 n.0)) n.1 (signed_again n.0 (omega (arith, is.1))) (marked 1 s (big_bytes 8 n.0) n.1 is.0))

great_only : (s : List ℕ) → list_all is_byte s ≡ true → IfOk (great_in s) (Behind 2 s)
great_only s e = then_read (IsNumber 8 s) (Behind 2 s) (number_in 8 s) _ (number_only 8 s e) (λ n is.
    where_false (Behind 2 s) (nat_lt n.0 (2 ^ 63)) (Number (pos n.0), n.1) (length s) (λ high.
    same_front (2 ∷ s) (2 ∷ big_bytes 8 n.0) (number_bytes (pos n.0)) n.1 (ap (λ (b : Bool). cond b 1 2 ∷ big_bytes 8 n.0) (sym high)) (marked 2 s (big_bytes 8 n.0) n.1 is.0)))

text_only : (s : List ℕ) → list_all is_byte s ≡ true → IfOk (text_in s) (Behind 3 s)
text_only s e = then_read (Front text16_bytes s) (Behind 3 s) (text16_in is_text s) _ (text16_only is_text s e) (λ t is. marked 3 s (text16_bytes t.0) t.1 is)

binary_only : (s : List ℕ) → list_all is_byte s ≡ true → IfOk (binary_in s) (Behind 4 s)
binary_only s e = then_read (Front text16_bytes s) (Behind 4 s) (text16_in is_any s) _ (text16_only is_any s e) (λ t is. marked 4 s (text16_bytes t.0) t.1 is)

-- the mark is this number
at_mark : (k mark : ℕ) (s : List ℕ) (r : Read Value) → IfOk r (Behind k s) → mark ≡ k → IfOk r (Front value_bytes (mark ∷ s))
at_mark k mark s r is e = subst (λ (m : ℕ). IfOk r (Front value_bytes (m ∷ s))) (sym e) is

pub value_only : (s : List ℕ) → list_all is_byte s ≡ true → IfOk (value_in s) (Front value_bytes s)
value_only [] e = tt
value_only (mark ∷ s) e =
    let bytes = (and_true (is_byte mark) (list_all is_byte s) e).1 in
    let Q : Value × List ℕ → Type 0 = Front value_bytes (mark ∷ s) in
    by_mark Q mark 0 _ _ (at_mark 0 mark s (Ok (Null, s)) (record { whole = refl; rest_bytes = bytes })) (
    by_mark Q mark 1 _ _ (at_mark 1 mark s (signed_in s) (signed_only s bytes)) (
    by_mark Q mark 2 _ _ (at_mark 2 mark s (great_in s) (great_only s bytes)) (
    by_mark Q mark 3 _ _ (at_mark 3 mark s (text_in s) (text_only s bytes)) (
    by_mark Q mark 4 _ (Err (length (mark ∷ s))) (at_mark 4 mark s (binary_in s) (binary_only s bytes)) tt))))

-- ---- what is written is read

signed_back : (z : ℤ) (n : ℕ) (rest : List ℕ) → n < 2 ^ 64 → cast_signed w64 n ≡ z → signed_in (big_bytes 8 n ++ rest) ≡ Ok (Number z, rest)
signed_back z n rest lt e =
    ap (λ (r : Read ℕ). r >>= (λ number. Ok (Number (cast_signed w64 number.0), number.1))) (number_back 8 n rest (omega (arith, lt)))
    ∙ ap (λ (y : ℤ). Ok (Number y, rest)) e

great_back : (n : ℕ) (rest : List ℕ) → n < 2 ^ 64 → nat_lt n (2 ^ 63) ≡ false → great_in (big_bytes 8 n ++ rest) ≡ Ok (Number (pos n), rest)
great_back n rest lt high =
    ap (λ (r : Read ℕ). r >>= (λ number. cond (nat_lt number.0 (2 ^ 63)) (Err (length (big_bytes 8 n ++ rest))) (Ok (Number (pos number.0), number.1)))) (number_back 8 n rest (omega (arith, lt)))
    ∙ ap (λ (b : Bool). cond b (Err (length (big_bytes 8 n ++ rest))) (Ok (Number (pos n), rest))) high

number_value_back : (z : ℤ) (rest : List ℕ) → NumberFits z → value_in (number_bytes z ++ rest) ≡ Ok (Number z, rest)
number_value_back (pos n) rest fits = elim (tells (nat_lt n (2 ^ 63))) [
  | inl low ↦ ap (λ (b : Bool). value_in ((cond b 1 2 ∷ big_bytes 8 n) ++ rest)) low ∙ signed_back (pos n) n rest fits (to_z_pos w64 n (ltb-true n (2 ^ 63) low))
  | inr high ↦ ap (λ (b : Bool). value_in ((cond b 1 2 ∷ big_bytes 8 n) ++ rest)) high ∙ great_back n rest fits high
]
number_value_back (negsuc n) rest fits = signed_back (negsuc n) (2 ^ 64 - suc n) rest (omega arith) (to_z-neg w64 n fits)

pub value_back : (v : Value) (rest : List ℕ) → ValueFits v → value_in (value_bytes v ++ rest) ≡ Ok (v, rest)
value_back Null rest fits = refl
value_back (Number z) rest fits = number_value_back z rest fits
value_back (Text text) rest fits =
    ap (λ (r : Read (List ℕ)). r >>= (λ text. Ok (Text text.0, text.1))) (text16_back is_text text rest fits.short fits.is_text)
value_back (Bytes bytes) rest fits =
    ap (λ (r : Read (List ℕ)). r >>= (λ binary. Ok (Bytes binary.0, binary.1))) (text16_back is_any bytes rest fits refl)

pub values_listed : (vs : List Value) → listed_bytes value_bytes vs ≡ values_bytes vs
values_listed [] = refl
values_listed (v ∷ vs) = ap (λ (x : List ℕ). value_bytes v ++ x) (values_listed vs)
