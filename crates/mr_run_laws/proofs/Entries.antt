-- An entry is read from its bytes, and from nothing else.
use Rattle.std.proofs.Common.{◌≡◌, ℕ, List, [], ◌∷◌, ◌++◌, length, refl, ap, sym, ◌∙◌, arith, Bool, true, false, cond, inl, inr, nat_eq, append_assoc, subst, Result, Ok, Err}
use Rattle.std.specs.List.{list_all}
use Rattle.std.proofs.lemmas.Bool.{cases_eq, eq-eqb, ne_eqb}
use Rattle.byteorder.specs.Endian.{big_bytes}
use Rattle.mr_iter.specs.Versions.{Version, as_version}
use Rattle.mr_block.specs.Fields.{is_byte, number_in, bytes_in}
use Rattle.mr_block.specs.Block.{kind_byte, entry_bytes, kind_in, value_length_in, value_of, entry_in}
use Rattle.mr_run_laws.proofs.Numbers.{and_true, bound, IsRead, number_only, bytes_only}

pub kind_only : (s : List ℕ) (r : Bool × List ℕ) → list_all is_byte s ≡ true → kind_in s ≡ Ok r → IsRead s (kind_byte r.0 ∷ []) r.1
kind_only [] r e is = cc
kind_only (b ∷ s) r e is = elim (cases_eq b 1) [
  | inl one ↦
      let got : Ok (true, s) ≡ Ok r = sym (ap (λ t. cond t (Ok (true, s)) (cond (nat_eq b 2) (Ok (false, s)) (Err (length (b ∷ s))))) (eq-eqb b 1 one)) ∙ is in
      let same : (true, s) ≡ r = cc in
      subst (λ (p : Bool × List ℕ). IsRead (b ∷ s) (kind_byte p.0 ∷ []) p.1) same (record { whole = ap (λ (x : ℕ). x ∷ s) one; rest_bytes = (and_true (is_byte b) (list_all is_byte s) e).1 })
  | inr other ↦ elim (cases_eq b 2) [
    | inl two ↦
        let got : Ok (false, s) ≡ Ok r = sym (ap (λ t. cond t (Ok (true, s)) (cond (nat_eq b 2) (Ok (false, s)) (Err (length (b ∷ s))))) (ne_eqb b 1 other) ∙ ap (λ t. cond t (Ok (false, s)) (Err (length (b ∷ s)))) (eq-eqb b 2 two)) ∙ is in
        let same : (false, s) ≡ r = cc in
        subst (λ (p : Bool × List ℕ). IsRead (b ∷ s) (kind_byte p.0 ∷ []) p.1) same (record { whole = ap (λ (x : ℕ). x ∷ s) two; rest_bytes = (and_true (is_byte b) (list_all is_byte s) e).1 })
    | inr neither ↦
        let no : Err (length (b ∷ s)) ≡ Ok r = sym (ap (λ t. cond t (Ok (true, s)) (cond (nat_eq b 2) (Ok (false, s)) (Err (length (b ∷ s))))) (ne_eqb b 1 other) ∙ ap (λ t. cond t (Ok (false, s)) (Err (length (b ∷ s)))) (ne_eqb b 2 neither)) ∙ is in cc
  ]
]

-- a deletion has length 0
pub length_only : (put : Bool) (s : List ℕ) (r : ℕ × List ℕ) → value_length_in put s ≡ Ok r → (number_in 4 s ≡ Ok r) × (put ≡ false → r.0 ≡ 0)
length_only put s r is = let b = bound (number_in 4 s) _ r is in by_kind put b.0 b.1 b.2
  where
    by_kind : (p : Bool) (z : ℕ × List ℕ) → number_in 4 s ≡ Ok z → cond p (Ok z) (cond (nat_eq z.0 0) (Ok z) (Err (length s))) ≡ Ok r → (number_in 4 s ≡ Ok r) × (p ≡ false → r.0 ≡ 0)
    by_kind true z e f = (e ∙ f, λ no. cc)
    by_kind false z e f = elim (cases_eq z.0 0) [
      | inl none ↦
          let got : Ok z ≡ Ok r = sym (ap (λ t. cond t (Ok z) (Err (length s))) (eq-eqb z.0 0 none)) ∙ f in
          let same : z ≡ r = cc in
          (e ∙ got, λ _. subst (λ (q : ℕ × List ℕ). q.0 ≡ 0) same none)
      | inr some ↦ let no : Err (length s) ≡ Ok r = sym (ap (λ t. cond t (Ok z) (Err (length s))) (ne_eqb z.0 0 some)) ∙ f in cc
    ]

pub ok_same : {A : Type 0} (r : Result A ℕ) (x y : A) → r ≡ Ok x → r ≡ Ok y → x ≡ y
ok_same r x y e f = cc

no_bytes : (xs : List ℕ) → length xs ≡ 0 → xs ≡ []
no_bytes [] e = refl
no_bytes (x ∷ xs) e = absurd (omega arith)

joined : (a b c d e f r : List ℕ) → a ++ (b ++ (c ++ (d ++ (e ++ (f ++ r))))) ≡ (a ++ (b ++ (c ++ (d ++ (e ++ f))))) ++ r
joined a b c d e f r = simp append_assoc

-- the bytes of what was read
value_bytes : (put : Bool) (key : List ℕ) (sequence : ℕ) (value : List ℕ) → (put ≡ false → value ≡ []) →
    entry_bytes (as_version key sequence (value_of put value)) ≡ big_bytes 4 (length key) ++ (key ++ (big_bytes 8 sequence ++ ((kind_byte put ∷ []) ++ (big_bytes 4 (length value) ++ value))))
value_bytes true key sequence value none = refl
value_bytes false key sequence value none = ap (λ (v : List ℕ). big_bytes 4 (length key) ++ (key ++ (big_bytes 8 sequence ++ (2 ∷ (big_bytes 4 (length v) ++ v))))) (sym (none refl))

pub entry_only : (s : List ℕ) (r : Version × List ℕ) → list_all is_byte s ≡ true → entry_in s ≡ Ok r → IsRead s (entry_bytes r.0) r.1
entry_only s r e is =
    let size = bound (number_in 4 s) _ r is in
    let size_is = number_only 4 s size.0 e size.1 in
    let key = bound (bytes_in size.0.0 size.0.1) _ r size.2 in
    let key_is = bytes_only size.0.0 size.0.1 key.0 size_is.rest_bytes key.1 in
    let sequence = bound (number_in 8 key.0.1) _ r key.2 in
    let sequence_is = number_only 8 key.0.1 sequence.0 key_is.0.rest_bytes sequence.1 in
    let put = bound (kind_in sequence.0.1) _ r sequence.2 in
    let put_is = kind_only sequence.0.1 put.0 sequence_is.rest_bytes put.1 in
    let count = bound (value_length_in put.0.0 put.0.1) _ r put.2 in
    let count_is = length_only put.0.0 put.0.1 count.0 count.1 in
    let count_read = number_only 4 put.0.1 count.0 put_is.rest_bytes count_is.0 in
    let value = bound (bytes_in count.0.0 count.0.1) _ r count.2 in
    let value_is = bytes_only count.0.0 count.0.1 value.0 count_read.rest_bytes value.1 in
    let same : (as_version key.0.0 sequence.0.0 (value_of put.0.0 value.0.0), value.0.1) ≡ r = ok_same _ _ _ refl value.2 in
    let e1 : s ≡ big_bytes 4 (length key.0.0) ++ size.0.1 = size_is.whole ∙ ap (λ (n : ℕ). big_bytes 4 n ++ size.0.1) (sym key_is.1) in
    let e2 : put.0.1 ≡ big_bytes 4 (length value.0.0) ++ count.0.1 = count_read.whole ∙ ap (λ (n : ℕ). big_bytes 4 n ++ count.0.1) (sym value_is.1) in
    let whole : s ≡ big_bytes 4 (length key.0.0) ++ (key.0.0 ++ (big_bytes 8 sequence.0.0 ++ ((kind_byte put.0.0 ∷ []) ++ (big_bytes 4 (length value.0.0) ++ (value.0.0 ++ value.0.1))))) =
    e1 ∙ ap (λ (x : List ℕ). big_bytes 4 (length key.0.0) ++ x) (key_is.0.whole
    ∙ ap (λ (x : List ℕ). key.0.0 ++ x) (sequence_is.whole
    ∙ ap (λ (x : List ℕ). big_bytes 8 sequence.0.0 ++ x) (put_is.whole
    ∙ ap (λ (x : List ℕ). (kind_byte put.0.0 ∷ []) ++ x) (e2
    ∙ ap (λ (x : List ℕ). big_bytes 4 (length value.0.0) ++ x) value_is.0.whole)))) in
    let none : put.0.0 ≡ false → value.0.0 ≡ [] = λ no. no_bytes value.0.0 (value_is.1 ∙ count_is.1 no) in
    subst (λ (p : Version × List ℕ). IsRead s (entry_bytes p.0) p.1) same (record {
      whole = whole ∙ joined (big_bytes 4 (length key.0.0)) key.0.0 (big_bytes 8 sequence.0.0) (kind_byte put.0.0 ∷ []) (big_bytes 4 (length value.0.0)) value.0.0 value.0.1
          ∙ ap (λ (x : List ℕ). x ++ value.0.1) (sym (value_bytes put.0.0 key.0.0 sequence.0.0 value.0.0 none));
      rest_bytes = value_is.0.rest_bytes;
    })
