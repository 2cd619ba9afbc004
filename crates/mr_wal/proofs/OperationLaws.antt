-- An operation is read from its bytes, and from nothing else.
use Rattle.std.proofs.Common.{◌≡◌, ℕ, List, [], ◌∷◌, ◌++◌, length, refl, ap, sym, ◌∙◌, Bool, true, false, cond, inl, inr, nat_eq, append_assoc, subst, Result, Ok, Err, Option, Some, None, is_some}
use Rattle.std.specs.List.{list_all}
use Rattle.std.proofs.lemmas.Bool.{cases_eq, eq-eqb, ne_eqb}
use Rattle.byteorder.specs.Endian.{big_bytes}
use Rattle.mr_wal.specs.declared.operation.Operation.{Operation}
use Rattle.mr_wal.specs.Fields.{is_byte, number_in, bytes_in}
use Rattle.mr_wal.specs.Operations.{kind_byte, put_bytes, operation_bytes, kind_in, put_in, an_operation, operation_in}
use Rattle.mr_wal.proofs.FieldLaws.{and_true, bound, IsRead, number_only, bytes_only}

pub ok_same : {A : Type 0} (r : Result A ℕ) (x y : A) → r ≡ Ok x → r ≡ Ok y → x ≡ y
ok_same r x y e f = cc

pub kind_only : (s : List ℕ) (r : Bool × List ℕ) → list_all is_byte s ≡ true → kind_in s ≡ Ok r → IsRead s (kind_byte r.0 ∷ []) r.1
kind_only [] r e is = cc
kind_only (b ∷ s) r e is = elim (cases_eq b 1) [
  | inl one ↦
      let got : Ok (true, s) ≡ Ok r = sym (ap (λ t. cond t (Ok (true, s)) (cond (nat_eq b 2) (Ok (false, s)) (Err (length (b ∷ s))))) (eq-eqb b 1 one)) ∙ is in
      let same : (true, s) ≡ r = cc in
      subst (λ (p : Bool × List ℕ). IsRead (b ∷ s) (kind_byte p.0 ∷ []) p.1) same (record { whole = ap (λ (x : ℕ). x ∷ s) one; rest_bytes = (and_true (is_byte b) (list_all is_byte s) e).1 })
  | inr other ↦ elim (cases_eq b 2) [
    | inl two ↦
        let got : Ok (false, s) ≡ Ok r = sym (ap (λ t. cond t (Ok (true, s)) (cond (nat_eq b 2) (Ok (false, s)) (Err (length (b ∷ s))))) (ne_eqb b 1 other) ∙ ap (λ t. cond t (Ok (false, s)) (Err (length (b ∷ s)))) (eq-eqb b 2 two)) ∙ is in
        let same : (false, s) ≡ r = cc in
        subst (λ (p : Bool × List ℕ). IsRead (b ∷ s) (kind_byte p.0 ∷ []) p.1) same (record { whole = ap (λ (x : ℕ). x ∷ s) two; rest_bytes = (and_true (is_byte b) (list_all is_byte s) e).1 })
    | inr neither ↦
        let no : Err (length (b ∷ s)) ≡ Ok r = sym (ap (λ t. cond t (Ok (true, s)) (cond (nat_eq b 2) (Ok (false, s)) (Err (length (b ∷ s))))) (ne_eqb b 1 other) ∙ ap (λ t. cond t (Ok (false, s)) (Err (length (b ∷ s)))) (ne_eqb b 2 neither)) ∙ is in cc
  ]
]

-- a value, where it is a put
pub put_only : (put : Bool) (s : List ℕ) (r : Option (List ℕ) × List ℕ) → list_all is_byte s ≡ true → put_in put s ≡ Ok r → IsRead s (put_bytes r.0) r.1 × (is_some r.0 ≡ put)
put_only false s r e is = let same : (None, s) ≡ r = ok_same (Ok (None, s)) (None, s) r refl is in
    subst (λ (p : Option (List ℕ) × List ℕ). IsRead s (put_bytes p.0) p.1 × (is_some p.0 ≡ false)) same (record { whole = refl; rest_bytes = e }, refl)
put_only true s r e is =
    let size = bound (number_in 4 s) _ r is in
    let size_is = number_only 4 s size.0 e size.1 in
    let value = bound (bytes_in size.0.0 size.0.1) _ r size.2 in
    let value_is = bytes_only size.0.0 size.0.1 value.0 size_is.rest_bytes value.1 in
    let same : (Some value.0.0, value.0.1) ≡ r = ok_same (Ok (Some value.0.0, value.0.1)) (Some value.0.0, value.0.1) r refl value.2 in
    let whole : s ≡ (big_bytes 4 (length value.0.0) ++ value.0.0) ++ value.0.1 =
    size_is.whole ∙ ap (λ (n : ℕ). big_bytes 4 n ++ size.0.1) (sym value_is.1) ∙ ap (λ (x : List ℕ). big_bytes 4 (length value.0.0) ++ x) value_is.0.whole ∙ sym (append_assoc (big_bytes 4 (length value.0.0)) value.0.0 value.0.1) in
    subst (λ (p : Option (List ℕ) × List ℕ). IsRead s (put_bytes p.0) p.1 × (is_some p.0 ≡ true)) same (record { whole = whole; rest_bytes = value_is.0.rest_bytes }, refl)

joined : (a b c d e r : List ℕ) → a ++ (b ++ (c ++ (d ++ (e ++ r)))) ≡ (a ++ (b ++ (c ++ (d ++ e)))) ++ r
joined a b c d e r = simp append_assoc

pub operation_only : (s : List ℕ) (r : Operation × List ℕ) → list_all is_byte s ≡ true → operation_in s ≡ Ok r → IsRead s (operation_bytes r.0) r.1
operation_only s r e is =
    let family = bound (number_in 4 s) _ r is in
    let family_is = number_only 4 s family.0 e family.1 in
    let kind = bound (kind_in family.0.1) _ r family.2 in
    let kind_is = kind_only family.0.1 kind.0 family_is.rest_bytes kind.1 in
    let size = bound (number_in 4 kind.0.1) _ r kind.2 in
    let size_is = number_only 4 kind.0.1 size.0 kind_is.rest_bytes size.1 in
    let key = bound (bytes_in size.0.0 size.0.1) _ r size.2 in
    let key_is = bytes_only size.0.0 size.0.1 key.0 size_is.rest_bytes key.1 in
    let put = bound (put_in kind.0.0 key.0.1) _ r key.2 in
    let put_is = put_only kind.0.0 key.0.1 put.0 key_is.0.rest_bytes put.1 in
    let same : (an_operation family.0.0 key.0.0 put.0.0, put.0.1) ≡ r = ok_same (Ok (an_operation family.0.0 key.0.0 put.0.0, put.0.1)) (an_operation family.0.0 key.0.0 put.0.0, put.0.1) r refl put.2 in
    let e2 : kind.0.1 ≡ big_bytes 4 (length key.0.0) ++ size.0.1 = size_is.whole ∙ ap (λ (n : ℕ). big_bytes 4 n ++ size.0.1) (sym key_is.1) in
    let whole : s ≡ big_bytes 4 family.0.0 ++ ((kind_byte kind.0.0 ∷ []) ++ (big_bytes 4 (length key.0.0) ++ (key.0.0 ++ (put_bytes put.0.0 ++ put.0.1)))) =
    family_is.whole
    ∙ ap (λ (x : List ℕ). big_bytes 4 family.0.0 ++ x) (kind_is.whole
    ∙ ap (λ (x : List ℕ). (kind_byte kind.0.0 ∷ []) ++ x) (e2
    ∙ ap (λ (x : List ℕ). big_bytes 4 (length key.0.0) ++ x) (key_is.0.whole
    ∙ ap (λ (x : List ℕ). key.0.0 ++ x) put_is.0.whole))) in
    subst (λ (p : Operation × List ℕ). IsRead s (operation_bytes p.0) p.1) same (record {
      whole = whole ∙ joined (big_bytes 4 family.0.0) (kind_byte kind.0.0 ∷ []) (big_bytes 4 (length key.0.0)) key.0.0 (put_bytes put.0.0) put.0.1
          ∙ ap (λ (t : Bool). (big_bytes 4 family.0.0 ++ ((kind_byte t ∷ []) ++ (big_bytes 4 (length key.0.0) ++ (key.0.0 ++ put_bytes put.0.0)))) ++ put.0.1) (sym put_is.1);
      rest_bytes = put_is.0.rest_bytes;
    })
