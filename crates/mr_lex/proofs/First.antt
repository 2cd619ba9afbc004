-- The token in front, by its first byte.
use Rattle.std.proofs.Common.{◌≡◌, ℕ, zero, suc, ◌+◌, ◌-◌, ◌<◌, ◌≤◌, List, [], ◌∷◌, length, take, drop, Some, None, Option, refl, ap, sym, ◌∙◌, Bool, true, false, not, arith, inl, inr, ◌⊎◌, ◌==◌, ◌&&◌, ◌||◌, if◌then◌else◌, nat_le}
use Rattle.std.proofs.lemmas.Bool.{eqb-true}
use Rattle.mr_lex.specs.Bytes.{is_letter, is_digit, starts}
use Rattle.mr_lex.specs.Quoted.{closes, name_count}
use Rattle.mr_lex.specs.Fronts.{quoted_end, name_if, if_so, of_kind, text_front, sign_front, front_of}
use Rattle.mr_lex.specs.Tokens.{kind_at, kind_of, first_token, where_holds, is_whole_text, is_sign, is_lone_sign, is_double_sign}
use Rattle.mr_lex.specs.declared.token.TokenKind.{TokenKind}
use Rattle.mr_lex.specs.declared.token.TokenKind.TheVariants.{QuotedName, Text, Sign}
use Rattle.mr_lex.proofs.Lists.{tells, same, apart}
use Rattle.mr_lex.proofs.Munch.{is_first, no_first, only_first, at_length, IsWithin}
use Rattle.mr_lex.proofs.Quotes.{is_at, IsBetween, quoted_at, quoted_between}
use Rattle.mr_lex.proofs.Completed.{text_at, text_between}
use Rattle.mr_lex.proofs.WordFirst.{word_first}
use Rattle.mr_lex.proofs.DigitsFirst.{digits_first}

abbrev counts : List ℕ → Bool
counts bytes = nat_le 1 (name_count bytes) && nat_le (name_count bytes) 64

regroup : (c f g h : Bool) → (((c && f) && g) && h) ≡ ((c && h) && (f && g))
regroup true true true true = refl
regroup true true true false = refl
regroup true true false true = refl
regroup true true false false = refl
regroup true false g true = refl
regroup true false g false = refl
regroup false f g h = refl

name_only : (bs : List ℕ) (o : Option ℕ) → quoted_end 96 false 1 127 1 bs ≡ o → IsBetween 1 (1 + length bs) o → first_token (96 ∷ bs) ≡ name_if o bs
name_only bs o e h = only_first (96 ∷ bs) (name_if o bs) all (within o h)
  where
    within_so : (t : Bool) (n : ℕ) → n ≤ length (96 ∷ bs) → IsWithin (length (96 ∷ bs)) (if_so t QuotedName n)
    within_so true n l = l
    within_so false n l = tt

    within : (o : Option ℕ) → IsBetween 1 (1 + length bs) o → IsWithin (length (96 ∷ bs)) (name_if o bs)
    within None h = tt
    within (Some n) h = within_so (counts (take (n - 1) bs)) n (omega (arith, h.1))

    no_zero : (t : Bool) (n : ℕ) → 1 < n → None ≡ at_length 0 (if_so t QuotedName n)
    no_zero false n l = refl
    no_zero true zero l = absurd (omega (arith, l))
    no_zero true (suc n) l = sym (ap (λ t. if t then Some QuotedName else None) (apart 0 (suc n) (omega arith)))

    at_zero : (o : Option ℕ) → IsBetween 1 (1 + length bs) o → None ≡ at_length 0 (name_if o bs)
    at_zero None h = refl
    at_zero (Some n) h = no_zero (counts (take (n - 1) bs)) n h.0

    so_at : (t : Bool) (k n : ℕ) → k ≡ n → where_holds t QuotedName ≡ at_length k (if_so t QuotedName n)
    so_at true k n e = sym (ap (λ t. if t then Some QuotedName else None) (same k n e))
    so_at false k n e = refl

    so_not : (t : Bool) (k n : ℕ) → (k == n) ≡ false → None ≡ at_length k (if_so t QuotedName n)
    so_not true k n e = sym (ap (λ t. if t then Some QuotedName else None) e)
    so_not false k n e = refl

    tested : (k : ℕ) (o : Option ℕ) → where_holds (is_at (1 + k) o && counts (take k bs)) QuotedName ≡ at_length (suc k) (name_if o bs)
    tested k None = refl
    tested k (Some n) = by (tells (1 + k == n))
      where
        by : ((1 + k == n) ≡ true) ⊎ ((1 + k == n) ≡ false) → where_holds ((1 + k == n) && counts (take k bs)) QuotedName ≡ at_length (suc k) (name_if (Some n) bs)
        by (inl y) =
            let eq : 1 + k ≡ n = eqb-true (1 + k) n y in
            let one : k ≡ n - 1 = omega (arith, eq) in
            ap (λ t. where_holds (t && counts (take k bs)) QuotedName) y
            ∙ ap (λ j. where_holds (counts (take j bs)) QuotedName) one
            ∙ so_at (counts (take (n - 1) bs)) (suc k) n (omega (arith, eq))
        by (inr y) =
            let next : 1 + k ≡ suc k = omega arith in
            ap (λ t. where_holds (t && counts (take k bs)) QuotedName) y
            ∙ so_not (counts (take (n - 1) bs)) (suc k) n (ap (λ j. j == n) (sym next) ∙ y)

    all : (m : ℕ) → m ≤ length (96 ∷ bs) → kind_at m (96 ∷ bs) ≡ at_length m (name_if o bs)
    all zero r = at_zero o h
    all (suc k) r =
        ap (λ t. where_holds t QuotedName) (regroup (closes 96 false 1 127 (take k bs)) (nat_le 1 (name_count (take k bs))) (nat_le (name_count (take k bs)) 64) (not (starts (λ b. b == 96) (drop k bs))))
        ∙ ap (λ t. where_holds (t && counts (take k bs)) QuotedName) (quoted_at 96 false 1 127 1 k bs (omega (arith, r)) ∙ ap (is_at (1 + k)) e)
        ∙ tested k o

text_only : (q : ℕ) (bs : List ℕ) (o : Option ℕ) → is_letter q ≡ false → is_digit q ≡ false → (q == 96) ≡ false → (q == 39 || q == 34) ≡ true
    → text_front 127 (q ∷ bs) ≡ o → IsBetween 0 (length (q ∷ bs)) o → first_token (q ∷ bs) ≡ of_kind Text o
text_only q bs o l d n y e h = only_first (q ∷ bs) (of_kind Text o) all (within o h)
  where
    within : (o : Option ℕ) → IsBetween 0 (length (q ∷ bs)) o → IsWithin (length (q ∷ bs)) (of_kind Text o)
    within None h = tt
    within (Some n) h = h.1

    at_zero : (o : Option ℕ) → IsBetween 0 (length (q ∷ bs)) o → None ≡ at_length 0 (of_kind Text o)
    at_zero None h = refl
    at_zero (Some zero) h = absurd (omega (arith, h.0))
    at_zero (Some (suc n)) h = sym (ap (λ t. if t then Some Text else None) (apart 0 (suc n) (omega arith)))

    told : (k : ℕ) (o : Option ℕ) → where_holds (is_at k o) Text ≡ at_length k (of_kind Text o)
    told k None = refl
    told k (Some n) = refl

    at_text : (f rest : List ℕ) → kind_of (q ∷ f) rest ≡ where_holds (is_whole_text 127 (q ∷ f) rest) Text
    at_text f rest = rw (l, d, n) (ap (λ t. if t then where_holds (is_whole_text 127 (q ∷ f) rest) Text else where_holds (is_sign (q ∷ f)) Sign) y)

    all : (m : ℕ) → m ≤ length (q ∷ bs) → kind_at m (q ∷ bs) ≡ at_length m (of_kind Text o)
    all zero r = at_zero o h
    all (suc k) r = at_text (take k bs) (drop k bs) ∙ ap (λ t. where_holds t Text) (text_at 127 (suc k) (q ∷ bs) r ∙ ap (is_at (suc k)) e) ∙ told (suc k) o

sign_first : (a : ℕ) (bs : List ℕ) → ((m : ℕ) → 0 < m → kind_at m (a ∷ bs) ≡ where_holds (is_sign (take m (a ∷ bs))) Sign) → first_token (a ∷ bs) ≡ sign_front (a ∷ bs)
sign_first a [] k = elim (tells (is_lone_sign a)) [
  | inl y ↦ is_first (a ∷ []) 1 Sign (omega arith) (k 1 (omega arith) ∙ ap (λ t. where_holds t Sign) y) (λ m l r. absurd (omega (arith, l, r))) ∙ sym (ap (λ t. if_so t Sign 1) y)
  | inr n ↦ no_first (a ∷ []) (none n) ∙ sym (ap (λ t. if_so t Sign 1) n)
]
  where
    none : is_lone_sign a ≡ false → (m : ℕ) → m ≤ length (a ∷ []) → kind_at m (a ∷ []) ≡ None
    none n zero l = refl
    none n (suc zero) l = k 1 (omega arith) ∙ ap (λ t. where_holds t Sign) n
    none n (suc (suc m)) l = absurd (omega (arith, l))
sign_first a (b ∷ bs) k = elim (tells (is_double_sign a b)) [
  | inl y ↦ is_first (a ∷ b ∷ bs) 2 Sign (omega arith) (k 2 (omega arith) ∙ ap (λ t. where_holds t Sign) y) long ∙ sym (ap (λ t. if t then Some (Sign, 2) else if_so (is_lone_sign a) Sign 1) y)
  | inr n ↦ elim (tells (is_lone_sign a)) [
    | inl y ↦ is_first (a ∷ b ∷ bs) 1 Sign (omega arith) (k 1 (omega arith) ∙ ap (λ t. where_holds t Sign) y) (longer n) ∙ sym (ap (λ t. if t then Some (Sign, 2) else if_so (is_lone_sign a) Sign 1) n ∙ ap (λ t. if_so t Sign 1) y)
    | inr o ↦ no_first (a ∷ b ∷ bs) (none n o) ∙ sym (ap (λ t. if t then Some (Sign, 2) else if_so (is_lone_sign a) Sign 1) n ∙ ap (λ t. if_so t Sign 1) o)
  ]
]
  where
    three : (s : List ℕ) (m : ℕ) → suc (suc (suc m)) ≤ length (a ∷ b ∷ s) → is_sign (take (suc (suc (suc m))) (a ∷ b ∷ s)) ≡ false
    three [] m l = absurd (omega (arith, l))
    three (c ∷ cs) m l = refl

    long : (m : ℕ) → 2 < m → m ≤ length (a ∷ b ∷ bs) → kind_at m (a ∷ b ∷ bs) ≡ None
    long zero l r = absurd (omega (arith, l))
    long (suc zero) l r = absurd (omega (arith, l))
    long (suc (suc zero)) l r = absurd (omega (arith, l))
    long (suc (suc (suc m))) l r = k (suc (suc (suc m))) (omega arith) ∙ ap (λ t. where_holds t Sign) (three bs m r)

    longer : is_double_sign a b ≡ false → (m : ℕ) → 1 < m → m ≤ length (a ∷ b ∷ bs) → kind_at m (a ∷ b ∷ bs) ≡ None
    longer n zero l r = absurd (omega (arith, l))
    longer n (suc zero) l r = absurd (omega (arith, l))
    longer n (suc (suc zero)) l r = k 2 (omega arith) ∙ ap (λ t. where_holds t Sign) n
    longer n (suc (suc (suc m))) l r = long (suc (suc (suc m))) (omega arith) r

    none : is_double_sign a b ≡ false → is_lone_sign a ≡ false → (m : ℕ) → m ≤ length (a ∷ b ∷ bs) → kind_at m (a ∷ b ∷ bs) ≡ None
    none n o zero l = refl
    none n o (suc zero) l = k 1 (omega arith) ∙ ap (λ t. where_holds t Sign) o
    none n o (suc (suc m)) l = longer n (suc (suc m)) (omega arith) l

is_front : (text : List ℕ) (x : Option (TokenKind × ℕ)) → first_token text ≡ x → front_of text ≡ x → first_token text ≡ front_of text
is_front text x e f = e ∙ sym f

pub front_first : (text : List ℕ) → first_token text ≡ front_of text
front_first [] = refl
front_first (b ∷ bs) = elim (tells (is_letter b)) [
  | inl y ↦ word_first b bs y ∙ sym (rw y refl)
  | inr l ↦ elim (tells (is_digit b)) [
    | inl y ↦ digits_first b bs l y ∙ sym (rw (l, y) refl)
    | inr d ↦ elim (tells (b == 96)) [
      | inl y ↦ let e : b ≡ 96 = eqb-true b 96 y in rw e (name_only bs (quoted_end 96 false 1 127 1 bs) refl (quoted_between 96 false 1 127 1 bs))
      | inr n ↦ elim (tells (b == 39 || b == 34)) [
        | inl y ↦ text_only b bs (text_front 127 (b ∷ bs)) l d n y refl (text_between 127 (b ∷ bs)) ∙ sym (rw (l, d, n, y) refl)
        | inr q ↦ sign_first b bs (at_sign b bs l d n q) ∙ sym (rw (l, d, n, q) refl)
      ]
    ]
  ]
]
  where
    at_sign : (b : ℕ) (bs : List ℕ) → is_letter b ≡ false → is_digit b ≡ false → (b == 96) ≡ false → (b == 39 || b == 34) ≡ false
        → (m : ℕ) → 0 < m → kind_at m (b ∷ bs) ≡ where_holds (is_sign (take m (b ∷ bs))) Sign
    at_sign b bs l d n q zero p = absurd (omega (arith, p))
    at_sign b bs l d n q (suc m) p = rw (l, d, n, q) refl
