-- Texts in pieces stand in the order of padded texts.
use Rattle.std.proofs.Common.{◌≡◌, ◌≢◌, ℕ, zero, suc, ◌<◌, ◌≤◌, List, [], ◌∷◌, ◌++◌, replicate, refl, sym, ap, ◌∙◌, arith, inl, inr, append_assoc}
use Rattle.std.specs.declared.cmp.Ordering.{Ordering}
use Rattle.std.specs.declared.cmp.Ordering.TheVariants.{Less, Equal, Greater}
use Rattle.std.specs.Ordering.{nat_cmp, ordering_then, ordering_reverse}
use Rattle.std.specs.Cmp.{then_flip}
use Rattle.std.proofs.lemmas.Bool.{cases_order, cases_eq, lt-ltb, le-ltb, eq-eqb, ne_eqb}
use Rattle.std.proofs.lemmas.Cmp.{nat_list_cmp_total, nat_cmp_total}
use Rattle.mr_pieces.specs.Order.{filler_cmp, filled_cmp}
use Rattle.mr_pieces.specs.Order.{bytes_cmp}
use Rattle.mr_pieces.specs.Pieces.{mark, text_from, trim_onto, trimmed}
use Rattle.mr_pieces.proofs.Compare.{then_assoc, then_equal, cmp_same, cmp_less, cmp_greater, same_front, second_of, cmp_equal}

-- ---- the filler

then_unless : (o rest : Ordering) → o ≢ Equal → ordering_then o rest ≡ o
then_unless Less rest h = refl
then_unless Equal rest h = absurd (h refl)
then_unless Greater rest h = refl

reverse_twice : (o : Ordering) → ordering_reverse (ordering_reverse o) ≡ o
reverse_twice Less = refl
reverse_twice Equal = refl
reverse_twice Greater = refl

pub reversed : (a b : ℕ) → ordering_reverse (nat_cmp a b) ≡ nat_cmp b a
reversed a b = sym (nat_cmp_total.antisymm b a)

pub filled_nil : (filler : ℕ) (xs : List ℕ) → filled_cmp filler xs [] ≡ filler_cmp filler xs
filled_nil filler [] = refl
filled_nil filler (x ∷ xs) = refl

pub filled_turned : (filler : ℕ) (xs ys : List ℕ) → filled_cmp filler xs ys ≡ ordering_reverse (filled_cmp filler ys xs)
filled_turned filler [] ys = ap ordering_reverse (sym (filled_nil filler ys))
filled_turned filler (x ∷ xs) [] = sym (reverse_twice (ordering_then (nat_cmp x filler) (filler_cmp filler xs)))
filled_turned filler (x ∷ xs) (y ∷ ys) =
    rw (filled_turned filler xs ys, nat_cmp_total.antisymm x y) (then_flip (nat_cmp y x) (filled_cmp filler ys xs))

-- ---- marks

pub mark_nil : mark [] ≡ 2
unfolding mark
mark_nil = refl

pub mark_below : (c : ℕ) (text : List ℕ) → c < 32 → mark (c ∷ text) ≡ 1
unfolding mark
mark_below c text h = rw (lt-ltb c 32 h) refl

pub mark_space : (c : ℕ) (text : List ℕ) → c ≡ 32 → mark (c ∷ text) ≡ mark text
unfolding mark
mark_space c text h = rw h refl

pub mark_above : (c : ℕ) (text : List ℕ) → 32 < c → mark (c ∷ text) ≡ 3
unfolding mark
mark_above c text h =
    let other : c ≢ 32 = omega arith in
    rw (le-ltb c 32 (omega arith), ne_eqb c 32 other) refl

pub mark_bounds : (text : List ℕ) → (1 ≤ mark text) × (mark text ≤ 3)
mark_bounds [] = let e = mark_nil in (omega arith, omega arith)
mark_bounds (c ∷ text) =
    elim (cases_order c 32) [
      | inl space ↦ let rest = mark_bounds text in let e = mark_space c text space in (omega arith, omega arith)
      | inr (inl below) ↦ let e = mark_below c text below in (omega arith, omega arith)
      | inr (inr above) ↦ let e = mark_above c text above in (omega arith, omega arith)
    ]

-- a mark is how the rest compares with spaces
pub mark_cmp : (text : List ℕ) → filler_cmp 32 text ≡ nat_cmp (mark text) 2
mark_cmp [] = rw mark_nil refl
mark_cmp (c ∷ text) =
    elim (cases_order c 32) [
      | inl space ↦ rw (mark_space c text space, space) (mark_cmp text)
      | inr (inl below) ↦ rw (mark_below c text below, cmp_less c 32 below) refl
      | inr (inr above) ↦ rw (mark_above c text above, cmp_greater c 32 above) refl
    ]

then_self : (o : Ordering) → ordering_then o o ≡ o
then_self Less = refl
then_self Equal = refl
then_self Greater = refl

-- a test in front that agrees with the order changes nothing
agrees : (a b x y : ℕ) (rest : Ordering) → (a < b → x < y) → (b < a → y < x) → ordering_then (nat_cmp a b) (ordering_then (nat_cmp x y) rest) ≡ ordering_then (nat_cmp x y) rest
agrees a b x y rest up down =
    elim (cases_order a b) [
      | inl same ↦ rw (same, cmp_same b) refl
      | inr (inl less) ↦ rw (cmp_less a b less, cmp_less x y (up less)) refl
      | inr (inr more) ↦ rw (cmp_greater a b more, cmp_greater x y (down more)) refl
    ]

-- where not both begin with a space, the order of the marks is that of the first bytes
marks_agree : (x : ℕ) (xs : List ℕ) (y : ℕ) (ys : List ℕ) → (x ≡ 32 → y ≡ 32 → ⊥) → mark (x ∷ xs) < mark (y ∷ ys) → x < y
marks_agree x xs y ys apart less =
    let bx = mark_bounds (x ∷ xs) in
    let by' = mark_bounds (y ∷ ys) in
    elim (cases_order x 32) [
      | inl space ↦ elim (cases_order y 32) [
        | inl both ↦ absurd (apart space both)
        | inr (inl below) ↦ let e = mark_below y ys below in absurd (omega arith)
        | inr (inr above) ↦ omega arith
      ]
      | inr (inl below) ↦ elim (cases_order y 32) [
        | inl space ↦ omega arith
        | inr (inl both) ↦ let e = mark_below x xs below in let f = mark_below y ys both in absurd (omega arith)
        | inr (inr above) ↦ omega arith
      ]
      | inr (inr above) ↦ let e = mark_above x xs above in absurd (omega arith)
    ]

marks_lead : (xs ys : List ℕ) → ordering_then (nat_cmp (mark xs) (mark ys)) (filled_cmp 32 xs ys) ≡ filled_cmp 32 xs ys
marks_lead [] ys = rw (mark_nil, mark_cmp ys, reversed (mark ys) 2) (then_self (nat_cmp 2 (mark ys)))
marks_lead (x ∷ xs) [] =
    let e : ordering_then (nat_cmp x 32) (filler_cmp 32 xs) ≡ nat_cmp (mark (x ∷ xs)) 2 = mark_cmp (x ∷ xs) in
    rw (mark_nil, e) (then_self (nat_cmp (mark (x ∷ xs)) 2))
marks_lead (x ∷ xs) (y ∷ ys) =
    elim (cases_eq x 32) [
      | inl space ↦ elim (cases_eq y 32) [
        | inl both ↦ rw (mark_space x xs space, mark_space y ys both, space, both) (marks_lead xs ys)
        | inr other ↦ agrees (mark (x ∷ xs)) (mark (y ∷ ys)) x y (filled_cmp 32 xs ys) (marks_agree x xs y ys (λ p q. other q)) (marks_agree y ys x xs (λ p q. other p))
      ]
      | inr other ↦ agrees (mark (x ∷ xs)) (mark (y ∷ ys)) x y (filled_cmp 32 xs ys) (marks_agree x xs y ys (λ p q. other p)) (marks_agree y ys x xs (λ p q. other q))
    ]

-- ---- texts that end in no space

abbrev pub IsTrimmed : List ℕ → Type 0
IsTrimmed [] = Unit {0}
IsTrimmed (c ∷ []) = c ≢ 32
IsTrimmed (c ∷ d ∷ text) = IsTrimmed (d ∷ text)

pub IsTrimmed-tail : (c : ℕ) (text : List ℕ) → IsTrimmed (c ∷ text) → IsTrimmed text
IsTrimmed-tail c [] h = tt
IsTrimmed-tail c (d ∷ text) h = h

pub not_tied : (c : ℕ) (text : List ℕ) → IsTrimmed (c ∷ text) → filler_cmp 32 (c ∷ text) ≢ Equal
not_tied c [] h e = h (cmp_equal c 32 (sym (then_equal (nat_cmp c 32)) ∙ e))
not_tied c (d ∷ text) h e = not_tied d text h (second_of (nat_cmp c 32) (filler_cmp 32 (d ∷ text)) e)

reverse_untied : (o : Ordering) → o ≢ Equal → ordering_reverse o ≢ Equal
reverse_untied Less h e = absurd cc
reverse_untied Equal h e = h refl
reverse_untied Greater h e = absurd cc

-- a text against the end of one
spaces_lead : (left : ℕ) (x : ℕ) (text a b : List ℕ) → IsTrimmed (x ∷ text) → bytes_cmp (text_from left (x ∷ text) ++ a) (replicate left 32 ++ 2 ∷ b) ≡ filler_cmp 32 (x ∷ text)
spaces_lead zero x text a b h =
    rw (← mark_cmp (x ∷ text)) (then_unless (filler_cmp 32 (x ∷ text)) (bytes_cmp (x ∷ text_from 7 text ++ a) b) (not_tied x text h))
spaces_lead (suc left) x [] a b h =
    let apart : nat_cmp x 32 ≢ Equal = λ e. h (cmp_equal x 32 e) in
    then_unless (nat_cmp x 32) (bytes_cmp (replicate left 32 ++ 2 ∷ [] ++ a) (replicate left 32 ++ 2 ∷ b)) apart ∙ sym (then_equal (nat_cmp x 32))
spaces_lead (suc left) x (y ∷ text) a b h = ap (ordering_then (nat_cmp x 32)) (spaces_lead left y text a b h)

pub trimmed_lead : (left : ℕ) (xs ys a b : List ℕ) → IsTrimmed xs → IsTrimmed ys → bytes_cmp (text_from left xs ++ a) (text_from left ys ++ b) ≡ ordering_then (filled_cmp 32 xs ys) (bytes_cmp a b)
trimmed_lead left [] [] a b p q = same_front (replicate left 32 ++ 2 ∷ []) a b
trimmed_lead left [] (y ∷ ys) a b p q =
    rw append_assoc (nat_list_cmp_total.antisymm (replicate left 32 ++ 2 ∷ a) (text_from left (y ∷ ys) ++ b))
    ∙ ap ordering_reverse (spaces_lead left y ys b a q)
    ∙ sym (then_unless (ordering_reverse (filler_cmp 32 (y ∷ ys))) (bytes_cmp a b) (reverse_untied (filler_cmp 32 (y ∷ ys)) (not_tied y ys q)))
trimmed_lead left (x ∷ xs) [] a b p q =
    rw append_assoc (spaces_lead left x xs a b p) ∙ sym (then_unless (filler_cmp 32 (x ∷ xs)) (bytes_cmp a b) (not_tied x xs p))
trimmed_lead zero (x ∷ xs) (y ∷ ys) a b p q =
    let marks = nat_cmp (mark (x ∷ xs)) (mark (y ∷ ys)) in
    let first = nat_cmp x y in
    let rest = filled_cmp 32 xs ys in
    let last = bytes_cmp a b in
    ap (λ (o : Ordering). ordering_then marks (ordering_then first o)) (trimmed_lead 7 xs ys a b (IsTrimmed-tail x xs p) (IsTrimmed-tail y ys q))
    ∙ ap (ordering_then marks) (sym (then_assoc first rest last))
    ∙ sym (then_assoc marks (ordering_then first rest) last)
    ∙ ap (λ (o : Ordering). ordering_then o last) (marks_lead (x ∷ xs) (y ∷ ys))
trimmed_lead (suc left) (x ∷ xs) (y ∷ ys) a b p q =
    ap (ordering_then (nat_cmp x y)) (trimmed_lead left xs ys a b (IsTrimmed-tail x xs p) (IsTrimmed-tail y ys q)) ∙ sym (then_assoc (nat_cmp x y) (filled_cmp 32 xs ys) (bytes_cmp a b))

-- ---- trimming changes no order

onto_trimmed : (c : ℕ) (t : List ℕ) → IsTrimmed t → IsTrimmed (trim_onto c t)
onto_trimmed c [] h =
    elim (cases_eq c 32) [
      | inl space ↦ rw (eq-eqb c 32 space) tt
      | inr other ↦ rw (ne_eqb c 32 other) other
    ]
onto_trimmed c (d ∷ t) h = h

pub IsTrimmed-trimmed : (text : List ℕ) → IsTrimmed (trimmed text)
IsTrimmed-trimmed [] = tt
IsTrimmed-trimmed (c ∷ text) = onto_trimmed c (trimmed text) (IsTrimmed-trimmed text)

space_alone : (ys : List ℕ) → filled_cmp 32 [] ys ≡ filled_cmp 32 (32 ∷ []) ys
space_alone [] = refl
space_alone (y ∷ ys) = sym (then_flip (nat_cmp y 32) (filler_cmp 32 ys)) ∙ ap (λ (o : Ordering). ordering_then o (ordering_reverse (filler_cmp 32 ys))) (reversed y 32)

onto_filled : (c : ℕ) (t ys : List ℕ) → filled_cmp 32 (trim_onto c t) ys ≡ filled_cmp 32 (c ∷ t) ys
onto_filled c [] ys =
    elim (cases_eq c 32) [
      | inl space ↦ rw (eq-eqb c 32 space, space) (space_alone ys)
      | inr other ↦ rw (ne_eqb c 32 other) refl
    ]
onto_filled c (d ∷ t) ys = refl

one_trimmed : (xs ys : List ℕ) → filled_cmp 32 (trimmed xs) ys ≡ filled_cmp 32 xs ys
one_trimmed [] ys = refl
one_trimmed (x ∷ xs) [] =
    onto_filled x (trimmed xs) []
    ∙ ap (ordering_then (nat_cmp x 32)) (sym (filled_nil 32 (trimmed xs)) ∙ one_trimmed xs [] ∙ filled_nil 32 xs)
one_trimmed (x ∷ xs) (y ∷ ys) = onto_filled x (trimmed xs) (y ∷ ys) ∙ ap (ordering_then (nat_cmp x y)) (one_trimmed xs ys)

pub both_trimmed : (xs ys : List ℕ) → filled_cmp 32 (trimmed xs) (trimmed ys) ≡ filled_cmp 32 xs ys
both_trimmed xs ys =
    one_trimmed xs (trimmed ys) ∙ filled_turned 32 xs (trimmed ys) ∙ ap ordering_reverse (one_trimmed ys xs) ∙ sym (filled_turned 32 xs ys)

-- texts in pieces stand in the order of padded texts
pub text_lead : (xs ys a b : List ℕ) → bytes_cmp (text_from 8 (trimmed xs) ++ a) (text_from 8 (trimmed ys) ++ b) ≡ ordering_then (filled_cmp 32 xs ys) (bytes_cmp a b)
text_lead xs ys a b =
    trimmed_lead 8 (trimmed xs) (trimmed ys) a b (IsTrimmed-trimmed xs) (IsTrimmed-trimmed ys) ∙ ap (λ (o : Ordering). ordering_then o (bytes_cmp a b)) (both_trimmed xs ys)
