-- Comparing byte by byte.
use Rattle.std.proofs.Common.{◌≡◌, ◌≢◌, ◌⊎◌, ℕ, zero, suc, ◌+◌, ◌<◌, ◌≤◌, List, [], ◌∷◌, ◌++◌, length, take, drop, get_or, refl, sym, ap, ◌∙◌, arith, inl, inr, nat_eq}
use Rattle.std.specs.List.{common_prefix_len}
use Rattle.std.specs.Ordering.{nat_cmp, ordering_then, ordering_reverse}
use Rattle.std.specs.declared.cmp.Ordering.{Ordering}
use Rattle.std.specs.declared.cmp.Ordering.TheVariants.{Equal}
use Rattle.std.specs.Cmp.{then_flip}
use Rattle.std.proofs.lemmas.Bool.{cases_eq, cases_lt, eq-eqb, ne_eqb}
use Rattle.std.proofs.lemmas.Bool.Decides.{nat_tests}
use Rattle.std.proofs.lemmas.List.{take-append-drop, drop_more, drop_all, get_or_past}
use Rattle.std.proofs.lemmas.List.Sums.{common_prefix_len-le}
use Rattle.mr_lanes.specs.Kernels.{upper}
use Rattle.mr_pieces.specs.declared.collation.Collation.{Collation}
use Rattle.mr_pieces.specs.declared.collation.Collation.TheVariants.{Bin, Ci}
use Rattle.mr_pieces.specs.Order.{folded, filler_cmp, text_cmp, bytes_cmp}
use Rattle.mr_pieces.proofs.Compare.{cmp_same, cmp_less, cmp_greater, same_front}
use Rattle.mr_pieces.proofs.Texts.{filled_nil, reversed}
use Rattle.mr_types.specs.FieldValues.{folded_byte, Common}

abbrev front : List ℕ → List ℕ → ℕ
front a b = common_prefix_len nat_eq a b

-- ---- the same front decides nothing

one_more : (n y : ℕ) (l : List ℕ) → take (1 + n) (y ∷ l) ≡ y ∷ take n l
one_more n y l = let e : 1 + n ≡ suc n = omega arith in ap (λ (k : ℕ). take k (y ∷ l)) e

front_taken : (a b : List ℕ) → take (front a b) a ≡ take (front a b) b
front_taken [] b = refl
front_taken (x ∷ a) [] = refl
front_taken (x ∷ a) (y ∷ b) =
    elim (cases_eq x y) [
      | inl same ↦ rw (eq-eqb x y same, same) (one_more (front a b) y a ∙ ap (λ (l : List ℕ). y ∷ l) (front_taken a b) ∙ sym (one_more (front a b) y b))
      | inr other ↦ rw (ne_eqb x y other) refl
    ]

pub front_common : (a b : List ℕ) (n : ℕ) → n ≡ front a b → Common a b n
front_common a b n is = let le = common_prefix_len-le nat_eq a b in (rw is (front_taken a b), rw is le.0, rw is le.1)

text_front : (c : Collation) (p x y : List ℕ) → text_cmp c (p ++ x) (p ++ y) ≡ text_cmp c x y
text_front c [] x y = refl
text_front Bin (b ∷ p) x y = rw (cmp_same b) (text_front Bin p x y)
text_front Ci (b ∷ p) x y = rw (cmp_same (upper b)) (text_front Ci p x y)

pub start_texts : (c : Collation) (a b : List ℕ) (n : ℕ) → Common a b n → text_cmp c (drop n a) (drop n b) ≡ text_cmp c a b
start_texts c a b n common =
    sym (text_front c (take n a) (drop n a) (drop n b))
    ∙ ap (λ (l : List ℕ). text_cmp c l (take n a ++ drop n b)) (take-append-drop n a)
    ∙ ap (λ (l : List ℕ). text_cmp c a (l ++ drop n b)) common.0
    ∙ ap (text_cmp c a) (take-append-drop n b)

pub start_bytes : (a b : List ℕ) (n : ℕ) → Common a b n → bytes_cmp (drop n a) (drop n b) ≡ bytes_cmp a b
start_bytes a b n common =
    sym (same_front (take n a) (drop n a) (drop n b))
    ∙ ap (λ (l : List ℕ). bytes_cmp l (take n a ++ drop n b)) (take-append-drop n a)
    ∙ ap (λ (l : List ℕ). bytes_cmp a (l ++ drop n b)) common.0
    ∙ ap (bytes_cmp a) (take-append-drop n b)

-- ---- one byte more

after_other : (x y : ℕ) (o : Ordering) → x ≢ y → ordering_then (nat_cmp x y) o ≡ nat_cmp x y
after_other x y o other =
    elim (cases_lt x y) [
      | inl less ↦ rw (cmp_less x y less) refl
      | inr not_less ↦ rw (cmp_greater x y (omega arith)) refl
    ]

after_same : (x y : ℕ) (o : Ordering) → x ≡ y → ordering_then (nat_cmp x y) o ≡ o
after_same x y o same = rw (same, cmp_same y) refl

both_there : (c : Collation) (x y : ℕ) (a b : List ℕ) → text_cmp c (x ∷ a) (y ∷ b) ≡ ordering_then (nat_cmp (folded_byte c x) (folded_byte c y)) (text_cmp c a b)
both_there Bin x y a b = refl
both_there Ci x y a b = refl

second_gone : (c : Collation) (x : ℕ) (a : List ℕ) → text_cmp c (x ∷ a) [] ≡ ordering_then (nat_cmp (folded_byte c x) (folded_byte c 32)) (text_cmp c a [])
second_gone Bin x a = ap (ordering_then (nat_cmp x 32)) (sym (filled_nil 32 a))
second_gone Ci x a = ap (ordering_then (nat_cmp (upper x) 32)) (sym (filled_nil 32 (folded Ci a)))

turned : (y : ℕ) (b : List ℕ) → ordering_reverse (ordering_then (nat_cmp y 32) (filler_cmp 32 b)) ≡ ordering_then (nat_cmp 32 y) (ordering_reverse (filler_cmp 32 b))
turned y b = sym (then_flip (nat_cmp y 32) (filler_cmp 32 b)) ∙ ap (λ (o : Ordering). ordering_then o (ordering_reverse (filler_cmp 32 b))) (reversed y 32)

first_gone : (c : Collation) (y : ℕ) (b : List ℕ) → text_cmp c [] (y ∷ b) ≡ ordering_then (nat_cmp (folded_byte c 32) (folded_byte c y)) (text_cmp c [] b)
first_gone Bin y b = turned y b
first_gone Ci y b = turned (upper y) (folded Ci b)

-- a text and a byte with nothing before `at`
abbrev StepOf : Collation → List ℕ → List ℕ → ℕ → Type 0
StepOf c a b at = text_cmp c (drop at a) (drop at b) ≡ ordering_then (nat_cmp (folded_byte c (get_or a at 32)) (folded_byte c (get_or b at 32))) (text_cmp c (drop (at + 1) a) (drop (at + 1) b))

step_both : (c : Collation) (a b : List ℕ) (at : ℕ) → at < length a → at < length b → StepOf c a b at
step_both c a b at p q = rw (drop_more a at 32 p, drop_more b at 32 q) (both_there c (get_or a at 32) (get_or b at 32) (drop (at + 1) a) (drop (at + 1) b))

step_first : (c : Collation) (a b : List ℕ) (at : ℕ) → at < length a → length b ≤ at → StepOf c a b at
step_first c a b at p q = rw (drop_more a at 32 p, drop_all at b q, drop_all (at + 1) b (omega arith), get_or_past b at 32 q) (second_gone c (get_or a at 32) (drop (at + 1) a))

step_second : (c : Collation) (a b : List ℕ) (at : ℕ) → length a ≤ at → at < length b → StepOf c a b at
step_second c a b at p q = rw (drop_more b at 32 q, drop_all at a p, drop_all (at + 1) a (omega arith), get_or_past a at 32 p) (first_gone c (get_or b at 32) (drop (at + 1) b))

text_step : (c : Collation) (a b : List ℕ) (at : ℕ) → (at < length a) ⊎ (at < length b) → StepOf c a b at
text_step c a b at within =
    elim (cases_lt at (length a)) [
      | inl first ↦ elim (cases_lt at (length b)) [
        | inl second ↦ step_both c a b at first second
        | inr none ↦ step_first c a b at first none
      ]
      | inr none ↦ step_second c a b at none (elim within [ inl h ↦ absurd (omega arith) | inr h ↦ h ])
    ]

pub text_differs : (c : Collation) (a b : List ℕ) (at x y : ℕ) → (at < length a) ⊎ (at < length b) → x ≡ folded_byte c (get_or a at 32) → y ≡ folded_byte c (get_or b at 32) → x ≢ y → text_cmp c (drop at a) (drop at b) ≡ text_cmp c a b → nat_cmp x y ≡ text_cmp c a b
text_differs c a b at x y within x_is y_is other so_far =
    sym (after_other x y (text_cmp c (drop (at + 1) a) (drop (at + 1) b)) other) ∙ ap (λ (k : ℕ). ordering_then (nat_cmp k y) (text_cmp c (drop (at + 1) a) (drop (at + 1) b))) x_is
    ∙ ap (λ (k : ℕ). ordering_then (nat_cmp (folded_byte c (get_or a at 32)) k) (text_cmp c (drop (at + 1) a) (drop (at + 1) b))) y_is ∙ sym (text_step c a b at within) ∙ so_far

pub text_agrees : (c : Collation) (a b : List ℕ) (at x y : ℕ) → (at < length a) ⊎ (at < length b) → x ≡ folded_byte c (get_or a at 32) → y ≡ folded_byte c (get_or b at 32) → x ≡ y → text_cmp c (drop at a) (drop at b) ≡ text_cmp c a b → text_cmp c (drop (at + 1) a) (drop (at + 1) b) ≡ text_cmp c a b
text_agrees c a b at x y within x_is y_is same so_far =
    sym (after_same (folded_byte c (get_or a at 32)) (folded_byte c (get_or b at 32)) (text_cmp c (drop (at + 1) a) (drop (at + 1) b)) (sym x_is ∙ same ∙ y_is)) ∙ sym (text_step c a b at within) ∙ so_far

nothing_left : (c : Collation) → text_cmp c [] [] ≡ Equal
nothing_left Bin = refl
nothing_left Ci = refl

pub text_ends : (c : Collation) (a b : List ℕ) (at : ℕ) → length a ≤ at → length b ≤ at → text_cmp c (drop at a) (drop at b) ≡ text_cmp c a b → Equal ≡ text_cmp c a b
text_ends c a b at p q so_far =
    sym (nothing_left c) ∙ ap (λ (l : List ℕ). text_cmp c l []) (sym (drop_all at a p)) ∙ ap (text_cmp c (drop at a)) (sym (drop_all at b q)) ∙ so_far

-- ---- bytes

bytes_step : (a b : List ℕ) (at : ℕ) → at < length a → at < length b → bytes_cmp (drop at a) (drop at b) ≡ ordering_then (nat_cmp (get_or a at 0) (get_or b at 0)) (bytes_cmp (drop (at + 1) a) (drop (at + 1) b))
bytes_step a b at p q = rw (drop_more a at 0 p, drop_more b at 0 q) refl

pub bytes_differ : (a b : List ℕ) (at x y : ℕ) → at < length a → at < length b → x ≡ get_or a at 0 → y ≡ get_or b at 0 → x ≢ y → bytes_cmp (drop at a) (drop at b) ≡ bytes_cmp a b → nat_cmp x y ≡ bytes_cmp a b
bytes_differ a b at x y p q x_is y_is other so_far =
    sym (after_other x y (bytes_cmp (drop (at + 1) a) (drop (at + 1) b)) other) ∙ ap (λ (k : ℕ). ordering_then (nat_cmp k y) (bytes_cmp (drop (at + 1) a) (drop (at + 1) b))) x_is
    ∙ ap (λ (k : ℕ). ordering_then (nat_cmp (get_or a at 0) k) (bytes_cmp (drop (at + 1) a) (drop (at + 1) b))) y_is ∙ sym (bytes_step a b at p q) ∙ so_far

pub bytes_agree : (a b : List ℕ) (at x y : ℕ) → at < length a → at < length b → x ≡ get_or a at 0 → y ≡ get_or b at 0 → x ≡ y → bytes_cmp (drop at a) (drop at b) ≡ bytes_cmp a b → bytes_cmp (drop (at + 1) a) (drop (at + 1) b) ≡ bytes_cmp a b
bytes_agree a b at x y p q x_is y_is same so_far =
    sym (after_same (get_or a at 0) (get_or b at 0) (bytes_cmp (drop (at + 1) a) (drop (at + 1) b)) (sym x_is ∙ same ∙ y_is)) ∙ sym (bytes_step a b at p q) ∙ so_far

shifted : (m n : ℕ) → nat_cmp (suc m) (suc n) ≡ nat_cmp m n
shifted m n = grind (arith, nat_tests)

pub bytes_end : (a b : List ℕ) (at : ℕ) → at ≤ length a → at ≤ length b → (length a ≤ at) ⊎ (length b ≤ at) → bytes_cmp (drop at a) (drop at b) ≡ nat_cmp (length a) (length b)
bytes_end [] [] zero p q gone = refl
bytes_end [] (y ∷ b) zero p q gone = sym (cmp_less 0 (suc (length b)) (omega arith))
bytes_end (x ∷ a) [] zero p q gone = sym (cmp_greater (suc (length a)) 0 (omega arith))
bytes_end (x ∷ a) (y ∷ b) zero p q gone = absurd (elim gone [ inl h ↦ omega arith | inr h ↦ omega arith ])
bytes_end [] b (suc at) p q gone = absurd (omega arith)
bytes_end (x ∷ a) [] (suc at) p q gone = absurd (omega arith)
bytes_end (x ∷ a) (y ∷ b) (suc at) p q gone = bytes_end a b at (omega arith) (omega arith) (elim gone [ inl h ↦ inl (omega arith) | inr h ↦ inr (omega arith) ]) ∙ sym (shifted (length a) (length b))
