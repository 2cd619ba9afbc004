-- The bytes behind a front.
use Rattle.std.proofs.Common.{◌≡◌, ◌≢◌, ℕ, suc, ◌<◌, ◌≤◌, List, [], ◌∷◌, ◌++◌, Option, Some, None, refl, sym, ap, subst, ◌∙◌, arith, inl, inr, take, drop, length, get_or, Bool, zero, ◌+◌}
use Rattle.std.specs.Prelude.{if◌then◌else◌, slice_index_or}
use Rattle.std.specs.declared.cmp.Ordering.{Ordering}
use Rattle.std.specs.declared.cmp.Ordering.TheVariants.{Less, Equal, Greater}
use Rattle.std.specs.Ordering.{ordering_then}
use Rattle.std.proofs.lemmas.Bool.{cases_lt, cases_eq, lt-ltb, le-ltb}
use Rattle.mr_pieces.specs.Order.{bytes_cmp}
use Rattle.mr_pieces.proofs.Compare.{cmp_less, cmp_greater, same_front, bytes_equal}
use Rattle.mr_memcmp.specs.ComeBack.{AreBytes}
use Rattle.mr_memcmp.specs.Above.{or_next, above_of, GoesOn, IsBelow, IsRangeOf, IsAtMost, IsLeastAbove}

-- ---- the loop

pub raised : (x : ℕ) (rest : List ℕ) → x < 255 → above_of rest ≡ None → above_of (x ∷ rest) ≡ Some (suc x ∷ [])
raised x rest h e = ap (or_next x) e ∙ ap (λ (b : Bool). if b then Some (suc x ∷ []) else None) (lt-ltb x 255 h)

pub not_raised : (x : ℕ) (rest : List ℕ) → 255 ≤ x → above_of rest ≡ None → above_of (x ∷ rest) ≡ None
not_raised x rest h e = ap (or_next x) e ∙ ap (λ (b : Bool). if b then Some (suc x ∷ []) else None) (le-ltb x 255 h)

pub behind_front : (front tail above : List ℕ) → above_of tail ≡ Some above → above_of (front ++ tail) ≡ Some (front ++ above)
behind_front [] tail above e = e
behind_front (x ∷ front) tail above e = ap (or_next x) (behind_front front tail above e)

pub raised_at : (prefix : List ℕ) (at : ℕ) → at < length prefix → slice_index_or prefix at 0 < 255 → above_of (drop (suc at) prefix) ≡ None → above_of prefix ≡ Some (take at prefix ++ (slice_index_or prefix at 0 + 1) ∷ [])
raised_at [] at h small e = absurd (omega arith)
raised_at (x ∷ prefix) zero h small e = raised x prefix small e ∙ ap (λ (n : ℕ). Some (n ∷ [])) (omega arith)
raised_at (x ∷ prefix) (suc at) h small e = ap (or_next x) (raised_at prefix at (omega arith) small e)

-- ---- ranges

none_below : (o : Ordering) → o ≡ Less → o ≢ Less → ⊥
none_below o e h = h e

never_less : (rest : List ℕ) → bytes_cmp rest [] ≢ Less
never_less [] e = absurd cc
never_less (x ∷ rest) e = absurd cc

abbrev InRange : List ℕ → List ℕ → Option (List ℕ) → Type 0
InRange key prefix above = (bytes_cmp key prefix ≢ Less) × IsBelow key above

tail_bytes : (x : ℕ) (key : List ℕ) → AreBytes (x ∷ key) → AreBytes key
tail_bytes x key h i = h (suc i)

-- ---- one more byte in front

same_head : (x : ℕ) (a b : List ℕ) → bytes_cmp (x ∷ a) (x ∷ b) ≡ bytes_cmp a b
same_head x a b = same_front (x ∷ []) a b

less_head : (x y : ℕ) (a b : List ℕ) → x < y → bytes_cmp (x ∷ a) (y ∷ b) ≡ Less
less_head x y a b h = ap (λ (o : Ordering). ordering_then o (bytes_cmp a b)) (cmp_less x y h)

greater_head : (x y : ℕ) (a b : List ℕ) → y < x → bytes_cmp (x ∷ a) (y ∷ b) ≡ Greater
greater_head x y a b h = ap (λ (o : Ordering). ordering_then o (bytes_cmp a b)) (cmp_greater x y h)

not_greater : Greater ≢ Less
not_greater e = absurd cc

-- what goes on is in the range
in_front : (x : ℕ) (key prefix : List ℕ) (above : Option (List ℕ)) → x < 256 → above_of prefix ≡ above → InRange key prefix above → InRange (x ∷ key) (x ∷ prefix) (or_next x above)
in_front x key prefix None h e r = elim (cases_lt x 255) [
  | inl less ↦ (λ f. r.0 (sym (same_head x key prefix) ∙ f), rw (lt-ltb x 255 less) (less_head x (suc x) key [] (omega arith)))
  | inr not_less ↦ (λ f. r.0 (sym (same_head x key prefix) ∙ f), rw (le-ltb x 255 (omega arith)) tt)
]
in_front x key prefix (Some above) h e r = (λ f. r.0 (sym (same_head x key prefix) ∙ f), same_head x key above ∙ r.1)

goes_in : (prefix rest : List ℕ) → AreBytes (prefix ++ rest) → InRange (prefix ++ rest) prefix (above_of prefix)
goes_in [] rest h = (never_less rest, tt)
goes_in (x ∷ prefix) rest h = in_front x (prefix ++ rest) prefix (above_of prefix) (h 0) refl (goes_in prefix rest (tail_bytes x (prefix ++ rest) h))

-- what is in the range begins with the front's byte
next_head : (x y : ℕ) (key : List ℕ) (o : Option (List ℕ)) → x < y → y < 256 → IsBelow (y ∷ key) (or_next x o) → ⊥
next_head x y key None h small b = elim (cases_lt x 255) [
  | inl less ↦ let below : bytes_cmp (y ∷ key) (suc x ∷ []) ≡ Less = subst (λ (t : Bool). IsBelow (y ∷ key) (if t then Some (suc x ∷ []) else None)) (lt-ltb x 255 less) b in
      (elim (cases_eq y (suc x)) [
        | inl same ↦ never_less key (sym (same_head (suc x) key []) ∙ subst (λ (n : ℕ). bytes_cmp (n ∷ key) (suc x ∷ []) ≡ Less) same below)
        | inr other ↦ not_greater (sym (greater_head y (suc x) key [] (omega arith)) ∙ below)
      ])
  | inr not_less ↦ absurd (omega arith)
]
next_head x y key (Some above) h small b = not_greater (sym (greater_head y x key above h) ∙ b)

from_head : (x : ℕ) (key prefix : List ℕ) (above : Option (List ℕ)) → InRange (x ∷ key) (x ∷ prefix) (or_next x above) → (bytes_cmp key prefix ≢ Less) × ((a : List ℕ) → above ≡ Some a → bytes_cmp key a ≡ Less)
from_head x key prefix None r = (λ f. r.0 (same_head x key prefix ∙ f), λ a e. absurd cc)
from_head x key prefix (Some above) r = (λ f. r.0 (same_head x key prefix ∙ f), λ a e. let same : above ≡ a = cc in subst (λ (l : List ℕ). bytes_cmp key l ≡ Less) same (sym (same_head x key above) ∙ r.1))

bounded : (key : List ℕ) (above : Option (List ℕ)) → ((a : List ℕ) → above ≡ Some a → bytes_cmp key a ≡ Less) → IsBelow key above
bounded key None h = tt
bounded key (Some a) h = h a refl

comes_from : (prefix key : List ℕ) → AreBytes key → InRange key prefix (above_of prefix) → GoesOn key prefix
comes_from [] key h r = (key, refl)
comes_from (x ∷ prefix) [] h r = absurd (r.0 refl)
comes_from (x ∷ prefix) (y ∷ key) h r = elim (cases_lt y x) [
  | inl less ↦ absurd (r.0 (less_head y x key prefix less))
  | inr not_less ↦ elim (cases_lt x y) [
    | inl more ↦ absurd (next_head x y key (above_of prefix) more (h 0) r.1)
    | inr not_more ↦
        let same : y ≡ x = omega arith in
        let inner = from_head x key prefix (above_of prefix) (subst (λ (n : ℕ). InRange (n ∷ key) (x ∷ prefix) (or_next x (above_of prefix))) same r) in
        let on = comes_from prefix key (tail_bytes y key h) (inner.0, bounded key (above_of prefix) inner.1) in
        (on.0, ap (λ (n : ℕ). n ∷ key) same ∙ ap (λ (l : List ℕ). x ∷ l) on.1)
  ]
]

pub prefixes_are_ranges : (prefix : List ℕ) → IsRangeOf prefix
prefixes_are_ranges prefix key h =
    (λ on. subst (λ (l : List ℕ). InRange l prefix (above_of prefix)) (sym on.1) (goes_in prefix on.0 (subst AreBytes on.1 h)), λ r. comes_from prefix key h r)

below_in_front : (x : ℕ) (key : List ℕ) (above : Option (List ℕ)) → x < 256 → IsBelow key above → IsBelow (x ∷ key) (or_next x above)
below_in_front x key None h b = elim (cases_lt x 255) [
  | inl less ↦ rw (lt-ltb x 255 less) (less_head x (suc x) key [] (omega arith))
  | inr not_less ↦ rw (le-ltb x 255 (omega arith)) tt
]
below_in_front x key (Some above) h b = same_head x key above ∙ b

below_byte : (y x : ℕ) (key : List ℕ) (above : Option (List ℕ)) → y < x → IsBelow (y ∷ key) (or_next x above)
below_byte y x key None h = elim (cases_lt x 255) [
  | inl less ↦ rw (lt-ltb x 255 less) (less_head y (suc x) key [] (omega arith))
  | inr not_less ↦ rw (le-ltb x 255 (omega arith)) tt
]
below_byte y x key (Some above) h = less_head y x key above h

empty_below : (x : ℕ) (above : Option (List ℕ)) → IsBelow [] (or_next x above)
empty_below x None = elim (cases_lt x 255) [
  | inl less ↦ rw (lt-ltb x 255 less) refl
  | inr not_less ↦ rw (le-ltb x 255 (omega arith)) tt
]
empty_below x (Some above) = refl

pub below_front : (key prefix : List ℕ) → AreBytes key → bytes_cmp key prefix ≡ Less → IsBelow key (above_of prefix)
below_front key [] h e = tt
below_front [] (x ∷ prefix) h e = empty_below x (above_of prefix)
below_front (y ∷ key) (x ∷ prefix) h e = elim (cases_lt y x) [
  | inl less ↦ below_byte y x key (above_of prefix) less
  | inr not_less ↦ elim (cases_lt x y) [
    | inl more ↦ absurd (not_greater (sym (greater_head y x key prefix more) ∙ e))
    | inr not_more ↦
        let same : y ≡ x = omega arith in
        let inner = below_front key prefix (tail_bytes y key h) (sym (same_head x key prefix) ∙ subst (λ (n : ℕ). bytes_cmp (n ∷ key) (x ∷ prefix) ≡ Less) same e) in
        subst (λ (n : ℕ). IsBelow (n ∷ key) (or_next x (above_of prefix))) (sym same) (below_in_front x key (above_of prefix) (subst (λ (n : ℕ). n < 256) same (h 0)) inner)
  ]
]

-- ---- the least bound

bound_head : (x : ℕ) (prefix : List ℕ) (above : Option (List ℕ)) (y : ℕ) (bound : List ℕ) → x < y → y < 256 → IsAtMost (or_next x above) (y ∷ bound)
bound_head x prefix None y bound h small =
    rw (lt-ltb x 255 (omega arith)) (λ f. elim (cases_eq y (suc x)) [
      | inl same ↦ never_above bound (sym (same_head (suc x) [] bound) ∙ subst (λ (n : ℕ). bytes_cmp (suc x ∷ []) (n ∷ bound) ≡ Greater) same f)
      | inr other ↦ less_not (sym (less_head (suc x) y [] bound (omega arith)) ∙ f)
    ])
  where
    never_above : (l : List ℕ) → bytes_cmp [] l ≢ Greater
    never_above [] e = absurd cc
    never_above (z ∷ l) e = absurd cc

    less_not : Less ≢ Greater
    less_not e = absurd cc
bound_head x prefix (Some above) y bound h small = λ f. less_not (sym (less_head x y above bound h) ∙ f)
  where
    less_not : Less ≢ Greater
    less_not e = absurd cc

with_head : (x : ℕ) (above : Option (List ℕ)) (bound : List ℕ) → IsAtMost above bound → IsAtMost (or_next x above) (x ∷ bound)
with_head x None bound h = absurd h
with_head x (Some above) bound h = λ f. h (sym (same_head x above bound) ∙ f)

below_none : (l : List ℕ) → bytes_cmp l [] ≡ Less → ⊥
below_none l e = never_less l e

pub least_above_prefixes : (prefix : List ℕ) → IsLeastAbove prefix
least_above_prefixes [] bound b h = absurd (below_itself bound (h bound b))
  where
    below_itself : (l : List ℕ) → bytes_cmp l l ≡ Less → ⊥
    below_itself l e = let equal : Equal ≡ Less = sym (bytes_equal l) ∙ e in absurd cc
least_above_prefixes (x ∷ prefix) [] b h = absurd (never_less (x ∷ prefix ++ []) (h [] (λ i. zero_small i)))
  where
    zero_small : (i : ℕ) → get_or [] i 0 < 256
    zero_small i = omega arith
least_above_prefixes (x ∷ prefix) (y ∷ bound) b h = elim (cases_lt x y) [
  | inl less ↦ bound_head x prefix (above_of prefix) y bound less (b 0)
  | inr not_less ↦ elim (cases_lt y x) [
    | inl more ↦ absurd (not_greater (sym (greater_head x y (prefix ++ []) bound more) ∙ h [] (λ i. zero_small i)))
    | inr not_more ↦
        let same : y ≡ x = omega arith in
        let inner = least_above_prefixes prefix bound (tail_bytes y bound b) (λ rest r. sym (same_head x (prefix ++ rest) bound) ∙ subst (λ (n : ℕ). bytes_cmp (x ∷ prefix ++ rest) (n ∷ bound) ≡ Less) same (h rest r)) in
        subst (λ (n : ℕ). IsAtMost (or_next x (above_of prefix)) (n ∷ bound)) (sym same) (with_head x (above_of prefix) bound inner)
  ]
]
  where
    zero_small : (i : ℕ) → get_or [] i 0 < 256
    zero_small i = omega arith
