-- What two ranges have in common, and keys of ranges in order.
use Rattle.std.proofs.Common.{◌≡◌, ℕ, Bool, true, false, List, [], ◌∷◌, Option, Some, None, refl, sym, ap, ◌∙◌}
use Rattle.std.specs.Prelude.{not, ◌&&◌, ◌||◌, if◌then◌else◌}
use Rattle.mr_ranges.specs.declared.range.Range.{Range}
use Rattle.mr_ranges.specs.Ranges.{precedes, is_from, is_under, is_in, in_some, AreBehind, AreApart, between, later, ends_first, sooner, common}
use Rattle.mr_ranges.proofs.Order.{from_before, from_from, not_both, turned, turned_back, under_behind, under_before, under_from, under_first, under_second}

pub none_of : (b : Bool) → (b ≡ true → true ≡ false) → b ≡ false
none_of false h = refl
none_of true h = h refl

pub left_of : (a b : Bool) → (a && b) ≡ true → a ≡ true
left_of true b h = refl
left_of false b h = cc

pub right_of : (a b : Bool) → (a && b) ≡ true → b ≡ true
right_of true b h = h
right_of false b h = cc

pub both_of : (a b : Bool) → a ≡ true → b ≡ true → (a && b) ≡ true
both_of true b h k = k
both_of false b h k = cc

or-none : (b : Bool) → (b || false) ≡ b
or-none true = refl
or-none false = refl

-- two tests that follow from each other
pub alike : (a b : Bool) → (a ≡ true → b ≡ true) → (b ≡ true → a ≡ true) → a ≡ b
alike true b h k = sym (h refl)
alike false true h k = k refl
alike false false h k = refl

-- ---- a range from ends

-- a key from the one up to below the other
pub in_between : (low : List ℕ) (high : Option (List ℕ)) (key : List ℕ) → in_some key (between low high) ≡ (is_from low key && is_under high key)
in_between low high key = by (is_under high low) refl
  where
    by : (t : Bool) → is_under high low ≡ t → in_some key (if t then record { low = low; high = high } ∷ [] else []) ≡ (is_from low key && is_under high key)
    by true e = or-none (is_from low key && is_under high key)
    by false e = sym (none_of (is_from low key && is_under high key) (λ h.
        sym (under_from high low key (turned (precedes key low) (left_of (is_from low key) (is_under high key) h)) (right_of (is_from low key) (is_under high key) h)) ∙ e))

pub between_apart : (low : List ℕ) (high : Option (List ℕ)) → AreApart (between low high)
between_apart low high = by (is_under high low) refl
  where
    by : (t : Bool) → is_under high low ≡ t → AreApart (if t then record { low = low; high = high } ∷ [] else [])
    by true e = (e, tt)
    by false e = tt

-- ---- two ranges

from_later : (a b key : List ℕ) → is_from (later a b) key ≡ (is_from a key && is_from b key)
from_later a b key = by (precedes a b) refl
  where
    by : (t : Bool) → precedes a b ≡ t → is_from (if t then b else a) key ≡ (is_from a key && is_from b key)
    by true e = alike (is_from b key) (is_from a key && is_from b key)
        (λ h. both_of (is_from a key) (is_from b key) (turned_back (precedes key a) (from_from a b key (not_both a b e) (turned (precedes key b) h))) h)
        (λ h. right_of (is_from a key) (is_from b key) h)
    by false e = alike (is_from a key) (is_from a key && is_from b key)
        (λ h. both_of (is_from a key) (is_from b key) h (turned_back (precedes key b) (from_from b a key e (turned (precedes key a) h))))
        (λ h. left_of (is_from a key) (is_from b key) h)

under_sooner : (a b : Option (List ℕ)) (key : List ℕ) → is_under (sooner a b) key ≡ (is_under a key && is_under b key)
under_sooner a b key = by (ends_first a b) refl
  where
    by : (t : Bool) → ends_first a b ≡ t → is_under (if t then a else b) key ≡ (is_under a key && is_under b key)
    by true e = alike (is_under a key) (is_under a key && is_under b key)
        (λ h. both_of (is_under a key) (is_under b key) h (under_first a b key e h))
        (λ h. left_of (is_under a key) (is_under b key) h)
    by false e = alike (is_under b key) (is_under a key && is_under b key)
        (λ h. both_of (is_under a key) (is_under b key) (under_second a b key e h) h)
        (λ h. right_of (is_under a key) (is_under b key) h)

crossed : (a b c d : Bool) → ((a && b) && (c && d)) ≡ ((a && c) && (b && d))
crossed true true c d = refl
crossed true false true d = refl
crossed true false false d = refl
crossed false b c d = refl

pub in_common : (x y : Range) (key : List ℕ) → in_some key (common x y) ≡ (is_in key x && is_in key y)
in_common x y key =
    in_between (later x.low y.low) (sooner x.high y.high) key
    ∙ ap (λ (b : Bool). b && is_under (sooner x.high y.high) key) (from_later x.low y.low key)
    ∙ ap (λ (b : Bool). (is_from x.low key && is_from y.low key) && b) (under_sooner x.high y.high key)
    ∙ crossed (is_from x.low key) (is_from y.low key) (is_under x.high key) (is_under y.high key)

-- ---- keys that are below an end are in no range behind it

pub not_behind : (end : Option (List ℕ)) (ranges : List Range) (key : List ℕ) → AreBehind end ranges → is_under end key ≡ true → in_some key ranges ≡ false
not_behind end [] key h k = refl
not_behind end (range ∷ ranges) key h k =
    let first : precedes key range.low ≡ true = under_behind end range.low key h.0 k in
    let out : is_in key range ≡ false = ap (λ (b : Bool). not b && is_under range.high key) first in
    ap (λ (b : Bool). b || in_some key ranges) out ∙ not_behind range.high ranges key h.2 (under_before range.high key range.low first h.1)

-- ranges behind an end that comes first
pub behind_first : (a b : Option (List ℕ)) (ranges : List Range) → ends_first a b ≡ true → AreBehind b ranges → AreBehind a ranges
behind_first a b [] h r = tt
behind_first a None (range ∷ ranges) h r = absurd (no r.0)
  where
    no : false ≡ true → ⊥
    no e = cc
behind_first None (Some b) (range ∷ ranges) h r = absurd (no h)
  where
    no : false ≡ true → ⊥
    no e = cc
behind_first (Some a) (Some b) (range ∷ ranges) h r = (from_before a b range.low (turned (precedes b a) h) r.0, r.1, r.2)

-- ranges in order and apart, the first of which begins at or behind a key
abbrev pub AreFrom : List ℕ → List Range → Type 0
AreFrom low [] = Unit {0}
AreFrom low (range ∷ ranges) = (is_from low range.low ≡ true) × (is_under range.high range.low ≡ true) × AreBehind range.high ranges

pub from_apart : (low : List ℕ) (ranges : List Range) → AreFrom low ranges → AreApart ranges
from_apart low [] h = tt
from_apart low (range ∷ ranges) h = (h.1, h.2)

pub behind_apart : (end : Option (List ℕ)) (ranges : List Range) → AreBehind end ranges → AreApart ranges
behind_apart end [] h = tt
behind_apart end (range ∷ ranges) h = (h.1, h.2)
