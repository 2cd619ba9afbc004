-- Ranges of keys.
use Rattle.std.specs.Prelude.{◌≡◌, ℕ, Bool, true, false, not, ◌&&◌, if◌then◌else◌, List, [], ◌∷◌, Option, Some, None}
use Rattle.std.specs.List.{list_any}
use Rattle.std.specs.Ordering.{is_lt}
use Rattle.mr_pieces.specs.Order.{bytes_cmp}
use Rattle.mr_ranges.specs.declared.range.Range.{Range}

-- byte by byte
abbrev pub precedes : List ℕ → List ℕ → Bool
precedes a b = is_lt (bytes_cmp a b)

-- a key at or above another
abbrev pub is_from : List ℕ → List ℕ → Bool
is_from low key = not (precedes key low)

-- a key below an end; where there is none, all are
abbrev pub is_under : Option (List ℕ) → List ℕ → Bool
is_under None key = true
is_under (Some high) key = precedes key high

-- ---- the keys of ranges

abbrev pub is_in : List ℕ → Range → Bool
is_in key range = is_from range.low key && is_under range.high key

-- the key lies in one of the ranges
abbrev pub in_some : List ℕ → List Range → Bool
in_some key ranges = list_any (is_in key) ranges

-- ---- ranges in order

-- a key behind an end; none is where there is no end
abbrev pub is_behind : Option (List ℕ) → List ℕ → Bool
is_behind None key = false
is_behind (Some high) key = precedes high key

-- ranges behind an end in ascending order, none empty and each behind the one before it without touching it
abbrev pub AreBehind : Option (List ℕ) → List Range → Type 0
AreBehind end [] = Unit {0}
AreBehind end (range ∷ ranges) = (is_behind end range.low ≡ true) × (is_under range.high range.low ≡ true) × AreBehind range.high ranges

-- ranges in ascending order, none empty and each behind the one before it without touching it
abbrev pub AreApart : List Range → Type 0
AreApart [] = Unit {0}
AreApart (range ∷ ranges) = (is_under range.high range.low ≡ true) × AreBehind range.high ranges

-- ---- ranges from ends

-- from the one up to below the other; none where nothing lies there
abbrev pub between : List ℕ → Option (List ℕ) → List Range
between low high = if is_under high low then record { low = low; high = high } ∷ [] else []

-- the greater one
abbrev pub later : List ℕ → List ℕ → List ℕ
later a b = if precedes a b then b else a

-- the one end comes at or before the other
abbrev pub ends_first : Option (List ℕ) → Option (List ℕ) → Bool
ends_first high None = true
ends_first None (Some b) = false
ends_first (Some a) (Some b) = not (precedes b a)

-- the lesser one
abbrev pub sooner : Option (List ℕ) → Option (List ℕ) → Option (List ℕ)
sooner a b = if ends_first a b then a else b

-- what two ranges have in common
abbrev pub common : Range → Range → List Range
common x y = between (later x.low y.low) (sooner x.high y.high)

-- ---- ranges that overlap

-- the one end comes at or behind a key
abbrev pub reaches : Option (List ℕ) → List ℕ → Bool
reaches None key = true
reaches (Some high) key = not (precedes high key)

-- the greater one of two ends
abbrev pub farther : Option (List ℕ) → Option (List ℕ) → Option (List ℕ)
farther a b = if ends_first a b then b else a

-- ranges that begin one behind the other, the first at or behind a key
abbrev pub Rising : List ℕ → List Range → Type 0
Rising low [] = Unit {0}
Rising low (range ∷ ranges) = (is_from low range.low ≡ true) × Rising range.low ranges

abbrev pub AreRising : List Range → Type 0
AreRising [] = Unit {0}
AreRising (range ∷ ranges) = Rising range.low ranges
