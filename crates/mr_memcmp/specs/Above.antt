-- The least bytes behind all those that go on from a front.
use Rattle.std.specs.Prelude.{◌≡◌, ◌≢◌, ◌↔◌, ℕ, suc, List, [], ◌∷◌, ◌++◌, nat_lt, if◌then◌else◌, Option, Some, None}
use Rattle.std.specs.declared.cmp.Ordering.TheVariants.{Less, Greater}
use Rattle.mr_pieces.specs.Order.{bytes_cmp}
use Rattle.mr_memcmp.specs.ComeBack.{AreBytes}

abbrev pub or_next : ℕ → Option (List ℕ) → Option (List ℕ)
or_next x (Some above) = Some (x ∷ above)
or_next x None = if nat_lt x 255 then Some (suc x ∷ []) else None

-- The last byte that can be raised is raised, and what stands behind it goes; None where there is no such byte.
abbrev pub above_of : List ℕ → Option (List ℕ)
above_of [] = None
above_of (x ∷ prefix) = or_next x (above_of prefix)

abbrev pub GoesOn : List ℕ → List ℕ → Type 0
GoesOn key prefix = (rest : List ℕ) × (key ≡ prefix ++ rest)

-- below a bound; where there is none, all keys are
abbrev pub IsBelow : List ℕ → Option (List ℕ) → Type 0
IsBelow key None = Unit {0}
IsBelow key (Some bound) = bytes_cmp key bound ≡ Less

-- Bytes go on from a front exactly where they are at or above it and below the bytes behind it.
abbrev pub IsRangeOf : List ℕ → Type 0
IsRangeOf prefix = (key : List ℕ) → AreBytes key → GoesOn key prefix ↔ ((bytes_cmp key prefix ≢ Less) × IsBelow key (above_of prefix))

-- at or below a bound that may be missing; nothing is above none
abbrev pub IsAtMost : Option (List ℕ) → List ℕ → Type 0
IsAtMost None bound = ⊥
IsAtMost (Some above) bound = bytes_cmp above bound ≢ Greater

-- No bytes are below these that are above all that go on from the front.
abbrev pub IsLeastAbove : List ℕ → Type 0
IsLeastAbove prefix = (bound : List ℕ) → AreBytes bound → ((rest : List ℕ) → AreBytes rest → bytes_cmp (prefix ++ rest) bound ≡ Less) → IsAtMost (above_of prefix) bound
