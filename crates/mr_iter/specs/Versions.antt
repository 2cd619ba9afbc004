-- Versions of keys, their order, and lists in that order.
use Rattle.std.specs.Prelude.{◌≡◌, ◌&&◌, Bool, ℕ, ◌+◌, ◌<◌, false, true, cond, not, List, [], ◌∷◌, ◌++◌, Option, Some, None, filter}
use Rattle.std.specs.List.{AllByRecursion, list_all}
use Rattle.std.specs.Cmp.Lexicographic.{slice_cmp}
use Rattle.std.specs.declared.cmp.Ordering.{Ordering}
use Rattle.std.specs.Ordering.{nat_cmp, is_lt, is_gt, on, then_cmp, flip_args}
use Rattle.mr_base.specs.declared.stop.Direction.{Direction}
use Rattle.mr_base.specs.declared.stop.Direction.TheVariants.{Forward, Reverse}

-- a key as it was at a sequence number: its value, or None where it was deleted
pub record Version : Type 0 where
  pub key : List ℕ
  pub sequence : ℕ
  pub put : Option (List ℕ)

abbrev pub as_version : List ℕ → ℕ → Option (List ℕ) → Version
as_version key sequence put = record { key = key; sequence = sequence; put = put }

-- how keys follow one another in a direction
abbrev pub key_cmp : Direction → List ℕ → List ℕ → Ordering
key_cmp Forward = slice_cmp nat_cmp
key_cmp Reverse = flip_args (slice_cmp nat_cmp)

-- by key, then the later sequence number first
abbrev pub version_cmp : Direction → Version → Version → Ordering
version_cmp direction = then_cmp (on (λ (v : Version). v.key) (key_cmp direction)) (on (λ (v : Version). v.sequence) (flip_args nat_cmp))

-- no element is less than x
abbrev pub IsAtFront : {X : Type 0} → (X → X → Ordering) → X → List X → Type 0
IsAtFront cmp x xs = AllByRecursion (λ y. is_gt (cmp x y) ≡ false) xs

abbrev pub IsInOrder : {X : Type 0} → (X → X → Ordering) → List X → Type 0
IsInOrder cmp [] = Unit {0}
IsInOrder cmp (x ∷ xs) = IsAtFront cmp x xs × IsInOrder cmp xs

-- x in front of the first element that isn't less
abbrev pub place_in : {X : Type 0} → (X → X → Ordering) → X → List X → List X
place_in cmp x [] = x ∷ []
place_in cmp x (y ∷ ys) = cond (is_gt (cmp x y)) (y ∷ place_in cmp x ys) (x ∷ y ∷ ys)

-- the elements in order; equal ones as they stand
abbrev pub in_order : {X : Type 0} → (X → X → Ordering) → List X → List X
in_order cmp [] = []
in_order cmp (x ∷ xs) = place_in cmp x (in_order cmp xs)

-- the lists, one after another
abbrev pub joined : {X : Type 0} → List (List X) → List X
joined [] = []
joined (xs ∷ xss) = xs ++ joined xss

-- one ordered list of many
abbrev pub merged : {X : Type 0} → (X → X → Ordering) → List (List X) → List X
merged cmp xss = in_order cmp (joined xss)

-- v is the first element of list j, and comes first of all lists, which are counted from k on
abbrev pub IsLeast : {X : Type 0} → (X → X → Ordering) → X → ℕ → ℕ → List (List X) → Type 0
IsLeast cmp v j k [] = Unit {0}
IsLeast cmp v j k ([] ∷ xss) = IsLeast cmp v j (k + 1) xss
IsLeast cmp v j k ((x ∷ xs) ∷ xss) = (k < j → is_gt (cmp x v) ≡ true) × (j < k → is_gt (cmp v x) ≡ false) × IsLeast cmp v j (k + 1) xss

-- the versions whose key isn't before this key
abbrev pub from_key : Direction → List ℕ → List Version → List Version
from_key direction key vs = filter (λ v. not (is_lt (key_cmp direction v.key key))) vs

-- the first of a list, if there is one, and the others
abbrev pub first : {X : Type 0} → List X → Option X
first [] = None
first (x ∷ xs) = Some x

abbrev pub others : {X : Type 0} → List X → List X
others [] = []
others (x ∷ xs) = xs

-- each version comes before all those behind it
abbrev pub is_strict : Direction → List Version → Bool
is_strict direction [] = true
is_strict direction (v ∷ vs) = list_all (λ w. is_lt (version_cmp direction v w)) vs && is_strict direction vs

-- the first version at or behind a place, None for the end
abbrev pub first_at : Direction → Option Version → List Version → Option Version
first_at direction None vs = None
first_at direction (Some v) vs = first (filter (λ w. not (is_lt (version_cmp direction w v))) vs)
