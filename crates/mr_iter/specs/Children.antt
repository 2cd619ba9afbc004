-- What a call does to each of many cursors.
use Rattle.std.specs.Prelude.{◌≡◌, ◌⊎◌, IsTrue, ℕ, ◌+◌, List, [], ◌∷◌}
use Rattle.mr_iter.specs.Versions.{from_key}
use Rattle.mr_iter.specs.Cursors.{CursorState, SameList, left}
use Rattle.mr_base.specs.Disk.{Image}

-- R of each two elements that stand at the same place
abbrev pub Zipped : {X : Type 0} → (X → X → Type 0) → List X → List X → Type 0
Zipped R [] [] = Unit {0}
Zipped R [] (y ∷ ys) = ⊥
Zipped R (x ∷ xs) [] = ⊥
Zipped R (x ∷ xs) (y ∷ ys) = R x y × Zipped R xs ys

-- P of one element at least
abbrev pub AnyOf : {X : Type 0} → (X → Type 0) → List X → Type 0
AnyOf P [] = ⊥
AnyOf P (x ∷ xs) = P x ⊎ AnyOf P xs

-- a number of each, together
abbrev pub total : {X : Type 0} → (X → ℕ) → List X → ℕ
total f [] = 0
total f (x ∷ xs) = f x + total f xs

-- a move keeps what the cursor is a cursor of, and that it is whole
pub record KeepsChild {K : Type 0} (f : K → CursorState) (whole : K → Image → Type 0) (image : Image) (tells : Type 0) (x y : K) : Type 0 where
  pub list : SameList (f x) (f y)
  pub stays_whole : tells → whole x image → whole y image

-- a seek found the versions from the key on
pub record FoundChild {K : Type 0} (f : K → CursorState) (whole steady : K → Image → Type 0) (image : Image) (tells : Type 0) (key : List ℕ) (x y : K) : Type 0 where
  pub found : tells → whole x image → left (f y) image ≡ from_key (f x).direction key ((f x).versions image)
  pub sought : IsTrue ((f y).sought key)
  pub stands : tells → whole x image → steady y image
