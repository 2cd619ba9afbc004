-- Many cursors as one.
use Rattle.std.specs.Prelude.{◌≡◌, ◌&&◌, ℕ, ◌<◌, Bool, true, false, List, [], ◌∷◌, length, map, Option, Some, None, is_some, nat_eq, zero, suc}
use Rattle.std.specs.List.{AllByRecursion, list_all, list_any, insert}
use Rattle.std.specs.Ordering.{nat_cmp, is_lt, ordering_then}
use Rattle.mr_base.specs.declared.stop.Direction.{Direction}
use Rattle.mr_iter.specs.Versions.{Version, version_cmp, joined, merged, others, is_strict, first_at}
use Rattle.mr_iter.specs.Cursors.{CursorState, left}
use Rattle.mr_base.specs.Disk.{Image}
use Rattle.mr_iter.specs.Children.{total}

-- the version that child i stands on
abbrev pub current_at : List CursorState → ℕ → Option Version
current_at [] i = None
current_at (c ∷ cs) zero = c.current
current_at (c ∷ cs) (suc i) = current_at cs i

abbrev pub first_of : List CursorState → List ℕ → Option Version
first_of cs [] = None
first_of cs (j ∷ js) = current_at cs j

abbrev pub lefts : List CursorState → Image → List (List Version)
lefts cs image = map (λ c. left c image) cs

abbrev pub lists : List CursorState → Image → List (List Version)
lists cs image = map (λ c. c.versions image) cs

-- child i comes before child j: by their versions, and of equal ones the earlier child
abbrev pub rank_cmp : Direction → Option Version → Option Version → ℕ → ℕ → Bool
rank_cmp direction (Some v) (Some w) i j = is_lt (ordering_then (version_cmp direction v w) (nat_cmp i j))
rank_cmp direction (Some v) None i j = false
rank_cmp direction None w i j = false

abbrev pub precedes : Direction → List CursorState → ℕ → ℕ → Bool
precedes direction cs i j = rank_cmp direction (current_at cs i) (current_at cs j) i j

abbrev pub IsRanked : Direction → List CursorState → List ℕ → Type 0
IsRanked direction cs [] = Unit {0}
IsRanked direction cs (j ∷ js) = AllByRecursion (λ k. precedes direction cs j k ≡ true) js × IsRanked direction cs js

-- children that aren't at their ends, the first one first
pub record IsQueue (direction : Direction) (cs : List CursorState) (order : List ℕ) : Type 0 where
  pub live : AllByRecursion (λ j. is_some (current_at cs j) ≡ true) order
  pub ranked : IsRanked direction cs order

-- each child before n that isn't at its end is in the queue
abbrev pub HasAll : ℕ → List CursorState → List ℕ → Type 0
HasAll n cs order = (i : ℕ) → i < n → is_some (current_at cs i) ≡ true → list_any (nat_eq i) order ≡ true

-- new is the queue old with child j, if that isn't at its end
pub record IsPut (cs : List CursorState) (j : ℕ) (old new : List ℕ) : Type 0 where
  pub live : is_some (current_at cs j) ≡ true → (place : ℕ) × (new ≡ insert old place j)
  pub at_end : is_some (current_at cs j) ≡ false → new ≡ old

-- the queue of a merge: all the children that aren't at their ends, or none before the first seek
pub record IsMergeQueue (direction : Direction) (cs : List CursorState) (order : List ℕ) : Type 0 where
  pub queue : IsQueue direction cs order
  pub all : 0 < length order → HasAll (length cs) cs order

-- one cursor over many, in the order of their queue
abbrev pub merge_state : Direction → List ℕ → List CursorState → CursorState
merge_state direction order cs = record {
  direction = direction;
  files = joined (map (λ c. c.files) cs);
  versions = λ image. merged (version_cmp direction) (lists cs image);
  current = first_of cs order;
  rest = λ image. others (merged (version_cmp direction) (lefts cs image));
  steps = total (λ (c : CursorState). c.steps) cs;
  most = total (λ (c : CursorState). c.most) cs;
  reads = total (λ (c : CursorState). c.reads) cs;
  asked = total (λ (c : CursorState). c.asked) cs;
  anew = false;
  distinct = λ image. list_all (λ (c : CursorState). c.distinct image) cs && is_strict direction (merged (version_cmp direction) (lists cs image));
  sought = λ key. list_all (λ (c : CursorState). c.sought key) cs;
  reads_to = λ image key place. total (λ (c : CursorState). c.reads_to image key (first_at direction place (c.versions image))) cs;
  asked_to = λ image key place. total (λ (c : CursorState). c.asked_to image key (first_at direction place (c.versions image))) cs;
}

-- it stands on the first version at or behind a version
abbrev pub IsAt : Direction → Option Version → Image → CursorState → Type 0
IsAt direction None image s = Unit {0}
IsAt direction (Some v) image s = first_at direction (Some v) (s.versions image) ≡ s.current

abbrev pub IsOneDirection : Direction → List CursorState → Type 0
IsOneDirection direction cs = AllByRecursion (λ (c : CursorState). c.direction ≡ direction) cs
