-- Cursors whose lists follow one another, as one.
use Rattle.std.specs.Prelude.{◌≡◌, ◌&&◌, ℕ, ◌+◌, ◌≤◌, Bool, true, false, cond, not, List, [], ◌∷◌, ◌++◌, length, map, Option, Some, None, nat_eq, zero, suc, IsTrue}
use Rattle.std.specs.List.{AllByRecursion, list_all}
use Rattle.std.specs.Ordering.{is_lt, is_gt}
use Rattle.mr_base.specs.Disk.{Image}
use Rattle.mr_base.specs.declared.stop.Direction.{Direction}
use Rattle.mr_iter.specs.Versions.{Version, key_cmp, joined}
use Rattle.mr_iter.specs.Cursors.{CursorState, IsInPlace, left}
use Rattle.mr_iter.specs.Children.{total, AnyOf}
use Rattle.mr_iter.specs.Merging.{current_at, lists, IsOneDirection}

-- a place is behind a key; the end is behind all
abbrev pub is_past : Direction → List ℕ → Option Version → Bool
is_past d key None = true
is_past d key (Some v) = is_gt (key_cmp d v.key key)

-- up to where a child with this last key is read by a walk up to a place
abbrev pub place_within : Direction → List ℕ → Option Version → Option Version
place_within d last place = cond (is_past d last place) None place

abbrev pub comes_before : Direction → List ℕ → List ℕ → Bool
comes_before d key l = is_lt (key_cmp d l key)

-- the child in which a key stands, by the last keys of all: how many of them come before it
abbrev pub child_of : Direction → List (List ℕ) → List ℕ → ℕ
child_of d [] key = 0
child_of d (l ∷ ls) key = cond (is_lt (key_cmp d l key)) (child_of d ls key + 1) 0

-- no last key comes behind a later one
abbrev pub ascend : Direction → List (List ℕ) → Bool
ascend d [] = true
ascend d (l ∷ ls) = list_all (λ k. not (is_gt (key_cmp d l k))) ls && ascend d ls

-- what is behind the version on which child i stands: the rest of that child, and the lists of those behind it
abbrev pub rest_at : List CursorState → ℕ → Image → List Version
rest_at [] i image = []
rest_at (c ∷ cs) zero image = c.rest image ++ joined (lists cs image)
rest_at (c ∷ cs) (suc i) image = rest_at cs i image

-- the steps that are left of child i, and all that there can be of those behind it
abbrev pub steps_at : List CursorState → ℕ → ℕ
steps_at [] i = 0
steps_at (c ∷ cs) zero = c.steps + total (λ (c : CursorState). c.most) cs
steps_at (c ∷ cs) (suc i) = steps_at cs i

-- a number of each child from one to another, together
abbrev pub from_to : (CursorState → ℕ) → List CursorState → ℕ → ℕ → ℕ
from_to g [] i j = 0
from_to g (c ∷ cs) zero zero = g c
from_to g (c ∷ cs) zero (suc j) = g c + from_to g cs zero j
from_to g (c ∷ cs) (suc i) zero = 0
from_to g (c ∷ cs) (suc i) (suc j) = from_to g cs i j

-- the last seek of child i was for this key, or it has none
abbrev pub sought_at : List CursorState → ℕ → List ℕ → Bool
sought_at [] i key = true
sought_at (c ∷ cs) zero key = c.sought key
sought_at (c ∷ cs) (suc i) key = sought_at cs i key

-- What a walk up to a place costs in the children behind one with this last key. A child is opened where the place is behind the last
-- key of the one before it; it is sought for that key.
abbrev pub cost_behind : Direction → (CursorState → Image → List ℕ → Option Version → ℕ) → Image → Option Version → List ℕ → List (List ℕ) → List CursorState → ℕ
cost_behind d g image place prev ls [] = 0
cost_behind d g image place prev [] (c ∷ cs) = 0
cost_behind d g image place prev (l ∷ ls) (c ∷ cs) = cond (is_past d prev place) (g c image prev (place_within d l place) + cost_behind d g image place l ls cs) 0

-- What a seek for a key and a walk up to a place cost. The children whose last keys come before the key aren't opened.
abbrev pub chain_cost : Direction → (CursorState → Image → List ℕ → Option Version → ℕ) → Image → List ℕ → Option Version → List (List ℕ) → List CursorState → ℕ
chain_cost d g image key place ls [] = 0
chain_cost d g image key place [] (c ∷ cs) = 0
chain_cost d g image key place (l ∷ ls) (c ∷ cs) = cond (is_lt (key_cmp d l key)) (chain_cost d g image key place ls cs) (g c image key (place_within d l place) + cost_behind d g image place l ls cs)

-- One cursor over many whose lists follow one another: ls are their last keys; the last seek opened child `from`, and it stands in child
-- `here`. Only what was opened since is counted.
abbrev pub chain_state : Direction → List (List ℕ) → Bool → ℕ → ℕ → List CursorState → CursorState
chain_state d ls placed from here cs = record {
  direction = d;
  files = joined (map (λ c. c.files) cs);
  versions = λ image. joined (lists cs image);
  current = cond placed (current_at cs here) None;
  rest = λ image. rest_at cs here image;
  steps = steps_at cs here;
  most = total (λ (c : CursorState). c.most) cs;
  reads = from_to (λ c. c.reads) cs from here;
  asked = from_to (λ c. c.asked) cs from here;
  anew = true;
  distinct = λ image. list_all (λ (c : CursorState). c.distinct image) cs;
  sought = λ key. nat_eq (child_of d ls key) from && sought_at cs from key;
  reads_to = λ image key place. chain_cost d (λ c. c.reads_to) image key place ls cs;
  asked_to = λ image key place. chain_cost d (λ c. c.asked_to) image key place ls cs;
}

-- each list ends at its last key, and the lists behind it have keys behind that one
abbrev pub FollowOne : Direction → List (List ℕ) → List (List Version) → Type 0
FollowOne d ls [] = Unit {0}
FollowOne d [] (vs ∷ vss) = ⊥
FollowOne d (l ∷ ls) (vs ∷ vss) = AllByRecursion (λ (v : Version). is_gt (key_cmp d v.key l) ≡ false) vs × AnyOf (λ (v : Version). v.key ≡ l) vs × AllByRecursion (λ (v : Version). is_gt (key_cmp d v.key l) ≡ true) (joined vss) × FollowOne d ls vss

-- what is left of child i has keys up to its last key
abbrev pub IsUptoLast : Direction → List (List ℕ) → List CursorState → ℕ → Image → Type 0
IsUptoLast d ls [] i image = Unit {0}
IsUptoLast d [] (c ∷ cs) i image = ⊥
IsUptoLast d (l ∷ ls) (c ∷ cs) zero image = AllByRecursion (λ (v : Version). is_gt (key_cmp d v.key l) ≡ false) (left c image)
IsUptoLast d (l ∷ ls) (c ∷ cs) (suc i) image = IsUptoLast d ls cs i image

-- one direction, seeks that count anew, a last key for each child in order, and no child before the first opened one
pub record IsChain (d : Direction) (ls : List (List ℕ)) (from here : ℕ) (cs : List CursorState) : Type 0 where
  pub one : IsOneDirection d cs
  pub anew : list_all (λ (c : CursorState). c.anew) cs ≡ true
  pub lasts : length ls ≡ length cs
  pub order : from ≤ here
  pub ascending : ascend d ls ≡ true

module _ {K : Type 0} (f : K → CursorState) (whole : K → Image → Type 0) where
  -- each child is whole, and their lists follow one another
  pub record IsChainWhole (d : Direction) (ls : List (List ℕ)) (placed : Bool) (here : ℕ) (xs : List K) (image : Image) : Type 0 where
    pub each : AllByRecursion (λ c. whole c image) xs
    pub follow : FollowOne d ls (lists (map f xs) image)
    pub upto : placed ≡ true → IsUptoLast d ls (map f xs) here image

module _ {K : Type 0} (f : K → CursorState) (steady : K → Image → Type 0) where
  -- the children behind one with this last key, up to child j, are steady, and each was sought for the last key of the one before
  abbrev pub AreOpenBehind : Image → List ℕ → List (List ℕ) → List K → ℕ → Type 0
  AreOpenBehind image prev ls [] j = Unit {0}
  AreOpenBehind image prev [] (x ∷ xs) j = Unit {0}
  AreOpenBehind image prev (l ∷ ls) (x ∷ xs) zero = steady x image × IsTrue ((f x).sought prev)
  AreOpenBehind image prev (l ∷ ls) (x ∷ xs) (suc j) = steady x image × IsTrue ((f x).sought prev) × AreOpenBehind image l ls xs j

  -- the children from i to j are steady
  abbrev pub AreOpen : Image → List (List ℕ) → List K → ℕ → ℕ → Type 0
  AreOpen image ls [] i j = Unit {0}
  AreOpen image [] (x ∷ xs) i j = Unit {0}
  AreOpen image (l ∷ ls) (x ∷ xs) zero zero = steady x image
  AreOpen image (l ∷ ls) (x ∷ xs) zero (suc j) = steady x image × AreOpenBehind image l ls xs j
  AreOpen image (l ∷ ls) (x ∷ xs) (suc i) zero = Unit {0}
  AreOpen image (l ∷ ls) (x ∷ xs) (suc i) (suc j) = AreOpen image ls xs i j

  pub record IsChainSteady (d : Direction) (ls : List (List ℕ)) (placed : Bool) (from here : ℕ) (xs : List K) (image : Image) : Type 0 where
    pub opened : AreOpen image ls xs from here
    pub place : IsInPlace (chain_state d ls placed from here (map f xs)) image
