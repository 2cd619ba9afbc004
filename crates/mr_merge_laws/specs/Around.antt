-- Lists beside those that are merged: some are newer than these, some older.
use Rattle.std.specs.Prelude.{◌≡◌, ℕ, ◌<◌, ◌≢◌, Bool, true, false, not, List, [], ◌∷◌, map, filter, Option, Some, None, is_some}
use Rattle.std.specs.List.{AllByRecursion}
use Rattle.mr_iter.specs.Versions.{Version}
use Rattle.mr_iter.specs.Newest.{newest, latest}
use Rattle.mr_compact.specs.Kept.{Keeps, becomes, stays_shown}

-- one of the first list's is later than each of the second's
abbrev pub IsLaterThan : Option Version → Option Version → Type 0
IsLaterThan None o = Unit {0}
IsLaterThan (Some v) None = Unit {0}
IsLaterThan (Some v) (Some w) = w.sequence < v.sequence

-- where the first is there, the second isn't
abbrev pub IsAlone : Option Version → Option Version → Type 0
IsAlone None o = Unit {0}
IsAlone (Some v) o = o ≡ None

-- the newest of many lists
abbrev pub newest_of : ℕ → List ℕ → List (List Version) → Option Version
newest_of number key vss = latest (map (newest number key) vss)

-- Of a key and a number: what is newest in the newer lists is later than what is newest in the merged and the older ones, and that of
-- the merged ones later than that of the older ones. At the bottom the older ones have none where the merged ones have one.
pub record LieAround (number : ℕ) (bottom : Bool) (key : List ℕ) (newer picked older : List (List Version)) : Type 0 where
  pub over_picked : IsLaterThan (newest_of number key newer) (newest_of number key picked)
  pub over_older : IsLaterThan (newest_of number key newer) (newest_of number key older)
  pub between : IsLaterThan (newest_of number key picked) (newest_of number key older)
  pub last : bottom ≡ true → IsAlone (newest_of number key picked) (newest_of number key older)

-- What becomes of a key's newest version: where the newer lists have one, it stays; else that of the merged lists becomes what the merge
-- makes of it, and where they have none either, it stays.
abbrev pub after_merge : ℕ → Bool → Keeps → Option Version → Option Version → Option Version → Option Version
after_merge oldest bottom keeps (Some v) picked older = Some v
after_merge oldest bottom keeps None (Some v) older = becomes oldest bottom keeps (Some v)
after_merge oldest bottom keeps None None older = older

-- a key's newest version: that of the newer lists, or else of the merged, or else of the older ones
abbrev pub first_one : Option Version → Option Version → Option Version → Option Version
first_one (Some v) picked older = Some v
first_one None (Some v) older = Some v
first_one None None older = older

-- it is in the merged lists
abbrev pub is_touched : Option Version → Option Version → Bool
is_touched (Some v) picked = false
is_touched None picked = is_some picked

-- what is shown of a key: but for what the filter doesn't keep, where its newest version is in the merged lists
abbrev pub but_for : ℕ → Keeps → Bool → List Version → List Version
but_for oldest keeps true vs = filter (stays_shown oldest keeps) vs
but_for oldest keeps false vs = vs

-- two versions have different numbers, where both are there
abbrev pub Differ : Option Version → Option Version → Type 0
Differ None o = Unit {0}
Differ (Some v) None = Unit {0}
Differ (Some v) (Some w) = v.sequence ≢ w.sequence

-- no two have the same number
abbrev pub AllDiffer : List (Option Version) → Type 0
AllDiffer [] = Unit {0}
AllDiffer (o ∷ os) = AllByRecursion (Differ o) os × AllDiffer os

-- The lists of a family's parts, each with the number of its file.
abbrev pub Parts : Type 0
Parts = List (ℕ × List Version)

abbrev pub lists_of : Parts → List (List Version)
lists_of parts = map (λ (x : ℕ × List Version). x.1) parts

-- those whose numbers pass a test, and the others
abbrev pub taken : (ℕ → Bool) → Parts → Parts
taken p parts = filter (λ (x : ℕ × List Version). p x.0) parts

abbrev pub left_out : (ℕ → Bool) → Parts → Parts
left_out p parts = filter (λ (x : ℕ × List Version). not (p x.0)) parts

abbrev pub newest_in_parts : ℕ → List ℕ → Parts → List (Option Version)
newest_in_parts number key parts = map (λ (x : ℕ × List Version). newest number key x.1) parts
