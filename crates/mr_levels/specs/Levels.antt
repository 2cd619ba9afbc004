-- The live runs of a family, by level.
use Rattle.std.specs.Prelude.{◌≡◌, ℕ, true, List, [], ◌∷◌, ◌++◌, length, map, zero, suc}
use Rattle.std.specs.List.{AllByRecursion, AllByRecursion-prop}
use Rattle.std.specs.declared.cmp.Ordering.{Ordering}
use Rattle.std.specs.Ordering.{nat_cmp, is_lt, on, flip_args}
use Rattle.std.proofs.Props.{props}
use Rattle.mr_base.specs.Disk.{Image}
use Rattle.mr_base.specs.declared.stop.Direction.{Direction}
use Rattle.mr_base.specs.declared.stop.Direction.TheVariants.{Forward}
use Rattle.mr_iter.specs.Versions.{Version, key_cmp, place_in, joined, IsInOrder}
use Rattle.mr_iter.specs.Order.{IsInOrder-prop}
use Rattle.mr_iter.specs.Children.{AnyOf}
use Rattle.mr_run_file.specs.Reading.{IsRun}
use Rattle.mr_run_open.specs.Runs.{RunState, HasIndex, first_of}
use Rattle.mr_run_cursor.specs.Pinned.{run_list}
use Rattle.mr_run_get.specs.Get.{IsOffenceIn}

-- Its direction, its newest runs, the newest first, and the runs of the levels from 1 on, those of each level by their last keys.
pub record LevelsState : Type 0 where
  pub direction : Direction
  pub newest : List RunState
  pub deeper : List (List RunState)

abbrev pub runs : LevelsState → List RunState
runs s = s.newest ++ joined s.deeper

abbrev pub no_runs : Direction → LevelsState
no_runs d = record { direction = d; newest = []; deeper = [] ∷ [] ∷ [] ∷ [] ∷ [] }

abbrev pub files : LevelsState → List ℕ
files s = map (λ (r : RunState). r.file) (runs s)

-- the lists of these runs, by what their files have
abbrev pub run_lists : List RunState → Image → List (List Version)
run_lists rs image = map (λ (r : RunState). run_list r image) rs

abbrev pub no_run : RunState
no_run = record { file = 0; length = 0; entries = 0; direction = Forward; index = record { blocks = []; last = [] } }

-- ---- a run more

-- the one with the greater file number is newer
abbrev pub newer_first : RunState → RunState → Ordering
newer_first = on (λ (r : RunState). r.file) (flip_args nat_cmp)

abbrev pub by_last_key : Direction → RunState → RunState → Ordering
by_last_key d = on (λ (r : RunState). r.index.last) (key_cmp d)

-- the list at a place of many, changed
abbrev pub changed_at : ℕ → (List RunState → List RunState) → List (List RunState) → List (List RunState)
changed_at i f [] = []
changed_at zero f (rs ∷ rss) = f rs ∷ rss
changed_at (suc i) f (rs ∷ rss) = rs ∷ changed_at i f rss

abbrev pub with_run : ℕ → RunState → LevelsState → LevelsState
with_run zero r s = record { direction = s.direction; newest = place_in newer_first r s.newest; deeper = s.deeper }
with_run (suc level) r s = record { direction = s.direction; newest = s.newest; deeper = changed_at level (place_in (by_last_key s.direction) r) s.deeper }

-- ---- how they lie

abbrev pub AreOfDirection : Direction → List RunState → Type 0
AreOfDirection d rs = AllByRecursion (λ (r : RunState). r.direction ≡ d) rs

-- All runs are of one direction, the newest ones in their order, and those of each of the four levels behind them by their last keys.
pub record AreKept (d : Direction) (newest : List RunState) (deeper : List (List RunState)) : Type 0 where
  pub one : AreOfDirection d newest
  pub one_deeper : AllByRecursion (AreOfDirection d) deeper
  pub newer : IsInOrder newer_first newest
  pub ordered : AllByRecursion (IsInOrder (by_last_key d)) deeper
  pub four : length deeper ≡ 4

pub AreKept-prop : (d : Direction) (newest : List RunState) (deeper : List (List RunState)) → IsProp (AreKept d newest deeper)
AreKept-prop d newest deeper = hlevel (
  props,
  AllByRecursion-prop (λ (r : RunState). r.direction ≡ d) (λ r. hlevel props) newest,
  AllByRecursion-prop (AreOfDirection d) (λ rs. AllByRecursion-prop (λ (r : RunState). r.direction ≡ d) (λ r. hlevel props) rs) deeper,
  IsInOrder-prop newer_first newest,
  AllByRecursion-prop (IsInOrder (by_last_key d)) (λ rs. IsInOrder-prop (by_last_key d) rs) deeper,
)

-- its last key comes before another run's first key
abbrev pub EndsBefore : Direction → RunState → RunState → Type 0
EndsBefore d r t = is_lt (key_cmp d r.index.last (first_of t.index)) ≡ true

-- each run's keys come before those of the runs behind it
abbrev pub AreApart : Direction → List RunState → Type 0
AreApart d [] = Unit {0}
AreApart d (r ∷ rs) = AllByRecursion (EndsBefore d r) rs × AreApart d rs

-- the runs of no level from 1 on overlap
abbrev pub LieApart : LevelsState → Type 0
LieApart s = AllByRecursion (AreApart s.direction) s.deeper

-- the file is a run of the recorded length and entries, and has the index that is held
pub record IsLive (image : Image) (r : RunState) : Type 0 where
  pub index : HasIndex r image
  pub run : IsRun r.direction r.entries (image r.file) (run_list r image)

abbrev pub AreLive : Image → List RunState → Type 0
AreLive image rs = AllByRecursion (IsLive image) rs

-- each is a run, and those of a level don't overlap
pub record AreWhole (s : LevelsState) (image : Image) : Type 0 where
  pub live : AreLive image (runs s)
  pub apart : LieApart s

-- an offence of one of its runs
abbrev pub HasOffence : LevelsState → Image → ℕ → ℕ → Type 0
HasOffence s image file at = AnyOf (λ (r : RunState). IsOffenceIn r r.index.blocks image file at) (runs s)
