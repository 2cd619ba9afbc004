-- What a look-up of a key reads of a family's runs, and what it leaves in the cache.
use Rattle.std.specs.Prelude.{◌≡◌, ◌≢◌, ◌&&◌, ℕ, ◌≤◌, Bool, true, not, List, [], ◌∷◌, ◌++◌, cond, filter, length, map, take, drop, Option}
use Rattle.std.specs.List.{AllByRecursion, prefix_len}
use Rattle.std.specs.Map.{keys_of}
use Rattle.std.specs.Ordering.{is_lt, is_gt}
use Rattle.mr_base.specs.Disk.{State, Image, Tells, seen}
use Rattle.mr_base.specs.Calls.{Same, Counts}
use Rattle.mr_base.specs.declared.stop.Direction.{Direction}
use Rattle.mr_iter.specs.Versions.{Version, key_cmp, joined}
use Rattle.mr_iter.specs.Newest.{newest, later, latest}
use Rattle.mr_iter.specs.Children.{AnyOf, total}
use Rattle.mr_run_file.specs.Reading.{Indexed}
use Rattle.mr_run_open.specs.Runs.{RunState, first_of, are_in_order}
use Rattle.mr_run_cursor.specs.Pinned.{run_list}
use Rattle.mr_run_get.specs.Get.{sizes, spans_of, key_blocks, IsOffenceIn, IsGapless}
use Rattle.mr_block_cache.specs.declared.span.FileSpan.{FileSpan}
use Rattle.mr_block_cache.specs.Cache.{CachedBlock, AgreesWith, IsWarm, with_spans}
use Rattle.mr_levels.specs.Levels.{LevelsState, AreLive}

-- ---- in which runs it looks

abbrev pub ends_before : Direction → List ℕ → RunState → Bool
ends_before d key r = is_lt (key_cmp d r.index.last key)

abbrev pub begins_behind : Direction → List ℕ → RunState → Bool
begins_behind d key r = is_gt (key_cmp d (first_of r.index) key)

-- the key can stand in the run, by its first and its last key
abbrev pub can_hold : Direction → List ℕ → RunState → Bool
can_hold d key r = not (ends_before d key r) && not (begins_behind d key r)

abbrev pub with_key : Direction → List ℕ → List RunState → List RunState
with_key d key rs = filter (can_hold d key) rs

-- the first run of a level that doesn't end before the key
abbrev pub part_of : Direction → List ℕ → List RunState → List RunState
part_of d key rs = take 1 (drop (prefix_len (ends_before d key) rs) rs)

abbrev pub parts_of : Direction → List ℕ → List (List RunState) → List RunState
parts_of d key [] = []
parts_of d key (rs ∷ rss) = part_of d key rs ++ parts_of d key rss

-- the newest runs, and of each level behind them the one run, in which the key can stand
abbrev pub looked : List ℕ → LevelsState → List RunState
looked key s = with_key s.direction key (s.newest ++ parts_of s.direction key s.deeper)

-- ---- what it reads of them

-- The blocks in which the key can stand, by the first keys of the index; all blocks where these aren't in order, as those of each run are.
abbrev pub touched : List ℕ → RunState → List Indexed
touched key r = cond (are_in_order r.direction r.index.blocks) (key_blocks r key) r.index.blocks

abbrev pub asked_of : List ℕ → List RunState → ℕ
asked_of key rs = total (λ (r : RunState). sizes (touched key r)) rs

abbrev pub key_spans : List ℕ → List RunState → List FileSpan
key_spans key rs = joined (map (λ (r : RunState). spans_of r (touched key r)) rs)

abbrev pub HasKeyOffence : List ℕ → List RunState → Image → ℕ → ℕ → Type 0
HasKeyOffence key rs image file at = AnyOf (λ (r : RunState). IsOffenceIn r (touched key r) image file at) rs

-- the first keys of each run's blocks are in its order
abbrev pub AreSorted : List RunState → Type 0
AreSorted rs = AllByRecursion (λ (r : RunState). are_in_order r.direction r.index.blocks ≡ true) rs

abbrev pub AreGapless : List RunState → Type 0
AreGapless rs = AllByRecursion IsGapless rs

-- what the cache holds of these runs is what their files have
abbrev pub AgreeWith : Image → List CachedBlock → List RunState → Type 0
AgreeWith image cs rs = AllByRecursion (λ (r : RunState). AgreesWith r.file (image r.file) cs) rs

-- Looking up a key in these runs, however it ended: at most one read of each, none where all its blocks are held; nothing on the disk
-- changes; and the cache stays true to each file.
pub record Spends (key : List ℕ) (rs : List RunState) (s t : State) (cs ds : List CachedBlock) : Type 0 where
  pub counts : Counts (length rs) (asked_of key rs) 0 s t
  pub warm : AreSorted rs → length cs ≤ 1024 → IsWarm (key_spans key rs) cs → Counts 0 0 0 s t
  pub same : Tells s → Same s t
  pub agrees : Tells s → AreGapless rs → (file : ℕ) → AgreesWith file (seen s file) cs → AgreesWith file (seen s file) ds
  pub others : (file : ℕ) (bytes : List ℕ) → AllByRecursion (λ (r : RunState). file ≢ r.file) rs → AgreesWith file bytes cs → AgreesWith file bytes ds

-- All blocks in which the key can stand are brought to the front, run by run.
abbrev pub Brings : List ℕ → List RunState → List CachedBlock → List CachedBlock → Type 0
Brings key rs cs ds = AreSorted rs → keys_of ds ≡ with_spans (key_spans key rs) (keys_of cs)

-- the newest version of a key in each of these runs
abbrev pub newest_in_each : ℕ → List ℕ → Image → List RunState → List (Option Version)
newest_in_each number key image rs = map (λ (r : RunState). newest number key (run_list r image)) rs

-- Besides, where the look-up ends: these were brought to the front, and what it found is the later of what there was and the newest of
-- each of these runs.
pub record Finds (number : ℕ) (key : List ℕ) (rs : List RunState) (s : State) (cs ds : List CachedBlock) (before after : Option Version) : Type 0 where
  pub brings : Brings key rs cs ds
  pub found : Tells s → AreLive (seen s) rs → AgreeWith (seen s) cs rs → after ≡ later before (latest (newest_in_each number key (seen s) rs))
