-- The parts of a family as one list.
use Rattle.std.proofs.Common.{◌≡◌, ◌≢◌, ℕ, List, [], ◌∷◌, map, refl, sym, ◌∙◌, ap, subst, Option}
use Rattle.std.specs.List.{AllByRecursion}
use Rattle.mr_base.specs.Disk.{Image}
use Rattle.mr_base.specs.declared.stop.Direction.{Direction}
use Rattle.mr_iter.specs.Versions.{Version, version_cmp, IsInOrder, merged, joined, place_in}
use Rattle.mr_iter.specs.Order.{version_total, each-append, IsInOrder-in_order}
use Rattle.mr_iter.specs.Cursors.{CursorState, SameFiles}
use Rattle.mr_iter.specs.Newest.{newest, later, latest}
use Rattle.mr_iter.proofs.Newer.{newest_merged}
use Rattle.mr_memtable.specs.Tables.{MemState, at_beginning, standing_at}
use Rattle.mr_run_open.specs.Runs.{RunState}
use Rattle.mr_run_cursor.specs.Pinned.{run_list}
use Rattle.mr_block_cache.specs.Cache.{CachedBlock, AgreesWith}
use Rattle.mr_levels.specs.Levels.{LevelsState, runs, run_lists, AreOfDirection, AreKept, AreLive, AreWhole}
use Rattle.mr_levels.specs.Looks.{newest_in_each, AgreeWith}
use Rattle.mr_levels.proofs.Filing.{lists_by, live_by}
use Rattle.mr_family.specs.Family.{FamilyState, direction, files, versions}

abbrev pub as_family : MemState → LevelsState → List CachedBlock → FamilyState
as_family m s cs = record { memtable = m; levels = s; cached = cs }

-- what a memtable's cursor tells of its versions
pub told_order : (d : Direction) (vs : List Version) (n : ℕ) (m : MemState) → standing_at d vs n ≡ at_beginning m → IsInOrder (version_cmp d) vs → IsInOrder (version_cmp m.direction) m.versions
told_order d vs n m e all = subst (λ (s : CursorState). IsInOrder (version_cmp s.direction) (s.versions (λ file. []))) e all

pub family_in_order : (f : FamilyState) (image : Image) → IsInOrder (version_cmp (direction f)) (versions f image)
family_in_order f image = IsInOrder-in_order (version_cmp (direction f)) (version_total (direction f)) (joined (f.memtable.versions ∷ run_lists (runs f.levels) image))

pub inserted : ((d : Direction) (v : Version) (vs : List Version) (more : List (List Version)) → merged (version_cmp d) (place_in (version_cmp d) v vs ∷ more) ≡ place_in (version_cmp d) v (merged (version_cmp d) (vs ∷ more))) →
    (m n : MemState) (s : LevelsState) (cs : List CachedBlock) (f : FamilyState) (v : Version) (image : Image) → as_family m s cs ≡ f → m.direction ≡ s.direction → n.versions ≡ place_in (version_cmp m.direction) v m.versions → versions (as_family n s cs) image ≡ place_in (version_cmp (direction f)) v (versions f image)
inserted law m n s cs f v image view same is = subst (λ (g : FamilyState). versions (as_family n s cs) image ≡ place_in (version_cmp (direction g)) v (versions g image)) view
    (ap (λ (vs : List Version). merged (version_cmp s.direction) (vs ∷ run_lists (runs s) image)) (is ∙ ap (λ (d : Direction). place_in (version_cmp d) v m.versions) same) ∙ law s.direction v m.versions (run_lists (runs s) image))

-- ---- look-ups

module _ (number : ℕ) (key : List ℕ) (image : Image) where
  lists_ordered : (d : Direction) (rs : List RunState) → AreOfDirection d rs → AreLive image rs → AllByRecursion (IsInOrder (version_cmp d)) (run_lists rs image)
  lists_ordered d [] same live = tt
  lists_ordered d (r ∷ rs) same live = (subst (λ (e : Direction). IsInOrder (version_cmp e) (run_list r image)) same.0 live.0.run.1, lists_ordered d rs same.1 live.1)

  newest_lists : (rs : List RunState) → map (newest number key) (run_lists rs image) ≡ newest_in_each number key image rs
  newest_lists [] = refl
  newest_lists (r ∷ rs) = ap (λ (os : List (Option Version)). newest number key (run_list r image) ∷ os) (newest_lists rs)

  joined_direction : (d : Direction) (rss : List (List RunState)) → AllByRecursion (AreOfDirection d) rss → AreOfDirection d (joined rss)
  joined_direction d [] deeper = tt
  joined_direction d (rs ∷ rss) deeper = each-append (λ (r : RunState). r.direction ≡ d) rs (joined rss) deeper.0 (joined_direction d rss deeper.1)

  newest_of_parts : (m : MemState) (s : LevelsState) (cs : List CachedBlock) → m.direction ≡ s.direction → IsInOrder (version_cmp m.direction) m.versions → AreKept s.direction s.newest s.deeper → AreLive image (runs s) →
      newest number key (versions (as_family m s cs) image) ≡ later (newest number key m.versions) (latest (newest_in_each number key image (runs s)))
  newest_of_parts m s cs same order kept live =
      newest_merged s.direction number key (m.versions ∷ run_lists (runs s) image) (subst (λ (d : Direction). IsInOrder (version_cmp d) m.versions) same order, lists_ordered s.direction (runs s) (each-append (λ (r : RunState). r.direction ≡ s.direction) s.newest (joined s.deeper) kept.one (joined_direction s.direction s.deeper kept.one_deeper)) live)
      ∙ ap (λ (os : List (Option Version)). later (newest number key m.versions) (latest os)) (newest_lists (runs s))

  pub found_in_all : (m : MemState) (s : LevelsState) (cs : List CachedBlock) (f : FamilyState) (found answer : Option Version) → as_family m s cs ≡ f → m.direction ≡ s.direction → IsInOrder (version_cmp m.direction) m.versions → AreKept s.direction s.newest s.deeper → AreWhole f.levels image →
      found ≡ latest (newest_in_each number key image (runs s)) → answer ≡ later (newest number key m.versions) found → answer ≡ newest number key (versions f image)
  found_in_all m s cs f found answer view same order kept whole is e =
      e ∙ ap (later (newest number key m.versions)) is
      ∙ sym (newest_of_parts m s cs same order kept (subst (λ (g : FamilyState). AreLive image (runs g.levels)) (sym view) whole.live))
      ∙ ap (λ (g : FamilyState). newest number key (versions g image)) view

-- what is held of runs stays true where that of each file does
pub carry : (image : Image) (cs ds : List CachedBlock) → ((file : ℕ) → AgreesWith file (image file) cs → AgreesWith file (image file) ds) → (rs : List RunState) → AgreeWith image cs rs → AgreeWith image ds rs
carry image cs ds law [] all = tt
carry image cs ds law (r ∷ rs) all = (law r.file all.0, carry image cs ds law rs all.1)

pub other_files : (file : ℕ) (rs : List RunState) → AllByRecursion (λ live. file ≢ live) (map (λ (r : RunState). r.file) rs) → AllByRecursion (λ (r : RunState). file ≢ r.file) rs
other_files file [] all = tt
other_files file (r ∷ rs) all = (all.0, other_files file rs all.1)

-- ---- by its own files

pub versions_by : (f : FamilyState) (i j : Image) → SameFiles (files f) i j → versions f i ≡ versions f j
versions_by f i j same = ap (λ (vss : List (List Version)). merged (version_cmp (direction f)) (f.memtable.versions ∷ vss)) (lists_by (runs f.levels) i j same)

pub whole_by : (f : FamilyState) (i j : Image) → SameFiles (files f) i j → AreWhole f.levels i → AreWhole f.levels j
whole_by f i j same is = record { live = live_by (runs f.levels) i j same is.live; apart = is.apart }

pub held_by : (cs : List CachedBlock) (rs : List RunState) (i j : Image) → SameFiles (map (λ (r : RunState). r.file) rs) i j → AgreeWith i cs rs → AgreeWith j cs rs
held_by cs [] i j same all = tt
held_by cs (r ∷ rs) i j same all = (subst (λ (bytes : List ℕ). AgreesWith r.file bytes cs) same.0 all.0, held_by cs rs i j same.1 all.1)
