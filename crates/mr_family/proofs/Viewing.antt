-- A cursor over the parts of a family is one over the family.
use Rattle.std.proofs.Common.{◌≡◌, ℕ, false, List, [], ◌∷◌, ◌++◌, map, refl, sym, ◌∙◌, ap, subst}
use Rattle.std.specs.List.{AllByRecursion}
use Rattle.mr_base.specs.Disk.{Image}
use Rattle.mr_base.specs.declared.stop.Direction.{Direction}
use Rattle.mr_iter.specs.Versions.{Version, version_cmp, in_order, merged, joined}
use Rattle.mr_iter.specs.Order.{each-append}
use Rattle.mr_iter.specs.Cursors.{CursorState}
use Rattle.mr_iter.specs.Snapshots.{at_snapshot, snapshot_state}
use Rattle.mr_iter.specs.Merging.{merge_state, lists}
use Rattle.mr_memtable.specs.Tables.{MemState}
use Rattle.mr_run_open.specs.Runs.{RunState}
use Rattle.mr_run_cursor.specs.Pinned.{run_list}
use Rattle.mr_block_cache.specs.Cache.{CachedBlock}
use Rattle.mr_levels.specs.Levels.{LevelsState, runs, AreKept}
use Rattle.mr_levels.proofs.Joins.{map_append, joined_append}
use Rattle.mr_family.specs.Family.{FamilyState, direction, files, versions}
use Rattle.mr_family.specs.Parts.{run_at, runs_at, level_at, parts_of, cursor_at, IsViewAt}
use Rattle.mr_family.proofs.Following.{one_direction}
use Rattle.mr_family.proofs.Wholes.{as_family}

-- a list that each part has, all of them together
module _ {X : Type 0} (f : CursorState → List X) (g : RunState → List X) (of_run : (r : RunState) → f (run_at r) ≡ g r) (d : Direction) (of_level : (rs : List RunState) → f (level_at d rs) ≡ joined (map f (runs_at rs))) where
  of_runs : (rs : List RunState) → map f (runs_at rs) ≡ map g rs
  of_runs [] = refl
  of_runs (r ∷ rs) = ap (λ (xs : List X). xs ∷ map f (runs_at rs)) (of_run r) ∙ ap (λ (xss : List (List X)). g r ∷ xss) (of_runs rs)

  of_levels : (rss : List (List RunState)) → joined (map f (map (level_at d) rss)) ≡ joined (map g (joined rss))
  of_levels [] = refl
  of_levels (rs ∷ rss) =
      ap (λ (xs : List X). xs ++ joined (map f (map (level_at d) rss))) (of_level rs ∙ ap (λ (xss : List (List X)). joined xss) (of_runs rs))
      ∙ ap (λ (xs : List X). joined (map g rs) ++ xs) (of_levels rss)
      ∙ sym (joined_append (map g rs) (map g (joined rss)))
      ∙ ap (λ (xss : List (List X)). joined xss) (sym (map_append g rs (joined rss)))

  pub of_parts : (ns : List RunState) (rss : List (List RunState)) → joined (map f (runs_at ns ++ map (level_at d) rss)) ≡ joined (map g (ns ++ joined rss))
  of_parts ns rss =
      ap (λ (xss : List (List X)). joined xss) (map_append f (runs_at ns) (map (level_at d) rss))
      ∙ joined_append (map f (runs_at ns)) (map f (map (level_at d) rss))
      ∙ ap (λ (xss : List (List X)). joined xss ++ joined (map f (map (level_at d) rss))) (of_runs ns)
      ∙ ap (λ (xs : List X). joined (map g ns) ++ xs) (of_levels rss)
      ∙ sym (joined_append (map g ns) (map g (joined rss)))
      ∙ ap (λ (xss : List (List X)). joined xss) (sym (map_append g ns (joined rss)))

view_versions : (f : FamilyState) (image : Image) → merged (version_cmp (direction f)) (lists (parts_of f.memtable f.levels) image) ≡ versions f image
view_versions f image = ap (λ (vs : List Version). in_order (version_cmp (direction f)) (f.memtable.versions ++ vs))
    (of_parts (λ (c : CursorState). c.versions image) (λ (r : RunState). run_list r image) (λ r. refl) (direction f) (λ rs. refl) f.levels.newest f.levels.deeper)

singles : (rs : List RunState) → joined (map (λ (r : RunState). r.file ∷ []) rs) ≡ map (λ (r : RunState). r.file) rs
singles [] = refl
singles (r ∷ rs) = ap (λ (ns : List ℕ). r.file ∷ ns) (singles rs)

view_files : (f : FamilyState) → joined (map (λ (c : CursorState). c.files) (parts_of f.memtable f.levels)) ≡ files f
view_files f = of_parts (λ (c : CursorState). c.files) (λ (r : RunState). r.file ∷ []) (λ r. refl) (direction f) (λ rs. refl) f.levels.newest f.levels.deeper ∙ singles (runs f.levels)

pub view_at : (number : ℕ) (f : FamilyState) → IsViewAt number f (cursor_at number f)
view_at number f = record {
  direction_is = refl;
  files_are = view_files f;
  versions_are = λ image. ap (at_snapshot number) (view_versions f image);
  begins = refl;
}

-- ---- the cursor that was made

pub made_at : (number : ℕ) (m : MemState) (s : LevelsState) (cs : List CachedBlock) (f : FamilyState) (d : Direction) (a b : CursorState) (ps : List CursorState) → as_family m s cs ≡ f → d ≡ s.direction → ps ≡ parts_of m s → b ≡ merge_state d [] ps → a ≡ snapshot_state number false b → a ≡ cursor_at number f
made_at number m s cs f d a b ps view same parts merge view_is =
    view_is ∙ ap (snapshot_state number false) (merge ∙ ap (λ (e : Direction). merge_state e [] ps) same ∙ ap (merge_state s.direction []) parts) ∙ ap (cursor_at number) view

pub parts_direction : (m : MemState) (s : LevelsState) (d : Direction) (ps : List CursorState) → m.direction ≡ s.direction → d ≡ s.direction → AreKept s.direction s.newest s.deeper → ps ≡ parts_of m s → AllByRecursion (λ (c : CursorState). c.direction ≡ d) ps
parts_direction m s d ps same e kept parts =
    subst (λ (x : Direction). AllByRecursion (λ (c : CursorState). c.direction ≡ x) ps) (sym e) (subst (AllByRecursion (λ (c : CursorState). c.direction ≡ s.direction)) (sym parts)
    (same, each-append (λ (c : CursorState). c.direction ≡ s.direction) (runs_at s.newest) (map (level_at s.direction) s.deeper) (one_direction s.direction s.newest kept.one) (of_levels s.deeper)))
  where
    of_levels : (rss : List (List RunState)) → AllByRecursion (λ (c : CursorState). c.direction ≡ s.direction) (map (level_at s.direction) rss)
    of_levels [] = tt
    of_levels (rs ∷ rss) = (refl, of_levels rss)
