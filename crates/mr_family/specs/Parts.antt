-- A family as one cursor over its parts.
use Rattle.std.specs.Prelude.{◌≡◌, ℕ, false, List, [], ◌∷◌, ◌++◌, length, map, None}
use Rattle.mr_base.specs.Disk.{Image}
use Rattle.mr_base.specs.declared.stop.Direction.{Direction}
use Rattle.mr_iter.specs.Cursors.{CursorState}
use Rattle.mr_iter.specs.Snapshots.{at_snapshot, snapshot_state}
use Rattle.mr_iter.specs.Merging.{merge_state}
use Rattle.mr_memtable.specs.Tables.{MemState, at_beginning}
use Rattle.mr_run_open.specs.Runs.{RunState}
use Rattle.mr_run_cursor.specs.Pinned.{pinned_at}
use Rattle.mr_levels.specs.Levels.{LevelsState}
use Rattle.mr_chain.specs.Chains.{chain_state}
use Rattle.mr_family.specs.Family.{FamilyState, direction, files, versions}

-- a cursor over a run, before its first seek
abbrev pub run_at : RunState → CursorState
run_at r = pinned_at r 0 0 0 None

abbrev pub runs_at : List RunState → List CursorState
runs_at rs = map run_at rs

abbrev pub lasts_of : List RunState → List (List ℕ)
lasts_of rs = map (λ (r : RunState). r.index.last) rs

-- one over the runs of a level
abbrev pub level_at : Direction → List RunState → CursorState
level_at d rs = chain_state d (lasts_of rs) false (length (runs_at rs)) (length (runs_at rs)) (runs_at rs)

-- the cursors of all parts: the memtable's first, then one a newest run, then one a level
abbrev pub parts_of : MemState → LevelsState → List CursorState
parts_of m s = at_beginning m ∷ (runs_at s.newest ++ map (level_at s.direction) s.deeper)

abbrev pub parts : FamilyState → List CursorState
parts f = parts_of f.memtable f.levels

-- over what stands at a number in all of them, before its first seek
abbrev pub cursor_at : ℕ → FamilyState → CursorState
cursor_at number f = snapshot_state number false (merge_state (direction f) [] (parts f))

-- it is a cursor over the family's versions that stand at a number
pub record IsViewAt (number : ℕ) (f : FamilyState) (s : CursorState) : Type 0 where
  pub direction_is : s.direction ≡ direction f
  pub files_are : s.files ≡ files f
  pub versions_are : (image : Image) → s.versions image ≡ at_snapshot number (versions f image)
  pub begins : s.current ≡ None
