-- What a family means.
use Rattle.std.specs.Prelude.{ℕ, List, ◌∷◌, length}
use Rattle.mr_base.specs.Disk.{Image}
use Rattle.mr_base.specs.declared.stop.Direction.{Direction}
use Rattle.mr_iter.specs.Versions.{Version, version_cmp, merged}
use Rattle.mr_memtable.specs.Tables.{MemState}
use Rattle.mr_block_cache.specs.Cache.{CachedBlock, IsWarm}
use Rattle.mr_levels.specs.Levels.{LevelsState, runs, files as run_files, run_lists, AreWhole}
use Rattle.mr_levels.specs.Looks.{looked, asked_of, key_spans, AgreeWith}

-- Its versions in memory, with the room for more; its live runs; and the blocks of them that are held.
pub record FamilyState : Type 0 where
  pub memtable : MemState
  pub levels : LevelsState
  pub cached : List CachedBlock

abbrev pub direction : FamilyState → Direction
direction f = f.levels.direction

-- the files that it reads
abbrev pub files : FamilyState → List ℕ
files f = run_files f.levels

-- All its versions in order, by what these files have: those in memory and those of its runs, of which an earlier part comes first
-- where two have the same key and number.
abbrev pub versions : FamilyState → Image → List Version
versions f image = merged (version_cmp (direction f)) (f.memtable.versions ∷ run_lists (runs f.levels) image)

-- its runs are whole and lie in their levels
abbrev pub IsWhole : FamilyState → Image → Type 0
IsWhole f image = AreWhole f.levels image

-- what is held of its runs is what their files have
abbrev pub IsTrueTo : Image → FamilyState → Type 0
IsTrueTo image f = AgreeWith image f.cached (runs f.levels)

-- how many reads a look-up of a key makes at the most, and how many bytes it asks for
abbrev pub reads_of : List ℕ → FamilyState → ℕ
reads_of key f = length (looked key f.levels)

abbrev pub bytes_of : List ℕ → FamilyState → ℕ
bytes_of key f = asked_of key (looked key f.levels)

-- all blocks in which a key can stand are held
abbrev pub IsWarmFor : List ℕ → FamilyState → Type 0
IsWarmFor key f = IsWarm (key_spans key (looked key f.levels)) f.cached
