-- A cursor over a run.
use Rattle.std.specs.Prelude.{◌≡◌, ◌||◌, ◌==◌, ◌&&◌, ℕ, ◌+◌, ◌-◌, ◌<◌, Bool, true, false, not, List, [], ◌∷◌, ◌++◌, length, take, drop, get_or, nat_le, nat_lt, Option, Some, None, Result, Ok, Err}
use Rattle.std.specs.List.{AllByRecursion, prefix_len}
use Rattle.std.specs.Ordering.{is_gt}
use Rattle.mr_base.specs.Disk.{Image}
use Rattle.mr_base.specs.declared.stop.Direction.{Direction}
use Rattle.mr_iter.specs.Versions.{Version, version_cmp, IsInOrder, first, is_strict}
use Rattle.mr_iter.specs.Cursors.{CursorState}
use Rattle.mr_block.specs.Block.{list_of}
use Rattle.mr_run_file.specs.Reading.{Indexed, versions_at, run_in, IsRun}
use Rattle.mr_run_open.specs.Runs.{RunState, HasIndex, first_block, are_in_order, no_block}
use Rattle.mr_run_open.specs.Blocks.{list_at, lists_of}

-- the bytes of these blocks
abbrev pub sizes : List Indexed → ℕ
sizes [] = 0
sizes (b ∷ bs) = b.size + sizes bs

-- the blocks from one on, up to another
abbrev pub between : ℕ → ℕ → List Indexed → List Indexed
between start end bs = take (end - start) (drop start bs)

-- the run's list, by what its file has
abbrev pub run_list : RunState → Image → List Version
run_list r image = list_of (run_in r.entries (image r.file))

abbrev pub begins_upto : Direction → Version → List Version → Bool
begins_upto d v [] = true
begins_upto d v (w ∷ ws) = not (is_gt (version_cmp d w v))

-- the version doesn't come before the first one of this block of the file
abbrev pub is_from_block : Direction → Version → List ℕ → Indexed → Bool
is_from_block d v file b = begins_upto d v (list_at file b)

-- how many blocks there are up to the one in which a version stands, or up to the end
abbrev pub blocks_to : RunState → Image → Option Version → ℕ
blocks_to r image None = length r.index.blocks
blocks_to r image (Some v) = prefix_len (is_from_block r.direction v (image r.file)) r.index.blocks

-- The entry that it stands on, of the block that it holds.
abbrev pub current_of : Option (List Version) → ℕ → Option Version
current_of None at = None
current_of (Some vs) at = first (drop at vs)

abbrev pub more_of : Option (List Version) → ℕ → Bool
more_of None at = false
more_of (Some vs) at = nat_lt (at + 1) (length vs)

-- what is left of that block behind the entry
abbrev pub rest_of : Option (List Version) → ℕ → List Version
rest_of None at = []
rest_of (Some vs) at = drop (at + 1) vs

abbrev pub steps_of : Option (List Version) → ℕ → ℕ → ℕ
steps_of None at more = 0
steps_of (Some vs) at more = (length vs - at) + more

-- A cursor that has read the blocks from `start` up to `end` since its last seek, holds the last of them or none, and stands
-- on entry `at` of it.
abbrev pub pinned_at : RunState → ℕ → ℕ → ℕ → Option (List Version) → CursorState
pinned_at r start end at block = record {
  direction = r.direction;
  files = r.file ∷ [];
  versions = λ image. run_list r image;
  current = current_of block at;
  rest = λ image. rest_of block at ++ lists_of (image r.file) (drop end r.index.blocks);
  steps = steps_of block at (sizes (drop end r.index.blocks));
  most = sizes r.index.blocks;
  reads = end - start;
  asked = sizes (between start end r.index.blocks);
  anew = true;
  distinct = λ image. is_strict r.direction (run_list r image);
  sought = λ key. not (are_in_order r.direction r.index.blocks) || (start == first_block r.direction key r.index.blocks);
  reads_to = λ image key place. blocks_to r image place - first_block r.direction key r.index.blocks;
  asked_to = λ image key place. sizes (between (first_block r.direction key r.index.blocks) (blocks_to r image place) r.index.blocks);
}

-- the block that it holds is the file's
abbrev pub HoldsBlock : RunState → ℕ → Option (List Version) → Image → Type 0
HoldsBlock r end None image = Unit {0}
HoldsBlock r end (Some vs) image = versions_at (image r.file) (get_or r.index.blocks (end - 1) no_block) ≡ Ok vs

-- The file is a run, its index is the one held, and so is the block.
pub record IsWhole (r : RunState) (end : ℕ) (block : Option (List Version)) (image : Image) : Type 0 where
  pub index : HasIndex r image
  pub run : IsRun r.direction r.entries (image r.file) (run_list r image)
  pub block_held : HoldsBlock r end block image

-- this place of the run's file is the first offence of one of its blocks
pub record IsRunOffence (r : RunState) (image : Image) (file at : ℕ) : Type 0 where
  pub block : ℕ
  pub within : block < length r.index.blocks
  pub is_file : file ≡ r.file
  pub offence : versions_at (image r.file) (get_or r.index.blocks block no_block) ≡ Err at

-- It has read no block twice, and stands on an entry of the block that it holds, which has no more entries than bytes.
abbrev pub stands : RunState → ℕ → ℕ → ℕ → Option (List Version) → Bool
stands r start end at None = nat_le start end && nat_le end (length r.index.blocks)
stands r start end at (Some vs) = nat_lt start end && nat_le end (length r.index.blocks) && nat_lt at (length vs) && nat_le (length vs) (get_or r.index.blocks (end - 1) no_block).size
