-- What has to hold of blocks for their run to be read back.
use Rattle.std.specs.Prelude.{◌≡◌, ℕ, ◌<◌, ◌^◌, List, length, Ok}
use Rattle.std.specs.List.{AllByRecursion}
use Rattle.mr_iter.specs.Versions.{Version, joined}
use Rattle.mr_block.specs.Block.{block_bytes, block_in}
use Rattle.mr_run_file.specs.Format.{first_key, last_key, run_bytes}
use Rattle.mr_run_file.specs.Reading.{IsRunFile}

-- a block of some versions that reads back, and whose lengths are in their fields
pub record ReadsBack (vs : List Version) : Type 0 where
  pub some : 0 < length vs
  pub back : block_in (block_bytes vs) ≡ Ok vs
  pub size : length (block_bytes vs) < 2 ^ 32
  pub key : length (first_key vs) < 2 ^ 32

-- the run of such blocks is read as their versions
abbrev pub IsReadBack : List (List Version) → Type 0
IsReadBack vss = 0 < length vss → AllByRecursion ReadsBack vss → length (last_key (joined vss)) < 2 ^ 32 → length (run_bytes vss) < 2 ^ 64 → IsRunFile (length (joined vss)) (run_bytes vss) (joined vss)
