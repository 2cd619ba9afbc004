-- A version in a block that is held.
use Rattle.std.specs.Prelude.{ℕ, List, get_or}
use Rattle.mr_iter.specs.Versions.{Version}
use Rattle.mr_block.specs.Block.{block_in, list_of, no_version}

-- the bytes of the block, and the number of the entry
pub record Held : Type 0 where
  pub block : List ℕ
  pub at : ℕ

abbrev pub version_held : Held → Version
version_held h = get_or (list_of (block_in h.block)) h.at no_version
