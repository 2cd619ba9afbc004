-- How the versions of a run are cut into blocks: a block is closed once it has 4,096 bytes, or at the run's end.
use Rattle.std.specs.Prelude.{◌-◌, ◌<◌, ◌≤◌, List, [], ◌∷◌, length, take}
use Rattle.mr_iter.specs.Versions.{Version}
use Rattle.mr_block.specs.Block.{block_bytes}

-- the block's first versions, without the last
abbrev pub all_but_last : List Version → List Version
all_but_last vs = take (length vs - 1) vs

-- it had fewer bytes before its last version
abbrev pub IsNotLate : List Version → Type 0
IsNotLate vs = length (block_bytes (all_but_last vs)) < 4096

-- it was closed by the version that filled it
pub record IsClosed (vs : List Version) : Type 0 where
  pub full : 4096 ≤ length (block_bytes vs)
  pub not_late : IsNotLate vs

-- all blocks but the last one were closed so, and that one at the run's end at the latest
abbrev pub AreCut : List (List Version) → Type 0
AreCut [] = Unit {0}
AreCut (vs ∷ []) = IsNotLate vs
AreCut (vs ∷ ws ∷ vss) = IsClosed vs × AreCut (ws ∷ vss)
