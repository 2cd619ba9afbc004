-- An entry that was looked up in a block.
use Rattle.std.specs.Prelude.{◌≡◌, ℕ, ◌<◌, List, [], length, drop, Option, Some, None, Ok}
use Rattle.mr_base.specs.declared.stop.Direction.{Direction}
use Rattle.mr_iter.specs.Versions.{version_cmp, IsInOrder, from_key}
use Rattle.mr_run_file.specs.Reading.{Indexed, versions_at}
use Rattle.mr_run_open.specs.Blocks.{list_at}
use Rattle.mr_run_cursor.specs.declared.blocks.Pin.{Pin}

-- In a block in order, it is the first entry from the key on; None where all come before the key.
abbrev pub IsFoundIn : Direction → List ℕ → List ℕ → Indexed → Option Pin → Type 0
IsFoundIn d key file b None = IsInOrder (version_cmp d) (list_at file b) → from_key d key (list_at file b) ≡ []
IsFoundIn d key file b (Some p) = (versions_at file b ≡ Ok p.block) × (IsInOrder (version_cmp d) p.block → from_key d key p.block ≡ drop p.at p.block)
