-- The blocks of a run, one by one.
use Rattle.std.specs.Prelude.{◌≡◌, ℕ, ◌+◌, ◌*◌, List, [], ◌∷◌, ◌++◌, length, take, drop, nat_le, Result, Ok, Err}
use Rattle.std.specs.List.{AllByRecursion}
use Rattle.mr_base.specs.Disk.{Image}
use Rattle.mr_iter.specs.Versions.{Version}
use Rattle.mr_block.specs.Fields.{◌>>=◌}
use Rattle.mr_block.specs.Block.{block_in, list_of}
use Rattle.mr_run_file.specs.Format.{first_key}
use Rattle.mr_run_file.specs.Reading.{Indexed, demand, counted_from, key_demand, versions_at}
use Rattle.mr_run_open.specs.Runs.{RunState}

-- what is judged of the versions of a block that begins at this place of the file: that there are some, and that the first has
-- this key
abbrev pub first_judged : ℕ → List ℕ → List Version → Result (List Version) ℕ
first_judged place key vs = do
  some ← demand (nat_le 1 (length vs)) place
  first ← key_demand key (first_key vs) (place + 4 + 4 * length vs)
  Ok vs

-- and before that of its bytes: that they are a block
abbrev pub judged : ℕ → List ℕ → List ℕ → Result (List Version) ℕ
judged place key bytes = do
  vs ← counted_from place (block_in bytes)
  first_judged place key vs

-- so many bytes of a file, from this place on
abbrev pub read_at : ℕ → ℕ → List ℕ → List ℕ → Result (List Version) ℕ
read_at place size key file = judged place key (take size (drop place file))

-- this place is the first offence of such a block of the file
abbrev pub IsOffenceOf : ℕ → ℕ → ℕ → List ℕ → Image → ℕ → ℕ → Type 0
IsOffenceOf file place size key image f at = (f ≡ file) × (read_at place size key (image file) ≡ Err at)

-- the versions of a block, none where it isn't one
abbrev pub list_at : List ℕ → Indexed → List Version
list_at file b = list_of (versions_at file b)

-- those of many blocks, one after the other
abbrev pub lists_of : List ℕ → List Indexed → List Version
lists_of file [] = []
lists_of file (b ∷ bs) = list_at file b ++ lists_of file bs

-- each of them is a block
abbrev pub AreBlocks : List ℕ → List Indexed → Type 0
AreBlocks file bs = AllByRecursion (λ b. versions_at file b ≡ Ok (list_at file b)) bs

-- this place of the run's file is the first offence of this block
abbrev pub IsBlockOffence : RunState → Indexed → Image → ℕ → ℕ → Type 0
IsBlockOffence r b image file at = (file ≡ r.file) × (versions_at (image r.file) b ≡ Err at)
