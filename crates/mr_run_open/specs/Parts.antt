-- What is read of a run's structure.
use Rattle.std.specs.Prelude.{ℕ, ◌+◌, ◌==◌, List, ◌++◌, drop, nat_le, nat_eq, Result, Ok, Err}
use Rattle.std.specs.Cmp.Lexicographic.{pointwise}
use Rattle.byteorder.specs.Endian.{big_number}
use Rattle.mr_block.specs.Fields.{Read, ◌>>=◌}
use Rattle.mr_run_file.specs.Format.{format_name}
use Rattle.mr_run_file.specs.Reading.{Indexed, demand}

-- the fields of a footer that begins at this place of the file
abbrev pub footer_of : ℕ → ℕ → List ℕ → Result (Unit {0}) ℕ
footer_of at entries footer = do
  place ← demand (nat_le (big_number 8 footer) at) at
  size ← demand (big_number 8 footer + big_number 8 (drop 8 footer) == at) (at + 8)
  blocks ← demand (nat_le 1 (big_number 8 (drop 16 footer))) (at + 16)
  count ← demand (big_number 8 (drop 24 footer) == entries) (at + 24)
  demand (pointwise nat_eq (drop 32 footer) format_name) (at + 32)

-- these blocks, and then those that are read
abbrev pub with_blocks : List Indexed → Read (List Indexed) → Read (List Indexed)
with_blocks bs (Ok r) = Ok (bs ++ r.0, r.1)
with_blocks bs (Err left) = Err left
