-- The run that bytes are, or the first offending place. First the structure is judged: the file's length, the fields of the footer, and
-- those of the index, in this order. Then the blocks, one after the other, and last what is said of all of them: the last key and the
-- number of entries. The order of the keys is no part of it, so that no direction is needed.
use Rattle.std.specs.Prelude.{◌≡◌, ℕ, ◌+◌, ◌*◌, ◌-◌, ◌==◌, Bool, zero, suc, List, [], ◌∷◌, ◌++◌, length, take, drop, min, if◌then◌else◌, nat_le, nat_eq, Result, Ok, Err}
use Rattle.std.specs.Cmp.Lexicographic.{pointwise}
use Rattle.byteorder.specs.Endian.{big_number}
use Rattle.mr_base.specs.declared.stop.Direction.{Direction}
use Rattle.mr_iter.specs.Versions.{Version, version_cmp, IsInOrder}
use Rattle.mr_block.specs.Fields.{Read, ◌>>=◌, number_in}
use Rattle.mr_block.specs.Block.{entry_bytes, key_in, block_in}
use Rattle.mr_run_file.specs.Format.{first_key, last_key, format_name}

-- the index's entry of a block
pub record Indexed : Type 0 where
  pub place : ℕ
  pub size : ℕ
  pub key : List ℕ

pub record Index : Type 0 where
  pub blocks : List Indexed
  pub last : List ℕ

-- what holds of a field, or the offence
abbrev pub demand : Bool → ℕ → Result (Unit {0}) ℕ
demand holds at = if holds then Ok tt else Err at

-- ---- the footer

abbrev pub footer_at : List ℕ → ℕ
footer_at file = length file - 40

-- a number of the footer, counted from 0
abbrev pub footer_number : ℕ → List ℕ → ℕ
footer_number n file = big_number 8 (drop (footer_at file + 8 * n) file)

-- A run of so many entries has a footer whose fields keep their rules.
abbrev pub footer_in : ℕ → List ℕ → Result (Unit {0}) ℕ
footer_in entries file = do
  whole ← demand (nat_le 40 (length file)) 0
  place ← demand (nat_le (footer_number 0 file) (footer_at file)) (footer_at file)
  size ← demand (footer_number 0 file + footer_number 1 file == footer_at file) (footer_at file + 8)
  blocks ← demand (nat_le 1 (footer_number 2 file)) (footer_at file + 16)
  count ← demand (footer_number 3 file == entries) (footer_at file + 24)
  demand (pointwise nat_eq (drop (footer_at file + 32) file) format_name) (footer_at file + 32)

-- ---- the index; an error is the number of bytes left from the first byte of the offending field on

-- blocks lie in front of the end without gaps, and the last of them ends there
abbrev pub ends_well : ℕ → ℕ → ℕ → Bool
ends_well end zero behind = behind == end
ends_well end (suc more) behind = nat_le behind end

-- the entry of a block that has to begin at this place, and behind which so many more blocks stand
abbrev pub indexed_in : ℕ → ℕ → ℕ → List ℕ → Read Indexed
indexed_in end more at bytes = do
  place ← number_in 8 bytes
  adjoins ← demand (place.0 == at) (length bytes)
  size ← number_in 4 place.1
  fits ← demand (ends_well end more (at + size.0)) (length place.1)
  key ← key_in size.1
  Ok (record { place = at; size = size.0; key = key.0 }, key.1)

abbrev pub all_indexed_in : ℕ → ℕ → ℕ → List ℕ → Read (List Indexed)
all_indexed_in end zero at bytes = Ok ([], bytes)
all_indexed_in end (suc more) at bytes = do
  one ← indexed_in end more at bytes
  others ← all_indexed_in end more (at + one.0.size) one.1
  Ok (one.0 ∷ others.0, others.1)

-- the index of so many blocks, which end at this place
abbrev pub index_in : ℕ → ℕ → List ℕ → Result Index ℕ
index_in end blocks bytes = do
  all ← all_indexed_in end blocks 0 bytes
  last ← key_in all.1
  none_left ← demand (length last.1 == 0) (length last.1)
  Ok (record { blocks = all.0; last = last.0 })

abbrev pub counted_to : {X : Type 0} → ℕ → Result X ℕ → Result X ℕ
counted_to end (Ok x) = Ok x
counted_to end (Err left) = Err (end - left)

-- ---- the structure

-- the index of a run of so many entries
abbrev pub structure_in : ℕ → List ℕ → Result Index ℕ
structure_in entries file = do
  footer ← footer_in entries file
  counted_to (footer_at file) (index_in (footer_number 0 file) (footer_number 2 file) (take (footer_number 1 file) (drop (footer_number 0 file) file)))

-- that of a run whose length is recorded too: the offence is where bytes lack, or are left over
abbrev pub recorded_in : ℕ → ℕ → List ℕ → Result Index ℕ
recorded_in size entries file = do
  whole ← demand (length file == size) (min (length file) size)
  structure_in entries file

-- ---- the blocks

abbrev pub counted_from : {X : Type 0} → ℕ → Result X ℕ → Result X ℕ
counted_from place (Ok x) = Ok x
counted_from place (Err at) = Err (place + at)

abbrev pub block_at : List ℕ → Indexed → List ℕ
block_at file b = take b.size (drop b.place file)

-- the key of an entry that begins at this place is the one of the index, or the offence: its length, or else its first byte
abbrev pub key_demand : List ℕ → List ℕ → ℕ → Result (Unit {0}) ℕ
key_demand known key at = if length key == length known then demand (pointwise nat_eq key known) (at + 4) else Err at

-- the versions of a block: some, and the first has the key of the index
abbrev pub versions_at : List ℕ → Indexed → Result (List Version) ℕ
versions_at file b = do
  vs ← counted_from b.place (block_in (block_at file b))
  some ← demand (nat_le 1 (length vs)) b.place
  first ← key_demand b.key (first_key vs) (b.place + 4 + 4 * length vs)
  Ok vs

abbrev pub all_versions_in : List ℕ → List Indexed → Result (List Version) ℕ
all_versions_in file [] = Ok []
all_versions_in file (b ∷ bs) = do
  vs ← versions_at file b
  others ← all_versions_in file bs
  Ok (vs ++ others)

-- the bytes of the last entry
abbrev pub last_size : List Version → ℕ
last_size [] = 0
last_size (v ∷ []) = length (entry_bytes v)
last_size (v ∷ w ∷ vs) = last_size (w ∷ vs)

-- what is said of all versions
abbrev pub ends_in : ℕ → List ℕ → List ℕ → List Version → Result (List Version) ℕ
ends_in entries file last vs = do
  same ← key_demand last (last_key vs) (footer_number 0 file - last_size vs)
  count ← demand (length vs == entries) (footer_at file + 24)
  Ok vs

-- the versions of a run of so many entries, or the first offending place
abbrev pub run_in : ℕ → List ℕ → Result (List Version) ℕ
run_in entries file = do
  index ← structure_in entries file
  vs ← all_versions_in file index.blocks
  ends_in entries file index.last vs

-- the file is a run of so many entries, which are these versions
abbrev pub IsRunFile : ℕ → List ℕ → List Version → Type 0
IsRunFile entries file vs = run_in entries file ≡ Ok vs

-- and they are in the order of the direction
abbrev pub IsRun : Direction → ℕ → List ℕ → List Version → Type 0
IsRun direction entries file vs = IsRunFile entries file vs × IsInOrder (version_cmp direction) vs
