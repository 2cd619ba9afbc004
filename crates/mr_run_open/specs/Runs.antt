-- What an open run is, and in which of its blocks a key can stand.
use Rattle.std.specs.Prelude.{◌≡◌, ◌&&◌, ℕ, ◌+◌, ◌-◌, ◌^◌, ◌<◌, Bool, true, not, List, [], ◌∷◌, get_or, take, drop, Ok, Err}
use Rattle.std.specs.List.{list_all, prefix_len}
use Rattle.std.specs.Ordering.{is_lt, is_gt}
use Rattle.mr_base.specs.Disk.{State, Tells, Image, HasRisen, seen}
use Rattle.mr_base.specs.declared.stop.Direction.{Direction}
use Rattle.mr_base.specs.declared.stop.Stop.{Stop}
use Rattle.mr_base.specs.declared.stop.Stop.TheVariants.{Memory, Disk, Full, Damaged}
use Rattle.mr_iter.specs.Versions.{key_cmp}
use Rattle.mr_iter.specs.declared.run.RunInfo.{RunInfo}
use Rattle.mr_run_file.specs.Reading.{Indexed, Index, recorded_in, footer_in, footer_number}

-- its file, the file's length and the number of its entries as they are recorded, its direction, and its index
pub record RunState : Type 0 where
  pub file : ℕ
  pub length : ℕ
  pub entries : ℕ
  pub direction : Direction
  pub index : Index

-- The file has the recorded length, and by its structure this index.
abbrev pub HasIndex : RunState → Image → Type 0
HasIndex r image = recorded_in r.length r.entries (image r.file) ≡ Ok r.index

abbrev pub opened : RunInfo → Direction → Index → RunState
opened info direction index = record { file = info.file; length = info.length; entries = info.entries; direction = direction; index = index }

-- the footer of a run of so many entries, and what it says of the index
pub record IsFooter (entries : ℕ) (file : List ℕ) (place size blocks : ℕ) : Type 0 where
  pub fields : footer_in entries file ≡ Ok tt
  pub place_is : place ≡ footer_number 0 file
  pub size_is : size ≡ footer_number 1 file
  pub blocks_are : blocks ≡ footer_number 2 file

-- its places are numbers of 8 bytes
abbrev pub IsWithin : Indexed → Type 0
IsWithin b = b.place + b.size < 2 ^ 64

-- a stop of an opening and its cause: damage is that of this file, and where its contents are told the first offence of its structure
abbrev pub OpenStops : ℕ → ℕ → ℕ → State → State → Stop → Type 0
OpenStops file size entries old new Memory = Unit {0}
OpenStops file size entries old new Disk = HasRisen old.faults new.faults
OpenStops file size entries old new (Full what at limit) = ⊥
OpenStops file size entries old new (Damaged f at) = (f ≡ file) × (Tells old → recorded_in size entries (seen old file) ≡ Err at)

abbrev pub no_block : Indexed
no_block = record { place = 0; size = 0; key = [] }

abbrev pub first_of : Index → List ℕ
first_of index = (get_or index.blocks 0 no_block).key

-- ---- where a key can stand, by the first keys of the blocks alone

abbrev pub is_before : Direction → List ℕ → Indexed → Bool
is_before d key b = is_lt (key_cmp d b.key key)

abbrev pub is_upto : Direction → List ℕ → Indexed → Bool
is_upto d key b = not (is_gt (key_cmp d b.key key))

-- the last block whose first key comes before the key, or the first of all
abbrev pub first_block : Direction → List ℕ → List Indexed → ℕ
first_block d key bs = prefix_len (is_before d key) bs - 1

-- the first block whose first key comes behind the key, or the number of all
abbrev pub behind_block : Direction → List ℕ → List Indexed → ℕ
behind_block d key bs = prefix_len (is_upto d key) bs

-- the blocks in which the key can stand
abbrev pub blocks_with : Direction → List ℕ → List Indexed → List Indexed
blocks_with d key bs = take (behind_block d key bs - first_block d key bs) (drop (first_block d key bs) bs)

-- no first key comes behind a later one
abbrev pub are_in_order : Direction → List Indexed → Bool
are_in_order d [] = true
are_in_order d (b ∷ bs) = list_all (λ c. is_upto d c.key b) bs && are_in_order d bs
