-- A block that is being made.
use Rattle.std.specs.Prelude.{◌≡◌, ℕ, ◌+◌, ◌^◌, ◌<◌, zero, suc, List, [], ◌∷◌, ◌++◌, length, unwrap_or, Ok, Err}
use Rattle.std.specs.List.{AllByRecursion}
use Rattle.byteorder.specs.Endian.{big_bytes}
use Rattle.mr_iter.specs.Versions.{Version}
use Rattle.mr_block.specs.Fields.{Read}
use Rattle.mr_block.specs.Block.{entry_bytes, entries_bytes, entry_in}

-- where the entries begin, of which the first begins at this place
abbrev pub offsets_from : ℕ → List Version → List ℕ
offsets_from at [] = []
offsets_from at (v ∷ vs) = at ∷ offsets_from (at + length (entry_bytes v)) vs

-- these places, counted from the start
abbrev pub placed : ℕ → List ℕ → List ℕ
placed start [] = []
placed start (o ∷ os) = big_bytes 4 (start + o) ++ placed start os

-- its lengths and its number are in their fields
pub record FitsEntry (v : Version) : Type 0 where
  pub key : length v.key < 2 ^ 32
  pub sequence : v.sequence < 2 ^ 64
  pub value : length (unwrap_or v.put []) < 2 ^ 32

-- these versions were added: the bytes of their entries, and where each begins among these
pub record IsBuilt (entries offsets : List ℕ) (vs : List Version) : Type 0 where
  pub bytes : entries ≡ entries_bytes vs
  pub places : offsets ≡ offsets_from 0 vs
  pub fits : AllByRecursion FitsEntry vs

abbrev pub version_then : (List ℕ → List Version) → Read Version → List Version
version_then more (Ok r) = r.0 ∷ more r.1
version_then more (Err left) = []

-- so many versions whose entries stand in front
abbrev pub versions_in : ℕ → List ℕ → List Version
versions_in zero entries = []
versions_in (suc n) entries = version_then (versions_in n) (entry_in entries)
