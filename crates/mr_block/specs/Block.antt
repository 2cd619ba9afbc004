-- A block as bytes, and the block that bytes are. Numbers are big-endian.
--   block   count u32, a place u32 for each entry, the entries without gaps
--   entry   key length u32, key, sequence u64, kind u8: 1 for a put, 2 for a deletion; value length u32, value; a deletion's is empty
use Rattle.std.specs.Prelude.{◌≡◌, ℕ, ◌+◌, ◌*◌, ◌-◌, ◌/◌, ◌==◌, ◌&&◌, Bool, true, false, zero, suc, List, [], ◌∷◌, ◌++◌, length, drop, if◌then◌else◌, nat_le, not, Option, Some, None, is_some, unwrap_or, Result, Ok, Err}
use Rattle.byteorder.specs.Endian.{big_bytes, big_number}
use Rattle.mr_iter.specs.Versions.{Version, as_version}
use Rattle.mr_block.specs.Fields.{Read, ◌>>=◌, number_in, bytes_in}

-- ---- the bytes of a block

abbrev pub kind_byte : Bool → ℕ
kind_byte put = if put then 1 else 2

abbrev pub entry_bytes : Version → List ℕ
entry_bytes v = big_bytes 4 (length v.key) ++ (v.key ++ (big_bytes 8 v.sequence ++ (kind_byte (is_some v.put) ∷ (big_bytes 4 (length (unwrap_or v.put [])) ++ unwrap_or v.put []))))

abbrev pub entries_bytes : List Version → List ℕ
entries_bytes [] = []
entries_bytes (v ∷ vs) = entry_bytes v ++ entries_bytes vs

-- the places of the entries, of which the first begins at this one
abbrev pub places_bytes : ℕ → List Version → List ℕ
places_bytes at [] = []
places_bytes at (v ∷ vs) = big_bytes 4 at ++ places_bytes (at + length (entry_bytes v)) vs

abbrev pub block_bytes : List Version → List ℕ
block_bytes vs = big_bytes 4 (length vs) ++ (places_bytes (4 + 4 * length vs) vs ++ entries_bytes vs)

-- ---- the block of bytes

-- whether it is a put
abbrev pub kind_in : List ℕ → Read Bool
kind_in [] = Err 0
kind_in (b ∷ bytes) = if b == 1 then Ok (true, bytes) else (if b == 2 then Ok (false, bytes) else Err (length (b ∷ bytes)))

-- a deletion's value is empty
abbrev pub value_length_in : Bool → List ℕ → Read ℕ
value_length_in put bytes = do
  size ← number_in 4 bytes
  if put then Ok size else (if size.0 == 0 then Ok size else Err (length bytes))

abbrev pub value_of : Bool → List ℕ → Option (List ℕ)
value_of put value = if put then Some value else None

abbrev pub key_in : List ℕ → Read (List ℕ)
key_in bytes = do
  size ← number_in 4 bytes
  bytes_in size.0 size.1

abbrev pub entry_in : List ℕ → Read Version
entry_in bytes = do
  size ← number_in 4 bytes
  key ← bytes_in size.0 size.1
  sequence ← number_in 8 key.1
  put ← kind_in sequence.1
  count ← value_length_in put.0 put.1
  value ← bytes_in count.0 count.1
  Ok (as_version key.0 sequence.0 (value_of put.0 value.0), value.1)

abbrev pub with_first : Version → Result (List Version) ℕ → Result (List Version) ℕ
with_first v (Ok vs) = Ok (v ∷ vs)
with_first v (Err at) = Err at

abbrev pub entry_then : ℕ → (List ℕ → Result (List Version) ℕ) → Read Version → Result (List Version) ℕ
entry_then total more (Ok r) = with_first r.0 (more r.1)
entry_then total more (Err left) = Err (total - left)

-- So many entries of a block, which are the rest of its bytes, where the place of the first of them stands at p. An error is a place in the
-- block. The place of an entry is judged once the entry before it is whole.
abbrev pub entries_in : List ℕ → ℕ → ℕ → List ℕ → Result (List Version) ℕ
entries_in block zero p [] = Ok []
entries_in block zero p (b ∷ rest) = Err (length block - length (b ∷ rest))
entries_in block (suc n) p rest = if big_number 4 (drop p block) == (length block - length rest) then entry_then (length block) (entries_in block n (p + 4)) (entry_in rest) else Err p

-- the first offence where the places of so many entries aren't whole
abbrev pub short_at : ℕ → List ℕ → ℕ
short_at count places = if nat_le 4 (length places) && not (big_number 4 places == (4 + 4 * count)) then 4 else (4 + 4 * (length places / 4))

abbrev pub behind_count : List ℕ → Read ℕ → Result (List Version) ℕ
behind_count block (Err left) = Err 0
behind_count block (Ok r) = if nat_le (4 * r.0) (length r.1) then entries_in block r.0 4 (drop (4 * r.0) r.1) else Err (short_at r.0 r.1)

-- the versions of a block, or the first offending place
abbrev pub block_in : List ℕ → Result (List Version) ℕ
block_in block = behind_count block (number_in 4 block)

abbrev pub list_of : Result (List Version) ℕ → List Version
list_of (Ok vs) = vs
list_of (Err at) = []

-- the bytes are a block
abbrev pub IsBlock : List ℕ → Type 0
IsBlock block = block_in block ≡ Ok (list_of (block_in block))

-- whether it was read, or the offence
abbrev pub outcome : {X : Type 0} → Result X ℕ → Result (Unit {0}) ℕ
outcome (Ok x) = Ok tt
outcome (Err at) = Err at

abbrev pub no_version : Version
no_version = as_version [] 0 None
