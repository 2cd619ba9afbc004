-- A run as bytes. Numbers are big-endian.
--   run     blocks, at least one and none of them empty, one after the other; index; footer
--   index   for each block: place u64, length u32, its first key; then the last key of the run
--   key     length u32, key
--   footer  40 bytes: place of the index u64, its length u64, blocks u64, entries u64, the 8 bytes MRRUN001
use Rattle.std.specs.Prelude.{ℕ, ◌+◌, List, [], ◌∷◌, ◌++◌, length}
use Rattle.byteorder.specs.Endian.{big_bytes}
use Rattle.mr_iter.specs.Versions.{Version, joined}
use Rattle.mr_block.specs.Block.{block_bytes}

abbrev pub first_key : List Version → List ℕ
first_key [] = []
first_key (v ∷ vs) = v.key

abbrev pub last_key : List Version → List ℕ
last_key [] = []
last_key (v ∷ []) = v.key
last_key (v ∷ w ∷ vs) = last_key (w ∷ vs)

abbrev pub key_bytes : List ℕ → List ℕ
key_bytes key = big_bytes 4 (length key) ++ key

abbrev pub blocks_bytes : List (List Version) → List ℕ
blocks_bytes [] = []
blocks_bytes (vs ∷ vss) = block_bytes vs ++ blocks_bytes vss

-- the entry of the index for a block that begins at this place
abbrev pub indexed_bytes : ℕ → List Version → List ℕ
indexed_bytes at vs = big_bytes 8 at ++ (big_bytes 4 (length (block_bytes vs)) ++ key_bytes (first_key vs))

-- those of these blocks, of which the first begins at this place
abbrev pub all_indexed_bytes : ℕ → List (List Version) → List ℕ
all_indexed_bytes at [] = []
all_indexed_bytes at (vs ∷ vss) = indexed_bytes at vs ++ all_indexed_bytes (at + length (block_bytes vs)) vss

abbrev pub index_bytes : List (List Version) → List ℕ
index_bytes vss = all_indexed_bytes 0 vss ++ key_bytes (last_key (joined vss))

-- MRRUN001
abbrev pub format_name : List ℕ
format_name = 77 ∷ 82 ∷ 82 ∷ 85 ∷ 78 ∷ 48 ∷ 48 ∷ 49 ∷ []

abbrev pub footer_bytes : ℕ → ℕ → ℕ → ℕ → List ℕ
footer_bytes place size blocks entries = big_bytes 8 place ++ (big_bytes 8 size ++ (big_bytes 8 blocks ++ (big_bytes 8 entries ++ format_name)))

-- the run of these blocks
abbrev pub run_bytes : List (List Version) → List ℕ
run_bytes vss = blocks_bytes vss ++ (index_bytes vss ++ footer_bytes (length (blocks_bytes vss)) (length (index_bytes vss)) (length vss) (length (joined vss)))
