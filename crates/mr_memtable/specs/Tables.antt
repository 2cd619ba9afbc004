-- What a memtable means, and how it is kept.
use Rattle.std.specs.Prelude.{◌≡◌, ℕ, ◌+◌, ◌*◌, ◌-◌, ◌^◌, ◌<◌, ◌≤◌, true, List, [], length, get_or, take, drop}
use Rattle.mr_base.specs.declared.stop.Direction.{Direction}
use Rattle.mr_iter.specs.Versions.{Version, version_cmp, IsInOrder, first, is_strict}
use Rattle.mr_iter.specs.Cursors.{CursorState}
use Rattle.mr_memtable.specs.declared.piece.Piece.{Piece}
use Rattle.mr_memtable.specs.declared.chunk.Chunk.{Chunk}
use Rattle.mr_memtable.specs.Slots.{versions_at, room_in}
use Rattle.mr_memtable.specs.Chunks.{listed, sizes, sum_of, AllFit, AreFilled, HaveRoom, AreSpare}

-- Its direction, its versions in order, and the entries and the bytes of keys and values for which it has room.
pub record MemState : Type 0 where
  pub direction : Direction
  pub versions : List Version
  pub entries : ℕ
  pub bytes : ℕ

-- a cursor over these versions in memory, of which n are behind it
abbrev pub standing_at : Direction → List Version → ℕ → CursorState
standing_at direction vs n = record {
  direction = direction;
  files = [];
  versions = λ image. vs;
  current = first (drop n vs);
  rest = λ image. drop (n + 1) vs;
  steps = length vs - n;
  most = length vs;
  reads = 0;
  asked = 0;
  anew = true;
  distinct = λ image. is_strict direction vs;
  sought = λ key. true;
  reads_to = λ image key place. 0;
  asked_to = λ image key place. 0;
}

-- at the beginning
abbrev pub at_beginning : MemState → CursorState
at_beginning m = standing_at m.direction m.versions 0

abbrev pub versions_in : List Piece → List Chunk → List Version
versions_in pieces chunks = versions_at pieces (listed chunks)

-- the slots are within the pieces and in order, and there is memory for so many entries more, and for so many bytes in the last piece
pub record IsKept (direction : Direction) (pieces : List Piece) (chunks spares : List Chunk) (count entries_left bytes_left most_chunks : ℕ) : Type 0 where
  pub fit : AllFit pieces chunks
  pub ordered : IsInOrder (version_cmp direction) (versions_in pieces chunks)
  pub filled : AreFilled (sizes chunks)
  pub rooms : HaveRoom chunks
  pub spare : AreSpare spares
  pub counted : count ≡ sum_of (sizes chunks)
  pub counts : count + entries_left < 2 ^ 64
  pub entries : count + entries_left ≤ 128 * (length chunks + length spares)
  pub few : length chunks + length spares ≤ most_chunks
  pub some : 0 < entries_left → 0 < length pieces
  pub room : bytes_left ≤ room_in pieces

-- a place on a slot, or behind the last chunk
pub record IsStanding (ns : List ℕ) (chunk at : ℕ) : Type 0 where
  pub within : chunk ≤ length ns
  pub on : chunk < length ns → at < get_or ns chunk 0
  pub behind : length ns ≤ chunk → at < 1

-- how many slots are before the place
abbrev pub flat : List ℕ → ℕ → ℕ → ℕ
flat ns chunk at = sum_of (take chunk ns) + at
