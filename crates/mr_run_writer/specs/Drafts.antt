-- A run that is being written: what its writer holds, and what its file has.
use Rattle.std.specs.Prelude.{◌≡◌, ℕ, ◌+◌, ◌<◌, ◌^◌, Bool, true, false, List, [], ◌∷◌, ◌++◌, length, Result}
use Rattle.std.specs.List.{AllByRecursion}
use Rattle.mr_iter.specs.Versions.{Version, joined}
use Rattle.mr_block.specs.Fields.{◌>>=◌}
use Rattle.mr_block.specs.Block.{block_bytes, list_of}
use Rattle.mr_run_file.specs.Format.{first_key, last_key, blocks_bytes, all_indexed_bytes, run_bytes}
use Rattle.mr_run_file.specs.Reading.{all_indexed_in, all_versions_in, IsRunFile}
use Rattle.mr_run_file.specs.Written.{ReadsBack}
use Rattle.mr_run_writer.specs.Buffers.{EndsAt, with_held}
use Rattle.mr_run_writer.specs.Cuts.{IsClosed, AreCut}
use Rattle.mr_run_writer.specs.declared.writer.RunWriter.{RunWriter}

-- the versions in so many blocks, by their entries of an index
abbrev pub versions_in_blocks : ℕ → List ℕ → List ℕ → Result (List Version) ℕ
versions_in_blocks count index bytes = do
  all ← all_indexed_in (length bytes) count 0 index
  all_versions_in bytes all.0

-- the bytes of the blocks that were closed, where the file has these
abbrev pub closed_bytes : RunWriter → List ℕ → List ℕ
closed_bytes w file = with_held w.buffer.written w.buffer.held.items file

-- the versions that were added, where the file has these bytes
abbrev pub versions_of : RunWriter → List ℕ → List Version
versions_of w file = list_of (versions_in_blocks w.index.blocks w.index.bytes.items (closed_bytes w file)) ++ w.block.versions

abbrev pub is_nil : List Version → Bool
is_nil [] = true
is_nil (v ∷ vs) = false

-- these are the blocks that were closed
pub record IsDraft (w : RunWriter) (file : List ℕ) (blocks : List (List Version)) : Type 0 where
  pub end : EndsAt w.buffer.written file
  pub bytes : closed_bytes w file ≡ blocks_bytes blocks
  pub small : length (blocks_bytes blocks) < 2 ^ 64
  pub index : w.index.bytes.items ≡ all_indexed_bytes 0 blocks
  pub count : w.index.blocks ≡ length blocks
  pub back : AllByRecursion ReadsBack blocks
  pub entries : w.entries ≡ length (joined blocks) + length w.block.versions
  pub empty : w.block.is_empty ≡ is_nil w.block.versions
  pub first : is_nil w.block.versions ≡ false → w.block.first.items ≡ first_key w.block.versions
  pub last : w.last.items ≡ last_key (joined blocks ++ w.block.versions)

-- the writer's file is as its last call left it
pub record Stands (w : RunWriter) (file : List ℕ) : Type 0 where
  pub blocks : List (List Version)
  pub draft : IsDraft w file blocks
  pub closed : AllByRecursion IsClosed blocks
  pub open_block : length (block_bytes w.block.versions) < 4096

-- it has closed its last block, and these are all versions
pub record IsEnded (w : RunWriter) (file : List ℕ) (vs : List Version) : Type 0 where
  pub blocks : List (List Version)
  pub draft : IsDraft w file blocks
  pub none_open : w.block.versions ≡ []
  pub cut : AreCut blocks
  pub list : joined blocks ≡ vs

-- the file is the run of these versions, cut into blocks by their lengths
pub record IsWritten (file : List ℕ) (vs : List Version) : Type 0 where
  pub blocks : List (List Version)
  pub bytes : file ≡ run_bytes blocks
  pub list : joined blocks ≡ vs
  pub cut : AreCut blocks
  pub read : IsRunFile (length vs) file vs
