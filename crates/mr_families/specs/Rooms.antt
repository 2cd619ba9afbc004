-- What families need for a batch, beside their list.
use Rattle.std.specs.Prelude.{◌≡◌, ℕ, ◌<◌, ◌≤◌, List, length, slice_index_or}
use Rattle.mr_wal.specs.declared.operation.Operation.{Operation}
use Rattle.mr_families.specs.declared.numbered.Numbered.{Numbered}
use Rattle.mr_families.specs.declared.need.Need.{Need}
use Rattle.mr_families.specs.Known.{one_at}
use Rattle.mr_families.specs.Batches.{entries_for, bytes_for}

abbrev pub no_need : Need
no_need = record { entries = 0; bytes = 0 }

abbrev pub need_at : List Need → ℕ → Need
need_at needs i = slice_index_or needs i no_need

-- it is what the family of the number needs for these operations
pub record IsNeed (number : ℕ) (os : List Operation) (need : Need) : Type 0 where
  pub entries : need.entries ≡ entries_for number os
  pub bytes : need.bytes ≡ bytes_for number os

-- for each family, at its place, what it needs for these operations
pub record AreNeeds (ns : List Numbered) (os : List Operation) (needs : List Need) : Type 0 where
  pub as_many : length needs ≡ length ns
  pub each : (i : ℕ) → i < length ns → IsNeed (one_at ns i).number os (need_at needs i)

-- the family has room for its own of these operations
pub record HasRoom (os : List Operation) (n : Numbered) : Type 0 where
  pub entries : entries_for n.number os ≤ n.family.memtable.entries
  pub bytes : bytes_for n.number os ≤ n.family.memtable.bytes
