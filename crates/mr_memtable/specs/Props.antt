-- Each of these facts has one proof.
use Rattle.std.specs.Prelude.{ℕ, List, ◌<◌, ◌≤◌, vec_capacity, length}
use Rattle.std.specs.List.{AllByRecursion, AllByRecursion-prop}
use Rattle.std.proofs.Props.{props}
use Rattle.mr_base.specs.declared.stop.Direction.{Direction}
use Rattle.mr_iter.specs.Versions.{version_cmp}
use Rattle.mr_iter.specs.Order.{IsInOrder-prop}
use Rattle.mr_memtable.specs.declared.piece.Piece.{Piece}
use Rattle.mr_memtable.specs.declared.slot.Slot.{Slot}
use Rattle.mr_memtable.specs.declared.chunk.Chunk.{Chunk}
use Rattle.mr_memtable.specs.Slots.{Fits, IsWithin, part, text_in}
use Rattle.mr_memtable.specs.Chunks.{AreFilled, sizes}
use Rattle.mr_memtable.specs.Tables.{IsKept, IsStanding, versions_in}

within-prop : (text : List ℕ) (s : Slot) → IsProp (IsWithin text s)
within-prop text s = hlevel props

fits-prop : (pieces : List Piece) (s : Slot) → IsProp (Fits pieces s)
fits-prop pieces s = hlevel (props, within-prop (text_in pieces s.piece) s, AllByRecursion-prop (λ b. b < 256) (λ b. hlevel props) (part (text_in pieces s.piece) s.start s.middle))

filled-prop : (ns : List ℕ) → IsProp (AreFilled ns)
filled-prop ns = hlevel (props, AllByRecursion-prop (λ n. 1 ≤ n) (λ n. hlevel props) ns, AllByRecursion-prop (λ n. n ≤ 256) (λ n. hlevel props) ns, AllByRecursion-prop (λ n. 128 ≤ n) (λ n. hlevel props) ns)

pub IsStanding-prop : (ns : List ℕ) (chunk at : ℕ) → IsProp (IsStanding ns chunk at)
IsStanding-prop ns chunk at = hlevel props

pub IsKept-prop : (d : Direction) (pieces : List Piece) (chunks spares : List Chunk) (count entries free most_chunks : ℕ) → IsProp (IsKept d pieces chunks spares count entries free most_chunks)
IsKept-prop d pieces chunks spares count entries free most_chunks = hlevel (
  props,
  AllByRecursion-prop (λ (c : Chunk). AllByRecursion (Fits pieces) c.slots.items) (λ c. AllByRecursion-prop (Fits pieces) (λ s. fits-prop pieces s) c.slots.items) chunks,
  IsInOrder-prop (version_cmp d) (versions_in pieces chunks),
  filled-prop (sizes chunks),
  AllByRecursion-prop (λ (c : Chunk). 256 ≤ vec_capacity c.slots) (λ c. hlevel props) chunks,
  AllByRecursion-prop (λ (c : Chunk). (256 ≤ vec_capacity c.slots) × (length c.slots.items < 1)) (λ c. hlevel props) spares,
)
