-- A list in chunks.
use Rattle.std.specs.Prelude.{ℕ, ◌+◌, ◌<◌, ◌≤◌, List, [], ◌∷◌, ◌++◌, length, map, get_or, zero, suc, vec_capacity}
use Rattle.std.specs.List.{AllByRecursion}
use Rattle.mr_memtable.specs.declared.piece.Piece.{Piece}
use Rattle.mr_memtable.specs.declared.slot.Slot.{Slot}
use Rattle.mr_memtable.specs.Slots.{Fits, no_slot}
use Rattle.mr_memtable.specs.declared.chunk.Chunk.{Chunk}

-- the chunks' lists, one after another
abbrev pub listed : List Chunk → List Slot
listed [] = []
listed (c ∷ cs) = c.slots.items ++ listed cs

abbrev pub sizes : List Chunk → List ℕ
sizes cs = map (λ c. length c.slots.items) cs

-- each chunk has memory for 256 slots
abbrev pub HaveRoom : List Chunk → Type 0
HaveRoom cs = AllByRecursion (λ c. 256 ≤ vec_capacity c.slots) cs

-- each chunk has memory and no slot
abbrev pub AreSpare : List Chunk → Type 0
AreSpare cs = AllByRecursion (λ c. (256 ≤ vec_capacity c.slots) × (length c.slots.items < 1)) cs

-- no chunk is empty or has more than 256 slots, and of several each is at least half full
pub record AreFilled (ns : List ℕ) : Type 0 where
  pub some : AllByRecursion (λ n. 1 ≤ n) ns
  pub most : AllByRecursion (λ n. n ≤ 256) ns
  pub half : 1 < length ns → AllByRecursion (λ n. 128 ≤ n) ns

abbrev pub sum_of : List ℕ → ℕ
sum_of [] = 0
sum_of (n ∷ ns) = n + sum_of ns

-- all their slots fit these pieces
abbrev pub AllFit : List Piece → List Chunk → Type 0
AllFit pieces cs = AllByRecursion (λ c. AllByRecursion (Fits pieces) c.slots.items) cs

-- the first slot of chunk i
abbrev pub first_slot : List Chunk → ℕ → Slot
first_slot [] i = no_slot
first_slot (c ∷ cs) zero = get_or c.slots.items 0 no_slot
first_slot (c ∷ cs) (suc i) = first_slot cs i
