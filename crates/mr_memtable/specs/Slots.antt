-- Versions in pieces of bytes.
use Rattle.std.specs.Prelude.{◌≡◌, ℕ, ◌-◌, ◌^◌, ◌<◌, ◌≤◌, Bool, false, cond, List, [], ◌∷◌, length, take, drop, get_or, true, Some, None, zero, suc, vec_capacity}
use Rattle.std.specs.List.{AllByRecursion}
use Rattle.std.specs.Ordering.{is_gt, nat_cmp}
use Rattle.std.specs.declared.cmp.Ordering.{Ordering}
use Rattle.byteorder.specs.Endian.{big_number}
use Rattle.mr_base.specs.declared.stop.Direction.{Direction}
use Rattle.mr_base.specs.declared.stop.Direction.TheVariants.{Forward, Reverse}
use Rattle.mr_iter.specs.Versions.{Version, as_version, version_cmp}
use Rattle.mr_memtable.specs.declared.piece.Piece.{Piece}
use Rattle.mr_memtable.specs.declared.slot.Slot.{Slot}

-- the bytes from one place to another
abbrev pub part : List ℕ → ℕ → ℕ → List ℕ
part bytes from to = take (to - from) (drop from bytes)

-- the bytes of piece i
abbrev pub text_in : List Piece → ℕ → List ℕ
text_in [] i = []
text_in (p ∷ ps) zero = p.bytes.items
text_in (p ∷ ps) (suc i) = text_in ps i

-- for how many bytes more the last piece has memory
abbrev pub room_in : List Piece → ℕ
room_in [] = 0
room_in (p ∷ []) = vec_capacity p.bytes - length p.bytes.items
room_in (p ∷ q ∷ ps) = room_in (q ∷ ps)

-- each of the old pieces is still at its place and begins with the bytes that it had
abbrev pub GoOn : List Piece → List Piece → Type 0
GoOn [] new = Unit {0}
GoOn (p ∷ ps) [] = ⊥
GoOn (p ∷ ps) (q ∷ qs) = (take (length p.bytes.items) q.bytes.items ≡ p.bytes.items) × GoOn ps qs

-- the version of a slot of a piece with these bytes
abbrev pub version_from : List ℕ → Slot → Version
version_from text slot = as_version (part text slot.start slot.middle) slot.sequence (cond slot.is_put (Some (part text slot.middle slot.end)) None)

abbrev pub version_at : List Piece → Slot → Version
version_at pieces slot = version_from (text_in pieces slot.piece) slot

-- the number in the first 16 bytes of a key, where missing bytes are 0
abbrev pub front_of : List ℕ → ℕ
front_of key = big_number 16 key

-- two fronts in a direction
abbrev pub front_cmp : Direction → ℕ → ℕ → Ordering
front_cmp Forward a b = nat_cmp a b
front_cmp Reverse a b = nat_cmp b a

-- each is a byte
abbrev pub AreBytes : List ℕ → Type 0
AreBytes xs = AllByRecursion (λ b. b < 256) xs

-- its places are within the bytes of a piece, and it has its key's front
pub record IsWithin (text : List ℕ) (slot : Slot) : Type 0 where
  pub key : slot.start ≤ slot.middle
  pub value : slot.middle ≤ slot.end
  pub within : slot.end ≤ length text
  pub sequence : slot.sequence < 2 ^ 64
  pub front : slot.front ≡ front_of (part text slot.start slot.middle)

-- its piece is there, and its places are within that
pub record Fits (pieces : List Piece) (slot : Slot) : Type 0 where
  pub piece : slot.piece < length pieces
  pub places : IsWithin (text_in pieces slot.piece) slot
  pub bytes : AreBytes (part (text_in pieces slot.piece) slot.start slot.middle)

-- the versions of these slots
abbrev pub versions_at : List Piece → List Slot → List Version
versions_at pieces [] = []
versions_at pieces (s ∷ ss) = version_at pieces s ∷ versions_at pieces ss

-- the slot stands before the version x
abbrev pub goes_before : Direction → List Piece → Version → Slot → Bool
goes_before direction pieces x slot = is_gt (version_cmp direction x (version_at pieces slot))

abbrev pub no_slot : Slot
no_slot = record { front = 0; piece = 0; start = 0; middle = 0; end = 0; sequence = 0; is_put = false }

-- of slots in order: the one in front of n stands before the version x, so all before it do, and the one at n doesn't
pub record IsPlace (direction : Direction) (pieces : List Piece) (x : Version) (slots : List Slot) (n : ℕ) : Type 0 where
  pub within : n ≤ length slots
  pub before : 0 < n → goes_before direction pieces x (get_or slots (n - 1) no_slot) ≡ true
  pub behind : n < length slots → goes_before direction pieces x (get_or slots n no_slot) ≡ false

-- the fronts of these slots
abbrev pub fronts_of : List Slot → List ℕ
fronts_of [] = []
fronts_of (s ∷ ss) = s.front ∷ fronts_of ss

-- the first of these numbers, where there is one
abbrev pub IsFirst : ℕ → List ℕ → Type 0
IsFirst front [] = Unit {0}
IsFirst front (f ∷ fs) = front ≡ f

-- the fronts of a chunk's slots stand side by side, with memory for 256, and the first of them once more
pub record AreFronts (front : ℕ) (fronts : List ℕ) (capacity : ℕ) (slots : List Slot) : Type 0 where
  pub same : fronts ≡ fronts_of slots
  pub first : IsFirst front fronts
  pub room : 256 ≤ capacity
