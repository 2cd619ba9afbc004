-- This fact has one proof.
use Rattle.std.specs.Prelude.{ℕ, List, [], ◌∷◌}
use Rattle.std.proofs.Props.{props}
use Rattle.mr_memtable.specs.declared.slot.Slot.{Slot}
use Rattle.mr_memtable.specs.Slots.{IsFirst, AreFronts}

first-prop : (front : ℕ) (fs : List ℕ) → IsProp (IsFirst front fs)
first-prop front [] = hlevel props
first-prop front (f ∷ fs) = hlevel props

pub AreFronts-prop : (front : ℕ) (fronts : List ℕ) (capacity : ℕ) (slots : List Slot) → IsProp (AreFronts front fronts capacity slots)
AreFronts-prop front fronts capacity slots = hlevel (props, first-prop front fronts)
