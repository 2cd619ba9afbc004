-- What the readers give. Want of memory says nothing of the bytes.
use Rattle.std.specs.Prelude.{◌≡◌, ℕ, ◌-◌, List, [], ◌++◌, length, Result, Ok, Err, ⊤}
use Rattle.std.specs.Borrow.{Bor}
use Rattle.mr_base.specs.declared.stop.DefAnswer.{DefAnswer}
use Rattle.mr_base.specs.declared.stop.DefAnswer.TheVariants.{Memory, Malformed}
use Rattle.mr_fields.specs.declared.stop.Offence.{Offence}
use Rattle.mr_fields.specs.declared.stop.ReadStop.{ReadStop}
use Rattle.mr_fields.specs.declared.stop.ReadStop.TheVariants as stop
use Rattle.mr_fields.specs.Fields.{Read}

-- no memory, or the offence
abbrev pub Stops : {X : Type 0} → ReadStop → Result X ℕ → Type 0
Stops stop.Memory read = ⊤
Stops (stop.Left left) read = read ≡ Err left

-- what was read, and the rest
abbrev pub Given : {X : Type 0} → Result (X × Bor (List ℕ)) ReadStop → Read X → Type 0
Given (Ok r) read = read ≡ Ok (r.0, r.1.now)
Given (Err s) read = Stops s read

-- the same of a reader that takes no memory
abbrev pub Reads : {X : Type 0} → Result (X × Bor (List ℕ)) Offence → Read X → Type 0
Reads (Ok r) read = read ≡ Ok (r.0, r.1.now)
Reads (Err o) read = read ≡ Err o.0

-- and of bytes that are lent
abbrev pub Lends : Result (Bor (List ℕ) × Bor (List ℕ)) Offence → Read (List ℕ) → Type 0
Lends (Ok r) read = read ≡ Ok (r.0.now, r.1.now)
Lends (Err o) read = read ≡ Err o.0

-- nothing stands behind, or so many bytes do
abbrev pub Ends : Result (Unit {0}) Offence → List ℕ → Type 0
Ends (Ok u) bytes = bytes ≡ []
Ends (Err o) bytes = (o.0 ≡ length bytes) × (bytes ≡ [] → ⊥)

-- what was read of the whole
abbrev pub GivesWhole : {X : Type 0} → Result X ReadStop → Result X ℕ → Type 0
GivesWhole (Ok x) read = read ≡ Ok x
GivesWhole (Err s) read = Stops s read

-- the answer that tells the place among so many bytes
abbrev pub told : ℕ → ReadStop → DefAnswer
told total stop.Memory = Memory
told total (stop.Left left) = Malformed (total - left)

-- an offence is told at its place
abbrev pub IsAnswer : {X : Type 0} → Result X ℕ → DefAnswer → Type 0
IsAnswer read Memory = ⊤
IsAnswer read (Malformed at) = read ≡ Err at

-- these in front of those that are read
abbrev pub with_front : {X : Type 0} → List X → Read (List X) → Read (List X)
with_front xs (Ok r) = Ok (xs ++ r.0, r.1)
with_front xs (Err left) = Err left
