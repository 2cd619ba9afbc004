-- A walk of a log up to a place, and what it finds at the end.
use Rattle.std.specs.Prelude.{◌≡◌, ◌≢◌, ◌⊎◌, ℕ, ◌+◌, ◌<◌, false, List, [], length, get_or, drop}
use Rattle.mr_gate.specs.declared.opening.Found.{Found}
use Rattle.mr_gate.specs.Log.{walk, span, records_from, end_from, is_damaged_from}

-- so many records are passed, and what is left ends where all end
pub record Walked (from : ℕ) (file : List ℕ) (place records : ℕ) : Type 0 where
  pub end : place + span (walk 0 (drop place file)) ≡ end_from from file
  pub count : records + length (walk 0 (drop place file)) ≡ length (records_from from file)

-- the records end there without damage, there are so many, and that is the gate there
pub record IsFound (from : ℕ) (file : List ℕ) (found : Found) : Type 0 where
  pub sound : is_damaged_from from file ≡ false
  pub place : found.place ≡ end_from from file
  pub count : found.records ≡ length (records_from from file)
  pub gate : found.place < length file → found.gate ≡ get_or file found.place 0

-- a closed gate stands there, or one that is the file's last byte
abbrev pub EndsAt : ℕ → List ℕ → Type 0
EndsAt end file = (get_or file end 0 ≢ 167) ⊎ (drop (end + 1) file ≡ [])
