-- A walk over a log's records that keeps a window of the file's bytes.
use Rattle.std.specs.Prelude.{◌≡◌, ℕ, ◌+◌, ◌-◌, ◌*◌, ◌≤◌, false, List, [], ◌∷◌, length, take, drop, min, Option, Some, None}
use Rattle.mr_base.specs.Disk.{State}
use Rattle.mr_gate.specs.Log.{records_from, is_damaged_from}

-- bytes of a file from this place on
pub record Held : Type 0 where
  pub start : ℕ
  pub bytes : List ℕ

-- as far as the file goes they are its own
abbrev pub IsHeld : Held → List ℕ → Type 0
IsHeld held file = take (min 65532 (length file - held.start)) held.bytes ≡ take (min 65532 (length file - held.start)) (drop held.start file)

-- a walk: its file and the length that it has, the place of the next record, and the window
pub record Walk : Type 0 where
  pub file : ℕ
  pub length : ℕ
  pub place : ℕ
  pub window : Held

-- the walk goes over these bytes
pub record Walks (walk : Walk) (file : List ℕ) : Type 0 where
  pub length : walk.length ≡ length file
  pub window : IsHeld walk.window file

-- What has been paid for, up to a constant, is both how far the window went and how far the walk did.
abbrev pub paid : Walk → ℕ
paid walk = walk.window.start + walk.place

-- Calls that ask for at most as many bytes as one number is above another, and for at least 65,528 with each read.
pub record IsPaid (before after : ℕ) (old new : State) : Type 0 where
  pub asked : new.asked + before ≤ old.asked + after
  pub reads : 65528 * new.reads + before ≤ 65528 * old.reads + after

-- What a step finds at its place: the end of the records without damage, or a record, behind which the walk goes on.
abbrev pub IsStep : Walk → Walk → List ℕ → Option (ℕ × List ℕ) → Type 0
IsStep old new file None = (records_from old.place file ≡ []) × (is_damaged_from old.place file ≡ false) × (new.place ≡ old.place)
IsStep old new file (Some r) = (records_from old.place file ≡ r.1 ∷ records_from new.place file)
