-- What the readers give.
use Rattle.std.specs.Prelude.{◌≡◌, ◌≤◌, ℕ, List, ◌++◌, Result, Ok, Err}
use Rattle.std.specs.Borrow.{Bor}
use Rattle.mr_manifest.specs.declared.edit.Edit.{Edit}
use Rattle.mr_manifest.specs.declared.stop.ReadStop.{ReadStop}
use Rattle.mr_manifest.specs.declared.stop.ReadStop.TheVariants.{Memory as NoMemory, Left}
use Rattle.mr_base.specs.declared.stop.DefAnswer.{DefAnswer}
use Rattle.mr_base.specs.declared.stop.DefAnswer.TheVariants.{Memory, Malformed}
use Rattle.mr_manifest.specs.Fields.{Read}

abbrev pub edit_given : Result (Edit × Bor (List ℕ)) ℕ → Read Edit
edit_given (Ok r) = Ok (r.0, r.1.now)
edit_given (Err left) = Err left

-- want of memory says nothing of the bytes
abbrev pub EditsGiven : Result (List Edit) ReadStop → Result (List Edit) ℕ → Type 0
EditsGiven (Ok es) read = read ≡ Ok es
EditsGiven (Err NoMemory) read = Unit {0}
EditsGiven (Err (Left left)) read = read ≡ Err left

-- these edits in front of those that are read
abbrev pub with_front : List Edit → Result (List Edit) ℕ → Result (List Edit) ℕ
with_front es (Ok more) = Ok (es ++ more)
with_front es (Err left) = Err left

-- an offence is told at its place
abbrev pub IsAnswer : Result (List Edit) ℕ → DefAnswer → Type 0
IsAnswer read Memory = Unit {0}
IsAnswer read (Malformed at) = read ≡ Err at

-- and stands in the bytes, or at their end
abbrev pub IsWithin : ℕ → DefAnswer → Type 0
IsWithin n Memory = Unit {0}
IsWithin n (Malformed at) = at ≤ n
