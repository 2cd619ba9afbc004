-- What a writing statement leaves: its progress without the rows that it saw.
use Rattle.std.specs.Prelude.{List, [], ℕ, Result, Ok, Err}
use Rattle.mr_types.specs.declared.row.Row.{Row}
use Rattle.mr_spec.specs.declared.progress.Progress.{Progress}
use Rattle.mr_spec.specs.declared.progress.Refusal.{Refusal}
use Rattle.mr_model_changes.specs.declared.written.Written.{Written}

-- of a progress
abbrev pub left_of : Progress → Written
left_of g = record { changes = g.changes; next = g.next; count = g.count }

-- of an answer; a refusal is as it was
abbrev pub leaves : Result Progress Refusal → Result Written Refusal
leaves (Ok g) = Ok (left_of g)
leaves (Err e) = Err e

-- before the first row, among these rows
abbrev pub start_among : List Row → ℕ → Progress
start_among rows next = record { rows = rows; changes = []; next = next; count = 0 }
