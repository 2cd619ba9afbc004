-- The place of the last record that adds a run in a file, told from a place of the manifest on.
use Rattle.std.specs.Prelude.{ℕ, List, if◌then◌else◌, Result, Ok, Err}
use Rattle.mr_gate.specs.Log.{records_from, end_from, is_damaged_from}
use Rattle.mr_manifest.specs.declared.edit.Edit.{Edit}
use Rattle.mr_manifest.specs.Manifest.{records_in}
use Rattle.mr_stored.specs.Offences.{added_from}

abbrev pub added_behind : ℕ → ℕ → Result (List (ℕ × List Edit)) ℕ → ℕ
added_behind file place (Ok records) = added_from file place records
added_behind file place (Err at) = 0

abbrev pub read_from : ℕ → List ℕ → Result (List (ℕ × List Edit)) ℕ
read_from at bytes = if is_damaged_from at bytes then Err (end_from at bytes) else records_in at (records_from at bytes)
