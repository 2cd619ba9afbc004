-- What edits add up to.
use Rattle.std.specs.Prelude.{ℕ, ◌==◌, List, [], ◌∷◌, ◌++◌, if◌then◌else◌}
use Rattle.mr_manifest.specs.declared.edit.Edit.{Edit}
use Rattle.mr_manifest.specs.declared.edit.Edit.TheVariants.{RunAdded, RunDropped, LiveLog, BinlogPlace, NextFile, LastSequence, Format}
use Rattle.mr_manifest.specs.declared.live.Live.{Live}
use Rattle.mr_manifest.specs.declared.live.LiveRun.{LiveRun}

-- without an edit
abbrev pub no_live : Live
no_live = record { runs = []; log = 0; place = 0; commits = 0; next_file = 0; last_sequence = 0; format = 0 }

-- the runs but those in this file
abbrev pub without : ℕ → List LiveRun → List LiveRun
without file [] = []
without file (run ∷ runs) = if run.file == file then without file runs else run ∷ without file runs

abbrev pub with_runs : List LiveRun → Live → Live
with_runs runs l = record { runs = runs; log = l.log; place = l.place; commits = l.commits; next_file = l.next_file; last_sequence = l.last_sequence; format = l.format }

-- after one edit. A run that isn't there is dropped without effect.
abbrev pub apply : Edit → Live → Live
apply (RunAdded family level file length entries) l = with_runs (l.runs ++ record { family = family; level = level; file = file; length = length; entries = entries } ∷ []) l
apply (RunDropped file) l = with_runs (without file l.runs) l
apply (LiveLog file) l = record { runs = l.runs; log = file; place = l.place; commits = l.commits; next_file = l.next_file; last_sequence = l.last_sequence; format = l.format }
apply (BinlogPlace place commits) l = record { runs = l.runs; log = l.log; place = place; commits = commits; next_file = l.next_file; last_sequence = l.last_sequence; format = l.format }
apply (NextFile file) l = record { runs = l.runs; log = l.log; place = l.place; commits = l.commits; next_file = file; last_sequence = l.last_sequence; format = l.format }
apply (LastSequence sequence) l = record { runs = l.runs; log = l.log; place = l.place; commits = l.commits; next_file = l.next_file; last_sequence = sequence; format = l.format }
apply (Format format) l = record { runs = l.runs; log = l.log; place = l.place; commits = l.commits; next_file = l.next_file; last_sequence = l.last_sequence; format = format }

-- after edits, the first of them first
abbrev pub live_after : List Edit → Live → Live
live_after [] l = l
live_after (e ∷ es) l = live_after es (apply e l)
