-- Runs of a level that overlap, by their ends.
use Rattle.std.specs.Prelude.{ℕ, Bool, false, ◌&&◌, ◌||◌, ◌==◌, not, nat_lt, if◌then◌else◌, List, [], ◌∷◌, ◌++◌, Option, Some, None}
use Rattle.mr_manifest.specs.declared.live.LiveRun.{LiveRun}
use Rattle.mr_stored.specs.Offences.{is_less}
use Rattle.mr_run_judge.specs.declared.ends.Ends.{Ends}

abbrev pub lie_beside : Ends → Ends → Bool
lie_beside a b = is_less a.highest b.lowest || is_less b.highest a.lowest

abbrev pub meet : Ends → Ends → Bool
meet a b = (a.run.family == b.run.family) && ((a.run.level == b.run.level) && (nat_lt 0 a.run.level && not (lie_beside a b)))

-- one of these meets this one
abbrev pub meets_one : Ends → List Ends → Bool
meets_one one [] = false
meets_one one (other ∷ others) = meet one other || meets_one one others

-- the file of the first one that meets one before it
abbrev pub first_meeting : List Ends → List Ends → Option ℕ
first_meeting before [] = None
first_meeting before (e ∷ es) = if meets_one e before then Some e.run.file else first_meeting (before ++ e ∷ []) es

-- ---- each run's ends, by the run

abbrev pub is_run : LiveRun → LiveRun → Bool
is_run a b = (a.file == b.file) && ((a.family == b.family) && ((a.level == b.level) && ((a.length == b.length) && (a.entries == b.entries))))

abbrev pub is_listed : LiveRun → List LiveRun → Bool
is_listed run [] = false
is_listed run (other ∷ others) = is_run run other || is_listed run others

abbrev pub runs_of_ends : List Ends → List LiveRun
runs_of_ends [] = []
runs_of_ends (e ∷ es) = e.run ∷ runs_of_ends es
