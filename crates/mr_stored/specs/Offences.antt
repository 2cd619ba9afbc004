-- The first offence of a store's files: of the manifest and the live log, then of the structure of each live run, then runs of a level that
-- overlap, then a block of family 0, and last a family without a record.
use Rattle.std.specs.Prelude.{◌≡◌, ◌⊎◌, ℕ, Bool, false, ◌&&◌, ◌||◌, ◌==◌, not, nat_lt, if◌then◌else◌, List, [], ◌∷◌, Option, Some, None, Result, Ok, Err}
use Rattle.std.specs.Cmp.Lexicographic.{slice_cmp}
use Rattle.std.specs.List.{AllByRecursion}
use Rattle.std.specs.declared.cmp.Ordering.{Ordering}
use Rattle.std.specs.Ordering.{nat_cmp, is_lt, on, then_cmp}
use Rattle.mr_base.specs.Disk.{Image}
use Rattle.mr_base.specs.declared.stop.Direction.TheVariants.{Forward}
use Rattle.mr_iter.specs.Versions.{in_order}
use Rattle.mr_run_file.specs.Reading.{Index, recorded_in}
use Rattle.mr_run_open.specs.Runs.{RunState, first_of}
use Rattle.mr_run_open.specs.Blocks.{AreBlocks}
use Rattle.mr_levels.specs.Levels.{runs as runs_by_level, HasOffence}
use Rattle.mr_manifest.specs.declared.edit.Edit.{Edit}
use Rattle.mr_manifest.specs.declared.edit.Edit.TheVariants.{RunAdded, RunDropped, LiveLog, BinlogPlace, NextFile, LastSequence, Format}
use Rattle.mr_manifest.specs.declared.live.LiveRun.{LiveRun}
use Rattle.mr_manifest.specs.Manifest.{manifest_of}
use Rattle.mr_stored.specs.Said.{Place, Said, ◌>>=◌, in_file, said}
use Rattle.mr_stored.specs.Lists.{index_in, levels_of, AreNamed}

-- ---- the structure of the runs, by family, level and file

abbrev pub run_cmp : LiveRun → LiveRun → Ordering
run_cmp = then_cmp (on (λ (r : LiveRun). r.family) nat_cmp) (then_cmp (on (λ (r : LiveRun). r.level) nat_cmp) (on (λ (r : LiveRun). r.file) nat_cmp))

abbrev pub structures : Image → List LiveRun → Result (Unit {0}) Place
structures image [] = Ok tt
structures image (run ∷ runs) = in_file run.file (recorded_in run.length run.entries (image run.file)) >>= λ index. structures image runs

abbrev pub structure_judged : Image → List LiveRun → Result (Unit {0}) Place
structure_judged image runs = structures image (in_order run_cmp runs)

-- ---- runs of a level that overlap, by the bytes of their first and last keys

abbrev pub is_less : List ℕ → List ℕ → Bool
is_less a b = is_lt (slice_cmp nat_cmp a b)

abbrev pub lowest : Index → List ℕ
lowest i = if is_less i.last (first_of i) then i.last else first_of i

abbrev pub highest : Index → List ℕ
highest i = if is_less i.last (first_of i) then first_of i else i.last

abbrev pub are_beside : Index → Index → Bool
are_beside i j = is_less (highest i) (lowest j) || is_less (highest j) (lowest i)

abbrev pub overlap : Image → LiveRun → LiveRun → Bool
overlap image r t = (r.family == t.family) && ((r.level == t.level) && (nat_lt 0 r.level && not (are_beside (index_in image r) (index_in image t))))

-- one of these runs overlaps this one
abbrev pub overlaps_one : Image → LiveRun → List LiveRun → Bool
overlaps_one image run [] = false
overlaps_one image run (other ∷ others) = overlap image run other || overlaps_one image run others

-- the file of the first run that overlaps one that was added before it
abbrev pub first_overlap : Image → List LiveRun → List LiveRun → Option ℕ
first_overlap image before [] = None
first_overlap image before (run ∷ runs) = if overlaps_one image run before then Some run.file else first_overlap image (run ∷ before) runs

-- the edit adds a run in this file, and one of these edits does
abbrev pub adds : ℕ → Edit → Bool
adds file (RunAdded family level added length entries) = added == file
adds file (RunDropped dropped) = false
adds file (LiveLog log) = false
adds file (BinlogPlace place commits) = false
adds file (NextFile next) = false
adds file (LastSequence sequence) = false
adds file (Format format) = false

abbrev pub add : ℕ → List Edit → Bool
add file [] = false
add file (e ∷ es) = adds file e || add file es

-- the place of the last record of the manifest that adds a run in this file
abbrev pub added_from : ℕ → ℕ → List (ℕ × List Edit) → ℕ
added_from file place [] = place
added_from file place (r ∷ rs) = added_from file (if add file r.1 then r.0 else place) rs

abbrev pub added_in : ℕ → Result (List (ℕ × List Edit)) ℕ → ℕ
added_in file (Ok records) = added_from file 0 records
added_in file (Err place) = 0

abbrev pub overlap_place : Image → Option ℕ → Result (Unit {0}) Place
overlap_place image None = Ok tt
overlap_place image (Some file) = Err (0, added_in file (manifest_of (image 0)))

-- ---- both

abbrev pub runs_judged : Image → List LiveRun → Result (Unit {0}) Place
runs_judged image runs = structure_judged image runs >>= λ none. overlap_place image (first_overlap image [] runs)

-- ---- family 0

-- a place is an offence of a block of its runs
abbrev pub IsSystemOffence : Image → List LiveRun → Place → Type 0
IsSystemOffence image runs place = HasOffence (levels_of Forward 0 image runs) image place.0 place.1

-- they have none
abbrev pub SystemIsSound : Image → List LiveRun → Type 0
SystemIsSound image runs = AllByRecursion (λ (r : RunState). AreBlocks (image r.file) r.index.blocks) (runs_by_level (levels_of Forward 0 image runs))

-- ---- all of it

abbrev pub IsLateOffence : Image → Said → Place → Type 0
IsLateOffence image s place = IsSystemOffence image s.live.runs place ⊎ (SystemIsSound image s.live.runs × (AreNamed image s.live.runs s.logged.batches → ⊥) × (place ≡ (0, 0)))

-- this place is the first offence of the store's files
abbrev pub IsOffence : Image → Place → Type 0
IsOffence image place = (said image ≡ Err place) ⊎ ((s : Said) × (said image ≡ Ok s) × ((runs_judged image s.live.runs ≡ Err place) ⊎ ((runs_judged image s.live.runs ≡ Ok tt) × IsLateOffence image s place)))
