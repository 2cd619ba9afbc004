-- The records of a manifest, what they add up to, and where it is damaged.
use Rattle.std.specs.Prelude.{◌≡◌, ◌⊎◌, ℕ, ◌+◌, ◌*◌, ◌≤◌, ◌<◌, ◌^◌, List, [], ◌∷◌, ◌++◌, length, if◌then◌else◌, Option, Some, None, Result, Ok, Err}
use Rattle.mr_base.specs.Disk.{State}
use Rattle.mr_base.specs.declared.stop.Stop.{Stop}
use Rattle.mr_base.specs.declared.stop.Stop.TheVariants.{Memory, Full, Damaged}
use Rattle.mr_base.specs.declared.stop.FullKind.TheVariants.{File}
use Rattle.mr_gate.specs.Log.{records_from, end_from, is_damaged_from}
use Rattle.mr_gate.specs.Gate.{Gate, Stands, HasNoRoom, appended, closed, full}
use Rattle.mr_manifest.specs.declared.edit.Edit.{Edit}
use Rattle.mr_manifest.specs.declared.edit.Edit.TheVariants.{RunAdded, RunDropped, LiveLog, BinlogPlace, NextFile, LastSequence, Format}
use Rattle.mr_manifest.specs.declared.live.Live.{Live}
use Rattle.mr_manifest.specs.declared.sum.Sum.{Sum}
use Rattle.mr_manifest.specs.Fields.{◌>>=◌}
use Rattle.mr_manifest.specs.Edits.{edits_size, read_edits}
use Rattle.mr_manifest.specs.Live.{no_live, live_after}
use Rattle.mr_manifest.specs.Rule.{numbers_fit}

-- ---- its records

-- a record's edits, with its place, in front of the others; an offence is told at its place in the file
abbrev pub in_front : ℕ → Result (List Edit) ℕ → Result (List (ℕ × List Edit)) ℕ → Result (List (ℕ × List Edit)) ℕ
in_front at (Ok es) (Ok rs) = Ok ((at, es) ∷ rs)
in_front at (Ok es) (Err place) = Err place
in_front at (Err place) rs = Err (at + 5 + place)

-- the edits of each body, with its record's place, the first of which is this one; or the place of the first offence
abbrev pub records_in : ℕ → List (List ℕ) → Result (List (ℕ × List Edit)) ℕ
records_in at [] = Ok []
records_in at (body ∷ bodies) = in_front at (read_edits body) (records_in (at + (5 + length body)) bodies)

-- the records of a file, or the place of the first damage: of the log, and else of a body
abbrev pub manifest_of : List ℕ → Result (List (ℕ × List Edit)) ℕ
manifest_of file = if is_damaged_from 0 file then Err (end_from 0 file) else records_in 0 (records_from 0 file)

-- ---- what they add up to

-- the live log that an edit names, and that edits name last, else this one
abbrev pub named_by : Edit → Option ℕ → Option ℕ
named_by (RunAdded family level file length entries) log = log
named_by (RunDropped file) log = log
named_by (LiveLog file) log = Some file
named_by (BinlogPlace place commits) log = log
named_by (NextFile file) log = log
named_by (LastSequence sequence) log = log
named_by (Format format) log = log

abbrev pub named : List Edit → Option ℕ → Option ℕ
named [] log = log
named (e ∷ es) log = named es (named_by e log)

abbrev pub no_records : Sum
no_records = record { live = no_live; log = None; before = None; last = []; at = None }

abbrev pub one_more : Sum → ℕ → List Edit → Sum
one_more s at es = record { live = live_after es s.live; log = named es s.log; before = s.log; last = es; at = Some at }

abbrev pub sum_of : Sum → List (ℕ × List Edit) → Sum
sum_of s [] = s
sum_of s (r ∷ rs) = sum_of (one_more s r.0 r.1) rs

-- the place of the last record where the rule on numbers doesn't hold after it
abbrev pub breach : Sum → Option ℕ → Option ℕ
breach s None = None
breach s (Some at) = if numbers_fit s.live s.before s.last then None else Some at

-- ---- the same in one pass

-- a body behind these records, and bodies one behind the other
abbrev pub one_body : Sum → ℕ → List ℕ → Result (List Edit) ℕ → Result Sum ℕ
one_body s at body (Ok es) = Ok (one_more s at es)
one_body s at body (Err place) = Err (at + 5 + place)

abbrev pub step : Sum → ℕ → List ℕ → Result Sum ℕ
step s at body = one_body s at body (read_edits body)

abbrev pub sum_from : Sum → ℕ → List (List ℕ) → Result Sum ℕ
sum_from s at [] = Ok s
sum_from s at (body ∷ bodies) = step s at body >>= λ t. sum_from t (at + (5 + length body)) bodies

-- what a reader has that goes on behind an offence
abbrev pub state : Option ℕ → Sum → Result Sum ℕ
state None s = Ok s
state (Some place) s = Err place

abbrev pub then_step : Option ℕ → Sum → ℕ → List ℕ → Result Sum ℕ
then_step offence s at body = state offence s >>= λ t. step t at body

abbrev pub judged : Sum → Result Sum ℕ
judged s = state (breach s s.at) s

abbrev pub then_judged : Option ℕ → Sum → Result Sum ℕ
then_judged offence s = state offence s >>= judged

-- what a file adds up to, or the place of its first damage
abbrev pub sum_of_file : List ℕ → Result Sum ℕ
sum_of_file file = (if is_damaged_from 0 file then Err (end_from 0 file) else sum_from no_records 0 (records_from 0 file)) >>= judged

abbrev pub TellsOffence : Result Sum ℕ → Stop → Type 0
TellsOffence read stop = (place : ℕ) × (read ≡ Err place) × (stop ≡ Damaged 0 place)

abbrev pub IsOffence : List ℕ → Stop → Type 0
IsOffence file stop = TellsOffence (sum_of_file file) stop

-- ---- a file that is a manifest

-- What is live by these bytes: they are sound, and keep the rule.
pub record IsManifest (file : List ℕ) (live : Live) : Type 0 where
  pub records : List (ℕ × List Edit)
  pub read : manifest_of file ≡ Ok records
  pub live_is : live ≡ (sum_of no_records records).live
  pub fits : breach (sum_of no_records records) (sum_of no_records records).at ≡ None

-- The first damage of these bytes is at that place: of the log, or else of a body, or else it is the rule on numbers that doesn't hold.
abbrev pub IsDamagedAt : List ℕ → ℕ → Type 0
IsDamagedAt file place = (manifest_of file ≡ Err place) ⊎ ((rs : List (ℕ × List Edit)) × (manifest_of file ≡ Ok rs) × (breach (sum_of no_records rs) (sum_of no_records rs).at ≡ Some place))

abbrev pub IsManifestDamage : List ℕ → Stop → Type 0
IsManifestDamage file stop = (place : ℕ) × IsDamagedAt file place × (stop ≡ Damaged 0 place)

-- ---- an open manifest

pub record Opened : Type 0 where
  pub gate : Gate
  pub live : Live

-- after these edits, and after a call that stopped
abbrev pub with_edits : Opened → List Edit → Opened
with_edits m es = record { gate = appended m.gate (edits_size es); live = live_after es m.live }

abbrev pub stopped : Opened → Opened
stopped m = record { gate = closed m.gate; live = m.live }

-- it stands for these bytes: its log does, and what is live is what their records add up to
pub record StandsFor (m : Opened) (file : List ℕ) : Type 0 where
  pub log : Stands m.gate file
  pub records : List (ℕ × List Edit)
  pub read : manifest_of file ≡ Ok records
  pub live_is : m.live ≡ (sum_of no_records records).live

-- these records and one more, at this place
abbrev pub with_record : ℕ → List Edit → Result (List (ℕ × List Edit)) ℕ → Result (List (ℕ × List Edit)) ℕ
with_record at es (Ok rs) = Ok (rs ++ (at, es) ∷ [])
with_record at es (Err place) = Err place

-- the records of before, or these and one more
abbrev pub IsOldOrNew : ℕ → List Edit → List ℕ → List ℕ → Type 0
IsOldOrNew at es old file = (manifest_of file ≡ manifest_of old) ⊎ (manifest_of file ≡ with_record at es (manifest_of old))

-- how many file numbers edits take: one for each run that is added, and for each log that is named
abbrev pub takes : Edit → ℕ
takes (RunAdded family level file length entries) = 1
takes (RunDropped file) = 0
takes (LiveLog file) = 1
takes (BinlogPlace place commits) = 0
takes (NextFile file) = 0
takes (LastSequence sequence) = 0
takes (Format format) = 0

abbrev pub taken : List Edit → ℕ
taken [] = 0
taken (e ∷ es) = takes e + taken es

-- there are no such numbers left, and the answer that says so
abbrev pub HasNoNumbers : Opened → List Edit → Type 0
HasNoNumbers m es = 2 ^ 63 < m.live.next_file + taken es

abbrev pub no_numbers : Opened → Stop
no_numbers m = Full File m.live.next_file (2 ^ 63)

-- the answers that come before anything is written, each where it has to: the first is that there are no numbers left
abbrev pub IsRefusal : Opened → List Edit → Stop → Type 0
IsRefusal m es stop = ((stop ≡ no_numbers m) × HasNoNumbers m es) ⊎ ((HasNoNumbers m es → ⊥) × (((stop ≡ full m.gate) × HasNoRoom m.gate (edits_size es)) ⊎ ((HasNoRoom m.gate (edits_size es) → ⊥) × (stop ≡ Memory))))

abbrev pub IsAllowed : Opened → List Edit → Type 0
IsAllowed m es = (HasNoNumbers m es → ⊥) × (HasNoRoom m.gate (edits_size es) → ⊥) × (edits_size es ≤ 2 ^ 29)

-- what a walk over all records reads
pub record WalkReads (bytes : ℕ) (old new : State) : Type 0 where
  pub asked : new.asked ≤ old.asked + (65536 + 2 * bytes)
  pub reads : 65528 * new.reads ≤ 65528 * (old.reads + 1) + (2 * bytes + 4)

-- What an opening reads, by the records and their bytes: each record's head, and the records in windows.
pub record OpeningReads (records bytes : ℕ) (old new : State) : Type 0 where
  pub asked : new.asked ≤ old.asked + (65541 + (5 * records + 2 * bytes))
  pub reads : 65528 * new.reads ≤ 65528 * (old.reads + (records + 2)) + (2 * bytes + 4)
