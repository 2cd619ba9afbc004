-- What a reading of a store's files gives.
use Rattle.std.specs.Prelude.{◌≡◌, ◌⊎◌, ℕ, ◌+◌, ◌*◌, ◌^◌, ◌≤◌, min, if◌then◌else◌, true, false, List, is_some, Option, Some, None, Result, Ok, Err}
use Rattle.mr_base.specs.Disk.{Image, State}
use Rattle.mr_base.specs.declared.stop.Stop.{Stop}
use Rattle.mr_base.specs.declared.stop.Stop.TheVariants.{Memory, Disk, Damaged}
use Rattle.mr_gate.specs.Log.{records_from, end_from, span}
use Rattle.mr_manifest.specs.declared.sum.Sum.{Sum}
use Rattle.mr_engine_log.specs.declared.batched.Batched.{Batched}
use Rattle.mr_engine_log.specs.declared.reader.Left.{Left}
use Rattle.mr_engine_log.specs.Logged.{Logged, log_of, rest_of}
use Rattle.mr_stored.specs.Said.{Place, Said, in_file, first_judged, manifest_sum, nothing_said, said_by, said}
use Rattle.mr_stored.specs.Begun.{has_record, Says}
use Rattle.mr_store_reading.specs.declared.reading.Reading.{Reading}

-- ---- why a reading stops

-- at the disk, for want of memory, or at damage of some file
abbrev pub IsStop : Stop → Type 0
IsStop e = (e ≡ Disk) ⊎ ((e ≡ Memory) ⊎ ((file at : ℕ) × (e ≡ Damaged file at)))

-- for want of memory, or at an offence, which is told with its file and place
abbrev pub IsRefused : {X : Type 0} → Result X Place → Stop → Type 0
IsRefused read e = (e ≡ Memory) ⊎ ((place : Place) × (read ≡ Err place) × (e ≡ Damaged place.0 place.1))

-- or at the disk
abbrev pub Offends : {X : Type 0} → Result X Place → Stop → Type 0
Offends read e = (e ≡ Disk) ⊎ IsRefused read e

-- the same of a reading of one file
abbrev pub OffendsIn : {X : Type 0} → ℕ → Result X ℕ → Stop → Type 0
OffendsIn file read e = Offends (in_file file read) e

-- whether the first of these bodies is that of a new folder's first record
abbrev pub judged_first : List (List ℕ) → Result (Unit {0}) ℕ
judged_first bodies = first_judged bodies tt

-- ---- what it gives

-- what the records leave, with these batches, and what a reading says
abbrev pub logged_by : Left → List Batched → Logged
logged_by left batches = rest_of left.pending left.last left.in_turn batches

-- what the records of this log leave, with the batches that count
abbrev pub IsLogRead : ℕ → List ℕ → Left → List Batched → Type 0
IsLogRead base file left batches = (log_of base file ≡ Ok (logged_by left batches)) × (left.end ≡ end_from 0 file)

abbrev pub said_in : Reading → Said
said_in r = record { live = r.live; logged = logged_by r.left r.batches.items }

-- what the files say where the manifest's records add up to this
abbrev pub IsReadBy : Image → Sum → Option Reading → Type 0
IsReadBy image sum None = (said_by image sum ≡ Ok nothing_said) × (is_some sum.at ≡ false)
IsReadBy image sum (Some r) = (said_by image sum ≡ Ok (said_in r)) × (is_some sum.at ≡ true) × (r.left.end ≡ end_from 0 (image r.live.log))

-- what the files say; none is an empty folder
abbrev pub IsReadFrom : Image → Option Reading → Type 0
IsReadFrom image None = (said image ≡ Ok nothing_said) × (has_record (manifest_sum image) ≡ false)
IsReadFrom image (Some r) = Says image (said_in r) × (r.left.end ≡ end_from 0 (image r.live.log))

-- ---- what it reads

-- so many walks over records, of so many bytes in all
pub record WalksRead (walks bytes : ℕ) (old new : State) : Type 0 where
  pub asked : new.asked ≤ old.asked + (65536 * walks + 2 * bytes)
  pub reads : 65528 * new.reads ≤ 65528 * (old.reads + walks) + (2 * bytes + 4 * walks)

-- the bytes of a file's records
abbrev pub walked : List ℕ → ℕ
walked file = span (records_from 0 file)

-- at most so many are those of its first record
abbrev pub first_walked : List ℕ → ℕ
first_walked file = min (walked file) (2 ^ 29 + 5)

-- Those that are read behind the manifest: of the live log, or where the manifest has no record of the first record of file 1.
abbrev pub walked_by : Image → Sum → ℕ
walked_by image sum = if is_some sum.at then walked (image sum.live.log) else first_walked (image 1)

abbrev pub walked_behind : Image → Result Sum Place → ℕ
walked_behind image (Ok sum) = walked_by image sum
walked_behind image (Err place) = 0

-- the manifest's records are walked over, then its first one, and then that log
abbrev pub ReadsFrom : Image → State → State → Type 0
ReadsFrom image old new = WalksRead 3 (walked (image 0) + first_walked (image 0) + walked_behind image (manifest_sum image)) old new
