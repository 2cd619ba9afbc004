-- An engine log that is being read.
use Rattle.std.specs.Prelude.{◌≡◌, ℕ, Bool, List, ◌++◌, Option, Some, None, Ok, Err}
use Rattle.mr_base.specs.Disk.{State, Tells, HasRisen, file_of}
use Rattle.mr_base.specs.declared.stop.Stop.{Stop}
use Rattle.mr_base.specs.declared.stop.Stop.TheVariants.{Memory, Disk, Full, Damaged}
use Rattle.mr_gate.specs.Log.{records_from, end_from, is_damaged_from}
use Rattle.mr_gate.specs.Walking.{Walk}
use Rattle.mr_engine_log.specs.Logged.{Logged, log_of, replay, rest_of, none_logged, counted}
use Rattle.mr_engine_log.specs.declared.batched.Batched.{Batched}
use Rattle.mr_engine_log.specs.declared.batched.Counted.{Counted}
use Rattle.mr_engine_log.specs.declared.batched.Prepared.{Prepared}

-- the walk, the last sequence number before its first record, and what the records so far leave beside their batches
pub record ReaderState : Type 0 where
  pub walk : Walk
  pub base : ℕ
  pub pending : Option Prepared
  pub last : ℕ
  pub in_turn : Bool

-- what the records so far leave, with these batches
abbrev pub so_far : ReaderState → List Batched → Logged
so_far r batches = rest_of r.pending r.last r.in_turn batches

-- the records so far made these batches count, and the others are behind
pub record IsReading (r : ReaderState) (batches : List Batched) (file : List ℕ) : Type 0 where
  pub end : end_from 0 file ≡ end_from r.walk.place file
  pub damage : is_damaged_from 0 file ≡ is_damaged_from r.walk.place file
  pub goes : replay 0 (none_logged r.base) (records_from 0 file) ≡ replay r.walk.place (so_far r batches) (records_from r.walk.place file)

-- what one step of the reading finds: the end, where this is what the log leaves, or one record, which makes more count
abbrev pub IsTurn : ReaderState → ReaderState → List Batched → List ℕ → Option Counted → Type 0
IsTurn old new batches file None = (log_of old.base file ≡ Ok (so_far new batches)) × (new.walk.place ≡ end_from 0 file)
IsTurn old new batches file (Some c) = IsReading new (batches ++ counted c) file

-- why the reading of a log stops: the first offence is told, damage of the log itself before that of a body
abbrev pub IsReadStop : ReaderState → State → State → Stop → Type 0
IsReadStop r old new Disk = HasRisen old.faults new.faults
IsReadStop r old new Memory = Unit {0}
IsReadStop r old new (Full what at limit) = ⊥
IsReadStop r old new (Damaged number at) = (number ≡ r.walk.file) × ((batches : List Batched) → Tells old → IsReading r batches (file_of old r.walk.file).bytes → log_of r.base (file_of old r.walk.file).bytes ≡ Err at)
