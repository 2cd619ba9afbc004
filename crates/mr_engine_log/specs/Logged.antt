-- What the records of an engine log leave: the batches that count, in the order of the log, the last prepare while it has no
-- verdict, the last sequence number used, and whether each number was one above the one before it.
use Rattle.std.specs.Prelude.{ℕ, ◌+◌, ◌==◌, ◌&&◌, Bool, true, false, nat_lt, if◌then◌else◌, List, [], ◌∷◌, ◌++◌, length, Option, Some, None, is_some, Result, Ok, Err}
use Rattle.mr_wal.specs.declared.operation.Operation.{Operation}
use Rattle.mr_wal.specs.declared.record.WalBody.{WalBody}
use Rattle.mr_wal.specs.declared.record.WalBody.TheVariants.{Prepare, Plain, Decided}
use Rattle.mr_wal.specs.declared.record.WalRecord.{WalRecord}
use Rattle.mr_wal.specs.Fields.{◌>>=◌}
use Rattle.mr_wal.specs.EngineLog.{read_record}
use Rattle.mr_gate.specs.Log.{records_from, end_from, is_damaged_from}
use Rattle.mr_engine_log.specs.declared.batched.Batched.{Batched}
use Rattle.mr_engine_log.specs.declared.batched.Counted.{Counted}
use Rattle.mr_engine_log.specs.declared.batched.Prepared.{Prepared}

pub record Logged : Type 0 where
  pub batches : List Batched
  pub pending : Option Prepared
  pub last : ℕ
  pub in_turn : Bool

-- a log without a record, before which this was the last sequence number
abbrev pub none_logged : ℕ → Logged
none_logged last = record { batches = []; pending = None; last = last; in_turn = true }

-- a prepared batch that is committed, and a plain one
abbrev pub committed : Prepared → Batched
committed p = record { commit = Some p.commit; sequence = p.sequence; operations = p.operations }

abbrev pub plain : ℕ → List Operation → Batched
plain sequence operations = record { commit = None; sequence = sequence; operations = operations }

-- ---- a verdict: 0 is none, 1 is committed, 2 is abandoned

abbrev pub decided : ℕ → Option Prepared → List Batched → List Batched
decided verdict None batches = batches
decided verdict (Some p) batches = if verdict == 1 then batches ++ committed p ∷ [] else batches

abbrev pub undecided : ℕ → Option Prepared → Option Prepared
undecided verdict None = None
undecided verdict (Some p) = if verdict == 0 then Some p else None

abbrev pub after_verdict : ℕ → Logged → Logged
after_verdict verdict l = record { batches = decided verdict l.pending l.batches; pending = undecided verdict l.pending; last = l.last; in_turn = l.in_turn }

-- what a record does itself, and with its verdict
abbrev pub with_body : WalBody → Logged → Logged
with_body (Prepare commit sequence operations) l = record { batches = l.batches; pending = Some (record { commit = commit; sequence = sequence; operations = operations }); last = sequence; in_turn = l.in_turn && (sequence == l.last + 1) }
with_body (Plain sequence operations) l = record { batches = l.batches ++ plain sequence operations ∷ []; pending = l.pending; last = sequence; in_turn = l.in_turn && (sequence == l.last + 1) }
with_body Decided l = l

abbrev pub applied : WalRecord → Logged → Logged
applied r l = with_body r.body (after_verdict r.verdict l)

-- ---- the records one after the other, or the first offending place of the file

-- a verdict where none is pending, or none where one is
abbrev pub is_wrong_verdict : Option Prepared → List ℕ → Bool
is_wrong_verdict pending [] = false
is_wrong_verdict pending (verdict ∷ bytes) = if is_some pending then verdict == 0 else nat_lt 0 verdict

abbrev pub read_at : ℕ → Logged → Result WalRecord ℕ → Result Logged ℕ
read_at at l (Ok r) = Ok (applied r l)
read_at at l (Err place) = Err (at + 5 + place)

-- the record with this body, which stands at a place
abbrev pub step : ℕ → Logged → List ℕ → Result Logged ℕ
step at l body = if is_wrong_verdict l.pending body then Err (at + 5) else read_at at l (read_record body)

abbrev pub replay : ℕ → Logged → List (List ℕ) → Result Logged ℕ
replay at l [] = Ok l
replay at l (body ∷ bodies) = step at l body >>= (λ next. replay (at + (5 + length body)) next bodies)

-- what the bytes of an engine log leave; damage of the log itself comes first
abbrev pub log_of : ℕ → List ℕ → Result Logged ℕ
log_of last file = if is_damaged_from 0 file then Err (end_from 0 file) else replay 0 (none_logged last) (records_from 0 file)

-- ---- one record after the other

-- what it makes count, in order
abbrev pub if_some : {X : Type 0} → Option X → List X
if_some None = []
if_some (Some x) = x ∷ []

abbrev pub counted : Counted → List Batched
counted c = if_some c.committed ++ if_some c.plain

-- what counts without the batches of the records before
abbrev pub rest_of : Option Prepared → ℕ → Bool → List Batched → Logged
rest_of pending last in_turn batches = record { batches = batches; pending = pending; last = last; in_turn = in_turn }
