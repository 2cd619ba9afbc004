-- A log that is ready, after a record more.
use Rattle.std.proofs.Common.{◌≡◌, inl, inr, ℕ, ◌==◌, Bool, true, false, IsTrue, List, ◌∷◌, Option, Some, None, if◌then◌else◌, refl, sym, ◌∙◌, ap, subst, arith}
use mathlib.Core.Bool.{true≢false}
use Rattle.mr_base.specs.Disk.{State, Tells, file_of}
use Rattle.mr_wal.specs.declared.record.WalBody.{WalBody}
use Rattle.mr_wal.specs.declared.record.WalBody.TheVariants.{Prepare, Plain, Decided}
use Rattle.mr_wal.specs.declared.operation.Operation.{Operation}
use Rattle.mr_wal.specs.EngineLog.{body_bytes}
use Rattle.mr_gate.specs.Gate.{Gate, Stands, appended}
use Rattle.mr_gate.specs.Log.{end_from}
use Rattle.mr_engine_log.specs.Logged.{after_verdict, undecided, with_body, applied, is_wrong_verdict}
use Rattle.mr_engine_log.specs.Added.{HasRecord}
use Rattle.mr_engine_log.specs.Standing.{LogState, IsVerdictOn, Holds, IsReady, Leaves, record_of}
use Rattle.mr_engine_log.specs.declared.batched.Prepared.{Prepared}

no_some : (b : Bool) (p : Prepared) → (if b then Some p else None) ≡ None → b ≡ false
no_some true p is = cc
no_some false p is = refl

-- where nothing is undecided, a log's verdict is the one that is due
pub due : (verdict : ℕ) (pending : Option Prepared) (bytes : List ℕ) → IsVerdictOn verdict pending → undecided verdict pending ≡ None → is_wrong_verdict pending (verdict ∷ bytes) ≡ false
due verdict None bytes (inl none) is = rw none refl
due verdict None bytes (inr on) is = absurd (true≢false (sym on.1))
due verdict (Some p) bytes on is = no_some (verdict == 0) p is

pub still : (pending : Option Prepared) → undecided 0 pending ≡ pending
still None = refl
still (Some p) = refl

pub plain_leaves : (sequence : ℕ) (batch : List Operation) (last : ℕ) → Leaves (Plain sequence batch) last None sequence
plain_leaves sequence batch last l none is = (none, refl)

pub prepare_leaves : (k sequence : ℕ) (batch : List Operation) (last : ℕ) → Leaves (Prepare k sequence batch) last (Some (record { commit = k; sequence = sequence; operations = batch })) sequence
prepare_leaves k sequence batch last l none is = (refl, refl)

pub decided_leaves : (last : ℕ) → Leaves Decided last None last
decided_leaves last l none is = (none, is)

module _ (log : LogState) (body : WalBody) (nothing : log.pending ≡ None) where
  pub due_now : (file : List ℕ) → (holds : Holds log file) → (bytes : List ℕ) → is_wrong_verdict holds.logged.pending (log.verdict ∷ bytes) ≡ false
  due_now file holds bytes = due log.verdict holds.logged.pending bytes holds.verdict (sym holds.pending ∙ nothing)

  module _ (gate : Gate) (pending' : Option Prepared) (last' : ℕ) (leaves : Leaves body log.last pending' last') where
    pub holds_added : (old new : List ℕ) → Holds log old → Stands gate new → gate.end ≡ end_from 0 new → HasRecord (record_of log body) old new → Holds (record { gate = gate; base = log.base; pending = pending'; last = last'; verdict = 0 }) new
    holds_added old new holds stands end has =
        let left = leaves (after_verdict log.verdict holds.logged) (sym holds.pending ∙ nothing) (sym holds.last) in
        record {
          stands = stands;
          end = end;
          logged = applied (record_of log body) holds.logged;
          reads = has log.base holds.logged holds.reads (due_now old holds (body_bytes body));
          verdict = inl refl;
          pending = sym left.0 ∙ sym (still (with_body body (after_verdict log.verdict holds.logged)).pending);
          last = sym left.1;
        }

    pub ready_added : (n : ℕ) (old new : State) → IsReady log old → gate ≡ appended log.gate n → new.tells ≡ old.tells → (Tells old → Stands gate (file_of new log.gate.file).bytes) → (Tells old → gate.end ≡ end_from 0 (file_of new log.gate.file).bytes)
        → (Tells old → HasRecord (record_of log body) (file_of old log.gate.file).bytes (file_of new log.gate.file).bytes) → IsReady (record { gate = gate; base = log.base; pending = pending'; last = last'; verdict = 0 }) new
    ready_added n old new ready is tells stands end has = record {
      is_open = subst (λ (l : Gate). IsTrue l.is_open) (sym is) refl;
      verdict = omega arith;
      holds = λ told.
          let before : Tells old = subst (λ (b : Bool). IsTrue b) tells told in
          subst (λ (f : ℕ). Holds (record { gate = gate; base = log.base; pending = pending'; last = last'; verdict = 0 }) (file_of new f).bytes) (sym (ap (λ (l : Gate). l.file) is))
          (holds_added (file_of old log.gate.file).bytes (file_of new log.gate.file).bytes (ready.holds before) (stands before) (end before) (has before));
    }
