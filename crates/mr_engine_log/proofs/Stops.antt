-- Why a call stops, through `?`.
use Rattle.std.proofs.Common.{◌≡◌, inl, inr, ℕ, Result, Ok, Err, IfErr, IsErrAnd, refl, sym, subst}
use Rattle.mr_base.specs.Disk.{State}
use Rattle.mr_base.specs.declared.stop.Stop.{Stop}
use Rattle.mr_base.proofs.Counting.{counts_start}
use Rattle.mr_base.proofs.Moments.{same_start}
use Rattle.mr_gate.specs.Gate.{Gate, IsUntouched, HasNoRoom, full}
use Rattle.mr_engine_log.specs.Standing.{LogState, IsFullFor, IsRecordStop, IsAppendStop}

pub err_is : {A : Type 0} (r : Result A Stop) (e : Stop) (P : Stop → Type 0) → IsErrAnd r (λ x. x ≡ e) → P e → IfErr r P
err_is (Ok x) e P is holds = tt
err_is (Err x) e P is holds = subst P (sym is) holds

untouched : (s : State) → IsUntouched s s
untouched s = record { counts = counts_start s; same = λ tells. same_start s }

pub no_room_stop : (log : Gate) (n : ℕ) (s : State) (e : Stop) → (e ≡ full log) × HasNoRoom log n → IsRecordStop log n s s e
no_room_stop log n s e is = subst (IsRecordStop log n s s) (sym is.0) (refl, is.1, untouched s)

pub full_stop : (log : LogState) (n : ℕ) (s : State) (e : Stop) → IsFullFor log n e → IsAppendStop log n s s e
full_stop log n s e (inl is) = inl (no_room_stop log.gate n s e is)
full_stop log n s e (inr is) = inr (is.0, is.1, is.2, untouched s)
