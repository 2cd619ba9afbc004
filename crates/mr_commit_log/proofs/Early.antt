-- Answers that carry an error.
use Rattle.std.proofs.Common.{◌≡◌, ap, sym, subst, Some, None, Result, Ok, Err, IsErrAnd, IfErr, OnOk}
use Rattle.mr_commit_log.specs.Appending.{early}
use Rattle.mr_commit_log.specs.declared.ending.Ending.{Ending}

-- an answer with an error ended early with it
pub early_is : {T : Type 0} (r : Result T Ending) (e : Ending) → IsErrAnd r (λ x. x ≡ e) → Some e ≡ early r
early_is (Ok x) e h = absurd h
early_is (Err x) e h = ap Some (sym h)

pub not_none : (e : Ending) → Some e ≡ None → ⊥
not_none e q = cc

pub on_none : {T : Type 0} (P : Type 0) (r : Result T Ending) → OnOk r P → early r ≡ None → P
on_none P (Ok x) h e = h
on_none P (Err x) h e = absurd (not_none x e)

-- what is known of the error that an answer carries is known of the answer
pub err_is : {T E : Type 0} (r : Result T E) (e : E) (P : E → Type 0) → IsErrAnd r (λ x. x ≡ e) → P e → IfErr r P
err_is (Ok x) e P h p = tt
err_is (Err x) e P h p = subst P (sym h) p
