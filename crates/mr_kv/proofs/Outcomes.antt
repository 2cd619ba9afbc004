-- What holds where a call ended well.
use Rattle.std.proofs.Common.{◌≡◌, Result, Ok, Err, OnOk, IfErr, IsErrAnd, sym, subst}

pub on_ok : {X E : Type 0} (r : Result X E) (P Q : Type 0) → (P → Q) → OnOk r P → OnOk r Q
on_ok (Ok x) P Q law p = law p
on_ok (Err e) P Q law p = tt

pub on_ok_both : {X E : Type 0} (r : Result X E) (P Q R : Type 0) → (P → Q → R) → OnOk r P → OnOk r Q → OnOk r R
on_ok_both (Ok x) P Q R law p q = law p q
on_ok_both (Err e) P Q R law p q = tt

pub on_ok_given : {X E : Type 0} (r : Result X E) (Q : Type 0) → Q → OnOk r Q
on_ok_given (Ok x) Q q = q
on_ok_given (Err e) Q q = tt

pub if_err_both : {X E : Type 0} (r : Result X E) (P Q R : E → Type 0) → ((e : E) → P e → Q e → R e) → IfErr r P → IfErr r Q → IfErr r R
if_err_both (Ok x) P Q R law p q = tt
if_err_both (Err e) P Q R law p q = law e p q

pub if_err_given : {X E : Type 0} (r : Result X E) (P : E → Type 0) → ((e : E) → P e) → IfErr r P
if_err_given (Ok x) P law = tt
if_err_given (Err e) P law = law e

-- an error that is passed on
pub err_is : {X E : Type 0} (r : Result X E) (e : E) (P : E → Type 0) → IsErrAnd r (λ x. x ≡ e) → P e → IfErr r P
err_is (Ok x) e P is holds = tt
err_is (Err x) e P is holds = subst P (sym is) holds
