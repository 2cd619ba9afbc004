-- Several facts of one result.
use Rattle.std.proofs.Common.{◌≡◌, Result, Ok, Err, OnOk, IfOk, refl, subst}

pub with_ok : {A E : Type 0} (r : Result A E) (Q : Type 0) → ((a : A) → r ≡ Ok a → Q) → OnOk r Q
with_ok (Ok a) Q f = f a refl
with_ok (Err e) Q f = tt

pub at_ok : {A E : Type 0} (r : Result A E) (a : A) (P : Type 0) → r ≡ Ok a → OnOk r P → P
at_ok r a P e h = let F : Result _ _ → Type 0 = λ q. OnOk q P in subst F e h

pub if_at_ok : {A E : Type 0} (r : Result A E) (a : A) (P : A → Type 0) → r ≡ Ok a → IfOk r P → P a
if_at_ok r a P e h = let F : Result _ _ → Type 0 = λ q. IfOk q P in subst F e h
