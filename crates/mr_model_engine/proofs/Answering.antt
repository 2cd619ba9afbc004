-- A fact of what is answered, through `do`.
use Rattle.std.proofs.Common.{Bool, true, false, Result, Ok, Err, IfOk}
use Rattle.std.specs.Prelude.{if◌then◌else◌}
use Rattle.mr_types.specs.Refusals.{◌>>=◌, ◌>>◌}

pub bound : {A B E : Type 0} (P : B → Type 0) (m : Result A E) (f : A → Result B E) → ((x : A) → IfOk (f x) P) → IfOk (m >>= f) P
bound P (Ok x) f h = h x
bound P (Err e) f h = tt

pub behind : {A B E : Type 0} (P : B → Type 0) (m : Result A E) (r : Result B E) → IfOk r P → IfOk (m >> r) P
behind P (Ok x) r h = h
behind P (Err e) r h = tt

pub either : {A : Type 0} (P : A → Type 0) (b : Bool) (x y : A) → P x → P y → P (if b then x else y)
either P true x y p q = p
either P false x y p q = q

-- where the first answer's fact is needed
pub after : {A B E : Type 0} (Q : A → Type 0) (P : B → Type 0) (m : Result A E) (f : A → Result B E) → IfOk m Q → ((x : A) → Q x → IfOk (f x) P) → IfOk (m >>= f) P
after Q P (Ok x) f q h = h x q
after Q P (Err e) f q h = tt

pub weaker : {A E : Type 0} (P Q : A → Type 0) (m : Result A E) → ((x : A) → P x → Q x) → IfOk m P → IfOk m Q
weaker P Q (Ok x) h p = h x p
weaker P Q (Err e) h p = tt
