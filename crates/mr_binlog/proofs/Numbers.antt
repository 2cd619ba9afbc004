-- Numbers of 64 bits, one change after the other.
use Rattle.std.proofs.Common.{◌≡◌, ℕ, zero, suc, ◌+◌, ◌<◌, List, [], ◌∷◌, length, take, get_or, sym, subst, arith, add-one}
use Rattle.std.specs.List.{AllByRecursion}

next_too : {X : Type 0} (P : X → Type 0) (xs : List X) (i : ℕ) (x : X) → i < length xs → x ≡ get_or xs i x → AllByRecursion P (take i xs) → P x → AllByRecursion P (take (suc i) xs)
next_too P [] i x lt is all holds = absurd (omega arith)
next_too P (y ∷ xs) zero x lt is all holds = (subst P is holds, tt)
next_too P (y ∷ xs) (suc i) x lt is all holds = (all.0, next_too P xs i x (omega arith) is all.1 holds)

-- one more has it
pub one_more : {X : Type 0} (P : X → Type 0) (xs : List X) (i : ℕ) (x : X) → i < length xs → x ≡ get_or xs i x → AllByRecursion P (take i xs) → P x → AllByRecursion P (take (i + 1) xs)
one_more P xs i x lt is all holds = subst (λ (n : ℕ). AllByRecursion P (take n xs)) (sym (add-one i)) (next_too P xs i x lt is all holds)
