-- Numbers that are of 32 bits place by place are so all.
use Rattle.std.proofs.Common.{ℕ, suc, zero, ◌^◌, ◌<◌, List, [], ◌∷◌, get_or, Fits, w32, arith}
use Rattle.std.specs.List.{AllByRecursion}

pub all_small : (ns : List ℕ) → ((i : ℕ) → Fits w32 (get_or ns i 0)) → AllByRecursion (λ n. n < 2 ^ 32) ns
all_small [] each = tt
all_small (n ∷ ns) each = (omega (arith, each zero), all_small ns (λ i. each (suc i)))
