-- When a table was last defined.
use Rattle.std.proofs.Common.{◌≡◌, ℕ, zero, suc, ◌+◌, ◌≤◌, Bool, true, false, List, [], ◌∷◌, ◌++◌, length, drop, refl, ap, ◌∙◌, nat_lt, zero-le, arith}
use Rattle.std.specs.Prelude.{if◌then◌else◌, ◌||◌}
use Rattle.std.specs.List.{list_any}
use Rattle.mr_types.specs.declared.row.Commit.{Commit}
use Rattle.mr_spec.specs.Database.{defines}
use Rattle.mr_steps.specs.Defining.{last_defined}

-- the number with one commit in front of those that have number k
abbrev numbered : ℕ → Bool → ℕ
numbered k b = if nat_lt 0 k then k + 1 else (if b then 1 else 0)

some-defines : (name : List ℕ) (cs : List Commit) → list_any (defines name) cs ≡ nat_lt 0 (last_defined name cs)
some-defines name [] = refl
some-defines name (c ∷ cs) = ap (λ b. defines name c || b) (some-defines name cs) ∙ by_number (last_defined name cs) (defines name c)
  where
    by_number : (k : ℕ) (b : Bool) → (b || nat_lt 0 k) ≡ nat_lt 0 (numbered k b)
    by_number zero true = refl
    by_number zero false = refl
    by_number (suc k) true = grind arith
    by_number (suc k) false = grind arith

pub defined-later : (name : List ℕ) (n : ℕ) (cs : List Commit) → list_any (defines name) (drop n cs) ≡ nat_lt n (last_defined name cs)
defined-later name zero cs = some-defines name cs
defined-later name (suc n) [] = none n
  where
    none : (n : ℕ) → false ≡ nat_lt (suc n) 0
    none n = grind arith
defined-later name (suc n) (c ∷ cs) = defined-later name n cs ∙ by_number (last_defined name cs) (defines name c)
  where
    by_number : (k : ℕ) (b : Bool) → nat_lt n k ≡ nat_lt (suc n) (numbered k b)
    by_number zero true = grind arith
    by_number zero false = grind arith
    by_number (suc k) b = grind arith

pub defined-more : (name : List ℕ) (cs : List Commit) (c : Commit) → last_defined name (cs ++ c ∷ []) ≡ (if defines name c then length cs + 1 else last_defined name cs)
defined-more name [] c = refl
defined-more name (d ∷ cs) c = ap (λ k. numbered k (defines name d)) (defined-more name cs c) ∙ by_last (length cs) (last_defined name cs) (defines name c) (defines name d)
  where
    by_last : (n k : ℕ) (b e : Bool) → numbered (if b then n + 1 else k) e ≡ (if b then suc n + 1 else numbered k e)
    by_last n k true e = grind arith
    by_last n k false e = refl

pub defined-most : (name : List ℕ) (cs : List Commit) → last_defined name cs ≤ length cs
defined-most name [] = zero-le
defined-most name (c ∷ cs) = by_number (last_defined name cs) (defines name c) (defined-most name cs)
  where
    by_number : (k : ℕ) (b : Bool) → k ≤ length cs → numbered k b ≤ suc (length cs)
    by_number zero true h = omega arith
    by_number zero false h = omega arith
    by_number (suc k) b h = grind (arith, h)
