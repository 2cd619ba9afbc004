-- Claims in a list.
use Rattle.std.specs.Prelude.{ℕ, Bool, List, [], ◌∷◌, cond, suc, Option, Some}
use Rattle.std.specs.List.{list_any}
use Rattle.std.specs.Str.{bytes_eq}

-- whether the claim stands in the list
abbrev pub has : List ℕ → List (List ℕ) → Bool
has claim claims = list_any (λ c. bytes_eq c claim) claims

-- how often it stands there
abbrev pub times : List ℕ → List (List ℕ) → ℕ
times claim [] = 0
times claim (c ∷ cs) = cond (bytes_eq c claim) (suc (times claim cs)) (times claim cs)

-- what the last commit that has the claim is, after a commit of these claims by this number
abbrev pub after_commit : ℕ → List (List ℕ) → List ℕ → Option ℕ → Option ℕ
after_commit k claims claim before = cond (has claim claims) (Some k) before
