-- Texts that are statements, and what stands at a script's end.
use Rattle.std.proofs.Common.{◌≡◌, ◌∙◌, ◌==◌, ℕ, Bool, true, false, not, List, [], ◌∷◌, Result, Err, length, map, if◌then◌else◌, refl, ap, sym, arith, inl, inr}
use Rattle.std.proofs.lemmas.Bool.Decides.{eqb_tells}
use mathlib.Core.Bool.{true≢false}
use Rattle.mr_lex.specs.Cutting.{Rest, as_part, is_blank, rest_of}
use Rattle.mr_spec.specs.Grammar.{parsed}
use Rattle.mr_spec.specs.ScriptRun.{read_part}
use Rattle.mr_types.specs.declared.statement.Statement.{Statement}

pub no_text : (text : List ℕ) → (length text == 0) ≡ true → [] ≡ map read_part (as_part text)
no_text [] e = refl
no_text (b ∷ text) e = elim (eqb_tells (length (b ∷ text)) 0) [
  | inl same ↦ absurd (omega (arith, same.1))
  | inr differs ↦ absurd (true≢false (sym e ∙ differs.0))
]

pub some_text : (text : List ℕ) (s : Result Statement ℕ) → (length text == 0) ≡ false → s ≡ parsed text → s ∷ [] ≡ map read_part (as_part text)
some_text [] s e is = absurd (true≢false e)
some_text (b ∷ text) s e is = ap (λ (r : Result Statement ℕ). r ∷ []) is

abbrev rest_for : Bool → List (Result Statement ℕ)
rest_for blank = map read_part (if blank then [] else Rest ∷ [])

not_true : (t b : Bool) → t ≡ not b → t ≡ true → b ≡ false
not_true t true e is = cc
not_true t false e is = refl

not_false : (t b : Bool) → t ≡ not b → t ≡ false → b ≡ true
not_false t true e is = refl
not_false t false e is = cc

pub some_rest : (since : List ℕ) (begun : Bool) → begun ≡ not (is_blank since) → begun ≡ true → Err 1064 ∷ [] ≡ map read_part (rest_of since)
some_rest since begun is yes_ = ap rest_for (sym (not_true begun (is_blank since) is yes_))

pub no_rest : (since : List ℕ) (begun : Bool) → begun ≡ not (is_blank since) → begun ≡ false → [] ≡ map read_part (rest_of since)
no_rest since begun is no_ = ap rest_for (sym (not_false begun (is_blank since) is no_))
