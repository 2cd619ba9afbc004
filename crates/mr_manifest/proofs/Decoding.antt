-- Edits, one after another.
use Rattle.std.proofs.Common.{◌≡◌, ℕ, ◌+◌, ◌-◌, ◌<◌, ◌≤◌, zero, suc, List, [], ◌∷◌, ◌++◌, length, refl, sym, ◌∙◌, ap, arith, append_assoc, nat_eq, false, Result, Ok, Err}
use mathlib.Core.Bool.{true≢false}
use Rattle.mr_manifest.specs.declared.edit.Edit.{Edit}
use Rattle.mr_manifest.specs.Fields.{Read, ◌>>=◌}
use Rattle.mr_manifest.specs.Edits.{edit_in, in_front, edits_in}
use Rattle.mr_manifest.specs.Given.{with_front}

one_left : (n i : ℕ) → i < n → n - i ≡ suc (n - (i + 1))
one_left n i lt = omega arith

none_left : (n i : ℕ) → n ≤ i → n - i ≡ zero
none_left n i le = omega arith

no_more : (n : ℕ) → edits_in n [] ≡ Ok []
no_more zero = refl
no_more (suc n) = refl

front_then : (es : List Edit) (e : Edit) (r : Result (List Edit) ℕ) → with_front es (in_front e r) ≡ with_front (es ++ e ∷ []) r
front_then es e (Ok more) = ap (λ (l : List Edit). Ok l) (sym (append_assoc es (e ∷ []) more))
front_then es e (Err left) = refl

nothing_behind : (es : List Edit) → es ++ [] ≡ es
nothing_behind [] = refl
nothing_behind (e ∷ es) = ap (λ l. e ∷ l) (nothing_behind es)

pub started : (r : Result (List Edit) ℕ) → r ≡ with_front [] r
started (Ok es) = refl
started (Err left) = refl

pub finished : (es : List Edit) (n i : ℕ) (rest : List ℕ) → rest ≡ [] → with_front es (edits_in (n - i) rest) ≡ Ok es
finished es n i rest none = ap (λ (l : List ℕ). with_front es (edits_in (n - i) l)) none ∙ ap (λ r. with_front es r) (no_more (n - i)) ∙ ap (λ (l : List Edit). Ok l) (nothing_behind es)

suc_step : (es : List Edit) (n : ℕ) (rest : List ℕ) → (rest ≡ [] → ⊥) → with_front es (edits_in (suc n) rest) ≡ with_front es (edit_in rest >>= λ one. in_front one.0 (edits_in n one.1))
suc_step es n [] some = absurd (some refl)
suc_step es n (b ∷ rest) some = refl

module _ (es : List Edit) (n i : ℕ) (rest : List ℕ) (lt : i < n) (some : rest ≡ [] → ⊥) where
  opened : with_front es (edits_in (n - i) rest) ≡ with_front es (edit_in rest >>= λ one. in_front one.0 (edits_in (n - (i + 1)) one.1))
  opened = ap (λ (m : ℕ). with_front es (edits_in m rest)) (one_left n i lt) ∙ suc_step es (n - (i + 1)) rest some

  pub one_more : (e : Edit) (behind : List ℕ) → Ok (e, behind) ≡ edit_in rest → with_front es (edits_in (n - i) rest) ≡ with_front (es ++ e ∷ []) (edits_in (n - (i + 1)) behind)
  one_more e behind is =
      opened
      ∙ ap (λ (r : Read Edit). with_front es (r >>= λ one. in_front one.0 (edits_in (n - (i + 1)) one.1))) (sym is)
      ∙ front_then es e (edits_in (n - (i + 1)) behind)

  pub broken : (left : ℕ) → Err left ≡ edit_in rest → with_front es (edits_in (n - i) rest) ≡ Err left
  broken left is = opened ∙ ap (λ (r : Read Edit). with_front es (r >>= λ one. in_front one.0 (edits_in (n - (i + 1)) one.1))) (sym is)

zero_step : (es : List Edit) (rest : List ℕ) → (rest ≡ [] → ⊥) → with_front es (edits_in zero rest) ≡ Err (length rest)
zero_step es [] some = absurd (some refl)
zero_step es (b ∷ rest) some = refl

pub too_many : (es : List Edit) (n i : ℕ) (rest : List ℕ) → n ≤ i → (rest ≡ [] → ⊥) → with_front es (edits_in (n - i) rest) ≡ Err (length rest)
too_many es n i rest le some = ap (λ (m : ℕ). with_front es (edits_in m rest)) (none_left n i le) ∙ zero_step es rest some

pub some_is : (rest : List ℕ) → nat_eq (length rest) 0 ≡ false → rest ≡ [] → ⊥
some_is [] is none = true≢false is
some_is (b ∷ rest) is none = absurd (cc)
