-- What a writing statement leaves, beside its progress.
use Rattle.std.proofs.Common.{◌≡◌, ℕ, Bool, true, false, List, Result, Ok, Err, refl}
use Rattle.mr_types.specs.Refusals.{◌>>=◌, ◌>>◌, refuse_where}
use Rattle.mr_spec.specs.declared.progress.Progress.{Progress}
use Rattle.mr_spec.specs.declared.progress.Refusal.{Refusal}
use Rattle.mr_spec.specs.Progress.{told}
use Rattle.mr_spec.specs.RowSteps.{not_too_heavy, after_rows}
use Rattle.mr_spec.specs.World.{World}
use Rattle.mr_model_changes.specs.Leaving.{left_of, leaves}
use Rattle.mr_model_statements.specs.Left.{left_light, behind_left}

told_first : (b : Bool) (next : ℕ) (g : Progress) → leaves (told next (refuse_where 1197 b) >> Ok g) ≡ told next (refuse_where 1197 b) >> Ok (left_of g)
told_first true next g = refl
told_first false next g = refl

-- the test of the weight, behind the rows
pub left_written : (w : World) (m : Result Progress Refusal) → leaves (m >>= not_too_heavy w) ≡ leaves m >>= left_light w
left_written w (Ok g) = told_first _ g.next g
left_written w (Err e) = refl

-- what becomes of it
pub left_behind : (name : List ℕ) (w : World) (m : Result Progress Refusal) → after_rows name w m ≡ behind_left name w (leaves m)
left_behind name w (Ok g) = refl
left_behind name w (Err e) = refl
