-- What a refused statement leaves of the commits and of the other sessions.
use Rattle.std.proofs.Common.{◌≡◌, ℕ, true, List, [], ◌∷◌, Result, Ok, Err, refl, ◌∙◌}
use Rattle.mr_types.specs.declared.row.Change.{Change}
use Rattle.mr_types.specs.declared.statement.Statement.{Statement}
use Rattle.mr_spec.specs.World.{World, with_rows, changes_by}
use Rattle.mr_spec.specs.Step.{step, timed, commits_first}
use Rattle.mr_spec.specs.ScriptRun.{is_refusal}
use Rattle.mr_spec.specs.Promises.{Left, as_it_was, used, drew, ended, unbuilt, built_in_vain, judged_in, RefusalLeaves}
use Rattle.mr_spec.proofs.Results.{either}
use Rattle.mr_spec.proofs.Refused.{leaves-step}

left-commits : (w u : World) → Left w u → u.commits ≡ w.commits
left-commits w u as_it_was = refl
left-commits w u (used name) = refl
left-commits w u (drew name t n) = refl
left-commits w u (ended name t n) = refl
left-commits w u (unbuilt t) = refl
left-commits w u (built_in_vain t key) = refl

left-others : (w u : World) → Left w u → u.others ≡ w.others
left-others w u as_it_was = refl
left-others w u (used name) = refl
left-others w u (drew name t n) = refl
left-others w u (ended name t n) = refl
left-others w u (unbuilt t) = refl
left-others w u (built_in_vain t key) = refl

others-with_rows : (changes : List Change) (w : World) → (with_rows changes w).others ≡ w.others
others-with_rows [] w = refl
others-with_rows (c ∷ cs) w = refl

others-judged : (w : World) (s : Result Statement ℕ) (clock : ℕ) → (judged_in w s clock).others ≡ w.others
others-judged w (Ok s) clock = either (λ (u : World). u.others ≡ w.others) (commits_first s) _ _ (others-with_rows (changes_by w.here.txn) (timed w clock)) refl
others-judged w (Err code) clock = refl

pub refusal-leaves : (w : World) (s : Result Statement ℕ) (clock : ℕ) → is_refusal (step w s clock).reply ≡ true → RefusalLeaves w s clock
refusal-leaves w s clock e =
    let l : Left (judged_in w s clock) (step w s clock).world = leaves-step w s clock e in
    record {
      world = l;
      commits = left-commits (judged_in w s clock) (step w s clock).world l;
      others = left-others (judged_in w s clock) (step w s clock).world l ∙ others-judged w s clock;
    }
