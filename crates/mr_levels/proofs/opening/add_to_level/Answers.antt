use Rattle.std.proofs.Common.{◌≡◌, ℕ, List, OnOk, subst, ◌∙◌, ap}
use Rattle.std.specs.List.{insert, prefix_len}
use Rattle.mr_run_open.specs.Runs.{RunState}
use Rattle.mr_levels.specs.Looks.{ends_before}
use Rattle.mr_levels.proofs.Searching.{placed_before}
use Rattle.mr_levels.proofs.opening.add_to_level.Goals as goal

pub returns-clause-added : goal.returns-clause-added
returns-clause-added c = subst (λ (rs : List RunState). OnOk c.insert_run.result (c.insert_run.new.runs.items ≡ rs))
    (ap (λ (n : ℕ). insert c.args.runs.now.items n c.args.run)
    (c.count_before-place.ensures.count ∙ ap (λ (key : List ℕ). prefix_len (ends_before c.args.direction key) c.deref.result.now) c.last_key.ensures ∙ ap (prefix_len (ends_before c.args.direction c.args.run.index.last)) c.deref.ensures.value)
    ∙ placed_before c.args.direction c.args.run c.args.runs.now.items) c.insert_run.ensures.added
