use Rattle.std.proofs.Common.{◌≡◌, List, OnOk, subst, ◌∙◌, ap}
use Rattle.std.specs.List.{insert, prefix_len}
use Rattle.std.specs.Ordering.{is_gt}
use Rattle.mr_run_open.specs.Runs.{RunState}
use Rattle.mr_levels.specs.Levels.{newer_first}
use Rattle.mr_levels.proofs.Searching.{placed_at}
use Rattle.mr_levels.proofs.opening.add_newest.Goals as goal

pub returns-clause-added : goal.returns-clause-added
returns-clause-added c = subst (λ (rs : List RunState). OnOk c.insert_run.result (c.insert_run.new.runs.items ≡ rs))
    (ap (λ n. insert c.args.runs.now.items n c.args.run) (c.count_newer-place.ensures.count ∙ ap (prefix_len (λ r. is_gt (newer_first c.args.run r))) c.deref.ensures.value) ∙ placed_at newer_first c.args.run c.args.runs.now.items) c.insert_run.ensures.added
