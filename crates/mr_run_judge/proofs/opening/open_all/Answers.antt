use Rattle.std.proofs.Common.{◌≡◌, ◌*◌, length, OnOk, List, ap, ◌∙◌, subst}
use Rattle.mr_base.specs.Calls.{Counts}
use Rattle.mr_iter.specs.Versions.{in_order}
use Rattle.mr_manifest.specs.declared.live.LiveRun.{LiveRun}
use Rattle.mr_stored.specs.Offences.{run_cmp}
use Rattle.mr_run_judge.specs.Judged.{lengths}
use Rattle.mr_run_judge.proofs.Sizes.{length-in_order, lengths-in_order}
use Rattle.mr_run_judge.proofs.opening.open_all.Goals as goal

pub returns-in-Ok-clause-counts : goal.returns-in-Ok-clause-counts
returns-in-Ok-clause-counts g c =
    let old = g.D.Disk.disk c.args.disk.now in
    let new = g.D.Disk.disk c.open_each.new.disk in
    let runs = c.args.runs.now in
    let sorted = c.as_slice.result.now in
    let is : sorted ≡ in_order run_cmp runs = c.as_slice.ensures.value ∙ c.in-Ok.ensures in
    subst (λ n. OnOk c.open_each.result (Counts (2 * n) (lengths runs) 0 old new)) (ap (λ (rs : List LiveRun). length rs) is ∙ length-in_order run_cmp runs)
    (subst (λ n. OnOk c.open_each.result (Counts (2 * length sorted) n 0 old new)) (ap lengths is ∙ lengths-in_order run_cmp runs) c.open_each.ensures.counts)
