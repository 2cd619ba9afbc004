use Rattle.std.proofs.Common.{rules, ◌∙◌, ap}
use Rattle.std.specs.Cmp.{IsTotalOrder}
use Rattle.std.proofs.lemmas.Cmp.{on_total, then_total, nat_cmp_total}
use Rattle.mr_iter.specs.Versions.{in_order}
use Rattle.mr_manifest.specs.declared.live.LiveRun.{LiveRun}
use Rattle.mr_stored.specs.Offences.{run_cmp}
use Rattle.mr_run_judge.proofs.OneOrder.{sorted-by-closure}
use Rattle.mr_run_judge.proofs.order.in_judging_order.Goals as goal

run-total : IsTotalOrder run_cmp
run-total = then_total (on_total (λ (r : LiveRun). r.family) nat_cmp_total) (then_total (on_total (λ (r : LiveRun). r.level) nat_cmp_total) (on_total (λ (r : LiveRun). r.file) nat_cmp_total))

pub returns-in-Ok : goal.returns-in-Ok
returns-in-Ok c =
    sorted-by-closure run_cmp run-total c.in_ok-out.out.items c.sort_by.new.self.items c.in-Ok.ensures.sorted c.sort_by.ensures.stable (λ a r f' k. search rules) ∙ ap (in_order run_cmp) (c.in_ok-out.ensures.items_if_clones_equal (λ x y k. search rules))
