use Rattle.std.proofs.Common.{◌≡◌, ◌∙◌, [], List, sym, subst, ap, true}
use Rattle.std.specs.List.{AllByRecursion}
use Rattle.mr_base.specs.Disk.{seen}
use Rattle.mr_manifest.specs.declared.live.LiveRun.{LiveRun}
use Rattle.mr_stored.specs.Offences.{run_cmp, first_overlap as the_first_overlap}
use Rattle.mr_run_judge.specs.declared.ends.Ends.{Ends}
use Rattle.mr_run_judge.specs.Judged.{HasEnds}
use Rattle.mr_run_judge.specs.Meeting.{first_meeting, is_listed, runs_of_ends}
use Rattle.mr_run_judge.proofs.Listed.{opened-listed}
use Rattle.mr_run_judge.proofs.Meetings.{first-of-all}
use Rattle.mr_run_judge.proofs.overlapping_runs.overlapping.Goals as goal

pub in_list_order-requires : goal.in_list_order-requires
in_list_order-requires g c = subst (λ (es : List Ends). AllByRecursion (λ (r : LiveRun). is_listed r (runs_of_ends es) ≡ true) c.args.runs.now) (sym c.as_slice.ensures.value)
    (opened-listed run_cmp c.in-Ok.opened.items c.args.runs.now c.in-Ok.ensures.runs)

pub returns-in-Ok-in_list_order-clause-first : goal.returns-in-Ok-in_list_order-clause-first
returns-in-Ok-in_list_order-clause-first g c = λ tells.
    let image = seen (g.D.Disk.disk c.args.disk.now) in
    let ends = c.in-Ok-in_list_order.ends.items in
    let all : AllByRecursion (HasEnds image) ends = c.in-Ok-in_list_order.ensures.ends image (subst (AllByRecursion (HasEnds image)) (sym c.as_slice.ensures.value) (c.in-Ok.ensures.ends tells)) in
    c.first_overlap.ensures ∙ ap (first_meeting []) c.as_slice-in-Ok-in_list_order.ensures.value ∙ first-of-all image ends all ∙ ap (the_first_overlap image []) c.in-Ok-in_list_order.ensures.runs
