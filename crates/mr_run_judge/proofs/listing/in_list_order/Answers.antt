use Rattle.std.proofs.Common.{rules, ◌≡◌, ◌+◌, List, sym, subst, ◌∙◌, ap, take, map, true}
use lib.ListN.{get_or}
use Rattle.std.specs.List.{AllByRecursion}
use Rattle.mr_manifest.specs.declared.live.LiveRun.{LiveRun}
use Rattle.mr_run_judge.specs.declared.ends.Ends.{Ends}
use Rattle.mr_run_judge.specs.Judged.{HasEnds, no_ends, no_run}
use Rattle.mr_run_judge.specs.Meeting.{is_listed, runs_of_ends}
use Rattle.mr_run_judge.proofs.Listed.{same-run, same-get, each-get, each-behind}
use Rattle.mr_run_judge.proofs.Stepping.{ends-more, runs-more}
use Rattle.mr_run_judge.proofs.listing.in_list_order.Goals as goal

pub listing-preserved : goal.listing-preserved
listing-preserved c =
    let before = c.listing.invariant in
    let opened = c.args.opened.now in
    let runs = c.args.runs.now in
    let i = c.listing.i in
    let found = c.place_of.ensures in
    let e : c.in_ok-ends.ends ≡ get_or opened c.place_of.result no_ends = c.in_ok-ends.ensures ∙ c.index-opened-place_of.is ∙ same-get opened c.place_of.result _ no_ends found.within in
    record {
      runs = subst (λ (es : List Ends). map (λ (e : Ends). e.run) es ≡ take (i + 1) runs) (sym c.in-Ok.ensures.items) (runs-more c.listing.out.items c.in_ok-ends.ends runs i no_run (search rules) before.runs (ap (λ (e : Ends). e.run) e ∙ sym (same-run _ _ found.found)));
      listed = each-behind (λ (r : LiveRun). is_listed r (runs_of_ends opened) ≡ true) runs i (search rules) before.listed;
      ends = λ image all. subst (AllByRecursion (HasEnds image)) (sym c.in-Ok.ensures.items) (ends-more image c.listing.out.items c.in_ok-ends.ends (before.ends image all) (subst (HasEnds image) (sym e) (each-get (HasEnds image) opened c.place_of.result no_ends found.within all)));
    }
