use Rattle.std.proofs.Common.{rules, ◌≡◌, ◌+◌, List, sym, subst, ◌∙◌, take, map}
use lib.ListN.{get_or}
use Rattle.std.specs.List.{AllByRecursion}
use Rattle.mr_base.specs.Disk.{seen}
use Rattle.mr_base.proofs.Counting.{still_tells}
use Rattle.mr_base.proofs.Moments.{same_then}
use Rattle.mr_run_judge.specs.declared.ends.Ends.{Ends}
use Rattle.mr_run_judge.specs.Judged.{no_run, HasEnds}
use Rattle.mr_run_judge.proofs.Stepping.{lengths-more, structures-sound, stops-at, ends-more, runs-more, ends-same, sound-same, counts-more}
use Rattle.mr_run_judge.proofs.opening.open_each.Goals as goal

pub returns-in-Err-clause-stops : goal.returns-in-Err-clause-stops
returns-in-Err-clause-stops g c =
    stops-at _ _ _ (g.D.Disk.disk c.args.disk.now) (g.D.Disk.disk c.opening.disk) (g.D.Disk.disk c.open_run.new.disk) c.args.runs.now c.opening.i _ _ (search rules) c.opening.invariant.counts c.opening.invariant.same c.opening.invariant.sound c.in-Err.ensures.stops

pub opening-preserved : goal.opening-preserved
opening-preserved g c =
    let disk = g.D.Disk.disk in
    let old = disk c.args.disk.now in
    let mid = disk c.opening.disk in
    let new = disk c.open_run.new.disk in
    let before = c.opening.invariant in
    let call = c.in-Ok.ensures in
    let runs = c.args.runs.now in
    let i = c.opening.i in
    record {
      counts = counts-more i _ _ _ old mid new before.counts call.counts (lengths-more runs i _ (search rules));
      same = λ tells. same_then old mid new (before.same tells) (call.same (still_tells _ _ _ old mid before.counts tells));
      runs = subst (λ (es : List Ends). map (λ (e : Ends). e.run) es ≡ take (i + 1) runs) (sym c.in-Ok-push.ensures.items) (runs-more c.opening.opened.items c.in-Ok.ends runs i _ (search rules) before.runs call.run);
      sound = λ tells. before.sound tells ∙ structures-sound (seen old) runs i no_run (search rules) (sound-same old mid (get_or runs i no_run) (before.same tells) (call.sound (still_tells _ _ _ old mid before.counts tells)));
      ends = λ tells. subst (AllByRecursion (HasEnds (seen old))) (sym c.in-Ok-push.ensures.items) (ends-more (seen old) c.opening.opened.items c.in-Ok.ends (before.ends tells) (ends-same old mid c.in-Ok.ends (before.same tells) (call.ends (still_tells _ _ _ old mid before.counts tells))));
    }
