use Rattle.std.proofs.Common.{get_or, ◌+◌, ◌≡◌, ◌∙◌, ◌∷◌, List, drop, sym, ap, subst}
use Rattle.mr_base.specs.Disk.{Image, seen}
use Rattle.mr_base.specs.declared.stop.Direction.TheVariants.{Forward}
use Rattle.mr_base.proofs.Counting.{rises_tells, rises_then}
use Rattle.mr_base.proofs.Moments.{same_then}
use Rattle.mr_iter.specs.Walks.{image_same}
use Rattle.mr_manifest.specs.declared.live.LiveRun.{LiveRun}
use Rattle.mr_stored.specs.Lists.{runs_of, with_runs}
use Rattle.mr_store_names.proofs.Going.{no_run, from_here, stops_before}
use Rattle.mr_store_names.proofs.opening.open_runs.Goals as goal

pub returns-in-Err-clause-stops : goal.returns-in-Err-clause-stops
returns-in-Err-clause-stops g c =
    let s = g.D.Disk.disk c.args.disk.now in
    let u = g.D.Disk.disk c.open_one.new.disk in
    stops_before s (g.D.Disk.disk c.opening.disk) u c.opening.invariant.rises c.opening.invariant.same c.args.runs.now c.opening.i no_run c.opening-test.true c.in-Err.stop c.in-Err.ensures.stops

pub opening-preserved : goal.opening-preserved
opening-preserved g c =
    let s = g.D.Disk.disk c.args.disk.now in
    let t = g.D.Disk.disk c.opening.disk in
    let u = g.D.Disk.disk c.open_one.new.disk in
    let runs = c.args.runs.now in
    let before = c.opening.invariant in
    record {
      forward = c.open_one.ensures.forward;
      memtable = c.open_one.ensures.memtable ∙ before.memtable;
      cached = c.open_one.ensures.cached ∙ before.cached;
      rises = rises_then 0 0 s t u before.rises c.open_one.ensures.rises;
      same = λ tells. same_then s t u (before.same tells) (c.open_one.ensures.same (rises_tells 0 s t before.rises tells));
      opened = λ tells.
          let e : seen t ≡ seen s = image_same s t (before.same tells) in
          let step = subst (λ (image : Image). with_runs Forward image (runs_of 0 (drop (c.opening.i + 1) runs)) c.open_one.new.family.levels ≡ with_runs Forward image (runs_of 0 (get_or runs c.opening.i no_run ∷ drop (c.opening.i + 1) runs)) c.opening.family.levels) e
          (c.in-Ok.ensures.opened (rises_tells 0 s t before.rises tells) (drop (c.opening.i + 1) runs)) in
          step
          ∙ ap (λ (rs : List LiveRun). with_runs Forward (seen s) (runs_of 0 rs) c.opening.family.levels) (sym (from_here runs c.opening.i no_run c.opening-test.true))
          ∙ before.opened tells;
    }
