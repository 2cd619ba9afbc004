use Rattle.mr_base.proofs.Moments.{same_then}
use Rattle.mr_base.proofs.Counting.{rises_then}
use Rattle.mr_store_filling.specs.Filled.{OpeningStops}
use Rattle.mr_store_filling.proofs.Chained.{opened_behind, stops_behind, item_is, still_told, err_is}
use Rattle.mr_store_filling.proofs.opening.open_runs.Goals as goal

pub opening-preserved : goal.opening-preserved
opening-preserved g c =
    let s = g.D.Disk.disk c.args.disk.now in
    let m = g.D.Disk.disk c.opening.disk in
    let t = g.D.Disk.disk c.open_one.new.disk in
    record {
      opened = λ told. opened_behind s m c.args.runs.now c.opening.i _ c.args.families.now c.opening.families c.open_one.new.families (c.opening.invariant.same told) c.opening-test.true (item_is c.args.runs.now c.opening.i (record { family = 0; level = 0; file = 0; length = 0; entries = 0 }) c.opening-test.true) (c.opening.invariant.opened told) (c.in_ok-open_one.ensures.opened (still_told s m c.opening.invariant.rises told));
      rises = rises_then 0 0 s m t c.opening.invariant.rises c.open_one.ensures.rises;
      same = λ told. same_then s m t (c.opening.invariant.same told) (c.open_one.ensures.same (still_told s m c.opening.invariant.rises told));
    }

pub returns-in_err-open_one-clause-stops : goal.returns-in_err-open_one-clause-stops
returns-in_err-open_one-clause-stops g c =
    let s = g.D.Disk.disk c.args.disk.now in
    let m = g.D.Disk.disk c.opening.disk in
    let t = g.D.Disk.disk c.open_one.new.disk in
    err_is c.from_residual.result c.in_err-open_one.field-0.0 (OpeningStops c.args.runs.now s t) c.from_residual.ensures.1
    (stops_behind s m t c.args.runs.now c.opening.i _ c.in_err-open_one.field-0.0 c.opening.invariant.rises c.opening.invariant.same c.opening-test.true (item_is c.args.runs.now c.opening.i (record { family = 0; level = 0; file = 0; length = 0; entries = 0 }) c.opening-test.true) c.in_err-open_one.ensures.stops)
