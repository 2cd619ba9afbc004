use Rattle.std.proofs.Common.{Ok}
use Rattle.mr_stored.specs.Offences.{runs_judged}
use Rattle.mr_run_judge.specs.Judged.{JudgeStops}
use Rattle.mr_run_judge.proofs.Later.{later_stop}
use Rattle.mr_run_judge.proofs.judge.judged.Goals as goal

pub returns-in-Err-added_in-clause-stops : goal.returns-in-Err-added_in-clause-stops
returns-in-Err-added_in-clause-stops g c =
    let disk = g.D.Disk.disk in
    let stop : JudgeStops (λ image. Ok tt) (disk c.overlapping.new.disk) (disk c.added_in.new.disk) c.in-Err-added_in.stop = c.in-Err-added_in.ensures.stops (λ image. Ok tt) in
    later_stop (λ image. runs_judged image c.args.runs.now) 0 (disk c.args.disk.now) (disk c.overlapping.new.disk) (disk c.added_in.new.disk) c.in-Err-added_in.stop c.overlapping.ensures.rises stop
