use Rattle.mr_run_open.proofs.Stopping.{block_stops}
use Rattle.mr_run_open.proofs.judge.read_judged.Goals as goal

pub returns-in-Err-judge-clause-stops : goal.returns-in-Err-judge-clause-stops
returns-in-Err-judge-clause-stops g c = block_stops c.args.file c.args.place c.args.size c.args.known.now (g.D.Disk.disk c.args.disk.now) c.in-Ok.bytes c.in-Err-judge.malformed.0 c.in-Ok.ensures.few c.in-Ok.ensures.bytes c.in-Err-judge.ensures.err
