use Rattle.mr_engine_log.specs.Standing.{IsReady}
use Rattle.mr_engine_log_trials.proofs.steps.run.Given as goal

abbrev pub invariant-running : goal.invariant-running
invariant-running g l = IsReady l.log (g.D.Disk.disk l.disk)
