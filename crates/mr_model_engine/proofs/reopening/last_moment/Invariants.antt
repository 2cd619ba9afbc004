use Rattle.std.proofs.Common.{◌≡◌, drop}
use Rattle.mr_spec.specs.Replay.{last_moment}
use Rattle.mr_model_engine.proofs.reopening.last_moment.Given as goal

abbrev pub invariant-loop-commit : goal.invariant-loop-commit
invariant-loop-commit l = last_moment l.moment (drop l.commit-index l.commits) ≡ last_moment 0 l.commits
