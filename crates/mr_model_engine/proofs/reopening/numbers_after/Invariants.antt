use Rattle.std.proofs.Common.{◌≡◌, drop}
use Rattle.mr_model_engine.specs.Worlds.{numbers_in}
use Rattle.mr_spec.specs.Replay.{numbers_after}
use Rattle.mr_model_engine.proofs.reopening.numbers_after.Given as goal

abbrev pub invariant-loop-commit : goal.invariant-loop-commit
invariant-loop-commit l = numbers_after (numbers_in l.all) (drop l.commit-index l.commits) ≡ numbers_after (λ name. 1) l.commits
