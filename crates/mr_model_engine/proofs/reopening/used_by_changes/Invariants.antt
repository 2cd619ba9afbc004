use Rattle.std.proofs.Common.{◌≡◌, drop}
use Rattle.mr_model_engine.specs.Worlds.{numbers_in}
use Rattle.mr_spec.specs.Replay.{numbers_by_changes}
use Rattle.mr_model_engine.proofs.reopening.used_by_changes.Given as goal

abbrev pub invariant-loop-change : goal.invariant-loop-change
invariant-loop-change l = numbers_by_changes (numbers_in l.all) (drop l.change-index l.changes) ≡ numbers_by_changes (numbers_in l.fn.numbers) l.changes
