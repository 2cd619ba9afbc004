use Rattle.std.proofs.Common.{◌≡◌, ◌++◌, drop}
use Rattle.mr_spec.specs.Database.{changes_of}
use Rattle.mr_model_engine.proofs.seen.changes_of.Given as goal

abbrev pub invariant-loop-commit : goal.invariant-loop-commit
invariant-loop-commit l = l.all ++ changes_of (drop l.commit-index l.commits) ≡ changes_of l.commits
