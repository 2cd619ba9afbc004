use Rattle.std.proofs.Common.{◌≡◌, take}
use Rattle.mr_spec.specs.Database.{on_table}
use Rattle.mr_model_engine.proofs.seen.on_table.Given as goal

abbrev pub invariant-loop-change : goal.invariant-loop-change
invariant-loop-change l = l.all ≡ on_table l.name (take l.change-index l.changes)
