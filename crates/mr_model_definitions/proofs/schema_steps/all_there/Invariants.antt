use Rattle.std.proofs.Common.{◌≡◌, drop}
use Rattle.mr_model_engine.specs.Worlds.{world_in}
use Rattle.mr_model_definitions.specs.Locking.{are_there}
use Rattle.mr_model_definitions.proofs.schema_steps.all_there.Given as goal

abbrev pub invariant-loop-name : goal.invariant-loop-name
invariant-loop-name l = are_there (world_in l.engine) (drop l.name-index l.names) ≡ are_there (world_in l.engine) l.names
