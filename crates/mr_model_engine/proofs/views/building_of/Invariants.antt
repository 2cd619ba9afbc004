use Rattle.std.proofs.Common.{◌≡◌, drop}
use Rattle.mr_model_engine.specs.Worlds.{building_in}
use Rattle.mr_model_engine.proofs.views.building_of.Given as goal

abbrev pub invariant-loop-entry : goal.invariant-loop-entry
invariant-loop-entry l = building_in (drop l.entry-index l.engine.building) l.table ≡ building_in l.engine.building l.table
