-- How a program's engine stands for a world of the definitions.
use Rattle.std.specs.Prelude.{ℕ, suc, Bool, ◌||◌, if◌then◌else◌, List, [], ◌∷◌, Option, None, is_none, is_some}
use Rattle.mr_types.specs.declared.definition.IndexDef.{IndexDef}
use Rattle.mr_types.specs.Values.{same_bytes}
use Rattle.mr_spec.specs.World.{World, at_name}
use Rattle.mr_model_engine.specs.declared.engine.Building.{Building}
use Rattle.mr_model_engine.specs.declared.engine.NextNumber.{NextNumber}
use Rattle.mr_model_engine.specs.declared.engine.Engine.{Engine}

-- the first entry of a table's name tells; a table without one has no building index
abbrev pub building_in : List Building → List ℕ → Option IndexDef
building_in [] = λ name. None
building_in (e ∷ es) = at_name e.table e.key (building_in es)

-- and a table without an entry begins at 1
abbrev pub numbers_in : List NextNumber → List ℕ → ℕ
numbers_in [] = λ name. 1
numbers_in (e ∷ es) = at_name e.table e.number (numbers_in es)

-- the place of a table's first entry; behind all where it has none
abbrev pub place_among : List ℕ → List NextNumber → ℕ
place_among name [] = 0
place_among name (e ∷ es) = if same_bytes name e.table then 0 else suc (place_among name es)

-- the lists of entries as functions, the rest as it is
abbrev pub world_in : Engine → World
world_in e = record { commits = e.commits; here = e.here; others = e.others; building = building_in e.building; numbers = numbers_in e.numbers; moment = e.moment }

-- what the current session sees is at hand: it is in no transaction, or its transaction keeps it
abbrev pub keeps_view : Engine → Bool
keeps_view e = is_none e.here.txn || is_some e.view
