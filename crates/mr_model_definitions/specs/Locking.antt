-- Whether tables are there.
use Rattle.std.specs.Prelude.{ℕ, List, Result, Ok, ⊤}
use Rattle.mr_types.specs.Refusals.{◌>>◌, each}
use Rattle.mr_spec.specs.World.{World}
use Rattle.mr_spec.specs.SchemaSteps.{table_in}

-- 1146 where one of these isn't
abbrev pub are_there : World → List (List ℕ) → Result ⊤ ℕ
are_there w names = do
  each (table_in w) names
  Ok tt
