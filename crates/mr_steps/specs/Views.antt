-- Definitions in two lists of tables.
use Rattle.std.specs.Prelude.{◌≡◌, ℕ, List}
use Rattle.std.specs.Option.{option_map}
use Rattle.mr_spec.specs.declared.world.Table.{Table}
use Rattle.mr_spec.specs.Database.{table_of}

-- the table of this name is in both with one definition, or in neither
abbrev pub SameDefinition : List ℕ → List Table → List Table → Type 0
SameDefinition name ts us = option_map (λ t. t.def) (table_of name ts) ≡ option_map (λ t. t.def) (table_of name us)
