-- What is kept beside that of which it is made.
use Rattle.std.specs.Prelude.{◌≡◌, List, Option}
use Rattle.std.specs.Option.{ForSome}
use Rattle.mr_spec.specs.declared.world.Table.{Table}

-- tables that are kept, if any are, are these
abbrev pub IsKept : Option (List Table) → List Table → Type 0
IsKept kept tables = ForSome kept (λ all. all ≡ tables)
