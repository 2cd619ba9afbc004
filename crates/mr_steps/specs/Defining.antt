-- When a table was last defined.
use Rattle.std.specs.Prelude.{ℕ, ◌+◌, nat_lt, if◌then◌else◌, List, [], ◌∷◌}
use Rattle.mr_types.specs.declared.row.Commit.{Commit}
use Rattle.mr_spec.specs.Database.{defines}

-- the number, from 1, of the last commit that makes or changes the definition of the table; 0 where none does
abbrev pub last_defined : List ℕ → List Commit → ℕ
last_defined name [] = 0
last_defined name (c ∷ cs) = if nat_lt 0 (last_defined name cs) then last_defined name cs + 1 else (if defines name c then 1 else 0)
