-- The statements that end among the bytes of a script.
use Rattle.std.specs.Prelude.{ℕ, List, [], ◌∷◌, ◌++◌, if◌then◌else◌, map, Result}
use Rattle.mr_lex.specs.Cutting.{Part, ends, part_of}
use Rattle.mr_spec.specs.ScriptRun.{read_part}
use Rattle.mr_types.specs.declared.statement.Statement.{Statement}

-- the parts that a `;` among these bytes ends, where the bytes `since` the last end stand in front of them
abbrev pub ended_by : List ℕ → List ℕ → List Part
ended_by since [] = []
ended_by since (b ∷ bs) = if ends since b then part_of since ++ ended_by [] bs else ended_by (since ++ b ∷ []) bs

-- what then stands behind the last end
abbrev pub left_by : List ℕ → List ℕ → List ℕ
left_by since [] = since
left_by since (b ∷ bs) = if ends since b then left_by [] bs else left_by (since ++ b ∷ []) bs

-- the statements that end among these bytes
abbrev pub statements_in : List ℕ → List ℕ → List (Result Statement ℕ)
statements_in since bytes = map read_part (ended_by since bytes)
