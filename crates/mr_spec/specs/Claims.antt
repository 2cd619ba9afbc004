-- Claims of changes on the values of keys.
use Rattle.std.specs.Prelude.{ℕ, Bool, List, ⊤, Result}
use Rattle.std.specs.List.{list_any}
use Rattle.mr_types.specs.declared.definition.TableDef.{TableDef}
use Rattle.mr_types.specs.declared.row.Change.{Change}
use Rattle.mr_spec.specs.Rows.{clashes, rows_of}
use Rattle.mr_types.specs.Refusals.{◌>>◌, refuse_where}

-- two changes of a table have a claim in common: a row of the one and a row of the other have the same
-- primary key, or the same values without NULL in a unique key
abbrev pub share_claim : TableDef → Change → Change → Bool
share_claim def c d = list_any (λ r. list_any (λ s. clashes def r s) (rows_of d)) (rows_of c)

-- one of these changes has a claim in common with the change
abbrev pub has_claim_in : TableDef → List Change → Change → Bool
has_claim_in def others c = list_any (share_claim def c) others

-- 1205 where another session holds a claim of these changes, 1213 where a later commit has one
abbrev pub claimed : (Change → Bool) → (Change → Bool) → List Change → Result ⊤ ℕ
claimed held changed changes = do
  refuse_where 1205 (list_any held changes)
  refuse_where 1213 (list_any changed changes)
