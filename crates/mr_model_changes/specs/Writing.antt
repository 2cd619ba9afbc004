-- Parts of the definitions of writing statements, as single functions compute them.
use Rattle.std.specs.Prelude.{ℕ, ◌+◌, not, ◌==◌, List, [], ◌∷◌, ◌++◌, map, length, Result, Ok}
use Rattle.std.specs.List.{list_any, enumerate_from}
use Rattle.mr_types.specs.declared.definition.TableDef.{TableDef}
use Rattle.mr_types.specs.declared.row.Row.{Row}
use Rattle.mr_types.specs.declared.row.Change.TheVariants.{Insert, Delete}
use Rattle.mr_types.specs.declared.statement.ItemValue.{ItemValue}
use Rattle.mr_types.specs.Refusals.{◌>>◌, refuse_where}
use Rattle.mr_spec.specs.declared.progress.Progress.{Progress}
use Rattle.mr_spec.specs.declared.progress.Refusal.{Refusal}
use Rattle.mr_spec.specs.Claims.{claimed}
use Rattle.mr_spec.specs.Progress.{Scene, told, advanced}
use Rattle.mr_spec.specs.NewRows.{lacks, drawn}

-- the places, where each tuple has as many values, else 1136, and each column has one, else 1364
abbrev pub filled : TableDef → List ℕ → List (List ItemValue) → Result (List ℕ) ℕ
filled def at rows = do
  refuse_where 1136 (list_any (λ t. not (length t == length at)) rows)
  refuse_where 1364 (list_any (lacks at rows) (enumerate_from 0 def.columns))
  Ok at

-- a new row in the place of these, which are gone; its number is drawn, then 1205 and 1213
abbrev pub exchanged : Scene → Row → List Row → Progress → Result Progress Refusal
exchanged a new gone g = do
  let made = map (Delete a.def.name) gone ++ Insert a.def.name new ∷ []
  let h = drawn a.def g
  told h.next (claimed a.held a.changed made)
  Ok (advanced a made (length gone + 1) h)
