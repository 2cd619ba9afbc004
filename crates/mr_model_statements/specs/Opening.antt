-- A table that a statement on rows opens.
use Rattle.std.specs.Prelude.{◌≡◌, ℕ, List, [], Result, Ok, Err}
use Rattle.mr_types.specs.declared.definition.TableDef.{TableDef}
use Rattle.mr_types.specs.declared.refused.Refused.{Refused}
use Rattle.mr_types.specs.declared.refused.Refused.TheVariants.{Memory, Sql}
use Rattle.mr_spec.specs.declared.progress.Progress.{Progress}
use Rattle.mr_spec.specs.declared.progress.Refusal.{Refusal}
use Rattle.mr_spec.specs.declared.world.Table.{Table}
use Rattle.mr_spec.specs.Changes.{insert_changes, replace_changes, update_changes, delete_changes}
use Rattle.mr_spec.specs.Outcome.{Outcome, refused}
use Rattle.mr_spec.specs.Progress.{Scene}
use Rattle.mr_spec.specs.RowSteps.{on_rows}
use Rattle.mr_spec.specs.Truth.{where_of}
use Rattle.mr_spec.specs.World.{World}
use Rattle.mr_model_statements.specs.declared.row_steps.Writing.{Writing}
use Rattle.mr_model_statements.specs.declared.row_steps.Writing.TheVariants.{Insert, Replace, Update, Delete}

-- a table of this definition, without rows
abbrev pub bare : TableDef → Table
bare def = record { def = def; rows = [] }

-- Whatever the statement does, it does it to a table of this definition in the world behind, or it is refused there. What
-- it does looks at no rows of that table, but at those of the session's view.
abbrev pub Opens : World → World → List ℕ → Result TableDef Refused → Type 0
Opens before after name (Ok def) = (act : Table → World → Outcome) → ((t : Table) → act t ≡ act (bare t.def)) → on_rows name act before ≡ act (bare def) after
Opens before after name (Err (Sql code)) = (act : Table → World → Outcome) → on_rows name act before ≡ refused after code
Opens before after name (Err Memory) = Unit {0}

-- the changes that a writing statement makes
abbrev pub changes_by_writing : Writing → Scene → Progress → Result Progress Refusal
changes_by_writing (Insert s) = λ a g. insert_changes a s.now g
changes_by_writing (Replace s) = λ a g. replace_changes a s.now g
changes_by_writing (Update set condition) = λ a g. update_changes a set.now (where_of condition.now) g
changes_by_writing (Delete condition) = λ a g. delete_changes a (where_of condition.now) g
