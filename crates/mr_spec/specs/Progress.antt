-- How far a writing statement is, and what its rows are judged by.
use Rattle.std.specs.Prelude.{ℕ, ◌+◌, Bool, List, ◌++◌, fold, Result, Ok, Err}
use Rattle.mr_types.specs.declared.definition.TableDef.{TableDef}
use Rattle.mr_types.specs.declared.row.Row.{Row}
use Rattle.mr_types.specs.declared.row.Change.{Change}
use Rattle.mr_spec.specs.declared.progress.Progress.{Progress}
use Rattle.mr_spec.specs.declared.progress.Refusal.{Refusal}
use Rattle.mr_spec.specs.Rows.{visible, rows_after}

-- what a row's handling looks at: the definition, the moment, and of a change whether another session holds a claim of it
-- and whether a commit behind the snapshot has one
pub record Scene : Type 0 where
  pub def : TableDef
  pub moment : ℕ
  pub held : Change → Bool
  pub changed : Change → Bool

-- an answer as it is, and a refusal with the next hidden number
abbrev pub told : {A : Type 0} → ℕ → Result A ℕ → Result A Refusal
told next (Ok x) = Ok x
told next (Err code) = Err (record { code = code; next = next })

-- the rows that the statement sees, its own changes among them
abbrev pub seen_rows : Scene → Progress → List Row
seen_rows a g = visible a.def a.moment g.rows

-- these changes done, which count for so many rows
abbrev pub advanced : Scene → List Change → ℕ → Progress → Progress
advanced a changes count g = record g {
  rows = fold (rows_after a.def) g.rows changes;
  changes = g.changes ++ changes;
  count = g.count + count;
}
