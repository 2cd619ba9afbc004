-- How many hidden numbers a statement draws.
use Rattle.std.specs.Prelude.{◌≡◌, ◌≤◌, ◌⊎◌, ℕ, ◌+◌, if◌then◌else◌, List, length, Result, Ok, Err, IfOk, ⊤}
use Rattle.std.specs.List.{position_or_len}
use Rattle.std.specs.Option.{option_map_or}
use Rattle.std.specs.Result.{is_err}
use Rattle.mr_types.specs.declared.definition.TableDef.{TableDef}
use Rattle.mr_types.specs.declared.statement.Insert.{Insert}
use Rattle.mr_types.specs.declared.statement.ItemValue.{ItemValue}
use Rattle.mr_types.specs.declared.statement.SetItem.{SetItem}
use Rattle.mr_types.specs.declared.statement.Statement.{Statement}
use Rattle.mr_types.specs.declared.statement.Statement.TheVariants as statement
use Rattle.mr_types.specs.Values.{same_bytes}
use Rattle.mr_spec.specs.declared.progress.Progress.{Progress}
use Rattle.mr_spec.specs.declared.progress.Refusal.{Refusal}
use Rattle.mr_spec.specs.Truth.{Where}
use Rattle.mr_spec.specs.Database.{table_of, replay}
use Rattle.mr_spec.specs.NewRows.{has_hidden_key, insert_tests, fields_of}
use Rattle.mr_spec.specs.Progress.{Scene}
use Rattle.mr_spec.specs.Changes.{insert_changes, replace_changes, update_changes, delete_changes}
use Rattle.mr_spec.specs.World.{World, at_name}

-- ---- rows

-- the next hidden number behind an answer, done or refused
abbrev pub next_of : Result Progress Refusal → ℕ
next_of (Ok g) = g.next
next_of (Err e) = e.next

-- a number that doesn't fall, and rises by so many at most
abbrev pub RisesBy : ℕ → ℕ → ℕ → Type 0
RisesBy most old new = (old ≤ new) × (new ≤ old + most)

-- the tuples in front of the first whose assignments to these columns are refused; none where the columns are refused
abbrev pub assigned_tuples : TableDef → List (List ItemValue) → Result (List ℕ) ℕ → ℕ
assigned_tuples def tuples (Ok at) = position_or_len (λ tuple. is_err (fields_of def at tuple)) tuples
assigned_tuples def tuples (Err code) = 0

-- the numbers that they may draw: one each, in a table without a primary key
abbrev pub draws_in : TableDef → Insert → ℕ
draws_in def s = if has_hidden_key def then assigned_tuples def s.rows (insert_tests def s) else 0

-- what INSERT and REPLACE draw where they are done
abbrev pub draws_done : TableDef → Insert → ℕ
draws_done def s = if has_hidden_key def then length s.rows else 0

-- INSERT and REPLACE draw a number for each tuple whose assignments pass, up to the one that is refused; where they are done, for
-- each tuple. UPDATE and DELETE draw none.
pub record DrawsFew (a : Scene) (g : Progress) : Type 0 where
  pub insert : (s : Insert) → RisesBy (draws_in a.def s) g.next (next_of (insert_changes a s g))
  pub inserted : (s : Insert) → IfOk (insert_changes a s g) (λ h. h.next ≡ g.next + draws_done a.def s)
  pub replace : (s : Insert) → RisesBy (draws_in a.def s) g.next (next_of (replace_changes a s g))
  pub replaced : (s : Insert) → IfOk (replace_changes a s g) (λ h. h.next ≡ g.next + draws_done a.def s)
  pub update : (set : List SetItem) (c : Where) → next_of (update_changes a set c g) ≡ g.next
  pub delete : (c : Where) → next_of (delete_changes a c g) ≡ g.next

-- ---- worlds

-- the tuples to which the statement may give hidden numbers
abbrev pub rows_made : Statement → ℕ
rows_made (statement.Insert s) = length s.rows
rows_made (statement.Replace s) = length s.rows
rows_made _ = 0

-- the numbers that they may draw from the table of this name
abbrev pub draws_from : World → Insert → List ℕ → ℕ
draws_from w s name = if same_bytes name s.table then option_map_or (λ t. draws_in t.def s) (table_of s.table (replay w.commits)) 0 else 0

-- the numbers that a statement may draw from the table of this name
abbrev pub draws_by : World → Statement → List ℕ → ℕ
draws_by w (statement.Insert s) name = draws_from w s name
draws_by w (statement.Replace s) name = draws_from w s name
draws_by w _ name = 0

-- all statements but DROP TABLE
abbrev pub IsNoDrop : Statement → Type 0
IsNoDrop (statement.DropTable table if_exists) = ⊥
IsNoDrop _ = ⊤

-- the next hidden numbers are as they were, but that those of a dropped table begin anew
abbrev pub ForgetsAt : List ℕ → World → World → Type 0
ForgetsAt table w u = (u.numbers ≡ w.numbers) ⊎ (u.numbers ≡ at_name table 1 w.numbers)
