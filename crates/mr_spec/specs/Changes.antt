-- The changes that a writing statement makes, row by row, or its refusal.
use Rattle.std.specs.Prelude.{ℕ, ◌+◌, List, [], ◌∷◌, ◌++◌, length, map, filter, if◌then◌else◌, Result, Ok}
use Rattle.std.specs.List.{list_any}
use Rattle.mr_types.specs.declared.row.Row.{Row}
use Rattle.mr_types.specs.declared.row.Change.TheVariants as change
use Rattle.mr_types.specs.declared.statement.Insert.{Insert}
use Rattle.mr_types.specs.declared.statement.ItemValue.{ItemValue}
use Rattle.mr_types.specs.declared.statement.SetItem.{SetItem}
use Rattle.mr_types.specs.Refusals.{◌>>=◌, ◌>>◌, refuse_where, in_turn}
use Rattle.mr_spec.specs.Rows.{clashes, without}
use Rattle.mr_spec.specs.Truth.{Where, known_columns, right_literals}
use Rattle.mr_spec.specs.Claims.{claimed}
use Rattle.mr_spec.specs.declared.progress.Progress.{Progress}
use Rattle.mr_spec.specs.declared.progress.Refusal.{Refusal}
use Rattle.mr_spec.specs.Progress.{Scene, told, seen_rows, advanced}
use Rattle.mr_spec.specs.NewRows.{drawn, new_row, insert_tests, fields_of}
use Rattle.mr_spec.specs.Setting.{with_item, same_fields, updated_row, update_tests}

-- ---- one row

-- a made row is inserted, with the progress behind its number: 1205, 1213, and 1062 where a visible row has the values of
-- one of its keys
abbrev pub insert_made : Scene → Row → Progress → Result Progress Refusal
insert_made a new h = do
  let made = change.Insert a.def.name new ∷ []
  told h.next (claimed a.held a.changed made)
  told h.next (refuse_where 1062 (list_any (clashes a.def new) (seen_rows a h)))
  Ok (advanced a made 1 h)

-- a made row takes the place of the visible rows that have the values of one of its keys, with the progress behind its
-- number: these are deleted, and it is inserted; 1205, 1213
abbrev pub replace_made : Scene → Row → Progress → Result Progress Refusal
replace_made a new h = do
  let gone = filter (clashes a.def new) (seen_rows a h)
  let made = map (change.Delete a.def.name) gone ++ change.Insert a.def.name new ∷ []
  told h.next (claimed a.held a.changed made)
  Ok (advanced a made (length gone + 1) h)

-- a tuple of INSERT: its assignments, its number, then the row that is made of them
abbrev pub inserted : Scene → List ℕ → Progress → List ItemValue → Result Progress Refusal
inserted a at g tuple = do
  fields ← told g.next (fields_of a.def at tuple)
  insert_made a (new_row a g.next fields) (drawn a.def g)

-- a tuple of REPLACE: its assignments, its number, then the row that is made of them
abbrev pub replaced : Scene → List ℕ → Progress → List ItemValue → Result Progress Refusal
replaced a at g tuple = do
  fields ← told g.next (fields_of a.def at tuple)
  replace_made a (new_row a g.next fields) (drawn a.def g)

-- a row of DELETE: 1205, 1213
abbrev pub deleted : Scene → Progress → Row → Result Progress Refusal
deleted a g old = do
  let made = change.Delete a.def.name old ∷ []
  told g.next (claimed a.held a.changed made)
  Ok (advanced a made 1 g)

-- an old row becomes a new one: 1205, 1213, and 1062 where another visible row has the values of one of its keys
abbrev pub moved : Scene → Progress → Row → Row → Result Progress Refusal
moved a g old new = do
  let made = change.Update a.def.name old new ∷ []
  told g.next (claimed a.held a.changed made)
  told g.next (refuse_where 1062 (list_any (clashes a.def new) (without a.def old (seen_rows a g))))
  Ok (advanced a made 1 g)

-- a row of UPDATE: its assignments; where each field stays byte for byte there is no change
abbrev pub updated : Scene → List SetItem → Progress → Row → Result Progress Refusal
updated a set g old = do
  fields ← told g.next (in_turn (with_item a.def) old.fields set)
  if same_fields old.fields fields then Ok g else moved a g old (updated_row a.def old fields)

-- ---- the statements

-- INSERT, in text order
abbrev pub insert_changes : Scene → Insert → Progress → Result Progress Refusal
insert_changes a s g = do
  at ← told g.next (insert_tests a.def s)
  in_turn (inserted a at) g s.rows

-- REPLACE, in text order
abbrev pub replace_changes : Scene → Insert → Progress → Result Progress Refusal
replace_changes a s g = do
  at ← told g.next (insert_tests a.def s)
  in_turn (replaced a at) g s.rows

-- the rows that UPDATE and DELETE handle, fixed at the statement's start
abbrev pub chosen : Scene → Where → Progress → List Row
chosen a c g = filter (c.keeps a.def) (seen_rows a g)

-- UPDATE, in primary-key order
abbrev pub update_changes : Scene → List SetItem → Where → Progress → Result Progress Refusal
update_changes a set c g = do
  told g.next (update_tests a.def set c)
  in_turn (updated a set) g (chosen a c g)

-- DELETE, in primary-key order: 1054, 1366, then the rows
abbrev pub delete_changes : Scene → Where → Progress → Result Progress Refusal
delete_changes a c g = do
  told g.next (known_columns a.def c)
  told g.next (right_literals a.def c)
  in_turn (deleted a) g (chosen a c g)
