-- Statements on the rows of a table.
use Rattle.std.specs.Prelude.{ℕ, nat_lt, ◌==◌, if◌then◌else◌, List, [], ◌++◌, Option, Some, None, Result, Ok, Err}
use Rattle.std.specs.Option.{option_map_or}
use Rattle.mr_spec.specs.declared.world.Table.{Table}
use Rattle.mr_types.specs.declared.row.Row.{Row}
use Rattle.mr_types.specs.declared.row.Reply.TheVariants as reply
use Rattle.mr_types.specs.declared.statement.Select.{Select}
use Rattle.mr_types.specs.Refusals.{◌>>=◌, ◌>>◌, refuse_where}
use Rattle.mr_spec.specs.Rows.{visible}
use Rattle.mr_spec.specs.Truth.{Where}
use Rattle.mr_spec.specs.Select.{select_tests, selected}
use Rattle.mr_spec.specs.Weight.{total_weight}
use Rattle.mr_spec.specs.Database.{table_of, replay, changes_of, on_table}
use Rattle.mr_spec.specs.Claims.{has_claim_in}
use Rattle.mr_spec.specs.declared.progress.Progress.{Progress}
use Rattle.mr_spec.specs.declared.progress.Refusal.{Refusal}
use Rattle.mr_spec.specs.Progress.{Scene, told}
use Rattle.mr_spec.specs.World.{World, view_of, later_commits, is_stale, held_changes, changes_by, rolled_back, keeping, entered, with_number}
use Rattle.mr_spec.specs.Outcome.{Outcome, refused, done, answered}

-- 1146; then the snapshot is fixed and the table used; then 1412; then the statement
abbrev pub on_rows : List ℕ → (Table → World → Outcome) → World → Outcome
on_rows name act w = on_found (table_of name (replay w.commits))
  where
    on_found : Option Table → Outcome
    on_found None = refused w 1146
    on_found (Some t) = let u = entered name w in if is_stale name u then refused u 1412 else act t u

-- the rows of a table in the current session's view, expired ones too
abbrev pub rows_seen : List ℕ → World → List Row
rows_seen name w = option_map_or (λ t. t.rows) (table_of name (view_of w.commits w.here.txn)) []

-- ---- SELECT

-- its rows, or its first refusal
abbrev pub select_answer : Select → Where → Table → World → Result Outcome ℕ
select_answer s c t w = do
  select_tests t.def s c
  Ok (record { world = w; reply = reply.Rows (selected t.def s c (visible t.def w.moment (rows_seen s.table w))) })

-- a SELECT changes nothing
abbrev pub select_outcome : Select → Where → Table → World → Outcome
select_outcome s c t w = answered w (select_answer s c t w)

-- ---- INSERT, REPLACE, UPDATE and DELETE

-- the other sessions' claims, and those of the commits behind the snapshot
abbrev pub scene_of : Table → World → Scene
scene_of t w = record {
  def = t.def;
  moment = w.moment;
  held = has_claim_in t.def (on_table t.def.name (held_changes w.others));
  changed = has_claim_in t.def (on_table t.def.name (changes_of (later_commits w)));
}

-- before the first row
abbrev pub start_of : Table → World → Progress
start_of t w = record { rows = rows_seen t.def.name w; changes = []; next = w.numbers t.def.name; count = 0 }

-- 1197 behind the last row: the transaction's changes are too heavy
abbrev pub not_too_heavy : World → Progress → Result Progress Refusal
not_too_heavy w g = do
  told g.next (refuse_where 1197 (nat_lt 67108864 (total_weight (replay w.commits) (changes_by w.here.txn ++ g.changes))))
  Ok g

-- the changes of all rows, from the start
abbrev pub written : (Scene → Progress → Result Progress Refusal) → Table → World → Result Progress Refusal
written changes t w = do
  g ← changes (scene_of t w) (start_of t w)
  not_too_heavy w g

-- a refused statement leaves the world but for the numbers it drew; 1213 ends the transaction
abbrev pub after_rows : List ℕ → World → Result Progress Refusal → Outcome
after_rows name w (Ok g) = done (keeping g.changes (with_number name g.next w)) g.count
after_rows name w (Err e) = refused (if e.code == 1213 then rolled_back (with_number name e.next w) else with_number name e.next w) e.code

-- the outcome of a writing statement
abbrev pub write_outcome : (Scene → Progress → Result Progress Refusal) → Table → World → Outcome
write_outcome changes t w = after_rows t.def.name w (written changes t w)
