-- What one statement does to the world, and its reply.
use Rattle.std.specs.Prelude.{ℕ, max, Bool, true, false, if◌then◌else◌, Some, Result, Ok, Err, codes}
use Rattle.std.specs.Option.{option_map}
use Rattle.mr_types.specs.declared.statement.Statement.{Statement}
use Rattle.mr_types.specs.declared.statement.Statement.TheVariants as statement
use Rattle.mr_spec.specs.Truth.{where_of}
use Rattle.mr_spec.specs.Changes.{insert_changes, replace_changes, update_changes, delete_changes}
use Rattle.mr_spec.specs.World.{World, with_txn, committed, rolled_back, turned_to}
use Rattle.mr_spec.specs.Outcome.{Outcome, refused, done, answered}
use Rattle.mr_spec.specs.RowSteps.{on_rows, select_outcome, write_outcome}
use Rattle.mr_spec.specs.SchemaSteps.{create_table, drop_table, create_index, drop_index, begin_index, finish_index, cancel_index, lock_tables}
use Rattle.mr_spec.specs.SessionSteps.{new_txn, with_savepoint, rolled_back_to, released, session_outcome}

-- the statements that commit an open transaction first, also where they are then refused
abbrev pub commits_first : Statement → Bool
commits_first (statement.CreateTable text if_not_exists engine) = true
commits_first (statement.DropTable table if_exists) = true
commits_first (statement.CreateIndex table key) = true
commits_first (statement.DropIndex n) = true
commits_first (statement.BeginIndex table key) = true
commits_first (statement.FinishIndex n) = true
commits_first (statement.CancelIndex n) = true
commits_first (statement.Lock names) = true
commits_first (statement.Begin snapshot) = true
commits_first _ = false

-- a statement in a world that is at its moment, and whose open transaction it has committed where it does so. Savepoints outside
-- a transaction keep nothing. DISCONNECT ends the current session, and `main` is current then. WORK changes nothing.
abbrev pub outcome_of : Statement → World → Outcome
outcome_of (statement.CreateTable text if_not_exists engine) w = answered w (create_table w text if_not_exists engine)
outcome_of (statement.DropTable table if_exists) w = answered w (drop_table w table if_exists)
outcome_of (statement.CreateIndex table key) w = answered w (create_index w table key)
outcome_of (statement.DropIndex n) w = answered w (drop_index w n)
outcome_of (statement.BeginIndex table key) w = answered w (begin_index w table key)
outcome_of (statement.FinishIndex n) w = answered w (finish_index w n)
outcome_of (statement.CancelIndex n) w = answered w (cancel_index w n)
outcome_of (statement.Insert s) w = on_rows s.table (write_outcome (λ a g. insert_changes a s g)) w
outcome_of (statement.Replace s) w = on_rows s.table (write_outcome (λ a g. replace_changes a s g)) w
outcome_of (statement.Update table set condition) w = on_rows table (write_outcome (λ a g. update_changes a set (where_of condition) g)) w
outcome_of (statement.Delete table condition) w = on_rows table (write_outcome (λ a g. delete_changes a (where_of condition) g)) w
outcome_of (statement.Select s) w = on_rows s.table (select_outcome s (where_of s.condition)) w
outcome_of (statement.Begin snapshot) w = done (with_txn (Some (new_txn snapshot w)) w) 0
outcome_of statement.Commit w = done (committed w) 0
outcome_of statement.Rollback w = done (rolled_back w) 0
outcome_of (statement.RollbackTo name) w = answered w (rolled_back_to w name)
outcome_of (statement.Savepoint name) w = done (with_txn (option_map (with_savepoint name) w.here.txn) w) 0
outcome_of (statement.Release name) w = answered w (released w name)
outcome_of (statement.Lock names) w = answered w (lock_tables w names)
outcome_of statement.Unlock w = done w 0
outcome_of (statement.Session name) w = answered w (session_outcome w name)
outcome_of statement.Disconnect w = done (turned_to (codes "main") w.others w) 0
outcome_of (statement.Work n) w = done w 0

-- at the statement's moment: the greater of the last one and the clock's value
abbrev pub timed : World → ℕ → World
timed w clock = record w { moment = max w.moment clock }

-- with an open transaction committed, where the statement does so
abbrev pub begun : Statement → World → World
begun s w = if commits_first s then committed w else w

-- one statement
abbrev pub step_of : World → Statement → ℕ → Outcome
step_of w s clock = outcome_of s (begun s (timed w clock))

-- a statement, or the refusal of a text that is none
abbrev pub step : World → Result Statement ℕ → ℕ → Outcome
step w (Ok s) clock = step_of w s clock
step w (Err code) clock = refused (timed w clock) code
