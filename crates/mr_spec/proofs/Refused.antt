-- What a refused statement leaves.
use Rattle.std.proofs.Common.{◌≡◌, ℕ, Bool, true, false, List, Option, Some, None, Result, Ok, Err, IfOk, refl}
use Rattle.mr_spec.specs.declared.world.Table.{Table}
use Rattle.mr_types.specs.declared.text.KeyText.{KeyText}
use Rattle.mr_types.specs.declared.definition.IndexDef.{IndexDef}
use Rattle.mr_types.specs.declared.text.TableText.{TableText}
use Rattle.mr_types.specs.declared.statement.KeyName.{KeyName}
use Rattle.mr_types.specs.declared.statement.Select.{Select}
use Rattle.mr_types.specs.declared.statement.Statement.{Statement}
use Rattle.mr_types.specs.declared.statement.Statement.TheVariants as statement
use Rattle.mr_spec.specs.Truth.{Where, where_of}
use Rattle.mr_spec.specs.Database.{table_of, replay}
use Rattle.mr_spec.specs.declared.progress.Progress.{Progress}
use Rattle.mr_spec.specs.declared.progress.Refusal.{Refusal}
use Rattle.mr_spec.specs.Progress.{Scene}
use Rattle.mr_spec.specs.Changes.{insert_changes, replace_changes, update_changes, delete_changes}
use Rattle.mr_spec.specs.World.{World, entered, is_stale, with_building}
use Rattle.mr_spec.specs.Outcome.{Outcome, done, answered, refused}
use Rattle.mr_spec.specs.RowSteps.{on_rows, select_answer, select_outcome, write_outcome, written, after_rows}
use Rattle.mr_spec.specs.SchemaSteps.{create_table, drop_table, with_begun, begin_index, finish_index, cancel_index, create_index, drop_index, lock_tables}
use Rattle.mr_spec.specs.SessionSteps.{rolled_back_to, released, session_outcome}
use Rattle.mr_spec.specs.Step.{outcome_of, begun, timed, step}
use Rattle.mr_spec.specs.ScriptRun.{is_refusal}
use Rattle.mr_spec.specs.Promises.{Left, as_it_was, used, drew, ended, unbuilt, built_in_vain, Leaves, judged_in}
use Rattle.mr_spec.proofs.Results.{bound, behind, either, after}

pub leaves-answered : (w : World) (r : Result Outcome ℕ) → IfOk r (Leaves w) → Leaves w (answered w r)
leaves-answered w (Ok o) h = h
leaves-answered w (Err code) h = λ e. as_it_was

pub leaves-done : (w u : World) (n : ℕ) → Leaves w (done u n)
leaves-done w u n = λ e. cc

pub leaves-unbuilt : (w : World) (t : List ℕ) (code : ℕ) → Leaves w (refused (with_building t None w) code)
leaves-unbuilt w t code = λ e. unbuilt t

abbrev pub LeavesOk : World → Result Outcome ℕ → Type 0
LeavesOk w r = IfOk r (Leaves w)

pub leaves-create_table : (w : World) (text : TableText) (b : Bool) (engine : Option (List ℕ)) → LeavesOk w (create_table w text b engine)
leaves-create_table w text b engine = search (bound, behind, either (LeavesOk w), leaves-done)

pub leaves-drop_table : (w : World) (table : List ℕ) (b : Bool) → LeavesOk w (drop_table w table b)
leaves-drop_table w table b = search (behind, either (LeavesOk w), leaves-done)

pub leaves-begin : (w : World) (table : List ℕ) (k : KeyText) → LeavesOk w (begin_index w table k)
leaves-begin w table k = search (bound, leaves-done)

pub leaves-finish : (w : World) (n : KeyName) → LeavesOk w (finish_index w n)
leaves-finish w n = search (bound, behind, either (Leaves w), leaves-done, leaves-unbuilt)

pub leaves-cancel : (w : World) (n : KeyName) → LeavesOk w (cancel_index w n)
leaves-cancel w n = search (bound, leaves-done)

pub leaves-drop_index : (w : World) (n : KeyName) → LeavesOk w (drop_index w n)
leaves-drop_index w n = search (bound, behind, leaves-done)

pub leaves-lock : (w : World) (names : List (List ℕ)) → LeavesOk w (lock_tables w names)
leaves-lock w names = search (behind, leaves-done)

pub leaves-rolled_back_to : (w : World) (name : List ℕ) → LeavesOk w (rolled_back_to w name)
leaves-rolled_back_to w name = search (bound, leaves-done)

pub leaves-released : (w : World) (name : List ℕ) → LeavesOk w (released w name)
leaves-released w name = search (bound, leaves-done)

pub leaves-session : (w : World) (name : List ℕ) → LeavesOk w (session_outcome w name)
leaves-session w name = search (behind, leaves-done)

-- ---- rows

-- an outcome on the world entered
abbrev pub LeavesEntered : List ℕ → World → Outcome → Type 0
LeavesEntered name w o = is_refusal o.reply ≡ true → Left w o.world

pub leaves-after_rows : (name t : List ℕ) (w : World) (r : Result Progress Refusal) → Leaves w (after_rows t (entered name w) r)
leaves-after_rows name t w (Ok g) = λ e. cc
leaves-after_rows name t w (Err e) = λ _. either (Left w) _ _ _ (ended name t e.next) (drew name t e.next)

pub leaves-select : (name : List ℕ) (s : Select) (c : Where) (t : Table) (w : World) → Leaves w (select_outcome s c t (entered name w))
leaves-select name s c t w = elim (select_answer s c t (entered name w)) as (λ r. IfOk r (λ o. is_refusal o.reply ≡ false) → Leaves w (answered (entered name w) r)) [
  | Ok o ↦ λ h e. absurd cc
  | Err code ↦ λ h e. used name
] (search (behind))

pub leaves-on_rows : (name : List ℕ) (act : Table → World → Outcome) (w : World) → ((t : Table) → Leaves w (act t (entered name w))) → Leaves w (on_rows name act w)
leaves-on_rows name act w h = (elim (table_of name (replay w.commits)) as (λ t. table_of name (replay w.commits) ≡ t → Leaves w (on_rows name act w)) [
  | None ↦ λ e. rw e (λ _. as_it_was)
  | Some t ↦ λ e. rw e (either (Leaves w) (is_stale name (entered name w)) _ _ (λ _. used name) (h t))
]) refl

pub leaves-write : (name : List ℕ) (changes : Scene → Progress → Result Progress Refusal) (w : World) → Leaves w (on_rows name (write_outcome changes) w)
leaves-write name changes w = leaves-on_rows name (write_outcome changes) w (λ t. leaves-after_rows name t.def.name w (written changes t (entered name w)))

-- ---- CREATE INDEX

-- a world with a building index more
abbrev pub Building : World → World → Type 0
Building w u = (t : List ℕ) × (key : IndexDef) × (u ≡ with_building t (Some key) w)

-- what is refused behind BEGIN INDEX leaves the world in front of it
pub leaves-finish_behind : (w : World) (table : List ℕ) (key : IndexDef) (name : List ℕ) → LeavesOk w (finish_index (with_building table (Some key) w) (record { table = table; key = name }))
leaves-finish_behind w table key name = search (bound, behind, either (Leaves w), leaves-done, leaves-in_vain)
  where
    leaves-in_vain : (t : List ℕ) (k : IndexDef) (code : ℕ) → Leaves w (refused (with_building t None (with_building t (Some k) w)) code)
    leaves-in_vain t k code = λ e. built_in_vain t k

abbrev pub FinishLeaves : World → List ℕ → List ℕ → World → Type 0
FinishLeaves w table name u = LeavesOk w (finish_index u (record { table = table; key = name }))

pub leaves-create_index : (w : World) (table : List ℕ) (k : KeyText) → LeavesOk w (create_index w table k)
leaves-create_index w table k = after (FinishLeaves w table k.name) (Leaves w) (with_begun w table k) _
    (search (bound, behind, leaves-finish_behind)) (λ u h. h)

-- ---- the step

pub leaves-outcome_of : (s : Statement) (w : World) → Leaves w (outcome_of s w)
leaves-outcome_of (statement.CreateTable text b engine) w = leaves-answered w _ (leaves-create_table w text b engine)
leaves-outcome_of (statement.DropTable table b) w = leaves-answered w _ (leaves-drop_table w table b)
leaves-outcome_of (statement.CreateIndex table key) w = leaves-answered w _ (leaves-create_index w table key)
leaves-outcome_of (statement.DropIndex n) w = leaves-answered w _ (leaves-drop_index w n)
leaves-outcome_of (statement.BeginIndex table key) w = leaves-answered w _ (leaves-begin w table key)
leaves-outcome_of (statement.FinishIndex n) w = leaves-answered w _ (leaves-finish w n)
leaves-outcome_of (statement.CancelIndex n) w = leaves-answered w _ (leaves-cancel w n)
leaves-outcome_of (statement.Insert s) w = leaves-write s.table (λ a g. insert_changes a s g) w
leaves-outcome_of (statement.Replace s) w = leaves-write s.table (λ a g. replace_changes a s g) w
leaves-outcome_of (statement.Update table set c) w = leaves-write table (λ a g. update_changes a set (where_of c) g) w
leaves-outcome_of (statement.Delete table c) w = leaves-write table (λ a g. delete_changes a (where_of c) g) w
leaves-outcome_of (statement.Select s) w = leaves-on_rows s.table (select_outcome s (where_of s.condition)) w (λ t. leaves-select s.table s (where_of s.condition) t w)
leaves-outcome_of (statement.Begin snapshot) w = λ e. cc
leaves-outcome_of statement.Commit w = λ e. cc
leaves-outcome_of statement.Rollback w = λ e. cc
leaves-outcome_of (statement.RollbackTo name) w = leaves-answered w _ (leaves-rolled_back_to w name)
leaves-outcome_of (statement.Savepoint name) w = λ e. cc
leaves-outcome_of (statement.Release name) w = leaves-answered w _ (leaves-released w name)
leaves-outcome_of (statement.Lock names) w = leaves-answered w _ (leaves-lock w names)
leaves-outcome_of statement.Unlock w = λ e. cc
leaves-outcome_of (statement.Session name) w = leaves-answered w _ (leaves-session w name)
leaves-outcome_of statement.Disconnect w = λ e. cc
leaves-outcome_of (statement.Work n) w = λ e. cc

-- a refused statement leaves the world in which it was judged, but for what `Left` says
pub leaves-step : (w : World) (s : Result Statement ℕ) (clock : ℕ) → Leaves (judged_in w s clock) (step w s clock)
leaves-step w (Ok s) clock = leaves-outcome_of s (begun s (timed w clock))
leaves-step w (Err code) clock = λ e. as_it_was
