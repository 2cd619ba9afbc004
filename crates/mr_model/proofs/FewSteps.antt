-- Each step keeps it that definitions have few columns.
use Rattle.std.proofs.Common.{◌≡◌, ◌≤◌, ℕ, Bool, List, [], ◌∷◌, ◌++◌, length, Option, Some, None, Result, Ok, Err, IfOk, OnOk, refl, sym, subst}
use Rattle.mr_spec.specs.declared.world.Table.{Table}
use Rattle.mr_spec.specs.declared.world.Txn.{Txn}
use Rattle.mr_types.specs.declared.definition.IndexDef.{IndexDef}
use Rattle.mr_types.specs.declared.row.Commit.{Commit}
use Rattle.mr_types.specs.declared.row.CommitBody.{CommitBody}
use Rattle.mr_types.specs.declared.row.CommitBody.TheVariants as body
use Rattle.mr_types.specs.declared.row.Schema.TheVariants as schema
use Rattle.mr_types.specs.declared.row.Change.{Change}
use Rattle.mr_types.specs.declared.row.Reply.{Reply}
use Rattle.mr_base.specs.declared.stop.Memory.{Memory}
use Rattle.mr_types.specs.declared.text.KeyText.{KeyText}
use Rattle.mr_types.specs.declared.text.TableText.{TableText}
use Rattle.mr_types.specs.declared.statement.KeyName.{KeyName}
use Rattle.mr_types.specs.declared.statement.Select.{Select}
use Rattle.mr_types.specs.declared.statement.Statement.{Statement}
use Rattle.mr_types.specs.declared.statement.Statement.TheVariants as statement
use Rattle.mr_spec.specs.Truth.{Where, where_of}
use Rattle.mr_spec.specs.Database.{table_of, replay}
use Rattle.mr_spec.specs.declared.progress.Progress.{Progress}
use Rattle.mr_spec.specs.declared.progress.Refusal.{Refusal}
use Rattle.mr_spec.specs.Progress.{Scene}
use Rattle.mr_spec.specs.Checks.{check}
use Rattle.mr_spec.specs.Changes.{insert_changes, replace_changes, update_changes, delete_changes}
use Rattle.mr_spec.specs.World.{World, with_rows, committed, kept_in, changes_by, entered, is_stale}
use Rattle.mr_spec.specs.Outcome.{Outcome, answered}
use Rattle.mr_spec.specs.RowSteps.{on_rows, select_answer, select_outcome, write_outcome, written, after_rows}
use Rattle.mr_spec.specs.SchemaSteps.{created, create_table, drop_table, with_begun, begin_index, finish_index, cancel_index, create_index, drop_index, lock_tables, published}
use Rattle.mr_spec.specs.SessionSteps.{rolled_back_to, released, session_outcome}
use Rattle.mr_spec.specs.Step.{outcome_of, commits_first, begun}
use Rattle.mr_model_engine.specs.declared.engine.Engine.{Engine}
use Rattle.mr_model_engine.specs.Acting.{Gives}
use Rattle.mr_model_engine.specs.Worlds.{world_in}
use Rattle.mr_schema.specs.Few.{FewInBody, FewColumns}
use Rattle.mr_model_engine.proofs.Answering.{bound, behind, either, after}
use Rattle.mr_model_engine.proofs.FewChecked.{few_check}

few_append : (cs : List Commit) (moment : ℕ) (b : CommitBody) → FewColumns cs → FewInBody b → FewColumns (cs ++ record { moment = moment; body = b } ∷ [])
few_append [] moment b h g = (g, tt)
few_append (c ∷ cs) moment b h g = (h.0, few_append cs moment b h.1 g)

-- the world has few columns
abbrev Few : World → Type 0
Few w = FewColumns w.commits

abbrev FewOut : Outcome → Type 0
FewOut o = FewColumns o.world.commits

abbrev FewOk : Result Outcome ℕ → Type 0
FewOk r = IfOk r FewOut

few_rows : (changes : List Change) (w : World) → Few w → Few (with_rows changes w)
few_rows [] w h = h
few_rows (c ∷ cs) w h = few_append w.commits w.moment (body.Rows (c ∷ cs)) h tt

few_committed : (w : World) → Few w → Few (committed w)
few_committed w h = few_rows (changes_by w.here.txn) w h

few_kept : (txn : Option Txn) (changes : List Change) (w : World) → Few w → Few (kept_in txn changes w)
few_kept None changes w h = few_rows changes w h
few_kept (Some t) changes w h = h

few_answered : (w : World) (r : Result Outcome ℕ) → Few w → IfOk r FewOut → FewOut (answered w r)
few_answered w (Ok o) h g = g
few_answered w (Err code) h g = h

-- ---- definitions

few_with_begun : (w : World) (table : List ℕ) (k : KeyText) → Few w → IfOk (with_begun w table k) Few
few_with_begun w table k h = search (bound, behind)

few_begin : (w : World) (table : List ℕ) (k : KeyText) → Few w → IfOk (begin_index w table k) FewOut
few_begin w table k h = after Few FewOut (with_begun w table k) _ (few_with_begun w table k h) (λ u g. g)

few_created : (w : World) (text : TableText) → Few w → IfOk (created w text) FewOut
few_created w text h = after (λ def. length def.columns ≤ 255) FewOut (check text) _ (few_check text) (λ def l. few_append w.commits w.moment (body.Schema (schema.CreateTable def)) h l)

few_create_table : (w : World) (text : TableText) (b : Bool) (engine : Option (List ℕ)) → Few w → IfOk (create_table w text b engine) FewOut
few_create_table w text b engine h = search (behind, either FewOk, few_created, h)

few_drop_table : (w : World) (table : List ℕ) (b : Bool) → Few w → IfOk (drop_table w table b) FewOut
few_drop_table w table b h = search (behind, either FewOk, few_append, h)

few_published : (w : World) (t : Table) (key : IndexDef) → Few w → FewOut (published w t key)
few_published w t key h = search (either FewOut, few_append, h)

few_finish : (w : World) (n : KeyName) → Few w → IfOk (finish_index w n) FewOut
few_finish w n h = search (bound, behind, few_published, h)

few_cancel : (w : World) (n : KeyName) → Few w → IfOk (cancel_index w n) FewOut
few_cancel w n h = search (bound, h)

few_create_index : (w : World) (table : List ℕ) (k : KeyText) → Few w → IfOk (create_index w table k) FewOut
few_create_index w table k h = after Few FewOut (with_begun w table k) _ (few_with_begun w table k h) (λ u g. few_finish u (record { table = table; key = k.name }) g)

few_drop_index : (w : World) (n : KeyName) → Few w → IfOk (drop_index w n) FewOut
few_drop_index w n h = search (bound, behind, few_append, h)

few_lock : (w : World) (names : List (List ℕ)) → Few w → IfOk (lock_tables w names) FewOut
few_lock w names h = search (behind, h)

-- ---- sessions

few_back_to : (w : World) (name : List ℕ) → Few w → IfOk (rolled_back_to w name) FewOut
few_back_to w name h = search (bound, h)

few_released : (w : World) (name : List ℕ) → Few w → IfOk (released w name) FewOut
few_released w name h = search (bound, h)

few_session : (w : World) (name : List ℕ) → Few w → IfOk (session_outcome w name) FewOut
few_session w name h = search (behind, h)

-- ---- rows

few_after_rows : (name : List ℕ) (w : World) (r : Result Progress Refusal) → Few w → FewOut (after_rows name w r)
few_after_rows name w (Ok g) h = few_kept w.here.txn g.changes _ h
few_after_rows name w (Err e) h = either (λ (u : World). FewColumns u.commits) _ _ _ h h

few_select : (s : Select) (c : Where) (t : Table) (w : World) → Few w → FewOut (select_outcome s c t w)
few_select s c t w h = few_answered w (select_answer s c t w) h (search (behind, h))

few_on_rows : (name : List ℕ) (act : Table → World → Outcome) (w : World) → ((t : Table) (u : World) → Few u → FewOut (act t u)) → Few w → FewOut (on_rows name act w)
few_on_rows name act w g h = (elim (table_of name (replay w.commits)) as (λ t. table_of name (replay w.commits) ≡ t → FewOut (on_rows name act w)) [
  | None ↦ λ e. rw e h
  | Some t ↦ λ e. rw e (either FewOut (is_stale name (entered name w)) _ _ h (g t (entered name w) h))
]) refl

few_write : (name : List ℕ) (changes : Scene → Progress → Result Progress Refusal) (w : World) → Few w → FewOut (on_rows name (write_outcome changes) w)
few_write name changes w h = few_on_rows name (write_outcome changes) w (λ t u g. few_after_rows t.def.name u (written changes t u) g) h

-- ---- the step

few_outcome_of : (s : Statement) (w : World) → Few w → FewOut (outcome_of s w)
few_outcome_of (statement.CreateTable text b engine) w h = few_answered w _ h (few_create_table w text b engine h)
few_outcome_of (statement.DropTable table b) w h = few_answered w _ h (few_drop_table w table b h)
few_outcome_of (statement.CreateIndex table key) w h = few_answered w _ h (few_create_index w table key h)
few_outcome_of (statement.DropIndex n) w h = few_answered w _ h (few_drop_index w n h)
few_outcome_of (statement.BeginIndex table key) w h = few_answered w _ h (few_begin w table key h)
few_outcome_of (statement.FinishIndex n) w h = few_answered w _ h (few_finish w n h)
few_outcome_of (statement.CancelIndex n) w h = few_answered w _ h (few_cancel w n h)
few_outcome_of (statement.Insert s) w h = few_write s.table (λ a g. insert_changes a s g) w h
few_outcome_of (statement.Replace s) w h = few_write s.table (λ a g. replace_changes a s g) w h
few_outcome_of (statement.Update table set c) w h = few_write table (λ a g. update_changes a set (where_of c) g) w h
few_outcome_of (statement.Delete table c) w h = few_write table (λ a g. delete_changes a (where_of c) g) w h
few_outcome_of (statement.Select s) w h = few_on_rows s.table (select_outcome s (where_of s.condition)) w (few_select s (where_of s.condition)) h
few_outcome_of (statement.Begin snapshot) w h = h
few_outcome_of statement.Commit w h = few_committed w h
few_outcome_of statement.Rollback w h = h
few_outcome_of (statement.RollbackTo name) w h = few_answered w _ h (few_back_to w name h)
few_outcome_of (statement.Savepoint name) w h = h
few_outcome_of (statement.Release name) w h = few_answered w _ h (few_released w name h)
few_outcome_of (statement.Lock names) w h = few_answered w _ h (few_lock w names h)
few_outcome_of statement.Unlock w h = h
few_outcome_of (statement.Session name) w h = few_answered w _ h (few_session w name h)
few_outcome_of statement.Disconnect w h = h
few_outcome_of (statement.Work n) w h = h

few_begun : (s : Statement) (w : World) → Few w → Few (begun s w)
few_begun s w h = either Few (commits_first s) _ _ (few_committed w h) h

-- the engine behind a statement's begin
pub few_at_begin : (s : Statement) (w : World) (engine : Engine) → world_in engine ≡ begun s w → FewColumns w.commits → FewColumns engine.commits
few_at_begin s w engine e h = subst (λ (u : World). FewColumns u.commits) (sym e) (few_begun s w h)

-- and behind its outcome
pub few_behind : (s : Statement) (w : World) (engine : Engine) (r : Result Reply Memory) → Gives engine r (outcome_of s w) → FewColumns w.commits → OnOk r (FewColumns engine.commits)
few_behind s w engine (Ok reply) e h = subst FewOut e (few_outcome_of s w h)
few_behind s w engine (Err x) e h = tt
