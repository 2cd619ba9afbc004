-- Each step keeps the commits, and adds some behind them.
use Rattle.std.proofs.Common.{◌≡◌, ℕ, Bool, List, [], ◌∷◌, ◌++◌, Option, Some, None, Result, Ok, Err, IfOk, refl, ap, sym, ◌∙◌, append_assoc, append-nil}
use Rattle.mr_spec.specs.declared.world.Table.{Table}
use Rattle.mr_spec.specs.declared.world.Txn.{Txn}
use Rattle.mr_types.specs.declared.row.Commit.{Commit}
use Rattle.mr_types.specs.declared.row.Change.{Change}
use Rattle.mr_types.specs.declared.text.KeyText.{KeyText}
use Rattle.mr_types.specs.declared.text.TableText.{TableText}
use Rattle.mr_types.specs.declared.statement.KeyName.{KeyName}
use Rattle.mr_types.specs.declared.statement.Select.{Select}
use Rattle.mr_types.specs.declared.statement.Statement.{Statement}
use Rattle.mr_types.specs.declared.statement.Statement.TheVariants as statement
use Rattle.mr_spec.specs.Truth.{Where, where_of}
use Rattle.mr_spec.specs.Database.{table_of, replay}
use Rattle.mr_spec.specs.declared.progress.Progress.{Progress}
use Rattle.mr_spec.specs.declared.progress.Refusal.{Refusal}
use Rattle.mr_spec.specs.Progress.{Scene}
use Rattle.mr_spec.specs.Changes.{insert_changes, replace_changes, update_changes, delete_changes}
use Rattle.mr_spec.specs.World.{World, with_rows, committed, kept_in, changes_by, entered, is_stale}
use Rattle.mr_spec.specs.Outcome.{Outcome, answered}
use Rattle.mr_spec.specs.RowSteps.{on_rows, select_answer, select_outcome, write_outcome, written, after_rows}
use Rattle.mr_spec.specs.SchemaSteps.{create_table, drop_table, with_begun, begin_index, finish_index, cancel_index, create_index, drop_index, lock_tables}
use Rattle.mr_spec.specs.SessionSteps.{rolled_back_to, released, session_outcome}
use Rattle.mr_spec.specs.Step.{outcome_of, commits_first, begun, timed, step}
use Rattle.mr_spec.specs.Promises.{Extends}
use Rattle.mr_spec.proofs.Results.{bound, behind, either, after}

pub extends-same : (cs : List Commit) → Extends cs cs
extends-same cs = record { more = []; is = sym (append-nil cs) }

pub extends-append : (cs ds : List Commit) → Extends cs (cs ++ ds)
extends-append cs ds = record { more = ds; is = refl }

pub and_then : (a b c : List Commit) → Extends a b → Extends b c → Extends a c
and_then a b c e f = record { more = e.more ++ f.more; is = f.is ∙ ap (λ x. x ++ f.more) e.is ∙ append_assoc a e.more f.more }

pub extends-with_rows : (changes : List Change) (w : World) → Extends w.commits (with_rows changes w).commits
extends-with_rows [] w = extends-same w.commits
extends-with_rows (c ∷ cs) w = extends-append w.commits _

pub extends-committed : (w : World) → Extends w.commits (committed w).commits
extends-committed w = extends-with_rows (changes_by w.here.txn) w

pub extends-kept_in : (txn : Option Txn) (changes : List Change) (w : World) → Extends w.commits (kept_in txn changes w).commits
extends-kept_in None changes w = extends-with_rows changes w
extends-kept_in (Some t) changes w = extends-same w.commits

abbrev pub Further : World → Outcome → Type 0
Further w o = Extends w.commits o.world.commits

-- an answer whose world goes further
abbrev pub FurtherOk : World → Result Outcome ℕ → Type 0
FurtherOk w r = IfOk r (Further w)

pub further-answered : (w : World) (r : Result Outcome ℕ) → FurtherOk w r → Further w (answered w r)
further-answered w (Ok o) h = h
further-answered w (Err code) h = extends-same w.commits

-- BEGIN INDEX commits nothing
abbrev pub Same : World → World → Type 0
Same w u = u.commits ≡ w.commits

pub same-with_begun : (w : World) (table : List ℕ) (k : KeyText) → IfOk (with_begun w table k) (Same w)
same-with_begun w table k = search (bound, behind)

pub extends-as : (a b c : List Commit) → b ≡ a → Extends b c → Extends a c
extends-as a b c e x = record { more = x.more; is = x.is ∙ ap (λ y. y ++ x.more) e }

pub extends-to : (a b : List Commit) → b ≡ a → Extends a b
extends-to a b e = record { more = []; is = e ∙ sym (append-nil a) }

pub further-begin : (w : World) (table : List ℕ) (k : KeyText) → FurtherOk w (begin_index w table k)
further-begin w table k = after (Same w) (Further w) (with_begun w table k) _ (same-with_begun w table k) (λ u e. extends-to w.commits u.commits e)

pub further-create_table : (w : World) (text : TableText) (b : Bool) (engine : Option (List ℕ)) → FurtherOk w (create_table w text b engine)
further-create_table w text b engine = search (bound, behind, either (FurtherOk w), extends-same, extends-append)

pub further-drop_table : (w : World) (table : List ℕ) (b : Bool) → FurtherOk w (drop_table w table b)
further-drop_table w table b = search (behind, either (FurtherOk w), extends-same, extends-append)

pub further-finish : (w : World) (n : KeyName) → FurtherOk w (finish_index w n)
further-finish w n = search (bound, behind, either (Further w), extends-same, extends-append)

pub further-cancel : (w : World) (n : KeyName) → FurtherOk w (cancel_index w n)
further-cancel w n = search (bound, extends-same)

pub FurtherOk-as : (w u : World) → Same w u → (r : Result Outcome ℕ) → FurtherOk u r → FurtherOk w r
FurtherOk-as w u e (Ok o) h = extends-as w.commits u.commits o.world.commits e h
FurtherOk-as w u e (Err code) h = tt

pub further-create_index : (w : World) (table : List ℕ) (k : KeyText) → FurtherOk w (create_index w table k)
further-create_index w table k = after (Same w) (Further w) (with_begun w table k) _ (same-with_begun w table k)
    (λ u e. FurtherOk-as w u e _ (further-finish u (record { table = table; key = k.name })))

pub further-drop_index : (w : World) (n : KeyName) → FurtherOk w (drop_index w n)
further-drop_index w n = search (bound, behind, extends-append)

pub further-lock : (w : World) (names : List (List ℕ)) → FurtherOk w (lock_tables w names)
further-lock w names = search (behind, extends-same)

pub further-rolled_back_to : (w : World) (name : List ℕ) → FurtherOk w (rolled_back_to w name)
further-rolled_back_to w name = search (bound, extends-same)

pub further-released : (w : World) (name : List ℕ) → FurtherOk w (released w name)
further-released w name = search (bound, extends-same)

pub further-session : (w : World) (name : List ℕ) → FurtherOk w (session_outcome w name)
further-session w name = search (behind, extends-same)

-- ---- rows

pub further-after_rows : (name : List ℕ) (w : World) (r : Result Progress Refusal) → Further w (after_rows name w r)
further-after_rows name w (Ok g) = extends-kept_in w.here.txn g.changes _
further-after_rows name w (Err e) = either (λ (u : World). Extends w.commits u.commits) _ _ _ (extends-same w.commits) (extends-same w.commits)

pub further-select : (s : Select) (c : Where) (t : Table) (w : World) → Further w (select_outcome s c t w)
further-select s c t w = further-answered w (select_answer s c t w) (search (behind, extends-same))

-- what goes further from the world entered goes further from the world
pub further-on_rows : (name : List ℕ) (act : Table → World → Outcome) (w : World) → ((t : Table) (u : World) → Further u (act t u)) → Further w (on_rows name act w)
further-on_rows name act w h = (elim (table_of name (replay w.commits)) as (λ t. table_of name (replay w.commits) ≡ t → Further w (on_rows name act w)) [
  | None ↦ λ e. rw e (extends-same w.commits)
  | Some t ↦ λ e. rw e (either (Further w) (is_stale name (entered name w)) _ _ (extends-same w.commits) (h t (entered name w)))
]) refl

pub further-write : (name : List ℕ) (changes : Scene → Progress → Result Progress Refusal) (w : World) → Further w (on_rows name (write_outcome changes) w)
further-write name changes w = further-on_rows name (write_outcome changes) w (λ t u. further-after_rows t.def.name u (written changes t u))

-- ---- the step

pub further-outcome_of : (s : Statement) (w : World) → Further w (outcome_of s w)
further-outcome_of (statement.CreateTable text b engine) w = further-answered w _ (further-create_table w text b engine)
further-outcome_of (statement.DropTable table b) w = further-answered w _ (further-drop_table w table b)
further-outcome_of (statement.CreateIndex table key) w = further-answered w _ (further-create_index w table key)
further-outcome_of (statement.DropIndex n) w = further-answered w _ (further-drop_index w n)
further-outcome_of (statement.BeginIndex table key) w = further-answered w _ (further-begin w table key)
further-outcome_of (statement.FinishIndex n) w = further-answered w _ (further-finish w n)
further-outcome_of (statement.CancelIndex n) w = further-answered w _ (further-cancel w n)
further-outcome_of (statement.Insert s) w = further-write s.table (λ a g. insert_changes a s g) w
further-outcome_of (statement.Replace s) w = further-write s.table (λ a g. replace_changes a s g) w
further-outcome_of (statement.Update table set c) w = further-write table (λ a g. update_changes a set (where_of c) g) w
further-outcome_of (statement.Delete table c) w = further-write table (λ a g. delete_changes a (where_of c) g) w
further-outcome_of (statement.Select s) w = further-on_rows s.table (select_outcome s (where_of s.condition)) w (further-select s (where_of s.condition))
further-outcome_of (statement.Begin snapshot) w = extends-same w.commits
further-outcome_of statement.Commit w = extends-committed w
further-outcome_of statement.Rollback w = extends-same w.commits
further-outcome_of (statement.RollbackTo name) w = further-answered w _ (further-rolled_back_to w name)
further-outcome_of (statement.Savepoint name) w = extends-same w.commits
further-outcome_of (statement.Release name) w = further-answered w _ (further-released w name)
further-outcome_of (statement.Lock names) w = further-answered w _ (further-lock w names)
further-outcome_of statement.Unlock w = extends-same w.commits
further-outcome_of (statement.Session name) w = further-answered w _ (further-session w name)
further-outcome_of statement.Disconnect w = extends-same w.commits
further-outcome_of (statement.Work n) w = extends-same w.commits

pub extends-begun : (s : Statement) (w : World) → Extends w.commits (begun s w).commits
extends-begun s w = either (λ (u : World). Extends w.commits u.commits) (commits_first s) _ _ (extends-committed w) (extends-same w.commits)

-- a step keeps the commits and adds some behind them
pub further-step : (w : World) (s : Result Statement ℕ) (clock : ℕ) → Further w (step w s clock)
further-step w (Ok s) clock = and_then _ _ _ (extends-begun s (timed w clock)) (further-outcome_of s (begun s (timed w clock)))
further-step w (Err code) clock = extends-same w.commits
