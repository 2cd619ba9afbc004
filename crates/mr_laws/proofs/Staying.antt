-- What a statement makes of the current session's transaction, and that it leaves the other sessions.
use Rattle.std.proofs.Common.{◌≡◌, ℕ, Bool, true, false, ◌⊎◌, inl, inr, List, [], ◌∷◌, length, Option, Some, None, option_map, unwrap_or, Result, Ok, Err, IfOk, refl, ap, sym, subst, ◌∙◌}
use Rattle.std.specs.Prelude.{if◌then◌else◌}
use Rattle.std.proofs.lemmas.Option.{none-some}
use Rattle.mr_types.specs.declared.row.Change.{Change}
use Rattle.mr_types.specs.declared.definition.IndexDef.{IndexDef}
use Rattle.mr_types.specs.declared.text.KeyText.{KeyText}
use Rattle.mr_types.specs.declared.text.TableText.{TableText}
use Rattle.mr_types.specs.declared.statement.KeyName.{KeyName}
use Rattle.mr_types.specs.declared.statement.Select.{Select}
use Rattle.mr_types.specs.declared.statement.Statement.{Statement}
use Rattle.mr_types.specs.declared.statement.Statement.TheVariants as statement
use Rattle.mr_spec.specs.declared.world.Session.{Session}
use Rattle.mr_spec.specs.declared.world.Table.{Table}
use Rattle.mr_spec.specs.declared.world.Txn.{Txn}
use Rattle.mr_spec.specs.Truth.{Where, where_of}
use Rattle.mr_spec.specs.Database.{table_of, replay}
use Rattle.mr_spec.specs.declared.progress.Progress.{Progress}
use Rattle.mr_spec.specs.declared.progress.Refusal.{Refusal}
use Rattle.mr_spec.specs.Progress.{Scene}
use Rattle.mr_spec.specs.Changes.{insert_changes, replace_changes, update_changes, delete_changes}
use Rattle.mr_spec.specs.World.{World, with_rows, with_building, with_number, committed, kept_in, changes_by, entered, is_stale}
use Rattle.mr_spec.specs.Outcome.{Outcome, answered}
use Rattle.mr_spec.specs.RowSteps.{on_rows, select_answer, select_outcome, write_outcome, written, after_rows}
use Rattle.mr_spec.specs.SchemaSteps.{create_table, drop_table, with_begun, begin_index, finish_index, cancel_index, create_index, drop_index, lock_tables}
use Rattle.mr_spec.specs.SessionSteps.{savepoint_in, rolled_back_to, released}
use Rattle.mr_spec.specs.Step.{outcome_of, commits_first, begun, timed}
use Rattle.mr_spec.specs.ScriptRun.{world_after}
use Rattle.mr_spec.specs.Promises.{IsOfOne}
use Rattle.mr_laws.specs.Snapshots.{StaysInPlace}
use Rattle.mr_spec.proofs.Results.{bound, behind, either, after}

-- ---- transactions

-- a snapshot that is as it was, or is fixed at the number of all commits where it was not
abbrev pub Follows : ℕ → Option ℕ → Option ℕ → Type 0
Follows all old new = (new ≡ old) ⊎ (new ≡ Some (unwrap_or old all))

follows-both : (all : ℕ) (a b c : Option ℕ) → Follows all a b → Follows all b c → Follows all a c
follows-both all a b c (inl e) (inl f) = inl (f ∙ e)
follows-both all a b c (inl e) (inr f) = inr (f ∙ ap (λ x. Some (unwrap_or x all)) e)
follows-both all a b c (inr e) (inl f) = inr (f ∙ e)
follows-both all a b c (inr e) (inr f) = inr (f ∙ ap (λ x. Some (unwrap_or x all)) e)

-- the number of commits that a transaction sees, where it is fixed
abbrev pub snapshot_of : Option Txn → Option ℕ
snapshot_of None = None
snapshot_of (Some t) = t.snapshot

-- a transaction goes on from one that was open
pub record Origin (old : Option Txn) (all : ℕ) (t : Txn) : Type 0 where
  pub from : Txn
  pub is : old ≡ Some from
  pub snapshot : Follows all from.snapshot t.snapshot

-- such a transaction, or none, and the other sessions as they were
pub record Keeps (w : World) (txn : Option Txn) (sessions : List Session) : Type 0 where
  pub others : sessions ≡ w.others
  pub origin : (t : Txn) → txn ≡ Some t → Origin w.here.txn (length w.commits) t

pub keeps-same : (w : World) → Keeps w w.here.txn w.others
keeps-same w = record { others = refl; origin = λ t e. record { from = t; is = e; snapshot = inl refl } }

pub keeps-none : (w : World) → Keeps w None w.others
keeps-none w = record { others = refl; origin = λ t e. absurd (none-some t e) }

-- the open transaction with more changes, or other savepoints
pub keeps-open : (w : World) (s t : Txn) → w.here.txn ≡ Some s → t.snapshot ≡ s.snapshot → Keeps w (Some t) w.others
keeps-open w s t e h = record { others = refl; origin = λ u f. record { from = s; is = e; snapshot = inl (ap snapshot_of (sym f) ∙ h) } }

pub keeps-both : (w u : World) (txn : Option Txn) (sessions : List Session) → u.commits ≡ w.commits → Keeps w u.here.txn u.others → Keeps u txn sessions → Keeps w txn sessions
keeps-both w u txn sessions e h k = record {
  others = k.others ∙ h.others;
  origin = λ t f.
      let o : Origin u.here.txn (length u.commits) t = k.origin t f in
      let p : Origin w.here.txn (length w.commits) o.from = h.origin o.from o.is in
      record { from = p.from; is = p.is; snapshot = follows-both (length w.commits) p.from.snapshot o.from.snapshot t.snapshot p.snapshot (subst (λ cs. Follows (length cs) o.from.snapshot t.snapshot) e o.snapshot) };
}

-- ---- outcomes

abbrev pub Stays : World → Outcome → Type 0
Stays w o = Keeps w o.world.here.txn o.world.others

abbrev pub StaysOk : World → Result Outcome ℕ → Type 0
StaysOk w r = IfOk r (Stays w)

pub stays-answered : (w : World) (r : Result Outcome ℕ) → StaysOk w r → Stays w (answered w r)
stays-answered w (Ok o) h = h
stays-answered w (Err code) h = keeps-same w

pub stays-create_table : (w : World) (text : TableText) (b : Bool) (engine : Option (List ℕ)) → StaysOk w (create_table w text b engine)
stays-create_table w text b engine = search (bound, behind, either (StaysOk w), keeps-same)

pub stays-drop_table : (w : World) (table : List ℕ) (b : Bool) → StaysOk w (drop_table w table b)
stays-drop_table w table b = search (behind, either (StaysOk w), keeps-same)

pub stays-begin : (w : World) (table : List ℕ) (k : KeyText) → StaysOk w (begin_index w table k)
stays-begin w table k = after (λ u. Keeps w u.here.txn u.others) (Stays w) (with_begun w table k) _ (search (bound, behind, keeps-same)) (λ u h. h)

pub stays-finish : (w : World) (n : KeyName) → StaysOk w (finish_index w n)
stays-finish w n = search (bound, behind, either (Stays w), keeps-same)

pub stays-cancel : (w : World) (n : KeyName) → StaysOk w (cancel_index w n)
stays-cancel w n = search (bound, keeps-same)

pub stays-drop_index : (w : World) (n : KeyName) → StaysOk w (drop_index w n)
stays-drop_index w n = search (bound, behind, keeps-same)

pub stays-lock : (w : World) (names : List (List ℕ)) → StaysOk w (lock_tables w names)
stays-lock w names = search (behind, keeps-same)

-- what follows BEGIN INDEX leaves the world in front of it
pub stays-finish_behind : (w : World) (table : List ℕ) (key : IndexDef) (name : List ℕ) → StaysOk w (finish_index (with_building table (Some key) w) (record { table = table; key = name }))
stays-finish_behind w table key name = search (bound, behind, either (Stays w), keeps-same)

abbrev pub FinishStays : World → List ℕ → List ℕ → World → Type 0
FinishStays w table name u = StaysOk w (finish_index u (record { table = table; key = name }))

pub stays-create_index : (w : World) (table : List ℕ) (k : KeyText) → StaysOk w (create_index w table k)
stays-create_index w table k = after (FinishStays w table k.name) (Stays w) (with_begun w table k) _
    (search (bound, behind, stays-finish_behind)) (λ u h. h)

-- ---- savepoints

open_with : (txn : Option Txn) (name : List ℕ) → IfOk (savepoint_in txn name) (λ p. txn ≡ Some p.0)
open_with None name = tt
open_with (Some t) name = search (bound)

pub stays-rolled_back_to : (w : World) (name : List ℕ) → StaysOk w (rolled_back_to w name)
stays-rolled_back_to w name = after (λ p. w.here.txn ≡ Some p.0) (Stays w) (savepoint_in w.here.txn name) _ (open_with w.here.txn name)
    (λ p e. keeps-open w p.0 _ e refl)

pub stays-released : (w : World) (name : List ℕ) → StaysOk w (released w name)
stays-released w name = after (λ p. w.here.txn ≡ Some p.0) (Stays w) (savepoint_in w.here.txn name) _ (open_with w.here.txn name)
    (λ p e. keeps-open w p.0 _ e refl)

-- the transaction, where one is open, turned to one whose snapshot follows
pub keeps-map : (w : World) (f : Txn → Txn) → ((t : Txn) → Follows (length w.commits) t.snapshot (f t).snapshot) → Keeps w (option_map f w.here.txn) w.others
keeps-map w f h = record { others = refl; origin = λ t e. of_it w.here.txn t e }
  where
    of_it : (txn : Option Txn) (t : Txn) → option_map f txn ≡ Some t → Origin txn (length w.commits) t
    of_it None t e = absurd (none-some t e)
    of_it (Some s) t e = record { from = s; is = refl; snapshot = subst (λ x. Follows (length w.commits) s.snapshot x) (ap snapshot_of e) (h s) }

-- ---- rows

pub keeps-entered : (name : List ℕ) (w : World) → Keeps w (entered name w).here.txn (entered name w).others
keeps-entered name w = keeps-map w _ (λ t. inr refl)

pub keeps-kept_in : (w : World) (name : List ℕ) (n : ℕ) (txn : Option Txn) (changes : List Change) → w.here.txn ≡ txn → Keeps w (kept_in txn changes (with_number name n w)).here.txn (kept_in txn changes (with_number name n w)).others
keeps-kept_in w name n None [] e = keeps-same w
keeps-kept_in w name n None (c ∷ cs) e = keeps-same w
keeps-kept_in w name n (Some t) changes e = keeps-open w t _ e refl

pub stays-after_rows : (name : List ℕ) (w : World) (r : Result Progress Refusal) → Stays w (after_rows name w r)
stays-after_rows name w (Ok g) = keeps-kept_in w name g.next w.here.txn g.changes refl
stays-after_rows name w (Err e) = either (λ (u : World). Keeps w u.here.txn u.others) _ _ _ (keeps-none w) (keeps-same w)

pub stays-select : (s : Select) (c : Where) (t : Table) (w : World) → Stays w (select_outcome s c t w)
stays-select s c t w = stays-answered w (select_answer s c t w) (search (behind, keeps-same))

pub stays-on_rows : (name : List ℕ) (act : Table → World → Outcome) (w : World) → ((t : Table) (u : World) → Stays u (act t u)) → Stays w (on_rows name act w)
stays-on_rows name act w h = (elim (table_of name (replay w.commits)) as (λ t. table_of name (replay w.commits) ≡ t → Stays w (on_rows name act w)) [
  | None ↦ λ e. rw e (keeps-same w)
  | Some t ↦ λ e. rw e (either (Stays w) (is_stale name (entered name w)) _ _ (keeps-entered name w) (keeps-both w (entered name w) _ _ refl (keeps-entered name w) (h t (entered name w))))
]) refl

pub stays-write : (name : List ℕ) (changes : Scene → Progress → Result Progress Refusal) (w : World) → Stays w (on_rows name (write_outcome changes) w)
stays-write name changes w = stays-on_rows name (write_outcome changes) w (λ t u. stays-after_rows t.def.name u (written changes t u))

-- ---- the step

others-with_rows : (changes : List Change) (w : World) → (with_rows changes w).others ≡ w.others
others-with_rows [] w = refl
others-with_rows (c ∷ cs) w = refl

pub others-committed : (w : World) → (committed w).others ≡ w.others
others-committed w = others-with_rows (changes_by w.here.txn) w

pub stays-outcome_of : (s : Statement) (w : World) → StaysInPlace (Ok s) → Stays w (outcome_of s w)
stays-outcome_of (statement.CreateTable text b engine) w p = stays-answered w _ (stays-create_table w text b engine)
stays-outcome_of (statement.DropTable table b) w p = stays-answered w _ (stays-drop_table w table b)
stays-outcome_of (statement.CreateIndex table key) w p = stays-answered w _ (stays-create_index w table key)
stays-outcome_of (statement.DropIndex n) w p = stays-answered w _ (stays-drop_index w n)
stays-outcome_of (statement.BeginIndex table key) w p = stays-answered w _ (stays-begin w table key)
stays-outcome_of (statement.FinishIndex n) w p = stays-answered w _ (stays-finish w n)
stays-outcome_of (statement.CancelIndex n) w p = stays-answered w _ (stays-cancel w n)
stays-outcome_of (statement.Insert s) w p = stays-write s.table (λ a g. insert_changes a s g) w
stays-outcome_of (statement.Replace s) w p = stays-write s.table (λ a g. replace_changes a s g) w
stays-outcome_of (statement.Update table set c) w p = stays-write table (λ a g. update_changes a set (where_of c) g) w
stays-outcome_of (statement.Delete table c) w p = stays-write table (λ a g. delete_changes a (where_of c) g) w
stays-outcome_of (statement.Select s) w p = stays-on_rows s.table (select_outcome s (where_of s.condition)) w (stays-select s (where_of s.condition))
stays-outcome_of (statement.Begin snapshot) w p = absurd p
stays-outcome_of statement.Commit w p = record { others = others-committed w; origin = λ t e. absurd (none-some t e) }
stays-outcome_of statement.Rollback w p = keeps-none w
stays-outcome_of (statement.RollbackTo name) w p = stays-answered w _ (stays-rolled_back_to w name)
stays-outcome_of (statement.Savepoint name) w p = keeps-map w _ (λ t. inl refl)
stays-outcome_of (statement.Release name) w p = stays-answered w _ (stays-released w name)
stays-outcome_of (statement.Lock names) w p = stays-answered w _ (stays-lock w names)
stays-outcome_of statement.Unlock w p = keeps-same w
stays-outcome_of (statement.Session name) w p = absurd p
stays-outcome_of statement.Disconnect w p = absurd p
stays-outcome_of (statement.Work n) w p = keeps-same w

-- with an open transaction committed first, none goes on
from_begun : (b : Bool) (w : World) (t : Txn) → Origin (if b then committed w else w).here.txn (length (if b then committed w else w).commits) t → Origin w.here.txn (length w.commits) t
from_begun true w t o = absurd (none-some o.from o.is)
from_begun false w t o = o

others-begun : (s : Statement) (w : World) → (begun s w).others ≡ w.others
others-begun s w = either (λ (u : World). u.others ≡ w.others) (commits_first s) _ _ (others-committed w) refl

pub keeps-step : (w : World) (s : Result Statement ℕ) (clock : ℕ) → StaysInPlace s → Keeps w (world_after w s clock).here.txn (world_after w s clock).others
keeps-step w (Err code) clock p = record { others = refl; origin = λ t e. record { from = t; is = e; snapshot = inl refl } }
keeps-step w (Ok s) clock p =
    let u : World = begun s (timed w clock) in
    let k : Stays u (outcome_of s u) = stays-outcome_of s u p in
    record {
      others = k.others ∙ others-begun s (timed w clock);
      origin = λ t e. from_begun (commits_first s) (timed w clock) t (k.origin t e);
    }

-- ---- the laws

pub others-stay : (w : World) (s : Statement) (clock : ℕ) → IsOfOne s → (world_after w (Ok s) clock).others ≡ w.others
others-stay w (statement.Begin snapshot) clock p = others-committed (timed w clock)
others-stay w (statement.Session name) clock p = absurd p
others-stay w statement.Disconnect clock p = absurd p
others-stay w s clock p = (keeps-step w (Ok s) clock _).others

fixed-follows : (all n : ℕ) (old new : Option ℕ) → old ≡ Some n → Follows all old new → new ≡ Some n
fixed-follows all n old new e (inl f) = f ∙ e
fixed-follows all n old new e (inr f) = f ∙ ap (λ x. Some (unwrap_or x all)) e

pub snapshot-stays : (w : World) (s : Result Statement ℕ) (clock n : ℕ) (t u : Txn) → StaysInPlace s → w.here.txn ≡ Some t → t.snapshot ≡ Some n → (world_after w s clock).here.txn ≡ Some u → u.snapshot ≡ Some n
snapshot-stays w s clock n t u p e f g =
    let o : Origin w.here.txn (length w.commits) u = (keeps-step w s clock p).origin u g in
    fixed-follows (length w.commits) n o.from.snapshot u.snapshot (same_snapshot (sym o.is ∙ e) ∙ f) o.snapshot
  where
    same_snapshot : {a b : Txn} → Some a ≡ Some b → a.snapshot ≡ b.snapshot
    same_snapshot e = ap snapshot_of e
