-- A step reads of the other sessions only which claims they hold and which tables they used.
use Rattle.std.proofs.Common.{◌≡◌, ℕ, Bool, true, false, List, [], ◌∷◌, Option, Some, None, Result, Ok, Err, refl, ap, ◌∙◌}
use Rattle.std.specs.Prelude.{if◌then◌else◌, ◌==◌}
use Rattle.std.proofs.Common.{IfOk}
use Rattle.mr_spec.specs.Promises.{others_in, moved, SameOthers, IsOfOne}
use Rattle.mr_spec.proofs.Results.{bound, behind}
use Rattle.mr_spec.specs.declared.world.Session.{Session}
use Rattle.mr_spec.specs.declared.world.Table.{Table}
use Rattle.mr_spec.specs.declared.world.Txn.{Txn}
use Rattle.mr_types.specs.declared.row.Change.{Change}
use Rattle.mr_types.specs.declared.definition.IndexDef.{IndexDef}
use Rattle.mr_types.specs.declared.row.Schema.TheVariants as schema
use Rattle.mr_spec.specs.Rows.{visible}
use Rattle.mr_spec.specs.Truth.{Where, where_of}
use Rattle.mr_spec.specs.Database.{table_of, replay}
use Rattle.mr_spec.specs.declared.progress.Progress.{Progress}
use Rattle.mr_spec.specs.declared.progress.Refusal.{Refusal}
use Rattle.mr_spec.specs.Progress.{Scene}
use Rattle.mr_spec.specs.Changes.{insert_changes, replace_changes, update_changes, delete_changes}
use Rattle.mr_spec.specs.World.{World, entered, is_stale, kept_in, with_rows, with_number, with_building, changes_by, committed, rolled_back}
use Rattle.mr_spec.specs.Outcome.{Outcome, done, refused, answered}
use Rattle.mr_spec.specs.RowSteps.{on_rows, select_answer, select_outcome, scene_of, start_of, written, write_outcome, not_too_heavy, after_rows}
use Rattle.mr_spec.specs.SchemaSteps.{create_table, dropped, drop_table, free_for_key, published, has_duplicate, with_schema_change, with_begun, begin_index, finish_index, cancel_index, create_index, drop_index, lock_tables}
use Rattle.mr_spec.specs.SessionSteps.{rolled_back_to, released}
use Rattle.mr_spec.specs.Step.{outcome_of}
use Rattle.mr_types.specs.declared.text.KeyText.{KeyText}
use Rattle.mr_types.specs.declared.text.TableText.{TableText}
use Rattle.mr_types.specs.declared.statement.KeyName.{KeyName}
use Rattle.mr_types.specs.declared.statement.Select.{Select}
use Rattle.mr_types.specs.declared.statement.Statement.{Statement}
use Rattle.mr_types.specs.declared.statement.Statement.TheVariants as statement
use Rattle.mr_types.specs.Refusals.{◌>>=◌, ◌>>◌}

-- the second answer is the first, with other sessions
abbrev pub Moved : List Session → Result Outcome ℕ → Result Outcome ℕ → Type 0
Moved os (Ok o) (Ok p) = p ≡ moved os o
Moved os (Err c) (Err d) = d ≡ c
Moved os (Ok o) (Err d) = ⊥
Moved os (Err c) (Ok p) = ⊥

pub moved-bound : {A : Type 0} (os : List Session) (m : Result A ℕ) (f g : A → Result Outcome ℕ) → ((x : A) → Moved os (f x) (g x)) → Moved os (m >>= f) (m >>= g)
moved-bound os (Ok x) f g h = h x
moved-bound os (Err c) f g h = refl

same-behind : {A : Type 0} (os : List Session) (m : Result A ℕ) (r s : Result Outcome ℕ) → Moved os r s → Moved os (m >> r) (m >> s)
same-behind os (Ok x) r s h = h
same-behind os (Err c) r s h = refl

pub moved-behind : {A : Type 0} (os : List Session) (m n : Result A ℕ) (r s : Result Outcome ℕ) → n ≡ m → Moved os r s → Moved os (m >> r) (n >> s)
moved-behind os m n r s e h = rw e (same-behind os m r s h)

pub moved-ok : (os : List Session) (o : Outcome) → Moved os (Ok o) (Ok (moved os o))
moved-ok os o = refl

pub moved-err : (os : List Session) (c : ℕ) → Moved os (Err c) (Err c)
moved-err os c = refl

pub moved-answered : (os : List Session) (w : World) (r s : Result Outcome ℕ) → Moved os r s → answered (others_in os w) s ≡ moved os (answered w r)
moved-answered os w (Ok o) (Ok p) h = h
moved-answered os w (Err c) (Err d) h = rw h refl
moved-answered os w (Ok o) (Err d) h = absurd h
moved-answered os w (Err c) (Ok p) h = absurd h

pub same-scene : (w : World) (os : List Session) → SameOthers w.others os → (t : Table) → scene_of t (others_in os w) ≡ scene_of t w
same-scene w os h t = λ i. record (scene_of t w) { held = λ c. h.held t.def t.def.name c i }

pub moved-with_rows : (os : List Session) (w : World) (cs : List Change) → with_rows cs (others_in os w) ≡ others_in os (with_rows cs w)
moved-with_rows os w [] = refl
moved-with_rows os w (c ∷ cs) = refl

pub moved-kept_in : (os : List Session) (w : World) (txn : Option Txn) (cs : List Change) → kept_in txn cs (others_in os w) ≡ others_in os (kept_in txn cs w)
moved-kept_in os w None cs = moved-with_rows os w cs
moved-kept_in os w (Some t) cs = refl

pub moved-after_rows : (os : List Session) (name : List ℕ) (w : World) (r : Result Progress Refusal) → after_rows name (others_in os w) r ≡ moved os (after_rows name w r)
moved-after_rows os name w (Ok g) = ap (λ (u : World). done u g.count) (moved-kept_in os (with_number name g.next w) w.here.txn g.changes)
moved-after_rows os name w (Err e) = elim (e.code == 1213) as (λ b. refused (if b then rolled_back (with_number name e.next (others_in os w)) else with_number name e.next (others_in os w)) e.code
    ≡ moved os (refused (if b then rolled_back (with_number name e.next w) else with_number name e.next w) e.code)) [ true ↦ refl | false ↦ refl ]

-- ---- rows

pub moved-on_rows : (os : List Session) (name : List ℕ) (act : Table → World → Outcome) (w : World) →
    ((t : Table) → act t (others_in os (entered name w)) ≡ moved os (act t (entered name w))) → on_rows name act (others_in os w) ≡ moved os (on_rows name act w)
moved-on_rows os name act w h = (elim (table_of name (replay w.commits)) as (λ t. table_of name (replay w.commits) ≡ t → on_rows name act (others_in os w) ≡ moved os (on_rows name act w)) [
  | None ↦ λ e. rw e refl
  | Some t ↦ λ e. rw e ((elim (is_stale name (entered name w)) as (λ b. (if b then refused (others_in os (entered name w)) 1412 else act t (others_in os (entered name w))) ≡ moved os (if b then refused (entered name w) 1412 else act t (entered name w))) [
    | true ↦ refl
    | false ↦ h t
  ]))
]) refl

pub moved-write : (os : List Session) (name : List ℕ) (changes : Scene → Progress → Result Progress Refusal) (w : World) → SameOthers w.others os →
    on_rows name (write_outcome changes) (others_in os w) ≡ moved os (on_rows name (write_outcome changes) w)
moved-write os name changes w h = moved-on_rows os name (write_outcome changes) w (λ t.
    let u : World = entered name w in
    ap (λ (a : Scene). after_rows t.def.name (others_in os u) (changes a (start_of t u) >>= not_too_heavy u)) (same-scene u os h t) ∙ moved-after_rows os t.def.name u (written changes t u))

pub moved-select : (os : List Session) (s : Select) (c : Where) (w : World) → on_rows s.table (select_outcome s c) (others_in os w) ≡ moved os (on_rows s.table (select_outcome s c) w)
moved-select os s c w = moved-on_rows os s.table (select_outcome s c) w (λ t.
    let u : World = entered s.table w in
    moved-answered os u (select_answer s c t u) (select_answer s c t (others_in os u)) (search (same-behind, moved-ok)))

-- ---- definitions

pub moved-either : (os : List Session) (b c : Bool) (x y p q : Result Outcome ℕ) → c ≡ b → Moved os x p → Moved os y q → Moved os (if b then x else y) (if c then p else q)
moved-either os true c x y p q e h k = rw e h
moved-either os false c x y p q e h k = rw e k

-- 1205 comes alike
pub same-free : (os : List Session) (w : World) (t k : List ℕ) → SameOthers w.others os → free_for_key (others_in os w) t k ≡ free_for_key w t k
same-free os w t k h = rw (h.used t) refl

pub moved-create_table : (os : List Session) (w : World) (text : TableText) (b : Bool) (engine : Option (List ℕ)) → Moved os (create_table w text b engine) (create_table (others_in os w) text b engine)
moved-create_table os w text b engine = search (same-behind, moved-bound, moved-either, moved-ok, moved-err)

pub moved-dropped : (os : List Session) (w : World) (table : List ℕ) → SameOthers w.others os → Moved os (dropped w table) (dropped (others_in os w) table)
moved-dropped os w table h = rw (h.used table) (search (same-behind, moved-ok))

pub moved-drop_table : (os : List Session) (w : World) (table : List ℕ) (b : Bool) → SameOthers w.others os → Moved os (drop_table w table b) (drop_table (others_in os w) table b)
moved-drop_table os w table b h = search (moved-either, moved-dropped, moved-ok, moved-err, h)

pub moved-drop_index : (os : List Session) (w : World) (n : KeyName) → SameOthers w.others os → Moved os (drop_index w n) (drop_index (others_in os w) n)
moved-drop_index os w n h = rw (same-free os w n.table n.key h) (search (same-behind, moved-bound, moved-ok))

pub moved-finish : (os : List Session) (w : World) (n : KeyName) → SameOthers w.others os → Moved os (finish_index w n) (finish_index (others_in os w) n)
moved-finish os w n h = rw (same-free os w n.table n.key h) (search (same-behind, moved-bound, moved-published))
  where
    moved-published : (t : Table) (key : IndexDef) → Moved os (Ok (published (with_building n.table None w) t key)) (Ok (published (with_building n.table None (others_in os w)) t key))
    moved-published t key = elim (has_duplicate t.def key (visible t.def w.moment t.rows)) as (λ b.
        (if b then refused (with_building n.table None (others_in os w)) 1062 else done (with_schema_change (schema.CreateIndex t.def.name key) (with_building n.table None (others_in os w))) 0)
        ≡ moved os (if b then refused (with_building n.table None w) 1062 else done (with_schema_change (schema.CreateIndex t.def.name key) (with_building n.table None w)) 0)) [ true ↦ refl | false ↦ refl ]

-- the second answer is what g makes of the first
abbrev pub Under : {A : Type 0} → (A → A) → Result A ℕ → Result A ℕ → Type 0
Under g (Ok x) (Ok y) = y ≡ g x
Under g (Err c) (Err d) = d ≡ c
Under g (Ok x) (Err d) = ⊥
Under g (Err c) (Ok y) = ⊥

under-bound : {A B : Type 0} (g : B → B) (m : Result A ℕ) (k l : A → Result B ℕ) → ((x : A) → Under g (k x) (l x)) → Under g (m >>= k) (m >>= l)
under-bound g (Ok x) k l h = h x
under-bound g (Err c) k l h = refl

under-behind : {A B : Type 0} (g : B → B) (m : Result A ℕ) (r s : Result B ℕ) → Under g r s → Under g (m >> r) (m >> s)
under-behind g (Ok x) r s h = h
under-behind g (Err c) r s h = refl

under-then : {A : Type 0} (os : List Session) (g : A → A) (m n : Result A ℕ) (k l : A → Result Outcome ℕ) → Under g m n → ((x : A) → Moved os (k x) (l (g x))) → Moved os (m >>= k) (n >>= l)
under-then os g (Ok x) (Ok y) k l e h = rw e (h x)
under-then os g (Err c) (Err d) k l e h = e
under-then os g (Ok x) (Err d) k l e h = absurd e
under-then os g (Err c) (Ok y) k l e h = absurd e

pub under-with_begun : (os : List Session) (w : World) (table : List ℕ) (k : KeyText) → SameOthers w.others os → Under (others_in os) (with_begun w table k) (with_begun (others_in os w) table k)
under-with_begun os w table k h = rw (same-free os w table k.name h) (search (under-bound, under-behind))

pub moved-begin : (os : List Session) (w : World) (table : List ℕ) (k : KeyText) → SameOthers w.others os → Moved os (begin_index w table k) (begin_index (others_in os w) table k)
moved-begin os w table k h = under-then os (others_in os) (with_begun w table k) (with_begun (others_in os w) table k) _ _ (under-with_begun os w table k h) (λ u. refl)

-- BEGIN INDEX leaves the other sessions
pub others-with_begun : (w : World) (table : List ℕ) (k : KeyText) → IfOk (with_begun w table k) (λ u. u.others ≡ w.others)
others-with_begun w table k = search (bound, behind)

pub same-others-of : (a b os : List Session) → b ≡ a → SameOthers a os → SameOthers b os
same-others-of a b os e h = rw e h

under-then-of : (os : List Session) (P : World → Type 0) (m n : Result World ℕ) (k l : World → Result Outcome ℕ) → IfOk m P → Under (others_in os) m n → ((u : World) → P u → Moved os (k u) (l (others_in os u))) → Moved os (m >>= k) (n >>= l)
under-then-of os P (Ok x) (Ok y) k l p e h = rw e (h x p)
under-then-of os P (Err c) (Err d) k l p e h = e
under-then-of os P (Ok x) (Err d) k l p e h = absurd e
under-then-of os P (Err c) (Ok y) k l p e h = absurd e

pub moved-create_index : (os : List Session) (w : World) (table : List ℕ) (k : KeyText) → SameOthers w.others os → Moved os (create_index w table k) (create_index (others_in os w) table k)
moved-create_index os w table k h = under-then-of os (λ u. u.others ≡ w.others) (with_begun w table k) (with_begun (others_in os w) table k) _ _ (others-with_begun w table k) (under-with_begun os w table k h)
    (λ u e. moved-finish os u (record { table = table; key = k.name }) (same-others-of w.others u.others os e h))

pub moved-cancel : (os : List Session) (w : World) (n : KeyName) → Moved os (cancel_index w n) (cancel_index (others_in os w) n)
moved-cancel os w n = search (moved-bound)

pub moved-lock : (os : List Session) (w : World) (names : List (List ℕ)) → Moved os (lock_tables w names) (lock_tables (others_in os w) names)
moved-lock os w names = search (same-behind)

pub moved-rolled_back_to : (os : List Session) (w : World) (name : List ℕ) → Moved os (rolled_back_to w name) (rolled_back_to (others_in os w) name)
moved-rolled_back_to os w name = search (moved-bound)

pub moved-released : (os : List Session) (w : World) (name : List ℕ) → Moved os (released w name) (released (others_in os w) name)
moved-released os w name = search (moved-bound)

pub moved-committed : (os : List Session) (w : World) → committed (others_in os w) ≡ others_in os (committed w)
moved-committed os w = ap (λ (u : World). rolled_back u) (moved-with_rows os w (changes_by w.here.txn))

-- a statement of one session gives the same reply and world, whoever the others are that answer the same
pub moved-outcome_of : (s : Statement) (os : List Session) (w : World) → IsOfOne s → SameOthers w.others os → outcome_of s (others_in os w) ≡ moved os (outcome_of s w)
moved-outcome_of (statement.CreateTable text b engine) os w p h = moved-answered os w _ _ (moved-create_table os w text b engine)
moved-outcome_of (statement.DropTable table b) os w p h = moved-answered os w _ _ (moved-drop_table os w table b h)
moved-outcome_of (statement.CreateIndex table key) os w p h = moved-answered os w _ _ (moved-create_index os w table key h)
moved-outcome_of (statement.DropIndex n) os w p h = moved-answered os w _ _ (moved-drop_index os w n h)
moved-outcome_of (statement.BeginIndex table key) os w p h = moved-answered os w _ _ (moved-begin os w table key h)
moved-outcome_of (statement.FinishIndex n) os w p h = moved-answered os w _ _ (moved-finish os w n h)
moved-outcome_of (statement.CancelIndex n) os w p h = moved-answered os w _ _ (moved-cancel os w n)
moved-outcome_of (statement.Insert s) os w p h = moved-write os s.table (λ a g. insert_changes a s g) w h
moved-outcome_of (statement.Replace s) os w p h = moved-write os s.table (λ a g. replace_changes a s g) w h
moved-outcome_of (statement.Update table set c) os w p h = moved-write os table (λ a g. update_changes a set (where_of c) g) w h
moved-outcome_of (statement.Delete table c) os w p h = moved-write os table (λ a g. delete_changes a (where_of c) g) w h
moved-outcome_of (statement.Select s) os w p h = moved-select os s (where_of s.condition) w
moved-outcome_of (statement.Begin snapshot) os w p h = refl
moved-outcome_of statement.Commit os w p h = ap (λ (u : World). done u 0) (moved-committed os w)
moved-outcome_of statement.Rollback os w p h = refl
moved-outcome_of (statement.RollbackTo name) os w p h = moved-answered os w _ _ (moved-rolled_back_to os w name)
moved-outcome_of (statement.Savepoint name) os w p h = refl
moved-outcome_of (statement.Release name) os w p h = moved-answered os w _ _ (moved-released os w name)
moved-outcome_of (statement.Lock names) os w p h = moved-answered os w _ _ (moved-lock os w names)
moved-outcome_of statement.Unlock os w p h = refl
moved-outcome_of (statement.Session name) os w p h = absurd p
moved-outcome_of statement.Disconnect os w p h = absurd p
moved-outcome_of (statement.Work n) os w p h = refl
