-- A statement in a world whose current session has another name, and has used its tables in another order.
use Rattle.std.proofs.Common.{◌≡◌, ℕ, Bool, true, false, List, [], ◌∷◌, length, find, Option, Some, None, Result, Ok, Err, refl, ap, sym, subst}
use Rattle.std.specs.Prelude.{if◌then◌else◌, ◌==◌, ◌||◌, ⊤}
use Rattle.std.specs.List.{list_any}
use Rattle.std.specs.Option.{option_map}
use Rattle.mr_spec.specs.declared.world.Session.{Session}
use Rattle.mr_spec.specs.declared.world.Table.{Table}
use Rattle.mr_spec.specs.declared.world.Txn.{Txn}
use Rattle.mr_types.specs.declared.row.Change.{Change}
use Rattle.mr_types.specs.declared.definition.IndexDef.{IndexDef}
use Rattle.mr_types.specs.declared.row.Schema.TheVariants as schema
use Rattle.mr_types.specs.Values.{same_bytes}
use Rattle.mr_spec.specs.Promises.{IsOfOne}
use Rattle.mr_spec.specs.Rows.{visible}
use Rattle.mr_spec.specs.Truth.{Where, where_of}
use Rattle.mr_spec.specs.Database.{table_of, replay}
use Rattle.mr_spec.specs.declared.progress.Progress.{Progress}
use Rattle.mr_spec.specs.declared.progress.Refusal.{Refusal}
use Rattle.mr_spec.specs.Progress.{Scene}
use Rattle.mr_spec.specs.Changes.{insert_changes, replace_changes, update_changes, delete_changes}
use Rattle.mr_spec.specs.World.{World, entered, is_stale, keeping, with_rows, with_txn, with_number, with_building, committed, rolled_back, using_table}
use Rattle.mr_spec.specs.Outcome.{Outcome, done, refused, answered}
use Rattle.mr_spec.specs.RowSteps.{on_rows, select_answer, select_outcome, written, write_outcome, after_rows}
use Rattle.mr_spec.specs.SchemaSteps.{create_table, drop_table, published, has_duplicate, with_schema_change, with_begun, begin_index, finish_index, cancel_index, create_index, drop_index, lock_tables}
use Rattle.mr_spec.specs.SessionSteps.{is_savepoint, rolled_back_to, released}
use Rattle.mr_spec.specs.Step.{outcome_of}
use Rattle.mr_types.specs.declared.text.KeyText.{KeyText}
use Rattle.mr_types.specs.declared.text.TableText.{TableText}
use Rattle.mr_types.specs.declared.statement.KeyName.{KeyName}
use Rattle.mr_types.specs.declared.statement.Select.{Select}
use Rattle.mr_types.specs.declared.statement.Statement.{Statement}
use Rattle.mr_types.specs.declared.statement.Statement.TheVariants as statement
use Rattle.mr_types.specs.Refusals.{◌>>=◌, ◌>>◌, some_or}

-- the transaction, with these tables used
abbrev pub with_used : List (List ℕ) → Txn → Txn
with_used us t = record t { used = us }

-- the world whose current session has this name and has used these tables
abbrev pub dressed : List ℕ → List (List ℕ) → World → World
dressed n us w = record w { here = record { name = n; txn = option_map (with_used us) w.here.txn } }

-- the outcome with it
abbrev pub dressed-outcome : List ℕ → List (List ℕ) → Outcome → Outcome
dressed-outcome n us o = record o { world = dressed n us o.world }

-- a transaction that is open has used these tables
abbrev pub SameUsed : List (List ℕ) → Option Txn → Type 0
SameUsed us None = ⊤
SameUsed us (Some t) = (name : List ℕ) → list_any (same_bytes name) us ≡ list_any (same_bytes name) t.used

-- the second outcome is the first in another dress
pub record Alike (n : List ℕ) (o p : Outcome) : Type 0 where
  pub used : List (List ℕ)
  pub is : p ≡ dressed-outcome n used o
  pub same : SameUsed used o.world.here.txn

abbrev Dressed : List ℕ → List (List ℕ) → Result Outcome ℕ → Result Outcome ℕ → Type 0
Dressed n us (Ok o) (Ok p) = (p ≡ dressed-outcome n us o) × SameUsed us o.world.here.txn
Dressed n us (Err c) (Err d) = d ≡ c
Dressed n us (Ok o) (Err d) = ⊥
Dressed n us (Err c) (Ok p) = ⊥

dress-bound : {A : Type 0} (n : List ℕ) (us : List (List ℕ)) (m : Result A ℕ) (f g : A → Result Outcome ℕ) → ((x : A) → Dressed n us (f x) (g x)) → Dressed n us (m >>= f) (m >>= g)
dress-bound n us (Ok x) f g h = h x
dress-bound n us (Err c) f g h = refl

dress-behind : {A : Type 0} (n : List ℕ) (us : List (List ℕ)) (m : Result A ℕ) (r s : Result Outcome ℕ) → Dressed n us r s → Dressed n us (m >> r) (m >> s)
dress-behind n us (Ok x) r s h = h
dress-behind n us (Err c) r s h = refl

dress-either : (n : List ℕ) (us : List (List ℕ)) (b : Bool) (x y p q : Result Outcome ℕ) → Dressed n us x p → Dressed n us y q → Dressed n us (if b then x else y) (if b then p else q)
dress-either n us true x y p q h k = h
dress-either n us false x y p q h k = k

dress-answered : (n : List ℕ) (us : List (List ℕ)) (w : World) (r s : Result Outcome ℕ) → SameUsed us w.here.txn → Dressed n us r s → Alike n (answered w r) (answered (dressed n us w) s)
dress-answered n us w (Ok o) (Ok p) h d = record { used = us; is = d.0; same = d.1 }
dress-answered n us w (Err c) (Err d) h e = record { used = us; is = ap (λ code. refused (dressed n us w) code) e; same = h }
dress-answered n us w (Ok o) (Err d) h e = absurd e
dress-answered n us w (Err c) (Ok p) h e = absurd e

-- ---- rows

used-once : (us : List (List ℕ)) (name : List ℕ) (count : ℕ) (o : Option Txn) → SameUsed us o → SameUsed (name ∷ us) (option_map (using_table name count) o)
used-once us name count None h = tt
used-once us name count (Some t) h = λ x. ap (λ b. same_bytes x name || b) (h x)

dress-rows : (n : List ℕ) (us : List (List ℕ)) (w : World) (cs : List Change) → with_rows cs (dressed n us w) ≡ dressed n us (with_rows cs w)
dress-rows n us w [] = refl
dress-rows n us w (c ∷ cs) = refl

rows-here : (cs : List Change) (w : World) → (with_rows cs w).here ≡ w.here
rows-here [] w = refl
rows-here (c ∷ cs) w = refl

same-keeping : (n : List ℕ) (us : List (List ℕ)) (w : World) (cs : List Change) (o : Option Txn) → SameUsed us o → (keeping cs (dressed n us (with_txn o w)) ≡ dressed n us (keeping cs (with_txn o w))) × SameUsed us (keeping cs (with_txn o w)).here.txn
same-keeping n us w cs None h = (dress-rows n us (with_txn None w) cs, subst (λ (s : Session). SameUsed us s.txn) (sym (rows-here cs (with_txn None w))) tt)
same-keeping n us w cs (Some t) h = (refl, h)

after-alike : (n : List ℕ) (us : List (List ℕ)) (name : List ℕ) (w : World) (r : Result Progress Refusal) (o : Option Txn) → SameUsed us o → Alike n (after_rows name (with_txn o w) r) (after_rows name (dressed n us (with_txn o w)) r)
after-alike n us name w (Ok g) o h =
    let k = same-keeping n us (with_number name g.next w) g.changes o h in
    record { used = us; is = ap (λ (u : World). done u g.count) k.0; same = k.1 }
after-alike n us name w (Err e) o h = elim (e.code == 1213) as (λ b. Alike n (refused (if b then rolled_back (with_number name e.next (with_txn o w)) else with_number name e.next (with_txn o w)) e.code)
    (refused (if b then rolled_back (with_number name e.next (dressed n us (with_txn o w))) else with_number name e.next (dressed n us (with_txn o w))) e.code)) [
      | true ↦ record { used = us; is = refl; same = tt }
      | false ↦ record { used = us; is = refl; same = h }
    ]

write-alike : (n : List ℕ) (us : List (List ℕ)) (changes : Scene → Progress → Result Progress Refusal) (t : Table) (w : World) (o : Option Txn) → SameUsed us o → Alike n (write_outcome changes t (with_txn o w)) (write_outcome changes t (dressed n us (with_txn o w)))
write-alike n us changes t w None h = after-alike n us t.def.name w (written changes t (with_txn None w)) None h
write-alike n us changes t w (Some x) h = after-alike n us t.def.name w (written changes t (with_txn (Some x) w)) (Some x) h

select-alike : (n : List ℕ) (us : List (List ℕ)) (s : Select) (c : Where) (t : Table) (w : World) (o : Option Txn) → SameUsed us o → Alike n (select_outcome s c t (with_txn o w)) (select_outcome s c t (dressed n us (with_txn o w)))
select-alike n us s c t w None h = dress-answered n us (with_txn None w) (select_answer s c t (with_txn None w)) (select_answer s c t (dressed n us (with_txn None w))) h (search (dress-behind, h))
select-alike n us s c t w (Some x) h = dress-answered n us (with_txn (Some x) w) (select_answer s c t (with_txn (Some x) w)) (select_answer s c t (dressed n us (with_txn (Some x) w))) h (search (dress-behind, h))

-- what acts alike on a world with any transaction
abbrev ActsAlike : List ℕ → (Table → World → Outcome) → Type 0
ActsAlike n act = (us : List (List ℕ)) (t : Table) (w : World) (o : Option Txn) → SameUsed us o → Alike n (act t (with_txn o w)) (act t (dressed n us (with_txn o w)))

stale-alike : (n : List ℕ) (us : List (List ℕ)) (name : List ℕ) (act : Table → World → Outcome) (t : Table) (w : World) (o : Option Txn) → ActsAlike n act → SameUsed us o →
    Alike n (if is_stale name (with_txn o w) then refused (with_txn o w) 1412 else act t (with_txn o w)) (if is_stale name (dressed n us (with_txn o w)) then refused (dressed n us (with_txn o w)) 1412 else act t (dressed n us (with_txn o w)))
stale-alike n us name act t w None h k = elim (is_stale name (with_txn None w)) as (λ b. Alike n (if b then refused (with_txn None w) 1412 else act t (with_txn None w)) (if b then refused (dressed n us (with_txn None w)) 1412 else act t (dressed n us (with_txn None w)))) [
  | true ↦ record { used = us; is = refl; same = k }
  | false ↦ h us t w None k
]
stale-alike n us name act t w (Some x) h k = elim (is_stale name (with_txn (Some x) w)) as (λ b. Alike n (if b then refused (with_txn (Some x) w) 1412 else act t (with_txn (Some x) w)) (if b then refused (dressed n us (with_txn (Some x) w)) 1412 else act t (dressed n us (with_txn (Some x) w)))) [
  | true ↦ record { used = us; is = refl; same = k }
  | false ↦ h us t w (Some x) k
]

found-alike : (n : List ℕ) (us : List (List ℕ)) (name : List ℕ) (act : Table → World → Outcome) (t : Table) (w : World) (o : Option Txn) → ActsAlike n act → SameUsed us o →
    Alike n (if is_stale name (entered name (with_txn o w)) then refused (entered name (with_txn o w)) 1412 else act t (entered name (with_txn o w)))
    (if is_stale name (entered name (dressed n us (with_txn o w))) then refused (entered name (dressed n us (with_txn o w))) 1412 else act t (entered name (dressed n us (with_txn o w))))
found-alike n us name act t w None h k = stale-alike n us name act t w None h k
found-alike n us name act t w (Some x) h k = stale-alike n (name ∷ us) name act t w (Some (using_table name (length w.commits) x)) h (λ y. ap (λ b. same_bytes y name || b) (k y))

rows-alike : (n : List ℕ) (us : List (List ℕ)) (name : List ℕ) (act : Table → World → Outcome) (w : World) → ActsAlike n act → SameUsed us w.here.txn → Alike n (on_rows name act w) (on_rows name act (dressed n us w))
rows-alike n us name act w h k = (elim (table_of name (replay w.commits)) as (λ t. table_of name (replay w.commits) ≡ t → Alike n (on_rows name act w) (on_rows name act (dressed n us w))) [
  | None ↦ λ e. rw e (record { used = us; is = refl; same = k })
  | Some t ↦ λ e. rw e (found-alike n us name act t w w.here.txn h k)
]) refl

-- ---- definitions

dress-create_table : (n : List ℕ) (us : List (List ℕ)) (w : World) (text : TableText) (b : Bool) (engine : Option (List ℕ)) → SameUsed us w.here.txn → Dressed n us (create_table w text b engine) (create_table (dressed n us w) text b engine)
dress-create_table n us w text b engine h = search (dress-behind, dress-bound, dress-either, h)

dress-drop_table : (n : List ℕ) (us : List (List ℕ)) (w : World) (table : List ℕ) (b : Bool) → SameUsed us w.here.txn → Dressed n us (drop_table w table b) (drop_table (dressed n us w) table b)
dress-drop_table n us w table b h = search (dress-behind, dress-either, h)

dress-drop_index : (n : List ℕ) (us : List (List ℕ)) (w : World) (k : KeyName) → SameUsed us w.here.txn → Dressed n us (drop_index w k) (drop_index (dressed n us w) k)
dress-drop_index n us w k h = search (dress-behind, dress-bound, h)

dress-finish : (n : List ℕ) (us : List (List ℕ)) (w : World) (k : KeyName) → SameUsed us w.here.txn → Dressed n us (finish_index w k) (finish_index (dressed n us w) k)
dress-finish n us w k h = search (dress-behind, dress-bound, dress-published)
  where
    dress-published : (t : Table) (key : IndexDef) → Dressed n us (Ok (published (with_building k.table None w) t key)) (Ok (published (with_building k.table None (dressed n us w)) t key))
    dress-published t key = elim (has_duplicate t.def key (visible t.def w.moment t.rows)) as (λ b.
        Dressed n us (Ok (if b then refused (with_building k.table None w) 1062 else done (with_schema_change (schema.CreateIndex t.def.name key) (with_building k.table None w)) 0))
        (Ok (if b then refused (with_building k.table None (dressed n us w)) 1062 else done (with_schema_change (schema.CreateIndex t.def.name key) (with_building k.table None (dressed n us w))) 0))) [ true ↦ (refl, h) | false ↦ (refl, h) ]

-- the second world is the first in another dress
abbrev Under : List ℕ → List (List ℕ) → Result World ℕ → Result World ℕ → Type 0
Under n us (Ok x) (Ok y) = (y ≡ dressed n us x) × SameUsed us x.here.txn
Under n us (Err c) (Err d) = d ≡ c
Under n us (Ok x) (Err d) = ⊥
Under n us (Err c) (Ok y) = ⊥

under-bound : {A : Type 0} (n : List ℕ) (us : List (List ℕ)) (m : Result A ℕ) (k l : A → Result World ℕ) → ((x : A) → Under n us (k x) (l x)) → Under n us (m >>= k) (m >>= l)
under-bound n us (Ok x) k l h = h x
under-bound n us (Err c) k l h = refl

under-behind : {A : Type 0} (n : List ℕ) (us : List (List ℕ)) (m : Result A ℕ) (r s : Result World ℕ) → Under n us r s → Under n us (m >> r) (m >> s)
under-behind n us (Ok x) r s h = h
under-behind n us (Err c) r s h = refl

under-then : (n : List ℕ) (us : List (List ℕ)) (m m' : Result World ℕ) (k l : World → Result Outcome ℕ) → Under n us m m' → ((x : World) → SameUsed us x.here.txn → Dressed n us (k x) (l (dressed n us x))) → Dressed n us (m >>= k) (m' >>= l)
under-then n us (Ok x) (Ok y) k l e h = subst (λ z. Dressed n us (k x) (l z)) (sym e.0) (h x e.1)
under-then n us (Err c) (Err d) k l e h = e
under-then n us (Ok x) (Err d) k l e h = absurd e
under-then n us (Err c) (Ok y) k l e h = absurd e

under-with_begun : (n : List ℕ) (us : List (List ℕ)) (w : World) (table : List ℕ) (k : KeyText) → SameUsed us w.here.txn → Under n us (with_begun w table k) (with_begun (dressed n us w) table k)
under-with_begun n us w table k h = search (under-bound, under-behind, h)

dress-begin : (n : List ℕ) (us : List (List ℕ)) (w : World) (table : List ℕ) (k : KeyText) → SameUsed us w.here.txn → Dressed n us (begin_index w table k) (begin_index (dressed n us w) table k)
dress-begin n us w table k h = under-then n us (with_begun w table k) (with_begun (dressed n us w) table k) _ _ (under-with_begun n us w table k h) (λ u g. (refl, g))

dress-create_index : (n : List ℕ) (us : List (List ℕ)) (w : World) (table : List ℕ) (k : KeyText) → SameUsed us w.here.txn → Dressed n us (create_index w table k) (create_index (dressed n us w) table k)
dress-create_index n us w table k h = under-then n us (with_begun w table k) (with_begun (dressed n us w) table k) _ _ (under-with_begun n us w table k h) (λ u g. dress-finish n us u (record { table = table; key = k.name }) g)

dress-cancel : (n : List ℕ) (us : List (List ℕ)) (w : World) (k : KeyName) → SameUsed us w.here.txn → Dressed n us (cancel_index w k) (cancel_index (dressed n us w) k)
dress-cancel n us w k h = search (dress-bound, h)

dress-lock : (n : List ℕ) (us : List (List ℕ)) (w : World) (names : List (List ℕ)) → SameUsed us w.here.txn → Dressed n us (lock_tables w names) (lock_tables (dressed n us w) names)
dress-lock n us w names h = search (dress-behind, h)

-- ---- transactions

dress-twice : {A B : Type 0} (n : List ℕ) (us : List (List ℕ)) (m : Result A ℕ) (f f' : A → Result B ℕ) (g g' : B → Result Outcome ℕ) → ((x : A) → Dressed n us (f x >>= g) (f' x >>= g')) → Dressed n us ((m >>= f) >>= g) ((m >>= f') >>= g')
dress-twice n us (Ok x) f f' g g' h = h x
dress-twice n us (Err c) f f' g g' h = refl

dress-rolled_back_to : (n : List ℕ) (us : List (List ℕ)) (w : World) (name : List ℕ) (o : Option Txn) → SameUsed us o → Dressed n us (rolled_back_to (with_txn o w) name) (rolled_back_to (dressed n us (with_txn o w)) name)
dress-rolled_back_to n us w name None h = refl
dress-rolled_back_to n us w name (Some t) h = dress-twice n us (some_or 1305 (find (is_savepoint name) t.savepoints)) _ _ _ _ (λ s. (refl, h))

dress-released : (n : List ℕ) (us : List (List ℕ)) (w : World) (name : List ℕ) (o : Option Txn) → SameUsed us o → Dressed n us (released (with_txn o w) name) (released (dressed n us (with_txn o w)) name)
dress-released n us w name None h = refl
dress-released n us w name (Some t) h = dress-twice n us (some_or 1305 (find (is_savepoint name) t.savepoints)) _ _ _ _ (λ s. (refl, h))

savepoint-alike : (n : List ℕ) (us : List (List ℕ)) (w : World) (name : List ℕ) (o : Option Txn) → SameUsed us o → Alike n (outcome_of (statement.Savepoint name) (with_txn o w)) (outcome_of (statement.Savepoint name) (dressed n us (with_txn o w)))
savepoint-alike n us w name None h = record { used = us; is = refl; same = tt }
savepoint-alike n us w name (Some t) h = record { used = us; is = refl; same = h }

pub dress-committed : (n : List ℕ) (us : List (List ℕ)) (w : World) (o : Option Txn) → committed (dressed n us (with_txn o w)) ≡ dressed n us (committed (with_txn o w))
dress-committed n us w None = refl
dress-committed n us w (Some t) = ap rolled_back (dress-rows n us (with_txn (Some t) w) t.changes)

-- ---- each statement

pub outcome-alike : (s : Statement) (n : List ℕ) (us : List (List ℕ)) (w : World) → IsOfOne s → SameUsed us w.here.txn → Alike n (outcome_of s w) (outcome_of s (dressed n us w))
outcome-alike (statement.CreateTable text b engine) n us w p h = dress-answered n us w _ _ h (dress-create_table n us w text b engine h)
outcome-alike (statement.DropTable table b) n us w p h = dress-answered n us w _ _ h (dress-drop_table n us w table b h)
outcome-alike (statement.CreateIndex table key) n us w p h = dress-answered n us w _ _ h (dress-create_index n us w table key h)
outcome-alike (statement.DropIndex k) n us w p h = dress-answered n us w _ _ h (dress-drop_index n us w k h)
outcome-alike (statement.BeginIndex table key) n us w p h = dress-answered n us w _ _ h (dress-begin n us w table key h)
outcome-alike (statement.FinishIndex k) n us w p h = dress-answered n us w _ _ h (dress-finish n us w k h)
outcome-alike (statement.CancelIndex k) n us w p h = dress-answered n us w _ _ h (dress-cancel n us w k h)
outcome-alike (statement.Insert s) n us w p h = rows-alike n us s.table (write_outcome (λ a g. insert_changes a s g)) w (λ vs t v o k. write-alike n vs (λ a g. insert_changes a s g) t v o k) h
outcome-alike (statement.Replace s) n us w p h = rows-alike n us s.table (write_outcome (λ a g. replace_changes a s g)) w (λ vs t v o k. write-alike n vs (λ a g. replace_changes a s g) t v o k) h
outcome-alike (statement.Update table set c) n us w p h = rows-alike n us table (write_outcome (λ a g. update_changes a set (where_of c) g)) w (λ vs t v o k. write-alike n vs (λ a g. update_changes a set (where_of c) g) t v o k) h
outcome-alike (statement.Delete table c) n us w p h = rows-alike n us table (write_outcome (λ a g. delete_changes a (where_of c) g)) w (λ vs t v o k. write-alike n vs (λ a g. delete_changes a (where_of c) g) t v o k) h
outcome-alike (statement.Select s) n us w p h = rows-alike n us s.table (select_outcome s (where_of s.condition)) w (λ vs t v o k. select-alike n vs s (where_of s.condition) t v o k) h
outcome-alike (statement.Begin snapshot) n us w p h = record { used = []; is = refl; same = λ name. refl }
outcome-alike statement.Commit n us w p h = record { used = us; is = ap (λ (u : World). done u 0) (dress-committed n us w w.here.txn); same = tt }
outcome-alike statement.Rollback n us w p h = record { used = us; is = refl; same = tt }
outcome-alike (statement.RollbackTo name) n us w p h = dress-answered n us w _ _ h (dress-rolled_back_to n us w name w.here.txn h)
outcome-alike (statement.Savepoint name) n us w p h = savepoint-alike n us w name w.here.txn h
outcome-alike (statement.Release name) n us w p h = dress-answered n us w _ _ h (dress-released n us w name w.here.txn h)
outcome-alike (statement.Lock names) n us w p h = dress-answered n us w _ _ h (dress-lock n us w names h)
outcome-alike statement.Unlock n us w p h = record { used = us; is = refl; same = h }
outcome-alike (statement.Session name) n us w p h = absurd p
outcome-alike statement.Disconnect n us w p h = absurd p
outcome-alike (statement.Work k) n us w p h = record { used = us; is = refl; same = h }
