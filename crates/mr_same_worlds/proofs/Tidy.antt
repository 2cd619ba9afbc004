-- Statements keep worlds tidy.
use Rattle.std.proofs.Common.{◌≡◌, ◌⊎◌, ℕ, Bool, true, false, List, [], ◌∷◌, ◌++◌, Option, Some, None, Result, Ok, Err, IfOk, refl, ap, sym, subst, ◌∙◌, inl, inr}
use Rattle.std.specs.Prelude.{◌||◌, ◌==◌, if◌then◌else◌, is_some}
use Rattle.mr_types.specs.declared.definition.IndexDef.{IndexDef}
use Rattle.mr_types.specs.declared.definition.TableDef.{TableDef}
use Rattle.mr_types.specs.declared.row.Change.{Change}
use Rattle.mr_types.specs.declared.row.CommitBody.TheVariants as body
use Rattle.mr_types.specs.declared.row.Schema.{Schema}
use Rattle.mr_types.specs.declared.row.Schema.TheVariants as schema
use Rattle.mr_types.specs.declared.statement.KeyName.{KeyName}
use Rattle.mr_types.specs.declared.statement.Select.{Select}
use Rattle.mr_types.specs.declared.statement.Statement.{Statement}
use Rattle.mr_types.specs.declared.statement.Statement.TheVariants as statement
use Rattle.mr_types.specs.declared.text.KeyText.{KeyText}
use Rattle.mr_types.specs.declared.text.TableText.{TableText}
use Rattle.mr_types.specs.Refusals.{◌>>=◌, ◌>>◌, refuse_where, some_or}
use Rattle.mr_types.specs.Values.{same_bytes}
use Rattle.mr_spec.specs.declared.progress.Progress.{Progress}
use Rattle.mr_spec.specs.declared.progress.Refusal.{Refusal}
use Rattle.mr_spec.specs.declared.world.Table.{Table}
use Rattle.mr_spec.specs.declared.world.Txn.{Txn}
use Rattle.mr_spec.specs.Changes.{insert_changes, replace_changes, update_changes, delete_changes}
use Rattle.mr_spec.specs.Database.{table_of, replay}
use Rattle.mr_spec.specs.Outcome.{Outcome, refused, done, answered}
use Rattle.mr_spec.specs.Progress.{Scene}
use Rattle.mr_spec.specs.RowSteps.{on_rows, select_answer, select_outcome, written, write_outcome, after_rows}
use Rattle.mr_spec.specs.Rows.{visible}
use Rattle.mr_spec.specs.SchemaSteps.{created, create_table, dropped, drop_table, used_elsewhere, free_for_key, published, has_duplicate, with_schema_change, with_begun, finish_index, cancel_index, drop_index, lock_tables, building_names}
use Rattle.mr_spec.specs.Checks.{check, check_key}
use Rattle.mr_spec.specs.SessionSteps.{rolled_back_to, released, session_outcome}
use Rattle.mr_spec.specs.Step.{outcome_of, begun, timed, commits_first}
use Rattle.mr_spec.specs.ScriptRun.{world_after}
use Rattle.mr_spec.specs.Truth.{Where, where_of}
use Rattle.mr_spec.specs.World.{World, entered, is_stale, at_name, kept_in, with_commit, with_rows, with_number, with_building, changes_by, committed, rolled_back}
use Rattle.mr_spec.proofs.Results.{bound, behind}
use Rattle.mr_same_worlds.specs.SameWorld.{IsTidy}
use Rattle.mr_same_worlds.proofs.Absent.{name-is, is-name, IsAbsent, none-some, found-name, absent-changes, absent-indexed, one-more}

-- ---- how a world changes

tidy-commit : (w : World) (cs : List Change) → IsTidy w → IsTidy (with_commit (body.Rows cs) w)
tidy-commit w cs h = record {
  number = λ name e. h.number name (before name e);
  key = λ name e. h.key name (before name e);
}
  where
    before : (name : List ℕ) → IsAbsent name (replay (w.commits ++ record { moment = w.moment; body = body.Rows cs } ∷ [])) → IsAbsent name (replay w.commits)
    before name e = absent-changes name cs (replay w.commits) (subst (IsAbsent name) (one-more w.commits (record { moment = w.moment; body = body.Rows cs })) e)

tidy-rows : (cs : List Change) (w : World) → IsTidy w → IsTidy (with_rows cs w)
tidy-rows [] w h = h
tidy-rows (c ∷ cs) w h = tidy-commit w (c ∷ cs) h

tidy-committed : (w : World) → IsTidy w → IsTidy (committed w)
tidy-committed w h = tidy-rows (changes_by w.here.txn) w h

tidy-kept : (o : Option Txn) (cs : List Change) (w : World) → IsTidy w → IsTidy (kept_in o cs w)
tidy-kept None cs w h = tidy-rows cs w h
tidy-kept (Some t) cs w h = h

-- what is put for the name of a table that is there isn't seen at an absent one
elsewhere : {A : Type 0} (w : World) (n : List ℕ) (t : Table) (x : A) (f : List ℕ → A) (name : List ℕ) → table_of n (replay w.commits) ≡ Some t → IsAbsent name (replay w.commits) → at_name n x f name ≡ f name
elsewhere w n t x f name there e = (elim (same_bytes name n) as (λ b. same_bytes name n ≡ b → (if b then x else f name) ≡ f name) [
  | true ↦ λ g. none-some (table_of n (replay w.commits)) t (subst (λ m. IsAbsent m (replay w.commits)) (name-is name n g) e) there
  | false ↦ λ g. refl
]) refl

tidy-number : (w : World) (n : List ℕ) (t : Table) (k : ℕ) → table_of n (replay w.commits) ≡ Some t → IsTidy w → IsTidy (with_number n k w)
tidy-number w n t k there h = record { number = λ name e. elsewhere w n t k w.numbers name there e ∙ h.number name e; key = h.key }

tidy-building : (w : World) (n : List ℕ) (t : Table) (key : Option IndexDef) → table_of n (replay w.commits) ≡ Some t → IsTidy w → IsTidy (with_building n key w)
tidy-building w n t key there h = record { number = h.number; key = λ name e. elsewhere w n t key w.building name there e ∙ h.key name e }

tidy-unbuilt : (w : World) (n : List ℕ) → IsTidy w → IsTidy (with_building n None w)
tidy-unbuilt w n h = record { number = h.number; key = λ name e. by-name name (h.key name e) }
  where
    by-name : (name : List ℕ) → w.building name ≡ None → at_name n None w.building name ≡ None
    by-name name e = elim (same_bytes name n) as (λ b. (if b then None else w.building name) ≡ None) [ true ↦ refl | false ↦ e ]

-- a change of the schema that drops no table
abbrev DropsNone : Schema → Type 0
DropsNone s = (name : List ℕ) → s ≡ schema.DropTable name → ⊥

tidy-schema : (w : World) (s : Schema) → DropsNone s → IsTidy w → IsTidy (with_schema_change s w)
tidy-schema w s keeps h = record { number = λ name e. h.number name (before name e); key = λ name e. h.key name (before name e) }
  where
    before : (name : List ℕ) → IsAbsent name (replay (w.commits ++ record { moment = w.moment; body = body.Schema s } ∷ [])) → IsAbsent name (replay w.commits)
    before name e = elim (absent-indexed name s (replay w.commits) (subst (IsAbsent name) (one-more w.commits (record { moment = w.moment; body = body.Schema s })) e)) [
      | inl g ↦ g
      | inr g ↦ absurd (keeps name g)
    ]

-- the name that a dropped table has
drop-name : (m n : List ℕ) → schema.DropTable m ≡ schema.DropTable n → m ≡ n
drop-name m n e = cc

tidy-dropped : (w : World) (n : List ℕ) → w.building n ≡ None → IsTidy w → IsTidy (with_number n 1 (with_schema_change (schema.DropTable n) w))
tidy-dropped w n none h = record { number = numbered; key = keyed }
  where
    before : (name : List ℕ) → IsAbsent name (replay (w.commits ++ record { moment = w.moment; body = body.Schema (schema.DropTable n) } ∷ [])) → IsAbsent name (replay w.commits) ⊎ (name ≡ n)
    before name e = elim (absent-indexed name (schema.DropTable n) (replay w.commits) (subst (IsAbsent name) (one-more w.commits (record { moment = w.moment; body = body.Schema (schema.DropTable n) })) e)) [
      | inl g ↦ inl g
      | inr g ↦ inr (sym (drop-name n name g))
    ]

    first-number : (name : List ℕ) → IsAbsent name (replay w.commits) ⊎ (name ≡ n) → at_name n 1 w.numbers name ≡ 1
    first-number name (inl g) = elim (same_bytes name n) as (λ b. (if b then 1 else w.numbers name) ≡ 1) [ true ↦ refl | false ↦ h.number name g ]
    first-number name (inr g) = ap (λ b. if b then 1 else w.numbers name) (ap (λ m. same_bytes m n) g ∙ is-name n)

    numbered : (name : List ℕ) → IsAbsent name (replay (w.commits ++ record { moment = w.moment; body = body.Schema (schema.DropTable n) } ∷ [])) → at_name n 1 w.numbers name ≡ 1
    numbered name e = first-number name (before name e)

    no-key : (name : List ℕ) → IsAbsent name (replay w.commits) ⊎ (name ≡ n) → w.building name ≡ None
    no-key name (inl g) = h.key name g
    no-key name (inr g) = ap w.building g ∙ none

    keyed : (name : List ℕ) → IsAbsent name (replay (w.commits ++ record { moment = w.moment; body = body.Schema (schema.DropTable n) } ∷ [])) → w.building name ≡ None
    keyed name e = no-key name (before name e)

-- ---- answers

abbrev LeavesTidy : Outcome → Type 0
LeavesTidy o = IsTidy o.world

tidy-answered : (w : World) (r : Result Outcome ℕ) → IsTidy w → IfOk r LeavesTidy → IsTidy (answered w r).world
tidy-answered w (Ok o) h k = k
tidy-answered w (Err c) h k = h

-- the table is there behind the test
there-bound : {A : Type 0} (P : A → Type 0) (o : Option Table) (f : Table → Result A ℕ) → ((t : Table) → o ≡ Some t → IfOk (f t) P) → IfOk (some_or 1146 o >>= f) P
there-bound P None f h = tt
there-bound P (Some t) f h = h t refl

passed : {A : Type 0} (P : A → Type 0) (code : ℕ) (b : Bool) (r : Result A ℕ) → (b ≡ false → IfOk r P) → IfOk (refuse_where code b >> r) P
passed P code true r h = tt
passed P code false r h = h refl

tidy-either : (b : Bool) (r s : Result Outcome ℕ) → IfOk r LeavesTidy → IfOk s LeavesTidy → IfOk (if b then r else s) LeavesTidy
tidy-either true r s h k = h
tidy-either false r s h k = k

-- ---- rows

tidy-after-rows : (n : List ℕ) (t : Table) (w : World) (r : Result Progress Refusal) → table_of n (replay w.commits) ≡ Some t → IsTidy w → IsTidy (after_rows n w r).world
tidy-after-rows n t w (Ok g) there h = tidy-kept w.here.txn g.changes (with_number n g.next w) (tidy-number w n t g.next there h)
tidy-after-rows n t w (Err e) there h = elim (e.code == 1213) as (λ b. IsTidy (if b then rolled_back (with_number n e.next w) else with_number n e.next w)) [ true ↦ tidy-number w n t e.next there h | false ↦ tidy-number w n t e.next there h ]

tidy-on-rows : (name : List ℕ) (act : Table → World → Outcome) (w : World) → ((t : Table) → table_of name (replay w.commits) ≡ Some t → IsTidy (act t (entered name w)).world) → IsTidy w → IsTidy (on_rows name act w).world
tidy-on-rows name act w k h = (elim (table_of name (replay w.commits)) as (λ o. table_of name (replay w.commits) ≡ o → IsTidy (on_rows name act w).world) [
  | None ↦ λ e. rw e h
  | Some t ↦ λ e. rw e ((elim (is_stale name (entered name w)) as (λ b. IsTidy (if b then refused (entered name w) 1412 else act t (entered name w)).world) [ true ↦ h | false ↦ k t e ]))
]) refl

tidy-write : (name : List ℕ) (changes : Scene → Progress → Result Progress Refusal) (w : World) → IsTidy w → IsTidy (on_rows name (write_outcome changes) w).world
tidy-write name changes w h = tidy-on-rows name (write_outcome changes) w (λ t e. tidy-after-rows t.def.name t (entered name w) (written changes t (entered name w)) (ap (λ n. table_of n (replay w.commits)) (found-name name (replay w.commits) t e) ∙ e) h) h

tidy-select : (s : Select) (c : Where) (w : World) → IsTidy w → IsTidy (on_rows s.table (select_outcome s c) w).world
tidy-select s c w h = tidy-on-rows s.table (select_outcome s c) w (λ t e. tidy-answered (entered s.table w) (select_answer s c t (entered s.table w)) h (search (behind, h))) h

-- ---- definitions

makes-none : (def : TableDef) → DropsNone (schema.CreateTable def)
makes-none def name e = cc

adds-none : (n : List ℕ) (key : IndexDef) → DropsNone (schema.CreateIndex n key)
adds-none n key name e = cc

takes-none : (n m : List ℕ) → DropsNone (schema.DropIndex n m)
takes-none n m name e = cc

tidy-created : (w : World) (text : TableText) → IsTidy w → IfOk (created w text) LeavesTidy
tidy-created w text h = tidy-check (check text)
  where
    tidy-check : (m : Result TableDef ℕ) → IfOk (m >>= λ def. Ok (done (with_schema_change (schema.CreateTable def) w) 0)) LeavesTidy
    tidy-check (Ok def) = tidy-schema w (schema.CreateTable def) (makes-none def) h
    tidy-check (Err c) = tt

tidy-create_table : (w : World) (text : TableText) (b : Bool) (engine : Option (List ℕ)) → IsTidy w → IfOk (create_table w text b engine) LeavesTidy
tidy-create_table w text b engine h = search (behind, tidy-either, tidy-created, h)

none-of : {A : Type 0} (o : Option A) → is_some o ≡ false → o ≡ None
none-of None e = refl
none-of (Some x) e = absurd cc

second-false : (a b : Bool) → (a || b) ≡ false → b ≡ false
second-false true b e = absurd cc
second-false false b e = e

tidy-drop : (w : World) (table : List ℕ) → IsTidy w → IfOk (dropped w table) LeavesTidy
tidy-drop w table h = passed LeavesTidy 1205 (used_elsewhere w table || is_some (w.building table)) (Ok (done (with_number table 1 (with_schema_change (schema.DropTable table) w)) 0)) (λ e. tidy-dropped w table (none-of (w.building table) (second-false (used_elsewhere w table) (is_some (w.building table)) e)) h)

tidy-drop_table : (w : World) (table : List ℕ) (b : Bool) → IsTidy w → IfOk (drop_table w table b) LeavesTidy
tidy-drop_table w table b h = search (tidy-either, tidy-drop, h)

tidy-with_begun : (w : World) (table : List ℕ) (k : KeyText) → IsTidy w → IfOk (with_begun w table k) IsTidy
tidy-with_begun w table k h = there-bound IsTidy (table_of table (replay w.commits)) (λ t. check_key t.def (building_names w table) k >>= λ key. free_for_key w table k.name >> Ok (with_building table (Some key) w)) (λ t e.
    bound IsTidy (check_key t.def (building_names w table) k) (λ key. free_for_key w table k.name >> Ok (with_building table (Some key) w)) (λ key. behind IsTidy (free_for_key w table k.name) (Ok (with_building table (Some key) w)) (tidy-building w table t (Some key) e h)))

tidy-published : (w : World) (t : Table) (key : IndexDef) → IsTidy w → IsTidy (published w t key).world
tidy-published w t key h = elim (has_duplicate t.def key (visible t.def w.moment t.rows)) as (λ b. IsTidy (if b then refused w 1062 else done (with_schema_change (schema.CreateIndex t.def.name key) w) 0).world) [
  | true ↦ h
  | false ↦ tidy-schema w (schema.CreateIndex t.def.name key) (adds-none t.def.name key) h
]

tidy-finish : (w : World) (n : KeyName) → IsTidy w → IfOk (finish_index w n) LeavesTidy
tidy-finish w n h = let u : IsTidy (with_building n.table None w) = tidy-unbuilt w n.table h in search (bound, behind, tidy-published, u)

tidy-cancel : (w : World) (n : KeyName) → IsTidy w → IfOk (cancel_index w n) LeavesTidy
tidy-cancel w n h = let u : IsTidy (with_building n.table None w) = tidy-unbuilt w n.table h in search (bound, u)

tidy-drop_index : (w : World) (n : KeyName) → IsTidy w → IfOk (drop_index w n) LeavesTidy
tidy-drop_index w n h = search (bound, behind, tidy-taken)
  where
    tidy-taken : (t : Table) (key : IndexDef) → IsTidy (with_schema_change (schema.DropIndex t.def.name key.name) w)
    tidy-taken t key = tidy-schema w (schema.DropIndex t.def.name key.name) (takes-none t.def.name key.name) h

tidy-then : (m : Result World ℕ) (f : World → Result Outcome ℕ) → IfOk m IsTidy → ((u : World) → IsTidy u → IfOk (f u) LeavesTidy) → IfOk (m >>= f) LeavesTidy
tidy-then (Ok u) f h k = k u h
tidy-then (Err c) f h k = tt

-- ---- each statement

tidy-outcome : (s : Statement) (w : World) → IsTidy w → IsTidy (outcome_of s w).world
tidy-outcome (statement.CreateTable text b engine) w h = tidy-answered w _ h (tidy-create_table w text b engine h)
tidy-outcome (statement.DropTable table b) w h = tidy-answered w _ h (tidy-drop_table w table b h)
tidy-outcome (statement.CreateIndex table key) w h = tidy-answered w _ h (tidy-then (with_begun w table key) (λ u. finish_index u (record { table = table; key = key.name })) (tidy-with_begun w table key h) (λ u k. tidy-finish u (record { table = table; key = key.name }) k))
tidy-outcome (statement.DropIndex n) w h = tidy-answered w _ h (tidy-drop_index w n h)
tidy-outcome (statement.BeginIndex table key) w h = tidy-answered w _ h (tidy-then (with_begun w table key) (λ u. Ok (done u 0)) (tidy-with_begun w table key h) (λ u k. k))
tidy-outcome (statement.FinishIndex n) w h = tidy-answered w _ h (tidy-finish w n h)
tidy-outcome (statement.CancelIndex n) w h = tidy-answered w _ h (tidy-cancel w n h)
tidy-outcome (statement.Insert s) w h = tidy-write s.table (λ a g. insert_changes a s g) w h
tidy-outcome (statement.Replace s) w h = tidy-write s.table (λ a g. replace_changes a s g) w h
tidy-outcome (statement.Update table set c) w h = tidy-write table (λ a g. update_changes a set (where_of c) g) w h
tidy-outcome (statement.Delete table c) w h = tidy-write table (λ a g. delete_changes a (where_of c) g) w h
tidy-outcome (statement.Select s) w h = tidy-select s (where_of s.condition) w h
tidy-outcome (statement.Begin snapshot) w h = h
tidy-outcome statement.Commit w h = tidy-committed w h
tidy-outcome statement.Rollback w h = h
tidy-outcome (statement.RollbackTo name) w h = tidy-answered w (rolled_back_to w name) h (search (bound, h))
tidy-outcome (statement.Savepoint name) w h = h
tidy-outcome (statement.Release name) w h = tidy-answered w (released w name) h (search (bound, h))
tidy-outcome (statement.Lock names) w h = tidy-answered w (lock_tables w names) h (search (behind, h))
tidy-outcome statement.Unlock w h = h
tidy-outcome (statement.Session name) w h = tidy-answered w (session_outcome w name) h (search (behind, h))
tidy-outcome statement.Disconnect w h = h
tidy-outcome (statement.Work n) w h = h

tidy-begun : (s : Statement) (w : World) → IsTidy w → IsTidy (begun s w)
tidy-begun s w h = elim (commits_first s) as (λ b. IsTidy (if b then committed w else w)) [ true ↦ tidy-committed w h | false ↦ h ]

pub tidy-after : (w : World) (s : Result Statement ℕ) (clock : ℕ) → IsTidy w → IsTidy (world_after w s clock)
tidy-after w (Ok s) clock h = tidy-outcome s (begun s (timed w clock)) (tidy-begun s (timed w clock) h)
tidy-after w (Err code) clock h = h
