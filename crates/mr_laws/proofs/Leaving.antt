-- What a refused statement leaves, by its code.
use Rattle.std.proofs.Common.{◌≡◌, ◌≢◌, ℕ, Bool, true, false, nat_eq, List, [], ◌∷◌, Option, Some, None, Result, Ok, Err, IfOk, refl, ap, sym, subst, inl, inr}
use Rattle.std.specs.Prelude.{if◌then◌else◌, find, cond}
use Rattle.std.proofs.lemmas.Bool.{eqb-false}
use Rattle.std.proofs.lemmas.Bool.Decides.{eqb_tells}
use Rattle.std.proofs.lemmas.Slice.Eq.{bytes_eq-Decides}
use Rattle.mr_spec.specs.declared.world.Table.{Table}
use Rattle.mr_types.specs.declared.definition.IndexDef.{IndexDef}
use Rattle.mr_types.specs.declared.row.Reply.{Reply}
use Rattle.mr_types.specs.declared.row.Reply.TheVariants as reply
use Rattle.mr_types.specs.declared.text.KeyText.{KeyText}
use Rattle.mr_types.specs.declared.text.TableText.{TableText}
use Rattle.mr_types.specs.declared.statement.KeyName.{KeyName}
use Rattle.mr_types.specs.declared.statement.Select.{Select}
use Rattle.mr_types.specs.declared.statement.Statement.{Statement}
use Rattle.mr_types.specs.declared.statement.Statement.TheVariants as statement
use Rattle.mr_types.specs.Refusals.{◌>>=◌, ◌>>◌, refuse_where, some_or}
use Rattle.mr_spec.specs.Truth.{Where, where_of}
use Rattle.mr_spec.specs.Database.{table_of, is_table, replay}
use Rattle.mr_spec.specs.declared.progress.Progress.{Progress}
use Rattle.mr_spec.specs.declared.progress.Refusal.{Refusal}
use Rattle.mr_spec.specs.Progress.{Scene}
use Rattle.mr_spec.specs.Changes.{insert_changes, replace_changes, update_changes, delete_changes}
use Rattle.mr_spec.specs.World.{World, entered, is_stale, with_building, with_number, rolled_back}
use Rattle.mr_spec.specs.Outcome.{Outcome, done, answered, refused}
use Rattle.mr_spec.specs.RowSteps.{on_rows, select_answer, select_outcome, write_outcome, written, after_rows}
use Rattle.mr_spec.specs.SchemaSteps.{create_table, drop_table, with_begun, begin_index, finish_index, cancel_index, create_index, drop_index, lock_tables}
use Rattle.mr_spec.specs.SessionSteps.{rolled_back_to, released, session_outcome}
use Rattle.mr_spec.specs.Step.{outcome_of, begun, timed, step}
use Rattle.mr_spec.proofs.Results.{bound, behind, either, after}
use Rattle.mr_laws.specs.Refusals.{LeftBy, rows_table, written_table, as_it_was, not_there, stale, not_selected, not_written, ended, unbuilt, built_in_vain}
use Rattle.mr_laws.proofs.Numbers.{FromOn, from-insert, from-replace, from-update, from-delete, from-written}

-- an outcome that leaves no more where it is a refusal
abbrev pub LeavesBy : World → Statement → Outcome → Type 0
LeavesBy w s o = (code : ℕ) → o.reply ≡ reply.Refused code → LeftBy w s code o.world

-- the code of a refusal
abbrev pub code_of : Reply → ℕ
code_of (reply.Refused code) = code
code_of _ = 0

pub by-refused : (w : World) (s : Statement) (u : World) (a : ℕ) → LeftBy w s a u → LeavesBy w s (refused u a)
by-refused w s u a h = λ code e. subst (λ c. LeftBy w s c u) (ap code_of e) h

pub by-done : (w : World) (s : Statement) (u : World) (n : ℕ) → LeavesBy w s (done u n)
by-done w s u n = λ code e. absurd cc

-- an answer that leaves no more, whether as an outcome or as a refusal
abbrev pub AnswersBy : World → Statement → Result Outcome ℕ → Type 0
AnswersBy w s (Ok o) = LeavesBy w s o
AnswersBy w s (Err code) = LeftBy w s code w

pub by-answered : (w : World) (s : Statement) (r : Result Outcome ℕ) → AnswersBy w s r → LeavesBy w s (answered w r)
by-answered w s (Ok o) h = h
by-answered w s (Err code) h = by-refused w s w code h

-- a statement that leaves the world as it was at each refusal
pub by-quiet : (w : World) (s : Statement) (r : Result Outcome ℕ) → ((code : ℕ) → LeftBy w s code w) → IfOk r (LeavesBy w s) → LeavesBy w s (answered w r)
by-quiet w s (Ok o) k h = h
by-quiet w s (Err code) k h = by-refused w s w code (k code)

-- ---- definitions and sessions

abbrev pub DoesBy : World → Statement → Result Outcome ℕ → Type 0
DoesBy w s r = IfOk r (LeavesBy w s)

by-create_table : (s : Statement) (w : World) (text : TableText) (b : Bool) (engine : Option (List ℕ)) → DoesBy w s (create_table w text b engine)
by-create_table s w text b engine = search (bound, behind, either (DoesBy w s), by-done)

by-drop_table : (s : Statement) (w : World) (table : List ℕ) (b : Bool) → DoesBy w s (drop_table w table b)
by-drop_table s w table b = search (behind, either (DoesBy w s), by-done)

by-begin : (s : Statement) (w : World) (table : List ℕ) (k : KeyText) → DoesBy w s (begin_index w table k)
by-begin s w table k = search (bound, by-done)

by-cancel : (s : Statement) (w : World) (n : KeyName) → DoesBy w s (cancel_index w n)
by-cancel s w n = search (bound, by-done)

by-drop_index : (s : Statement) (w : World) (n : KeyName) → DoesBy w s (drop_index w n)
by-drop_index s w n = search (bound, behind, by-done)

by-lock : (s : Statement) (w : World) (names : List (List ℕ)) → DoesBy w s (lock_tables w names)
by-lock s w names = search (behind, by-done)

by-rolled_back_to : (s : Statement) (w : World) (name : List ℕ) → DoesBy w s (rolled_back_to w name)
by-rolled_back_to s w name = search (bound, by-done)

by-released : (s : Statement) (w : World) (name : List ℕ) → DoesBy w s (released w name)
by-released s w name = search (bound, by-done)

by-session : (s : Statement) (w : World) (name : List ℕ) → DoesBy w s (session_outcome w name)
by-session s w name = search (behind, by-done)

-- ---- FINISH INDEX and CREATE INDEX

pub by-some_or : {A : Type 0} (w : World) (s : Statement) (code : ℕ) (m : Option A) (f : A → Result Outcome ℕ) → LeftBy w s code w → ((x : A) → AnswersBy w s (f x)) → AnswersBy w s (some_or code m >>= f)
by-some_or w s code (Some x) f l h = h x
by-some_or w s code None f l h = l

pub by-where : (w : World) (s : Statement) (code : ℕ) (b : Bool) (r : Result Outcome ℕ) → LeftBy w s code w → AnswersBy w s r → AnswersBy w s (refuse_where code b >> r)
by-where w s code false r l h = h
by-where w s code true r l h = l

kept-index : (w : World) (n : KeyName) (code : ℕ) → nat_eq code 1062 ≡ false → LeftBy w (statement.FinishIndex n) code w
kept-index w n code e = as_it_was refl (eqb-false code 1062 e)

by-finish : (w : World) (n : KeyName) → AnswersBy w (statement.FinishIndex n) (finish_index w n)
by-finish w n = search (by-some_or, by-where, kept-index w n 1146 refl, kept-index w n 1176 refl, kept-index w n 1205 refl, either (LeavesBy w (statement.FinishIndex n)), by-done, lost)
  where
    lost : LeavesBy w (statement.FinishIndex n) (refused (with_building n.table None w) 1062)
    lost = by-refused w (statement.FinishIndex n) _ 1062 (unbuilt n refl refl)

-- behind BEGIN INDEX
by-finish_behind : (w : World) (table : List ℕ) (text : KeyText) (key : IndexDef) (name : List ℕ) → DoesBy w (statement.CreateIndex table text) (finish_index (with_building table (Some key) w) (record { table = table; key = name }))
by-finish_behind w table text key name = search (bound, behind, either (LeavesBy w (statement.CreateIndex table text)), by-done, in_vain)
  where
    in_vain : (k : IndexDef) → LeavesBy w (statement.CreateIndex table text) (refused (with_building table None (with_building table (Some k) w)) 1062)
    in_vain k = by-refused w (statement.CreateIndex table text) _ 1062 (built_in_vain table text k refl refl)

by-create_index : (w : World) (table : List ℕ) (k : KeyText) → DoesBy w (statement.CreateIndex table k) (create_index w table k)
by-create_index w table k = after (λ u. DoesBy w (statement.CreateIndex table k) (finish_index u (record { table = table; key = k.name }))) (LeavesBy w (statement.CreateIndex table k)) (with_begun w table k) _
    (search (bound, behind, by-finish_behind)) (λ u h. h)

-- ---- rows

passes : {A : Type 0} (p : A → Bool) (xs : List A) (x : A) → find p xs ≡ Some x → p x ≡ true
passes p [] x e = absurd cc
passes p (y ∷ ys) x e = (elim (p y) as (λ b. p y ≡ b → (cond b (Some y) (find p ys)) ≡ Some x → p x ≡ true) [
  | true ↦ λ h i. let same : y ≡ x = cc in subst (λ z. p z ≡ true) same h
  | false ↦ λ h i. passes p ys x i
]) refl e

-- a table that was found has the name that was looked for
named : (name : List ℕ) (ts : List Table) (t : Table) → table_of name ts ≡ Some t → t.def.name ≡ name
named name ts t e = (bytes_eq-Decides t.def.name name).0 (passes (is_table name) ts t e)

by-on_rows : (s : Statement) (name : List ℕ) (act : Table → World → Outcome) (w : World) → rows_table s ≡ Some name
    → ((t : Table) → t.def.name ≡ name → LeavesBy w s (act t (entered name w))) → LeavesBy w s (on_rows name act w)
by-on_rows s name act w is h = (elim (table_of name (replay w.commits)) as (λ t. table_of name (replay w.commits) ≡ t → LeavesBy w s (on_rows name act w)) [
  | None ↦ λ e. rw e (by-refused w s w 1146 (not_there refl))
  | Some t ↦ λ e. rw e (either (LeavesBy w s) (is_stale name (entered name w)) _ _ (by-refused w s (entered name w) 1412 (stale name is refl)) (h t (named name (replay w.commits) t e)))
]) refl

by-after_rows : (s : Statement) (name : List ℕ) (w : World) (r : Result Progress Refusal) → written_table s ≡ Some name → FromOn (w.numbers name) r → LeavesBy w s (after_rows name (entered name w) r)
by-after_rows s name w (Ok g) is h = λ code e. absurd cc
by-after_rows s name w (Err e) is h = by-refused w s _ e.code (elim (eqb_tells e.code 1213) [
  | inl same ↦ subst (λ b. LeftBy w s e.code (if b then rolled_back (with_number name e.next (entered name w)) else with_number name e.next (entered name w))) (sym same.0) (ended name e.next is same.1 h)
  | inr other ↦ subst (λ b. LeftBy w s e.code (if b then rolled_back (with_number name e.next (entered name w)) else with_number name e.next (entered name w))) (sym other.0) (not_written name e.next is other.1 h)
])

by-after_named : (s : Statement) (name t : List ℕ) (w : World) (r : Result Progress Refusal) → t ≡ name → written_table s ≡ Some name → FromOn (w.numbers t) r → LeavesBy w s (after_rows t (entered name w) r)
by-after_named s name t w r e is = subst (λ x. FromOn (w.numbers x) r → LeavesBy w s (after_rows x (entered name w) r)) (sym e) (by-after_rows s name w r is)

by-write : (s : Statement) (name : List ℕ) (changes : Scene → Progress → Result Progress Refusal) (w : World) → rows_table s ≡ Some name → written_table s ≡ Some name
    → ((a : Scene) (g : Progress) → FromOn g.next (changes a g)) → LeavesBy w s (on_rows name (write_outcome changes) w)
by-write s name changes w rows is h = by-on_rows s name (write_outcome changes) w rows (λ t e.
    by-after_named s name t.def.name w (written changes t (entered name w)) e is (from-written changes t (entered name w) h))

by-select : (x : Select) (c : Where) (t : Table) (w : World) → LeavesBy w (statement.Select x) (select_outcome x c t (entered x.table w))
by-select x c t w = elim (select_answer x c t (entered x.table w)) as (λ r. IfOk r (λ o. (code : ℕ) → o.reply ≢ reply.Refused code) → LeavesBy w (statement.Select x) (answered (entered x.table w) r)) [
  | Ok o ↦ λ h code e. absurd (h code e)
  | Err code ↦ λ h. by-refused w (statement.Select x) (entered x.table w) code (not_selected x refl)
] (search (behind, rows_apart))
  where
    rows_apart : (rows : _) (code : ℕ) → reply.Rows rows ≢ reply.Refused code
    rows_apart rows code e = absurd cc

-- ---- the step

pub by-outcome_of : (s : Statement) (w : World) → LeavesBy w s (outcome_of s w)
by-outcome_of (statement.CreateTable text b engine) w = by-quiet w _ _ (λ code. as_it_was refl tt) (by-create_table _ w text b engine)
by-outcome_of (statement.DropTable table b) w = by-quiet w _ _ (λ code. as_it_was refl tt) (by-drop_table _ w table b)
by-outcome_of (statement.CreateIndex table key) w = by-quiet w _ _ (λ code. as_it_was refl tt) (by-create_index w table key)
by-outcome_of (statement.DropIndex n) w = by-quiet w _ _ (λ code. as_it_was refl tt) (by-drop_index _ w n)
by-outcome_of (statement.BeginIndex table key) w = by-quiet w _ _ (λ code. as_it_was refl tt) (by-begin _ w table key)
by-outcome_of (statement.FinishIndex n) w = by-answered w (statement.FinishIndex n) _ (by-finish w n)
by-outcome_of (statement.CancelIndex n) w = by-quiet w _ _ (λ code. as_it_was refl tt) (by-cancel _ w n)
by-outcome_of (statement.Insert s) w = by-write (statement.Insert s) s.table (λ a g. insert_changes a s g) w refl refl (from-insert s)
by-outcome_of (statement.Replace s) w = by-write (statement.Replace s) s.table (λ a g. replace_changes a s g) w refl refl (from-replace s)
by-outcome_of (statement.Update table set c) w = by-write (statement.Update table set c) table (λ a g. update_changes a set (where_of c) g) w refl refl (from-update set (where_of c))
by-outcome_of (statement.Delete table c) w = by-write (statement.Delete table c) table (λ a g. delete_changes a (where_of c) g) w refl refl (from-delete (where_of c))
by-outcome_of (statement.Select s) w = by-on_rows (statement.Select s) s.table (select_outcome s (where_of s.condition)) w refl (λ t e. by-select s (where_of s.condition) t w)
by-outcome_of (statement.Begin snapshot) w = by-done w _ _ 0
by-outcome_of statement.Commit w = by-done w _ _ 0
by-outcome_of statement.Rollback w = by-done w _ _ 0
by-outcome_of (statement.RollbackTo name) w = by-quiet w _ _ (λ code. as_it_was refl tt) (by-rolled_back_to _ w name)
by-outcome_of (statement.Savepoint name) w = by-done w _ _ 0
by-outcome_of (statement.Release name) w = by-quiet w _ _ (λ code. as_it_was refl tt) (by-released _ w name)
by-outcome_of (statement.Lock names) w = by-quiet w _ _ (λ code. as_it_was refl tt) (by-lock _ w names)
by-outcome_of statement.Unlock w = by-done w _ _ 0
by-outcome_of (statement.Session name) w = by-quiet w _ _ (λ code. as_it_was refl tt) (by-session _ w name)
by-outcome_of statement.Disconnect w = by-done w _ _ 0
by-outcome_of (statement.Work n) w = by-done w _ _ 0

-- a refused statement leaves the world in which it was judged, but for what its kind, its table and its code say
pub left-by-step : (w : World) (s : Statement) (clock code : ℕ) → (step w (Ok s) clock).reply ≡ reply.Refused code → LeftBy (begun s (timed w clock)) s code (step w (Ok s) clock).world
left-by-step w s clock code e = by-outcome_of s (begun s (timed w clock)) code e
