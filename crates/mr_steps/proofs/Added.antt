-- What each statement adds to the commits.
use Rattle.std.proofs.Common.{◌≡◌, ℕ, max, ◌≤◌, zero-le, Bool, true, false, true≢false, List, [], ◌∷◌, ◌++◌, length, drop, find, Option, Some, None, option_map, Result, Ok, Err, IfOk, refl, ap, sym, subst, ◌∙◌, arith, length-append, append_assoc, append-nil}
use Rattle.std.specs.Prelude.{if◌then◌else◌, ◌||◌, ◌==◌, not, is_none, is_some}
use Rattle.std.specs.Option.{option_map_or}
use Rattle.std.proofs.Math.Seq.{drop-append_seam}
use Rattle.mr_types.specs.declared.row.Change.{Change}
use Rattle.mr_types.specs.declared.row.Commit.{Commit}
use Rattle.mr_types.specs.declared.row.CommitBody.{CommitBody}
use Rattle.mr_types.specs.declared.row.CommitBody.TheVariants as body
use Rattle.mr_types.specs.declared.row.Schema.{Schema}
use Rattle.mr_types.specs.declared.row.Schema.TheVariants as schema
use Rattle.mr_types.specs.declared.statement.KeyName.{KeyName}
use Rattle.mr_types.specs.declared.statement.Select.{Select}
use Rattle.mr_types.specs.declared.statement.Statement.{Statement}
use Rattle.mr_types.specs.declared.statement.Statement.TheVariants as statement
use Rattle.mr_types.specs.declared.text.KeyText.{KeyText}
use Rattle.mr_types.specs.declared.text.TableText.{TableText}
use Rattle.mr_types.specs.Refusals.{refuse_where, some_or}
use Rattle.mr_spec.specs.declared.world.Txn.{Txn}
use Rattle.mr_spec.specs.declared.progress.Progress.{Progress}
use Rattle.mr_spec.specs.declared.progress.Refusal.{Refusal}
use Rattle.mr_spec.specs.Truth.{Where, where_of}
use Rattle.mr_spec.specs.Rows.{visible}
use Rattle.mr_spec.specs.KeyChecks.{is_named}
use Rattle.mr_spec.specs.Checks.{check, check_key}
use Rattle.mr_spec.specs.Database.{table_of, replay, schema_table}
use Rattle.mr_spec.specs.Progress.{Scene}
use Rattle.mr_spec.specs.Changes.{insert_changes, replace_changes, update_changes, delete_changes}
use Rattle.mr_spec.specs.World.{World, with_rows, with_building, with_number, committed, kept_in, changes_by, entered, using_table, is_stale, rolled_back}
use Rattle.mr_spec.specs.Outcome.{Outcome, done, refused, answered}
use Rattle.mr_spec.specs.RowSteps.{on_rows, select_answer, select_outcome, write_outcome, written, after_rows}
use Rattle.mr_spec.specs.SchemaSteps.{table_in, used_elsewhere, is_engine, created, create_table, dropped, drop_table, building_names, free_for_key, with_begun, begin_index, building_key, has_duplicate, finish_index, cancel_index, create_index, drop_index, lock_tables}
use Rattle.mr_spec.specs.SessionSteps.{rolled_back_to, released, session_outcome}
use Rattle.mr_spec.specs.Step.{outcome_of, commits_first, timed}
use Rattle.mr_spec.specs.ScriptRun.{event_at}
use Rattle.mr_spec.proofs.Results.{bound, behind, either, after}
use Rattle.mr_sound.proofs.Made.{ok-bound, ok-behind}
use Rattle.mr_sound.proofs.MadeRows.{then-ok}
use Rattle.mr_sound.proofs.NewFits.{some-ok}
use Rattle.mr_sound.proofs.Tables.{name-of}
use Rattle.mr_sound.proofs.Schemas.{check-name}
use Rattle.mr_steps.specs.Adding.{AreOf, rows_commit, first_commit, MayCommit, IsOneAtMost, IsOwn, Adds}
use Rattle.mr_steps.proofs.OneTable.{Owns, insert-owns, replace-owns, update-owns, delete-owns, written-owns}

-- ---- one commit more, or none

-- these commits, and at most one with P behind them
record MoreBy (P : Commit → Type 0) (old new : List Commit) : Type 0 where
  pub own : List Commit
  pub is : new ≡ old ++ own
  pub one : IsOneAtMost P own

none-more : (P : Commit → Type 0) (old new : List Commit) → new ≡ old → MoreBy P old new
none-more P old new e = record { own = []; is = e ∙ sym (append-nil old); one = tt }

one-more : (P : Commit → Type 0) (old : List Commit) (c : Commit) → P c → MoreBy P old (old ++ c ∷ [])
one-more P old c h = record { own = c ∷ []; is = refl; one = h }

-- a commit at the world's moment
abbrev commit_at : World → CommitBody → Commit
commit_at w b = record { moment = w.moment; body = b }

rows-more : (P : Commit → Type 0) (w : World) (xs : List Change) → P (commit_at w (body.Rows xs)) → MoreBy P w.commits (with_rows xs w).commits
rows-more P w [] h = none-more P w.commits w.commits refl
rows-more P w (x ∷ xs) h = one-more P w.commits (commit_at w (body.Rows (x ∷ xs))) h

-- ---- statements on definitions

-- the answer's world has at most one commit more, with P
abbrev MoreOk : (Commit → Type 0) → World → Result Outcome ℕ → Type 0
MoreOk P w r = IfOk r (λ o. MoreBy P w.commits o.world.commits)

-- changes of this table's definition have P
abbrev AtTable : (Commit → Type 0) → World → List ℕ → Type 0
AtTable P w table = (s : Schema) → schema_table s ≡ table → P (commit_at w (body.Schema s))

schema-more : (P : Commit → Type 0) (w : World) (table : List ℕ) (s : Schema) → AtTable P w table → schema_table s ≡ table → MoreBy P w.commits (w.commits ++ commit_at w (body.Schema s) ∷ [])
schema-more P w table s h e = one-more P w.commits (commit_at w (body.Schema s)) (h s e)

create-more : (P : Commit → Type 0) (w : World) (text : TableText) (b : Bool) (engine : Option (List ℕ)) → AtTable P w text.name → MoreOk P w (create_table w text b engine)
create-more P w text b engine h =
    ok-behind (λ (o : Outcome). MoreBy P w.commits o.world.commits) (refuse_where 1286 (option_map_or (λ e. not (is_engine e)) engine false)) _ (λ x e.
    either (MoreOk P w) (is_none (table_of text.name (replay w.commits))) (created w text) (if b then Ok (done w 0) else Err 1050)
    (then-ok (λ def. def.name ≡ text.name) (λ (o : Outcome). MoreBy P w.commits o.world.commits) (check text) _ (check-name text) (λ def f. schema-more P w text.name (schema.CreateTable def) h f))
    (either (MoreOk P w) b (Ok (done w 0)) (Err 1050) (none-more P w.commits w.commits refl) tt))

drop-more : (P : Commit → Type 0) (w : World) (table : List ℕ) (b : Bool) → AtTable P w table → MoreOk P w (drop_table w table b)
drop-more P w table b h =
    either (MoreOk P w) (is_some (table_of table (replay w.commits))) (dropped w table) (if b then Ok (done w 0) else Err 1051)
    (behind (λ (o : Outcome). MoreBy P w.commits o.world.commits) (refuse_where 1205 (used_elsewhere w table || is_some (w.building table))) _ (schema-more P w table (schema.DropTable table) h refl))
    (either (MoreOk P w) b (Ok (done w 0)) (Err 1051) (none-more P w.commits w.commits refl) tt)

finish-more : (P : Commit → Type 0) (w : World) (n : KeyName) → AtTable P w n.table → MoreOk P w (finish_index w n)
finish-more P w n h =
    ok-bound (λ (o : Outcome). MoreBy P w.commits o.world.commits) (table_in w n.table) _ (λ t e.
    ok-bound (λ (o : Outcome). MoreBy P w.commits o.world.commits) (some_or 1176 (building_key w n)) _ (λ key f.
    ok-behind (λ (o : Outcome). MoreBy P w.commits o.world.commits) (free_for_key w n.table n.key) _ (λ x g.
    either (λ (o : Outcome). MoreBy P w.commits o.world.commits) (has_duplicate t.def key (visible t.def w.moment t.rows)) (refused (with_building n.table None w) 1062) _
    (none-more P w.commits w.commits refl)
    (schema-more P w n.table (schema.CreateIndex t.def.name key) h (name-of n.table (replay w.commits) t (some-ok 1146 _ t e))))))

-- what follows BEGIN INDEX has at most one commit more than the world in front
abbrev FinishMore : (Commit → Type 0) → World → List ℕ → List ℕ → World → Type 0
FinishMore P w table name u = MoreOk P w (finish_index u (record { table = table; key = name }))

create_index-more : (P : Commit → Type 0) (w : World) (table : List ℕ) (k : KeyText) → AtTable P w table → MoreOk P w (create_index w table k)
create_index-more P w table k h =
    then-ok (FinishMore P w table k.name) (λ (o : Outcome). MoreBy P w.commits o.world.commits) (with_begun w table k) (λ u. finish_index u (record { table = table; key = k.name }))
    (ok-bound (FinishMore P w table k.name) (table_in w table) _ (λ t e.
    ok-bound (FinishMore P w table k.name) (check_key t.def (building_names w table) k) _ (λ key f.
    ok-behind (FinishMore P w table k.name) (free_for_key w table k.name) _ (λ x g. finish-more P (with_building table (Some key) w) (record { table = table; key = k.name }) h))))
    (λ u m. m)

drop_index-more : (P : Commit → Type 0) (w : World) (n : KeyName) → AtTable P w n.table → MoreOk P w (drop_index w n)
drop_index-more P w n h =
    ok-bound (λ (o : Outcome). MoreBy P w.commits o.world.commits) (table_in w n.table) _ (λ t e.
    ok-bound (λ (o : Outcome). MoreBy P w.commits o.world.commits) (some_or 1091 (find (is_named n.key) t.def.secondary)) _ (λ key f.
    ok-behind (λ (o : Outcome). MoreBy P w.commits o.world.commits) (free_for_key w n.table n.key) _ (λ x g.
    schema-more P w n.table (schema.DropIndex t.def.name key.name) h (name-of n.table (replay w.commits) t (some-ok 1146 _ t e)))))

-- ---- statements that commit nothing

abbrev SameOk : World → Result Outcome ℕ → Type 0
SameOk w r = IfOk r (λ o. o.world.commits ≡ w.commits)

same-answered : (w : World) (r : Result Outcome ℕ) → SameOk w r → (answered w r).world.commits ≡ w.commits
same-answered w (Ok o) h = h
same-answered w (Err code) h = refl

same-begin : (w : World) (table : List ℕ) (k : KeyText) → SameOk w (begin_index w table k)
same-begin w table k = after (λ (u : World). u.commits ≡ w.commits) (λ (o : Outcome). o.world.commits ≡ w.commits) (with_begun w table k) _ (search (bound, behind)) (λ u e. e)

same-cancel : (w : World) (n : KeyName) → SameOk w (cancel_index w n)
same-cancel w n = search (bound)

same-lock : (w : World) (names : List (List ℕ)) → SameOk w (lock_tables w names)
same-lock w names = search (behind)

same-rolled_back_to : (w : World) (name : List ℕ) → SameOk w (rolled_back_to w name)
same-rolled_back_to w name = search (bound)

same-released : (w : World) (name : List ℕ) → SameOk w (released w name)
same-released w name = search (bound)

same-session : (w : World) (name : List ℕ) → SameOk w (session_outcome w name)
same-session w name = search (behind)

same-select : (x : Select) (c : Where) (w : World) → (on_rows x.table (select_outcome x c) w).world.commits ≡ w.commits
same-select x c w = (elim (table_of x.table (replay w.commits)) as (λ t. table_of x.table (replay w.commits) ≡ t → (on_rows x.table (select_outcome x c) w).world.commits ≡ w.commits) [
  | None ↦ λ e. rw e refl
  | Some t ↦ λ e. rw e (either (λ (o : Outcome). o.world.commits ≡ w.commits) (is_stale x.table (entered x.table w)) (refused (entered x.table w) 1412) (select_outcome x c t (entered x.table w)) refl
      (same-answered (entered x.table w) (select_answer x c t (entered x.table w)) (search (behind))))
]) refl

-- ---- statements on rows

mapped-none : (f : Txn → Txn) (o : Option Txn) → option_map f o ≡ None → o ≡ None
mapped-none f None e = refl
mapped-none f (Some t) e = absurd cc

kept-more : (P : Commit → Type 0) (u : World) (o : Option Txn) (xs : List Change) → (o ≡ None → P (commit_at u (body.Rows xs))) → MoreBy P u.commits (kept_in o xs u).commits
kept-more P u None xs h = rows-more P u xs (h refl)
kept-more P u (Some t) xs h = none-more P u.commits u.commits refl

after_rows-more : (P : Commit → Type 0) (name : List ℕ) (u : World) (r : Result Progress Refusal) → IfOk r (λ g. AreOf name g.changes) → ((xs : List Change) → AreOf name xs → u.here.txn ≡ None → P (commit_at u (body.Rows xs))) → MoreBy P u.commits (after_rows name u r).world.commits
after_rows-more P name u (Ok g) own h = kept-more P (with_number name g.next u) u.here.txn g.changes (h g.changes own)
after_rows-more P name u (Err e) own h = either (λ (v : World). MoreBy P u.commits v.commits) (e.code == 1213) (rolled_back (with_number name e.next u)) (with_number name e.next u) (none-more P u.commits u.commits refl) (none-more P u.commits u.commits refl)

write-more : (P : Commit → Type 0) (name : List ℕ) (changes : Scene → Progress → Result Progress Refusal) (w : World) → Owns changes → ((xs : List Change) → AreOf name xs → w.here.txn ≡ None → P (commit_at w (body.Rows xs))) → MoreBy P w.commits (on_rows name (write_outcome changes) w).world.commits
write-more P name changes w owns h = (elim (table_of name (replay w.commits)) as (λ t. table_of name (replay w.commits) ≡ t → MoreBy P w.commits (on_rows name (write_outcome changes) w).world.commits) [
  | None ↦ λ e. rw e (none-more P w.commits w.commits refl)
  | Some t ↦ λ e. rw e (either (λ (o : Outcome). MoreBy P w.commits o.world.commits) (is_stale name (entered name w)) (refused (entered name w) 1412) (write_outcome changes t (entered name w)) (none-more P w.commits w.commits refl)
      (after_rows-more P t.def.name (entered name w) (written changes t (entered name w)) (written-owns changes t (entered name w) owns) (λ xs own f. h xs (subst (λ n. AreOf n xs) (name-of name (replay w.commits) t e) own) (mapped-none (using_table name (length w.commits)) w.here.txn f))))
]) refl

-- ---- the step

-- the statement's own commit, in this world
abbrev OwnMore : Statement → World → Type 0
OwnMore s w = MoreBy (IsOwn s w.moment w.here.txn) w.commits (outcome_of s w).world.commits

own-answered : (P : Commit → Type 0) (w : World) (r : Result Outcome ℕ) → MoreOk P w r → MoreBy P w.commits (answered w r).world.commits
own-answered P w (Ok o) h = h
own-answered P w (Err code) h = none-more P w.commits w.commits refl

own-none : (s : Statement) (w : World) → (outcome_of s w).world.commits ≡ w.commits → OwnMore s w
own-none s w e = none-more (IsOwn s w.moment w.here.txn) w.commits (outcome_of s w).world.commits e

own-rows : (s : Statement) (name : List ℕ) (changes : Scene → Progress → Result Progress Refusal) (w : World) → Owns changes → ((xs : List Change) → AreOf name xs → w.here.txn ≡ None → MayCommit s w.here.txn (body.Rows xs)) → MoreBy (IsOwn s w.moment w.here.txn) w.commits (on_rows name (write_outcome changes) w).world.commits
own-rows s name changes w owns h = write-more (IsOwn s w.moment w.here.txn) name changes w owns (λ xs own e. (refl, h xs own e))

own-outcome : (s : Statement) (w : World) → OwnMore s w
own-outcome (statement.CreateTable text b engine) w = own-answered _ w _ (create-more (IsOwn (statement.CreateTable text b engine) w.moment w.here.txn) w text b engine (λ s e. (refl, e)))
own-outcome (statement.DropTable table b) w = own-answered _ w _ (drop-more (IsOwn (statement.DropTable table b) w.moment w.here.txn) w table b (λ s e. (refl, e)))
own-outcome (statement.CreateIndex table key) w = own-answered _ w _ (create_index-more (IsOwn (statement.CreateIndex table key) w.moment w.here.txn) w table key (λ s e. (refl, e)))
own-outcome (statement.DropIndex n) w = own-answered _ w _ (drop_index-more (IsOwn (statement.DropIndex n) w.moment w.here.txn) w n (λ s e. (refl, e)))
own-outcome (statement.BeginIndex table key) w = own-none (statement.BeginIndex table key) w (same-answered w (begin_index w table key) (same-begin w table key))
own-outcome (statement.FinishIndex n) w = own-answered _ w _ (finish-more (IsOwn (statement.FinishIndex n) w.moment w.here.txn) w n (λ s e. (refl, e)))
own-outcome (statement.CancelIndex n) w = own-none (statement.CancelIndex n) w (same-answered w (cancel_index w n) (same-cancel w n))
own-outcome (statement.Insert s) w = own-rows (statement.Insert s) s.table (λ a g. insert_changes a s g) w (insert-owns s) (λ xs own e. (e, own))
own-outcome (statement.Replace s) w = own-rows (statement.Replace s) s.table (λ a g. replace_changes a s g) w (replace-owns s) (λ xs own e. (e, own))
own-outcome (statement.Update table set c) w = own-rows (statement.Update table set c) table (λ a g. update_changes a set (where_of c) g) w (update-owns set (where_of c)) (λ xs own e. (e, own))
own-outcome (statement.Delete table c) w = own-rows (statement.Delete table c) table (λ a g. delete_changes a (where_of c) g) w (delete-owns (where_of c)) (λ xs own e. (e, own))
own-outcome (statement.Select s) w = own-none (statement.Select s) w (same-select s (where_of s.condition) w)
own-outcome (statement.Begin snapshot) w = own-none (statement.Begin snapshot) w refl
own-outcome statement.Commit w = rows-more (IsOwn statement.Commit w.moment w.here.txn) w (changes_by w.here.txn) (refl, refl)
own-outcome statement.Rollback w = own-none statement.Rollback w refl
own-outcome (statement.RollbackTo name) w = own-none (statement.RollbackTo name) w (same-answered w (rolled_back_to w name) (same-rolled_back_to w name))
own-outcome (statement.Savepoint name) w = own-none (statement.Savepoint name) w refl
own-outcome (statement.Release name) w = own-none (statement.Release name) w (same-answered w (released w name) (same-released w name))
own-outcome (statement.Lock names) w = own-none (statement.Lock names) w (same-answered w (lock_tables w names) (same-lock w names))
own-outcome statement.Unlock w = own-none statement.Unlock w refl
own-outcome (statement.Session name) w = own-none (statement.Session name) w (same-answered w (session_outcome w name) (same-session w name))
own-outcome statement.Disconnect w = own-none statement.Disconnect w refl
own-outcome (statement.Work n) w = own-none (statement.Work n) w refl

-- what a statement that commits first may commit doesn't depend on the transaction
may-any : (s : Statement) (txn : Option Txn) (b : CommitBody) → commits_first s ≡ true → MayCommit s None b → MayCommit s txn b
may-any (statement.Insert s) txn b e h = absurd (true≢false (sym e))
may-any (statement.Replace s) txn b e h = absurd (true≢false (sym e))
may-any (statement.Update table set c) txn b e h = absurd (true≢false (sym e))
may-any (statement.Delete table c) txn b e h = absurd (true≢false (sym e))
may-any statement.Commit txn b e h = absurd (true≢false (sym e))
may-any _ txn b e h = h

moment-rows : (w : World) (xs : List Change) → (with_rows xs w).moment ≡ w.moment
moment-rows w [] = refl
moment-rows w (x ∷ xs) = refl

commits-rows : (w : World) (xs : List Change) → (with_rows xs w).commits ≡ w.commits ++ rows_commit w.moment xs
commits-rows w [] = sym (append-nil w.commits)
commits-rows w (x ∷ xs) = refl

one-weaker : (P Q : Commit → Type 0) (cs : List Commit) → ((c : Commit) → P c → Q c) → IsOneAtMost P cs → IsOneAtMost Q cs
one-weaker P Q [] h one = tt
one-weaker P Q (c ∷ []) h one = h c one
one-weaker P Q (c ∷ d ∷ cs) h one = absurd one

-- in the world at its moment, which it has begun
step-more : (s : Statement) (u : World) (b : Bool) → commits_first s ≡ b
    → (own : List Commit) × ((outcome_of s (if b then committed u else u)).world.commits ≡ u.commits ++ ((if b then rows_commit u.moment (changes_by u.here.txn) else []) ++ own)) × IsOneAtMost (IsOwn s u.moment u.here.txn) own
step-more s u true e =
    let more : OwnMore s (committed u) = own-outcome s (committed u) in (
      more.own,
      more.is ∙ ap (λ cs. cs ++ more.own) (commits-rows u (changes_by u.here.txn)) ∙ append_assoc u.commits (rows_commit u.moment (changes_by u.here.txn)) more.own,
      one-weaker _ (IsOwn s u.moment u.here.txn) more.own (λ c h. (h.0 ∙ moment-rows u (changes_by u.here.txn), may-any s u.here.txn c.body e h.1)) more.one,
    )
step-more s u false e = let more : OwnMore s u = own-outcome s u in (more.own, more.is, more.one)

pub statement-adds : (w : World) (s : Statement) (clock : ℕ) → Adds w s clock (event_at w (Ok s) clock).added
statement-adds w s clock =
    let more = step-more s (timed w clock) (commits_first s) refl in
    record {
      own = more.0;
      is = ap (drop (length w.commits)) more.1 ∙ drop-append_seam w.commits (first_commit w s clock ++ more.0);
      one = more.2;
    }

pub unread-adds : (w : World) (code clock : ℕ) → (event_at w (Err code) clock).added ≡ []
unread-adds w code clock = ap (drop (length w.commits)) (sym (append-nil w.commits)) ∙ drop-append_seam w.commits []

one-few : (P : Commit → Type 0) (cs : List Commit) → IsOneAtMost P cs → length cs ≤ 1
one-few P [] one = zero-le
one-few P (c ∷ []) one = omega arith
one-few P (c ∷ d ∷ cs) one = absurd one

rows-few : (m : ℕ) (xs : List Change) → length (rows_commit m xs) ≤ 1
rows-few m [] = zero-le
rows-few m (x ∷ xs) = omega arith

first-few : (w : World) (s : Statement) (clock : ℕ) → length (first_commit w s clock) ≤ 1
first-few w s clock = either (λ (cs : List Commit). length cs ≤ 1) (commits_first s) (rows_commit (max w.moment clock) (changes_by w.here.txn)) [] (rows-few (max w.moment clock) (changes_by w.here.txn)) zero-le

pub adds-few : (w : World) (s : Result Statement ℕ) (clock : ℕ) → length (event_at w s clock).added ≤ 2
adds-few w (Ok s) clock =
    let adds : Adds w s clock (event_at w (Ok s) clock).added = statement-adds w s clock in
    let first = first-few w s clock in
    let own = one-few (IsOwn s (max w.moment clock) w.here.txn) adds.own adds.one in
    let sum = length-append (first_commit w s clock) adds.own in
    subst (λ cs. length cs ≤ 2) (sym adds.is) (omega (arith, first, own, sum))
adds-few w (Err code) clock = subst (λ cs. length cs ≤ 2) (sym (unread-adds w code clock)) zero-le
