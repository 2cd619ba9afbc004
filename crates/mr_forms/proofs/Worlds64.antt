-- Statements keep the numbers of worlds of 64 bits, as long as no next hidden number passes 2^64.
use Rattle.std.proofs.Common.{◌≡◌, inl, inr, ℕ, ◌^◌, ◌≤◌, ◌<◌, max, Bool, true, false, List, [], ◌∷◌, ◌++◌, length, take, filter, find, Option, Some, None, option_map, unwrap_or, Result, Ok, Err, IfOk, refl, ap, sym, subst, ◌∙◌, le_refl, arith, codes}
use Rattle.std.specs.Prelude.{◌||◌, ◌&&◌, not, if◌then◌else◌, ◌==◌, is_some, nat_lt, nat_le}
use Rattle.std.specs.List.{list_any}
use Rattle.std.specs.Option.{option_map_or}
use Rattle.std.proofs.lemmas.Option.{none-some}
use Rattle.std.proofs.lemmas.Slice.Eq.{bytes_eq-Decides}
use Rattle.mr_spec.specs.declared.world.Session.{Session}
use Rattle.mr_spec.specs.declared.world.Table.{Table}
use Rattle.mr_spec.specs.declared.world.Txn.{Txn}
use Rattle.mr_types.specs.declared.definition.IndexDef.{IndexDef}
use Rattle.mr_types.specs.declared.row.Row.{Row}
use Rattle.mr_types.specs.declared.row.Change.{Change}
use Rattle.mr_types.specs.declared.row.Commit.{Commit}
use Rattle.mr_types.specs.declared.row.Schema.TheVariants.{DropTable, CreateIndex, DropIndex}
use Rattle.mr_types.specs.declared.statement.KeyName.{KeyName}
use Rattle.mr_types.specs.declared.statement.Select.{Select}
use Rattle.mr_types.specs.declared.statement.Statement.{Statement}
use Rattle.mr_types.specs.declared.statement.Statement.TheVariants as statement
use Rattle.mr_types.specs.declared.text.KeyText.{KeyText}
use Rattle.mr_types.specs.declared.text.TableText.{TableText}
use Rattle.mr_types.specs.Grammatical.{is_statement, is_name, some_all, is_set, where_given, is_condition}
use Rattle.mr_types.specs.Refusals.{refuse_where, some_or, each}
use Rattle.mr_spec.specs.Truth.{Where, where_of}
use Rattle.mr_spec.specs.Changes.{insert_changes, replace_changes, update_changes, delete_changes}
use Rattle.mr_spec.specs.Rows.{rows_of, visible}
use Rattle.mr_spec.specs.KeyChecks.{is_named}
use Rattle.mr_spec.specs.Database.{table_of, replay}
use Rattle.mr_spec.specs.Weight.{total_weight}
use Rattle.mr_spec.specs.declared.progress.Progress.{Progress}
use Rattle.mr_spec.specs.declared.progress.Refusal.{Refusal}
use Rattle.mr_spec.specs.Progress.{Scene, told}
use Rattle.mr_spec.specs.World.{World, changes_by, view_of, with_txn, committed, kept_in, entered, using_table, with_number, with_building, at_name, is_stale, is_session, fresh}
use Rattle.mr_spec.specs.Outcome.{Outcome, done, refused, answered}
use Rattle.mr_spec.specs.RowSteps.{on_rows, rows_seen, select_outcome, select_answer, written, not_too_heavy, after_rows, write_outcome, scene_of, start_of}
use Rattle.mr_spec.specs.Select.{select_tests}
use Rattle.mr_spec.specs.SchemaSteps.{table_in, used_elsewhere, with_schema_change, create_table, dropped, drop_table, free_for_key, building_names, with_begun, begin_index, building_key, has_duplicate, published, finish_index, cancel_index, create_index, drop_index, lock_tables}
use Rattle.mr_spec.specs.SessionSteps.{new_txn, with_savepoint, rolled_back_to, released, savepoint_in, savepoints_before, session_outcome}
use Rattle.mr_spec.specs.Step.{outcome_of, commits_first, timed}
use Rattle.mr_spec.specs.Replay.{last_moment, reopened}
use Rattle.mr_binlog.specs.CommitFitting.{NumbersFit, HasSmallNumbers, CommitFits}
use Rattle.mr_forms.proofs.Fitting.{lawful-fits}
use Rattle.mr_spec.specs.ScriptRun.{world_after}
use Rattle.mr_spec.proofs.Results.{bound, behind, either}
use Rattle.mr_sound.specs.Sound.{IsIn, IsSound, IsSpelled}
use Rattle.mr_sound.proofs.Basics.{both, false-true, in-append, in-filter, in-take}
use Rattle.mr_sound.proofs.Made.{ok-bound, ok-behind}
use Rattle.mr_sound.proofs.MadeRows.{then-ok}
use Rattle.mr_sound.proofs.Tables.{name-of}
use Rattle.mr_sound.proofs.Schemas.{IsIdle}
use Rattle.mr_sound.proofs.StatementsMade.{IsReady}
use Rattle.mr_sound.proofs.Worlds.{found-in, sound-timed, sound-committed, sound-entered}
use Rattle.mr_sound.proofs.Writes.{ready-rows}
use Rattle.mr_forms.specs.Forms.{HasRoom, IsOf64Bits}
use Rattle.mr_forms.proofs.Short.{short-commits}
use Rattle.mr_forms.proofs.Bounded.{within-more, AreWithin, IsScene, StaysWithin, insert-within, replace-within, update-within, delete-within}
use Rattle.mr_forms.proofs.SmallWorlds.{small-within, within-small, AreSmall, ChangesAreSmall, small-seen, of-rows, of-here, of-none, of-number, of-building, of-committed, of-schema}

-- ---- definitions

abbrev Bits : Outcome → Type 0
Bits o = IsOf64Bits o.world

bits-create_table : (w : World) (text : TableText) (b : Bool) (engine : Option (List ℕ)) → IsIdle w → IsOf64Bits w → IfOk (create_table w text b engine) Bits
bits-create_table w text b engine idle x = search (bound, behind, either (λ (r : Result Outcome ℕ). IfOk r Bits), of-schema, x, idle)

bits-drop_table : (w : World) (table : List ℕ) (b : Bool) → IsIdle w → IsOf64Bits w → IfOk (drop_table w table b) Bits
bits-drop_table w table b idle x = either (λ (r : Result Outcome ℕ). IfOk r Bits) (is_some (table_of table (replay w.commits))) (dropped w table) _
    (ok-behind Bits (refuse_where 1205 (used_elsewhere w table || is_some (w.building table))) _ (λ y e. of-number (with_schema_change (DropTable table) w) table 1 (of-schema w (DropTable table) idle x)))
    (either (λ (r : Result Outcome ℕ). IfOk r Bits) b (Ok (done w 0)) (Err 1051) x tt)

abbrev BitsIdle : World → Type 0
BitsIdle w = IsOf64Bits w × IsIdle w

bits-with_begun : (w : World) (table : List ℕ) (k : KeyText) → IsIdle w → IsOf64Bits w → IfOk (with_begun w table k) BitsIdle
bits-with_begun w table k idle x =
    ok-bound BitsIdle (table_in w table) _ (λ t e.
    ok-bound BitsIdle (Rattle.mr_spec.specs.Checks.check_key t.def (building_names w table) k) _ (λ key f.
    ok-behind BitsIdle (free_for_key w table k.name) _ (λ y g. (of-building w table (Some key) x, idle))))

bits-begin : (w : World) (table : List ℕ) (k : KeyText) → IsIdle w → IsOf64Bits w → IfOk (begin_index w table k) Bits
bits-begin w table k idle x = then-ok BitsIdle Bits (with_begun w table k) _ (bits-with_begun w table k idle x) (λ u h. h.0)

bits-published : (w : World) (t : Table) (key : IndexDef) → IsIdle w → IsOf64Bits w → Bits (published w t key)
bits-published w t key idle x = either Bits (has_duplicate t.def key (visible t.def w.moment t.rows)) _ _ x (of-schema w (CreateIndex t.def.name key) idle x)

bits-finish : (w : World) (n : KeyName) → IsIdle w → IsOf64Bits w → IfOk (finish_index w n) Bits
bits-finish w n idle x =
    ok-bound Bits (table_in w n.table) _ (λ t e.
    ok-bound Bits (some_or 1176 (building_key w n)) _ (λ key f.
    ok-behind Bits (free_for_key w n.table n.key) _ (λ y g. bits-published (with_building n.table None w) t key idle (of-building w n.table None x))))

bits-cancel : (w : World) (n : KeyName) → IsOf64Bits w → IfOk (cancel_index w n) Bits
bits-cancel w n x = ok-bound Bits (table_in w n.table) _ (λ t e. ok-bound Bits (some_or 1176 (building_key w n)) _ (λ key f. of-building w n.table None x))

bits-create_index : (w : World) (table : List ℕ) (k : KeyText) → IsIdle w → IsOf64Bits w → IfOk (create_index w table k) Bits
bits-create_index w table k idle x = then-ok BitsIdle Bits (with_begun w table k) (λ u. finish_index u (record { table = table; key = k.name })) (bits-with_begun w table k idle x) (λ u h. bits-finish u (record { table = table; key = k.name }) h.1 h.0)

bits-drop_index : (w : World) (n : KeyName) → IsIdle w → IsOf64Bits w → IfOk (drop_index w n) Bits
bits-drop_index w n idle x =
    ok-bound Bits (table_in w n.table) _ (λ t e.
    ok-bound Bits (some_or 1091 (find (is_named n.key) t.def.secondary)) _ (λ key f.
    ok-behind Bits (free_for_key w n.table n.key) _ (λ y g. of-schema w (DropIndex t.def.name key.name) idle x)))

bits-lock : (w : World) (names : List (List ℕ)) → IsOf64Bits w → IfOk (lock_tables w names) Bits
bits-lock w names x = ok-behind Bits (each (table_in w) names) _ (λ y e. x)

-- ---- rows

bits-entered : (w : World) (name : List ℕ) → IsOf64Bits w → IsOf64Bits (entered name w)
bits-entered w name x = by_txn w.here.txn (λ c r i j. x.held w.here c r (inl refl) i j)
  where
    by_txn : (o : Option Txn) → ChangesAreSmall (changes_by o) → IsOf64Bits (with_txn (option_map (using_table name (length w.commits)) o) w)
    by_txn None k = of-none w x
    by_txn (Some t) k = of-here w (record w.here { txn = Some (using_table name (length w.commits) t) }) x k

bits-kept : (w : World) (o : Option Txn) (xs : List Change) → IsOf64Bits w → w.here.txn ≡ o → ChangesAreSmall xs → IsOf64Bits (kept_in o xs w)
bits-kept w None [] x e k = x
bits-kept w None (c ∷ cs) x e k = of-rows w w.here c cs x (ap changes_by e) k
bits-kept w (Some t) xs x e k = of-here w (record w.here { txn = Some (record t { changes = t.changes ++ xs }) }) x (λ c r i j. elim (in-append c t.changes xs i) [
  | inl l ↦ x.held w.here c r (inl refl) (subst (λ o. IsIn c (changes_by o)) (sym e) l) j
  | inr l ↦ k c r l j
])

same-numbers : (w : World) (o : Option Txn) (xs : List Change) (n : List ℕ) → (kept_in o xs w).numbers n ≡ w.numbers n
same-numbers w None [] n = refl
same-numbers w None (c ∷ cs) n = refl
same-numbers w (Some t) xs n = refl

at-itself : (name : List ℕ) (n : ℕ) (f : List ℕ → ℕ) → at_name name n f name ≡ n
at-itself name n f = ap (λ b. if b then n else f name) ((bytes_eq-Decides name name).1 refl)

bits-after_rows : (name : List ℕ) (w : World) (n : ℕ) (r : Result Progress Refusal) → IsOf64Bits w → IfOk r (AreWithin n) → HasRoom (after_rows name w r).world → Bits (after_rows name w r)
bits-after_rows name w n (Err e) x h room = either (λ (u : World). IsOf64Bits u) (e.code == 1213) _ _ (of-none _ (of-number w name e.next x)) (of-number w name e.next x)
bits-after_rows name w n (Ok g) x h room =
    let few : g.next ≤ 2 ^ 64 = subst (λ m. m ≤ 2 ^ 64) (same-numbers (with_number name g.next w) w.here.txn g.changes name ∙ at-itself name g.next w.numbers) (room name) in
    bits-kept (with_number name g.next w) w.here.txn g.changes (of-number w name g.next x) refl (λ c r i j. within-small r (within-more (max (2 ^ 64) g.next) (2 ^ 64) r (omega (arith, few)) (h.changes c r i j)))

bits-on_rows : (name : List ℕ) (act : Table → World → Outcome) (w : World) → IsOf64Bits w
    → ((t : Table) → IsOf64Bits (entered name w) → table_of t.def.name (replay w.commits) ≡ Some t → is_stale t.def.name (entered name w) ≡ false → HasRoom (act t (entered name w)).world → Bits (act t (entered name w)))
    → HasRoom (on_rows name act w).world → Bits (on_rows name act w)
bits-on_rows name act w x h = (elim (table_of name (replay w.commits)) as (λ t. table_of name (replay w.commits) ≡ t → HasRoom (on_rows name act w).world → Bits (on_rows name act w)) [
  | None ↦ λ e. rw e (λ room. x)
  | Some t ↦ λ e. rw e (by_stale t e (is_stale name (entered name w)) refl)
]) refl
  where
    by_stale : (t : Table) → table_of name (replay w.commits) ≡ Some t → (b : Bool) → is_stale name (entered name w) ≡ b → HasRoom (if b then refused (entered name w) 1412 else act t (entered name w)).world → Bits (if b then refused (entered name w) 1412 else act t (entered name w))
    by_stale t e true f room = bits-entered w name x
    by_stale t e false f room =
        let is : t.def.name ≡ name = name-of name (replay w.commits) t e in
        h t (bits-entered w name x) (ap (λ n. table_of n (replay w.commits)) is ∙ e) (ap (λ n. is_stale n (entered name w)) is ∙ f) room

rows-small : (o : Option Table) → ((t : Table) → o ≡ Some t → AreSmall t.rows) → AreSmall (option_map_or (λ (t : Table). t.rows) o [])
rows-small None h = λ r i. absurd i
rows-small (Some t) h = h t refl

start-within : (u : World) (t : Table) → IsOf64Bits u → AreWithin (u.numbers t.def.name) (start_of t u)
start-within u t x = record {
  from = le_refl (u.numbers t.def.name);
  rows = λ r i. within-more (2 ^ 64) (max (2 ^ 64) (u.numbers t.def.name)) r (omega arith) (small-within r (rows-small (table_of t.def.name (view_of u.commits u.here.txn)) (small-seen u x t.def.name) r i));
  changes = λ c r i j. absurd i;
}

written-within : (changes : Scene → Progress → Result Progress Refusal) (u : World) (t : Table) → StaysWithin changes → IsScene (scene_of t u) → IsReady t.def (rows_seen t.def.name u) → IsOf64Bits u → IfOk (written changes t u) (AreWithin (u.numbers t.def.name))
written-within changes u t stays scene ready x =
    then-ok (AreWithin (u.numbers t.def.name)) (AreWithin (u.numbers t.def.name)) (changes (scene_of t u) (start_of t u)) (λ g. not_too_heavy u g) (stays (scene_of t u) (start_of t u) scene ready (start-within u t x))
    (λ g d. ok-behind (AreWithin (u.numbers t.def.name)) (told g.next (refuse_where 1197 (nat_lt 67108864 (total_weight (replay u.commits) (changes_by u.here.txn ++ g.changes))))) (Ok g) (λ y e. d))

bits-write : (name : List ℕ) (changes : Scene → Progress → Result Progress Refusal) (w : World) → StaysWithin changes → IsSound w → IsOf64Bits w → HasRoom (on_rows name (write_outcome changes) w).world → Bits (on_rows name (write_outcome changes) w)
bits-write name changes w stays s x = bits-on_rows name (write_outcome changes) w x (λ t y e kept room.
    let u = entered name w in
    let scene : IsScene (scene_of t u) = record { columns = (short-commits 0 w.commits [] (λ n t e. absurd (none-some t e)) s.commits t.def.name t e).fits.columns; moment = x.moment } in
    bits-after_rows t.def.name u (u.numbers t.def.name) (written changes t u) y (written-within changes u t stays scene (ready-rows u t (sound-entered w name s) e kept) y) room)

bits-select : (x : Select) (c : Where) (w : World) → IsOf64Bits w → HasRoom (on_rows x.table (select_outcome x c) w).world → Bits (on_rows x.table (select_outcome x c) w)
bits-select x c w a = bits-on_rows x.table (select_outcome x c) w a (λ t b e kept room. chosen (select_answer x c t (entered x.table w)) b (ok-behind Bits (select_tests t.def x c) _ (λ y f. b)))
  where
    chosen : (r : Result Outcome ℕ) → IsOf64Bits (entered x.table w) → IfOk r Bits → Bits (answered (entered x.table w) r)
    chosen (Ok o) b h = h
    chosen (Err code) b h = b

-- ---- transactions and sessions

found-savepoint : (o : Option Txn) (name : List ℕ) → IfOk (savepoint_in o name) (λ p. o ≡ Some p.0)
found-savepoint None name = tt
found-savepoint (Some t) name = ok-bound (λ p. Some t ≡ Some p.0) (some_or 1305 _) (λ s. Ok (t, s)) (λ x f. refl)

of-open : (w : World) (t : Txn) → w.here.txn ≡ Some t → IsOf64Bits w → ChangesAreSmall t.changes
of-open w t e x c r i j = x.held w.here c r (inl refl) (subst (λ o. IsIn c (changes_by o)) (sym e) i) j

bits-rolled_back_to : (w : World) (name : List ℕ) → IsOf64Bits w → IfOk (rolled_back_to w name) Bits
bits-rolled_back_to w name x = then-ok (λ p. w.here.txn ≡ Some p.0) Bits (savepoint_in w.here.txn name) _ (found-savepoint w.here.txn name) (λ p e.
    of-here w (record w.here { txn = Some (record p.0 { changes = take p.1.kept p.0.changes; savepoints = savepoints_before name p.0.savepoints ++ p.1 ∷ [] }) }) x (λ c r i j. of-open w p.0 e x c r (in-take p.1.kept c p.0.changes i) j))

bits-released : (w : World) (name : List ℕ) → IsOf64Bits w → IfOk (released w name) Bits
bits-released w name x = then-ok (λ p. w.here.txn ≡ Some p.0) Bits (savepoint_in w.here.txn name) _ (found-savepoint w.here.txn name) (λ p e.
    of-here w (record w.here { txn = Some (record p.0 { savepoints = savepoints_before name p.0.savepoints }) }) x (of-open w p.0 e x))

bits-savepoint : (w : World) (name : List ℕ) → IsOf64Bits w → IsOf64Bits (with_txn (option_map (with_savepoint name) w.here.txn) w)
bits-savepoint w name x = by_txn w.here.txn refl
  where
    by_txn : (o : Option Txn) → w.here.txn ≡ o → IsOf64Bits (with_txn (option_map (with_savepoint name) o) w)
    by_txn None e = of-none w x
    by_txn (Some t) e = of-here w (record w.here { txn = Some (with_savepoint name t) }) x (λ c r i j. x.held w.here c r (inl refl) (subst (λ o. IsIn c (changes_by o)) (sym e) i) j)

bits-turned : (w : World) (p : Session → Bool) (h : Session) (ss : List Session) → IsOf64Bits w → ((s : Session) → IsIn s ss → IsIn s (w.here ∷ w.others)) → h.txn ≡ None → IsOf64Bits (record w { here = unwrap_or (find p ss) h; others = filter (λ s. not (p s)) ss })
bits-turned w p h ss x all none = record { commits = x.commits; held = λ s c r i j k. by_place s c r i j k; moment = x.moment }
  where
    by_found : (o : Option Session) → find p ss ≡ o → ChangesAreSmall (changes_by (unwrap_or o h).txn)
    by_found None e c r j k = absurd (subst (IsIn c) (ap changes_by none) j)
    by_found (Some y) e c r j k = x.held y c r (all y (found-in p ss y e).0) j k

    by_place : (s : Session) (c : Change) (r : Row) → IsIn s (unwrap_or (find p ss) h ∷ filter (λ s. not (p s)) ss) → IsIn c (changes_by s.txn) → IsIn r (rows_of c) → HasSmallNumbers r
    by_place s c r (inl e) j k = by_found (find p ss) refl c r (subst (λ (y : Session). IsIn c (changes_by y.txn)) (sym e) j) k
    by_place s c r (inr i) j k = x.held s c r (all s (in-filter (λ s. not (p s)) s ss i).0) j k

bits-session : (w : World) (name : List ℕ) → IsOf64Bits w → IfOk (session_outcome w name) Bits
bits-session w name x = ok-behind Bits (refuse_where 1040 (nat_le 64 (length (w.here ∷ w.others)) && not (list_any (is_session name) (w.here ∷ w.others)))) _ (λ y e. bits-turned w (is_session name) (fresh name) (w.here ∷ w.others) x (λ s i. i) refl)

-- ---- the step

bits : (w : World) (r : Result Outcome ℕ) → IsOf64Bits w → IfOk r Bits → Bits (answered w r)
bits w (Ok o) x h = h
bits w (Err code) x h = x

bits-outcome : (s : Statement) (w : World) → is_statement s ≡ true → (commits_first s ≡ true → IsIdle w) → IsSound w → IsOf64Bits w → HasRoom (outcome_of s w).world → Bits (outcome_of s w)
bits-outcome (statement.CreateTable text b engine) w ok idle s x room = bits w _ x (bits-create_table w text b engine (idle refl) x)
bits-outcome (statement.DropTable table b) w ok idle s x room = bits w _ x (bits-drop_table w table b (idle refl) x)
bits-outcome (statement.CreateIndex table key) w ok idle s x room = bits w _ x (bits-create_index w table key (idle refl) x)
bits-outcome (statement.DropIndex n) w ok idle s x room = bits w _ x (bits-drop_index w n (idle refl) x)
bits-outcome (statement.BeginIndex table key) w ok idle s x room = bits w _ x (bits-begin w table key (idle refl) x)
bits-outcome (statement.FinishIndex n) w ok idle s x room = bits w _ x (bits-finish w n (idle refl) x)
bits-outcome (statement.CancelIndex n) w ok idle s x room = bits w _ x (bits-cancel w n x)
bits-outcome (statement.Insert y) w ok idle s x room = bits-write y.table (λ a g. insert_changes a y g) w (insert-within y ok) s x room
bits-outcome (statement.Replace y) w ok idle s x room = bits-write y.table (λ a g. replace_changes a y g) w (replace-within y ok) s x room
bits-outcome (statement.Update table set c) w ok idle s x room = bits-write table (λ a g. update_changes a set (where_of c) g) w (update-within set (where_of c) (both (some_all is_set set) (where_given is_condition c) (both (is_name table) (some_all is_set set && where_given is_condition c) ok).1).0) s x room
bits-outcome (statement.Delete table c) w ok idle s x room = bits-write table (λ a g. delete_changes a (where_of c) g) w (delete-within (where_of c)) s x room
bits-outcome (statement.Select y) w ok idle s x room = bits-select y (where_of y.condition) w x room
bits-outcome (statement.Begin snapshot) w ok idle s x room = of-here w (record w.here { txn = Some (new_txn snapshot w) }) x (λ c r i j. absurd i)
bits-outcome statement.Commit w ok idle s x room = of-committed w x
bits-outcome statement.Rollback w ok idle s x room = of-none w x
bits-outcome (statement.RollbackTo name) w ok idle s x room = bits w _ x (bits-rolled_back_to w name x)
bits-outcome (statement.Savepoint name) w ok idle s x room = bits-savepoint w name x
bits-outcome (statement.Release name) w ok idle s x room = bits w _ x (bits-released w name x)
bits-outcome (statement.Lock names) w ok idle s x room = bits w _ x (bits-lock w names x)
bits-outcome statement.Unlock w ok idle s x room = x
bits-outcome (statement.Session name) w ok idle s x room = bits w _ x (bits-session w name x)
bits-outcome statement.Disconnect w ok idle s x room = bits-turned w (is_session (codes "main")) (fresh (codes "main")) w.others x (λ y i. inr i) refl
bits-outcome (statement.Work n) w ok idle s x room = x

greater : (m n : ℕ) → m < 2 ^ 64 → n < 2 ^ 64 → max m n < 2 ^ 64
greater m n a b = omega (arith, a, b)

bits-timed : (w : World) (clock : ℕ) → clock < 2 ^ 64 → IsOf64Bits w → IsOf64Bits (timed w clock)
bits-timed w clock less x = record { commits = x.commits; held = x.held; moment = greater w.moment clock x.moment less }

bits-step : (w : World) (s : Statement) (clock : ℕ) → is_statement s ≡ true → clock < 2 ^ 64 → IsSound w → IsOf64Bits w → HasRoom (world_after w (Ok s) clock) → IsOf64Bits (world_after w (Ok s) clock)
bits-step w s clock ok less h x = by_first (commits_first s) refl
  where
    by_first : (b : Bool) → commits_first s ≡ b → HasRoom (outcome_of s (if b then committed (timed w clock) else timed w clock)).world → Bits (outcome_of s (if b then committed (timed w clock) else timed w clock))
    by_first true e room = bits-outcome s (committed (timed w clock)) ok (λ f. refl) (sound-committed (timed w clock) (sound-timed w clock h)) (of-committed (timed w clock) (bits-timed w clock less x)) room
    by_first false e room = bits-outcome s (timed w clock) ok (λ f. false-true (commits_first s) e f) (sound-timed w clock h) (bits-timed w clock less x) room

pub bits-after : (w : World) (s : Result Statement ℕ) (clock : ℕ) → IsSpelled s → clock < 2 ^ 64 → IsSound w → IsOf64Bits w → HasRoom (world_after w s clock) → IsOf64Bits (world_after w s clock)
bits-after w (Ok s) clock ok less h x room = bits-step w s clock ok less h x room
bits-after w (Err code) clock ok less h x room = bits-timed w clock less x

last-small : (m : ℕ) (cs : List Commit) → m < 2 ^ 64 → ((c : Commit) → IsIn c cs → NumbersFit c) → last_moment m cs < 2 ^ 64
last-small m [] less h = less
last-small m (c ∷ cs) less h = last-small c.moment cs (h c (inl refl)).moment (λ d i. h d (inr i))

pub bits-opened : (commits : List Commit) → ((c : Commit) → IsIn c commits → NumbersFit c) → IsOf64Bits (reopened commits)
bits-opened commits h = record {
  commits = h;
  held = λ s c r i j k. elim i [ inl e ↦ absurd (subst (λ (y : Session). IsIn c (changes_by y.txn)) (sym e) j) | inr l ↦ absurd l ];
  moment = last-small 0 commits (omega arith) h;
}

pub form-of : (w : World) (c : Commit) → IsSound w → IsOf64Bits w → IsIn c w.commits → CommitFits c
form-of w c s x i = lawful-fits w.commits c s.commits i (x.commits c i)
