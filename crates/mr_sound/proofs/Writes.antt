-- Statements on rows keep a world sound.
use Rattle.std.proofs.Common.{◌≡◌, ◌⊎◌, inl, inr, ℕ, ◌≤◌, Bool, true, false, cond, List, [], ◌∷◌, ◌++◌, length, take, drop, Option, Some, None, option_map, unwrap_or, Result, Ok, Err, IfOk, refl, ap, sym, subst, ◌∙◌, le_refl, take-append-drop, ltb-false}
use Rattle.std.specs.Prelude.{if◌then◌else◌, ◌==◌, nat_lt}
use Rattle.std.specs.List.{list_any}
use Rattle.std.specs.Option.{option_map_or}
use Rattle.std.proofs.lemmas.Option.{none-some}
use Rattle.std.proofs.lemmas.Slice.Eq.{bytes_eq-Decides}
use Rattle.mr_spec.specs.declared.world.Session.{Session}
use Rattle.mr_spec.specs.declared.world.Table.{Table}
use Rattle.mr_spec.specs.declared.world.Txn.{Txn}
use Rattle.mr_types.specs.declared.definition.TableDef.{TableDef}
use Rattle.mr_types.specs.declared.row.Row.{Row}
use Rattle.mr_types.specs.declared.row.Change.{Change}
use Rattle.mr_types.specs.declared.row.Commit.{Commit}
use Rattle.mr_types.specs.declared.statement.Select.{Select}
use Rattle.mr_types.specs.Refusals.{refuse_where}
use Rattle.mr_types.specs.Values.{same_bytes}
use Rattle.mr_spec.specs.Truth.{Where}
use Rattle.mr_spec.specs.Select.{select_tests}
use Rattle.mr_spec.specs.Rows.{rows_after, rows_of, table_name, same_primary, clashes}
use Rattle.mr_spec.specs.Claims.{share_claim, has_claim_in}
use Rattle.mr_spec.specs.Database.{is_table, table_of, changed, with_changes, with_commits, replay, defines, changes_of, on_table}
use Rattle.mr_spec.specs.Lawful.{are_lawful, is_lawful_in}
use Rattle.mr_spec.specs.Weight.{total_weight}
use Rattle.mr_spec.specs.declared.progress.Progress.{Progress}
use Rattle.mr_spec.specs.declared.progress.Refusal.{Refusal}
use Rattle.mr_spec.specs.Progress.{Scene, told}
use Rattle.mr_spec.specs.World.{World, changes_by, seen_by, view_of, later_commits, is_stale, held_changes, has_used, with_txn, with_rows, kept_in, entered, with_number, rolled_back, using_table}
use Rattle.mr_spec.specs.Outcome.{Outcome, refused, answered}
use Rattle.mr_spec.specs.RowSteps.{on_rows, rows_seen, select_answer, select_outcome, scene_of, start_of, not_too_heavy, written, after_rows, write_outcome}
use Rattle.mr_sound.specs.Sound.{IsIn, AreApart, IsApartFrom, IsSound}
use Rattle.mr_sound.proofs.Basics.{tells, false-true, neither, in-left, in-right, in-append, filter-in, any-in, or-left, or-right}
use Rattle.mr_sound.proofs.SameKeys.{same-back, same-on}
use Rattle.mr_sound.proofs.RowLists.{IsNamedIn}
use Rattle.mr_sound.proofs.Tables.{def_of, def-with, name-of, changed-of, after, AgreeIn, AgreeSome, IsFree, IsKept, agree-with, agree-commits, lawful-both, lawful-append}
use Rattle.mr_sound.proofs.Commits.{with-commits, lawful-take}
use Rattle.mr_sound.proofs.Made.{LawfulOn, Goes, IsClear, ok-behind, where-ok, told-ok}
use Rattle.mr_sound.proofs.MadeRows.{then-ok}
use Rattle.mr_sound.proofs.StatementsMade.{IsReady}
use Rattle.mr_sound.proofs.Well.{AreWell, well-with, well-commits, well-none}
use Rattle.mr_sound.proofs.Worlds.{sound-rolled_back, sound-number, sound-entered, one-at-least, sound-rows, sound-here}
use Rattle.mr_sound.proofs.Schemas.{Sounds}

-- ---- lawful on a table's rows is lawful on the tables

at-one : (m : ℕ) (name : List ℕ) (cs : List Change) (ts : List Table) (t : Table) → table_of name ts ≡ Some t → ((c : Change) → IsIn c cs → table_name c ≡ name) → LawfulOn t.def m t.rows cs → are_lawful m ts cs ≡ true
at-one m name [] ts t e names l = refl
at-one m name (c ∷ cs) ts t e names l =
    let here : table_of (table_name c) ts ≡ Some t = ap (λ n. table_of n ts) (names c (inl refl)) ∙ e in
    let its : is_table (table_name c) t ≡ true = (bytes_eq-Decides t.def.name (table_name c)).1 (name-of (table_name c) ts t here) in
    let next : table_of name (changed ts c) ≡ Some (record t { rows = rows_after t.def t.rows c }) = changed-of name ts c ∙ ap (option_map (after c)) e ∙ ap (λ b. Some (cond b (record t { rows = rows_after t.def t.rows c }) t)) its in
    Rattle.mr_sound.proofs.Basics.joined _ _ (ap (λ o. option_map_or (λ x. is_lawful_in m x c) o false) here ∙ l.0)
    (at-one m name cs (changed ts c) (record t { rows = rows_after t.def t.rows c }) next (λ d i. names d (inr i)) l.1)

-- ---- what a session sees, and all commits with its changes

-- the tables of all commits, and then the session's changes
abbrev pub full_of : World → List Table
full_of u = with_changes (replay u.commits) (changes_by u.here.txn)

-- what the session sees
abbrev pub seen_of : World → List Table
seen_of u = view_of u.commits u.here.txn

pub all-commits : (n : ℕ) (cs : List Commit) → with_commits (replay (take n cs)) (drop n cs) ≡ replay cs
all-commits n cs = sym (with-commits (take n cs) (drop n cs) []) ∙ ap replay (take-append-drop n cs)

seen-agrees : (u : World) → AgreeIn (IsKept (later_commits u)) (IsFree (changes_of (later_commits u))) (seen_of u) (full_of u)
seen-agrees u =
    let n = seen_by u.here.txn (length u.commits) in
    agree-with (IsKept (later_commits u)) (IsFree (changes_of (later_commits u))) (changes_by u.here.txn) (replay (take n u.commits)) (replay u.commits)
    (subst (λ x. AgreeIn (IsKept (later_commits u)) (IsFree (changes_of (later_commits u))) (replay (take n u.commits)) x) (all-commits n u.commits)
    (agree-commits (IsKept (later_commits u)) (changes_of (later_commits u)) (later_commits u) (replay (take n u.commits)) (λ d i. i) (λ m q. q)))

-- the table of a statement, as the session sees it
pub record SeenTable (u : World) (t : Table) : Type 0 where
  pub seen : Table
  pub there : table_of t.def.name (seen_of u) ≡ Some seen
  pub def : seen.def ≡ t.def

agreed : (P : TableDef → Row → Type 0) (o f : Option Table) (def : TableDef) → AgreeSome P o f → option_map (λ (t : Table). t.def) f ≡ Some def → (x : Table) × (o ≡ Some x) × (x.def ≡ def)
agreed P None None def h e = absurd (none-some def e)
agreed P None (Some y) def h e = absurd h
agreed P (Some x) None def h e = absurd h
agreed P (Some x) (Some y) def h e = let f : Some y.def ≡ Some def = e in let g : y.def ≡ def = cc in (x, refl, sym h.def ∙ g)

seen-table : (u : World) (t : Table) → table_of t.def.name (replay u.commits) ≡ Some t → is_stale t.def.name u ≡ false → SeenTable u t
seen-table u t e kept =
    let full : def_of t.def.name (full_of u) ≡ Some t.def = def-with t.def.name (changes_by u.here.txn) (replay u.commits) ∙ ap (option_map (λ (x : Table). x.def)) e in
    let k = agreed (IsFree (changes_of (later_commits u)) t.def.name) (table_of t.def.name (seen_of u)) (table_of t.def.name (full_of u)) t.def (seen-agrees u t.def.name kept) full in
    record { seen = k.0; there = k.1; def = k.2 }

seen-well : (u : World) → IsSound u → AreWell (seen_of u)
seen-well u s =
    let n = seen_by u.here.txn (length u.commits) in
    well-with u.moment (changes_by u.here.txn) (replay (take n u.commits)) (well-commits 0 (take n u.commits) [] well-none (lawful-take n 0 [] u.commits s.commits)) (s.sessions u.here (inl refl)).seen

-- ---- what the changes of a statement are

-- lawful on what the session sees and on all commits with its changes, of the table, and apart from what others hold
pub record AreSoundChanges (u : World) (t : Table) (made : List Change) : Type 0 where
  pub seen : are_lawful u.moment (seen_of u) made ≡ true
  pub full : are_lawful u.moment (full_of u) made ≡ true
  pub names : (c : Change) → IsIn c made → table_name c ≡ t.def.name
  pub apart : (o : Session) (c : Change) → IsIn o u.others → IsIn c made → IsApartFrom (changes_by o.txn) (replay u.commits) c

no-claim : (def : TableDef) (ds : List Change) (name : List ℕ) (c d : Change) → has_claim_in def (on_table name ds) c ≡ false → IsIn d ds → table_name d ≡ name → AreApart def c d
no-claim def ds name c d e i named r s j k =
    let shares : share_claim def c d ≡ false = any-in (share_claim def c) d (on_table name ds) e (filter-in (λ x. same_bytes (table_name x) name) d ds i ((bytes_eq-Decides (table_name d) name).1 named)) in
    (neither (same_primary def r s) _ (any-in (λ y. clashes def r y) s (rows_of d) (any-in (λ x. list_any (λ y. clashes def x y) (rows_of d)) r (rows_of c) shares j) k)).0

in-held : (o : Session) (d : Change) (ss : List Session) → IsIn o ss → IsIn d (changes_by o.txn) → IsIn d (held_changes ss)
in-held o d [] i j = absurd i
in-held o d (s ∷ ss) (inl e) j = in-left d (changes_by s.txn) (held_changes ss) (subst (λ x. IsIn d (changes_by x.txn)) (sym e) j)
in-held o d (s ∷ ss) (inr i) j = in-right d (changes_by s.txn) (held_changes ss) (in-held o d ss i j)

clear-named : (u : World) (t : Table) (c : Change) → (scene_of t u).changed c ≡ false → IsNamedIn t.def (IsFree (changes_of (later_commits u)) t.def.name t.def) c
clear-named u t c e r s i same d s2 j name k =
    let apart : same_primary t.def s s2 ≡ false = no-claim t.def (changes_of (later_commits u)) t.def.name c d e j name s s2 i k in
    elim (tells (same_primary t.def s2 r)) [
      | inl f ↦ false-true (same_primary t.def s s2) apart (same-on t.def s r s2 same (same-back t.def s2 r f))
      | inr f ↦ f
    ]

pub sound-changes : (u : World) (t : Table) (made : List Change) → IsSound u → table_of t.def.name (replay u.commits) ≡ Some t → is_stale t.def.name u ≡ false → LawfulOn t.def u.moment (rows_seen t.def.name u) made → ((c : Change) → IsIn c made → IsClear (scene_of t u) c) → AreSoundChanges u t made
sound-changes u t made s e kept lawful clear = record { seen = on_seen; full = on_full; names = λ c i. (clear c i).table; apart = away }
  where
    names : (c : Change) → IsIn c made → table_name c ≡ t.def.name
    names c i = (clear c i).table

    on_seen : are_lawful u.moment (seen_of u) made ≡ true
    on_seen =
        let k = seen-table u t e kept in
        let rows : rows_seen t.def.name u ≡ k.seen.rows = ap (λ o. option_map_or (λ (x : Table). x.rows) o []) k.there in
        at-one u.moment t.def.name made (seen_of u) k.seen k.there (λ c i. (clear c i).table)
        (subst (λ d. LawfulOn d u.moment k.seen.rows made) (sym k.def) (subst (λ rs. LawfulOn t.def u.moment rs made) rows lawful))

    seen_def : (d : TableDef) (n : List ℕ) → n ≡ t.def.name → def_of n (seen_of u) ≡ Some d → t.def ≡ d
    seen_def d n name f =
        let k = seen-table u t e kept in
        let g : Some k.seen.def ≡ Some d = sym (ap (option_map (λ (x : Table). x.def)) k.there) ∙ ap (λ x. def_of x (seen_of u)) (sym name) ∙ f in
        let h : k.seen.def ≡ d = cc in
        sym k.def ∙ h

    on_full : are_lawful u.moment (full_of u) made ≡ true
    on_full = lawful-both (IsKept (later_commits u)) (IsFree (changes_of (later_commits u))) u.moment made (seen_of u) (full_of u) (seen-agrees u)
        (λ c i. subst (IsKept (later_commits u)) (sym (clear c i).table) kept)
        (λ c d i f. subst (λ x. IsNamedIn x (IsFree (changes_of (later_commits u)) (table_name c) x) c) (seen_def d (table_name c) (clear c i).table f)
        (subst (λ n. IsNamedIn t.def (IsFree (changes_of (later_commits u)) n t.def) c) (sym (clear c i).table) (clear-named u t c (clear c i).changed)))
        (at_seen (seen-table u t e kept))
      where
        at_seen : SeenTable u t → are_lawful u.moment (seen_of u) made ≡ true
        at_seen k = at-one u.moment t.def.name made (seen_of u) k.seen k.there (λ c i. (clear c i).table)
            (subst (λ d. LawfulOn d u.moment k.seen.rows made) (sym k.def) (subst (λ rs. LawfulOn t.def u.moment rs made) (ap (λ o. option_map_or (λ (x : Table). x.rows) o []) k.there) lawful))

    away : (o : Session) (c : Change) → IsIn o u.others → IsIn c made → IsApartFrom (changes_by o.txn) (replay u.commits) c
    away o c i j = λ x d f k name.
        let found : Some x ≡ Some t = sym f ∙ ap (λ n. table_of n (replay u.commits)) (clear c j).table ∙ e in
        let same : t ≡ x = cc in
        subst (λ (y : Table). AreApart y.def c d) same (no-claim t.def (held_changes u.others) t.def.name c d (clear c j).held (in-held o d u.others i k) (name ∙ (clear c j).table))

-- ---- the changes are kept

-- a transaction that is open has used the table, and its snapshot is fixed
pub record HasEntered (u : World) (name : List ℕ) : Type 0 where
  pub used : (x : Txn) → u.here.txn ≡ Some x → has_used name u.here ≡ true
  pub fixed : (x : Txn) → u.here.txn ≡ Some x → x.snapshot ≡ None → ⊥

pub has-entered : (w : World) (name : List ℕ) → HasEntered (entered name w) name
has-entered w name = record { used = λ x e. by_used w.here.txn x e; fixed = λ x e f. by_fixed w.here.txn x e f }
  where
    by_used : (o : Option Txn) (x : Txn) → option_map (using_table name (length w.commits)) o ≡ Some x → has_used name (record w.here { txn = option_map (using_table name (length w.commits)) o }) ≡ true
    by_used None x e = absurd (none-some x e)
    by_used (Some t) x e = or-left (same_bytes name name) _ ((bytes_eq-Decides name name).1 refl)

    snapshot_in : Option Txn → Option ℕ
    snapshot_in None = None
    snapshot_in (Some u) = u.snapshot

    by_fixed : (o : Option Txn) (x : Txn) → option_map (using_table name (length w.commits)) o ≡ Some x → x.snapshot ≡ None → ⊥
    by_fixed None x e f = absurd (none-some x e)
    by_fixed (Some t) x e f = none-some (unwrap_or t.snapshot (length w.commits)) (sym f ∙ ap snapshot_in (sym e))

sound-more : (u : World) (t : Table) (made : List Change) (x : Txn) → u.here.txn ≡ Some x → IsSound u → HasEntered u t.def.name → is_stale t.def.name u ≡ false → AreSoundChanges u t made → total_weight (replay u.commits) (changes_by u.here.txn ++ made) ≤ 67108864
    → IsSound (with_txn (Some (record x { changes = x.changes ++ made })) u)
sound-more u t made x e s entered kept h light =
    let y = s.sessions u.here (inl refl) in
    let at = λ (P : Option Txn → Type 0) (p : P u.here.txn). subst P e p in
    sound-here u (record u.here { txn = Some (record x { changes = x.changes ++ made }) }) s (record {
      seen = lawful-append u.moment x.changes made (replay (take (unwrap_or x.snapshot (length u.commits)) u.commits))
          (at (λ o. are_lawful u.moment (replay (take (seen_by o (length u.commits)) u.commits)) (changes_by o) ≡ true) y.seen)
          (at (λ o. are_lawful u.moment (view_of u.commits o) made ≡ true) h.seen);
      lawful = lawful-append u.moment x.changes made (replay u.commits)
          (at (λ o. are_lawful u.moment (replay u.commits) (changes_by o) ≡ true) y.lawful)
          (at (λ o. are_lawful u.moment (with_changes (replay u.commits) (changes_by o)) made ≡ true) h.full);
      light = at (λ o. total_weight (replay u.commits) (changes_by o ++ made) ≤ 67108864) light;
      used = λ c i. by_part c (in-append c x.changes made i);
      kept = λ c i. kept_by_part c (in-append c x.changes made i);
      within = at (λ o. seen_by o (length u.commits) ≤ length u.commits) y.within;
      unfixed = λ z f g. absurd (entered.fixed x e (ap snapshot_in f ∙ g));
    }) (λ o c i j. elim (in-append c x.changes made j) [
      | inl k ↦ at (λ o2. (o : Session) (c : Change) → IsIn o u.others → IsIn c (changes_by o2) → IsApartFrom (changes_by o.txn) (replay u.commits) c) s.apart.0 o c i k
      | inr k ↦ h.apart o c i k
    ])
  where
    snapshot_in : Option Txn → Option ℕ
    snapshot_in None = None
    snapshot_in (Some z) = z.snapshot

    with_old : (c : Change) → IsIn c x.changes → has_used (table_name c) (record u.here { txn = Some x }) ≡ true
    with_old c i = subst (λ o. (c : Change) → IsIn c (changes_by o) → has_used (table_name c) (record u.here { txn = o }) ≡ true) e (s.sessions u.here (inl refl)).used c i

    kept_by_part : (c : Change) → IsIn c x.changes ⊎ IsIn c made → list_any (defines (table_name c)) (drop (seen_by (Some x) (length u.commits)) u.commits) ≡ false
    kept_by_part c (inl i) = subst (λ o. (c : Change) → IsIn c (changes_by o) → list_any (defines (table_name c)) (drop (seen_by o (length u.commits)) u.commits) ≡ false) e (s.sessions u.here (inl refl)).kept c i
    kept_by_part c (inr i) = ap (λ n. list_any (defines n) (drop (seen_by (Some x) (length u.commits)) u.commits)) (h.names c i) ∙ subst (λ o. list_any (defines t.def.name) (drop (seen_by o (length u.commits)) u.commits) ≡ false) e kept

    by_part : (c : Change) → IsIn c x.changes ⊎ IsIn c made → has_used (table_name c) (record u.here { txn = Some (record x { changes = x.changes ++ made }) }) ≡ true
    by_part c (inl i) = with_old c i
    by_part c (inr i) = ap (λ n. list_any (same_bytes n) x.used) (h.names c i) ∙ subst (λ o. has_used t.def.name (record u.here { txn = o }) ≡ true) e (entered.used x e)

sound-alone : (u : World) (t : Table) (made : List Change) → u.here.txn ≡ None → IsSound u → AreSoundChanges u t made → total_weight (replay u.commits) (changes_by u.here.txn ++ made) ≤ 67108864 → IsSound (with_rows made u)
sound-alone u t [] e s h light = s
sound-alone u t (c ∷ cs) e s h light =
    sound-rows u u.here (c ∷ cs) (one-at-least c cs) s (ap changes_by e) (λ n. subst (λ o. seen_by o n ≤ n) (sym e) (le_refl n))
    (subst (λ o. are_lawful u.moment (with_changes (replay u.commits) (changes_by o)) (c ∷ cs) ≡ true) e h.full)
    (subst (λ o. total_weight (replay u.commits) (changes_by o ++ c ∷ cs) ≤ 67108864) e light) h.apart

pub sound-kept : (u : World) (t : Table) (made : List Change) → IsSound u → HasEntered u t.def.name → is_stale t.def.name u ≡ false → AreSoundChanges u t made → total_weight (replay u.commits) (changes_by u.here.txn ++ made) ≤ 67108864 → (o : Option Txn) → u.here.txn ≡ o → IsSound (kept_in o made u)
sound-kept u t made s entered kept h light None e = sound-alone u t made e s h light
sound-kept u t made s entered kept h light (Some x) e = sound-more u t made x e s entered kept h light

-- ---- the statements

-- the statement's changes are lawful from rows that are ready
abbrev pub Makes : (Scene → Progress → Result Progress Refusal) → Type 0
Makes changes = (a : Scene) (g : Progress) → IsReady a.def g.rows → IfOk (changes a g) (Goes a g)

pub record IsWritten (u : World) (t : Table) (g : Progress) : Type 0 where
  pub goes : Goes (scene_of t u) (start_of t u) g
  pub light : total_weight (replay u.commits) (changes_by u.here.txn ++ g.changes) ≤ 67108864

written-goes : (changes : Scene → Progress → Result Progress Refusal) (u : World) (t : Table) → Makes changes → IsReady t.def (rows_seen t.def.name u) → IfOk (written changes t u) (IsWritten u t)
written-goes changes u t makes ready =
    then-ok (Goes (scene_of t u) (start_of t u)) (IsWritten u t) (changes (scene_of t u) (start_of t u)) (λ g. not_too_heavy u g) (makes (scene_of t u) (start_of t u) ready) (λ g goes.
    ok-behind (IsWritten u t) (told g.next (refuse_where 1197 (nat_lt 67108864 (total_weight (replay u.commits) (changes_by u.here.txn ++ g.changes))))) (Ok g) (λ x e.
    record { goes = goes; light = ltb-false 67108864 (total_weight (replay u.commits) (changes_by u.here.txn ++ g.changes)) (where-ok 1197 _ x (told-ok _ _ x e)) }))

pub ready-rows : (u : World) (t : Table) → IsSound u → table_of t.def.name (replay u.commits) ≡ Some t → is_stale t.def.name u ≡ false → IsReady t.def (rows_seen t.def.name u)
ready-rows u t s e kept =
    let k = seen-table u t e kept in
    subst (λ rs. IsReady t.def rs) (sym (ap (λ o. option_map_or (λ (x : Table). x.rows) o []) k.there)) (subst (λ d. IsReady d k.seen.rows) k.def (seen-well u s t.def.name k.seen k.there))

sound-after_rows : (u : World) (t : Table) (r : Result Progress Refusal) → IsSound u → HasEntered u t.def.name → table_of t.def.name (replay u.commits) ≡ Some t → is_stale t.def.name u ≡ false → IfOk r (IsWritten u t) → Sounds (after_rows t.def.name u r)
sound-after_rows u t (Err e) s entered f kept h = by_code (e.code == 1213)
  where
    by_code : (b : Bool) → IsSound (if b then rolled_back (with_number t.def.name e.next u) else with_number t.def.name e.next u)
    by_code true = sound-rolled_back (with_number t.def.name e.next u) (sound-number u t.def.name e.next s)
    by_code false = sound-number u t.def.name e.next s
sound-after_rows u t (Ok g) s entered f kept h =
    let made : h.goes.made ≡ g.changes = sym h.goes.changes in
    let c : AreSoundChanges u t g.changes = subst (AreSoundChanges u t) made (sound-changes u t h.goes.made s f kept h.goes.lawful h.goes.clear) in
    kept-number (sound-kept u t g.changes s entered kept c h.light u.here.txn refl)
  where
    kept-number : IsSound (kept_in u.here.txn g.changes u) → IsSound (kept_in u.here.txn g.changes (with_number t.def.name g.next u))
    kept-number k = by_txn u.here.txn k
      where
        rows : (xs : List Change) → IsSound (with_rows xs u) → IsSound (with_rows xs (with_number t.def.name g.next u))
        rows [] k = sound-number u t.def.name g.next k
        rows (x ∷ xs) k = sound-number (with_rows (x ∷ xs) u) t.def.name g.next k

        by_txn : (o : Option Txn) → IsSound (kept_in o g.changes u) → IsSound (kept_in o g.changes (with_number t.def.name g.next u))
        by_txn None k = rows g.changes k
        by_txn (Some x) k = sound-number (with_txn (Some (record x { changes = x.changes ++ g.changes })) u) t.def.name g.next k

sound-on_rows : (name : List ℕ) (act : Table → World → Outcome) (w : World) → IsSound w → ((t : Table) → t.def.name ≡ name → table_of t.def.name (replay w.commits) ≡ Some t → is_stale t.def.name (entered name w) ≡ false → Sounds (act t (entered name w))) → Sounds (on_rows name act w)
sound-on_rows name act w s h = (elim (table_of name (replay w.commits)) as (λ t. table_of name (replay w.commits) ≡ t → Sounds (on_rows name act w)) [
  | None ↦ λ e. rw e s
  | Some t ↦ λ e. rw e (by_stale t e (is_stale name (entered name w)) refl)
]) refl
  where
    by_stale : (t : Table) → table_of name (replay w.commits) ≡ Some t → (b : Bool) → is_stale name (entered name w) ≡ b → Sounds (if b then refused (entered name w) 1412 else act t (entered name w))
    by_stale t e true f = sound-entered w name s
    by_stale t e false f =
        let is : t.def.name ≡ name = name-of name (replay w.commits) t e in
        h t is (ap (λ n. table_of n (replay w.commits)) is ∙ e) (ap (λ n. is_stale n (entered name w)) is ∙ f)

pub sound-write : (name : List ℕ) (changes : Scene → Progress → Result Progress Refusal) (w : World) → Makes changes → IsSound w → Sounds (on_rows name (write_outcome changes) w)
sound-write name changes w makes s = sound-on_rows name (write_outcome changes) w s (λ t is e kept.
    let u = entered name w in
    let su : IsSound u = sound-entered w name s in
    sound-after_rows u t (written changes t u) su (subst (HasEntered u) (sym is) (has-entered w name)) e kept (written-goes changes u t makes (ready-rows u t su e kept)))

pub sound-select : (x : Select) (c : Where) (w : World) → IsSound w → Sounds (on_rows x.table (select_outcome x c) w)
sound-select x c w s = sound-on_rows x.table (select_outcome x c) w s (λ t is e kept. chosen (select_answer x c t (entered x.table w)) (ok-behind Sounds (select_tests t.def x c) _ (λ y f. sound-entered w x.table s)))
  where
    chosen : (r : Result Outcome ℕ) → IfOk r Sounds → Sounds (answered (entered x.table w) r)
    chosen (Ok o) h = h
    chosen (Err code) h = sound-entered w x.table s
