-- Sound worlds stay sound where a session's transaction changes, and where a commit is added.
use Rattle.std.proofs.Common.{◌≡◌, inl, inr, ℕ, ◌≤◌, max, Bool, true, false, cond, List, [], ◌∷◌, ◌++◌, length, take, drop, filter, find, Option, Some, None, option_map, unwrap_or, refl, ap, sym, subst, ◌∙◌, le_refl, le_trans, arith}
use Rattle.std.specs.Prelude.{not}
use Rattle.std.specs.List.{list_any}
use Rattle.std.proofs.lemmas.Option.{none-some}
use Rattle.mr_spec.specs.declared.world.Session.{Session}
use Rattle.mr_spec.specs.declared.world.Table.{Table}
use Rattle.mr_spec.specs.declared.world.Txn.{Txn}
use Rattle.mr_types.specs.declared.definition.IndexDef.{IndexDef}
use Rattle.mr_types.specs.declared.row.Row.{Row}
use Rattle.mr_types.specs.declared.row.Change.{Change}
use Rattle.mr_types.specs.declared.row.Commit.{Commit}
use Rattle.mr_types.specs.declared.row.CommitBody.TheVariants as body
use Rattle.mr_types.specs.declared.row.Schema.{Schema}
use Rattle.mr_types.specs.Values.{same_bytes}
use Rattle.mr_spec.specs.Rows.{rows_of, table_name, same_primary}
use Rattle.mr_spec.specs.Database.{table_of, replay, defines, schema_table}
use Rattle.mr_spec.specs.Lawful.{LawfulSchema, are_lawful, IfTable, IsCheckedKey}
use Rattle.mr_spec.specs.Weight.{total_weight}
use Rattle.mr_spec.specs.World.{World, changes_by, seen_by, has_used, with_txn, with_commit, with_rows, committed, with_number, entered, using_table}
use Rattle.mr_spec.specs.Step.{timed}
use Rattle.mr_sound.specs.Sound.{IsIn, IsApartFrom, IsSoundSession, AreAllApart, IsSound}
use Rattle.mr_sound.proofs.Basics.{false-true, in-filter, or-right, not-true}
use Rattle.mr_sound.proofs.RowLists.{apart-back}
use Rattle.mr_sound.proofs.Tables.{def_of, def-with}
use Rattle.mr_sound.proofs.Commits.{replay-push, last-push, lawful-push, sound-behind_rows, sound-behind_schema, all-apart, sound-later, idle-sound, def-table, def-elsewhere}

later-moment : (m n : ℕ) → m ≤ max m n
later-moment m n = omega arith

-- the moment moves on
pub sound-timed : (w : World) (clock : ℕ) → IsSound w → IsSound (timed w clock)
sound-timed w clock s = record {
  commits = s.commits;
  moment = le_trans s.moment (later-moment w.moment clock);
  sessions = λ x i. sound-later w.commits w.moment (max w.moment clock) x (later-moment w.moment clock) (s.sessions x i);
  apart = s.apart;
  building = s.building;
}

-- another session in the place of the current one
pub sound-here : (w : World) (h : Session) → IsSound w → IsSoundSession w.commits w.moment h → ((o : Session) (c : Change) → IsIn o w.others → IsIn c (changes_by h.txn) → IsApartFrom (changes_by o.txn) (replay w.commits) c) → IsSound (record w { here = h })
sound-here w h s x apart = record {
  commits = s.commits;
  moment = s.moment;
  sessions = λ y i. chosen y i;
  apart = (apart, s.apart.1);
  building = s.building;
}
  where
    chosen : (y : Session) → IsIn y (h ∷ w.others) → IsSoundSession w.commits w.moment y
    chosen y (inl e) = subst (IsSoundSession w.commits w.moment) e x
    chosen y (inr i) = s.sessions y (inr i)

-- one that has no changes
pub sound-idle : (w : World) (h : Session) → IsSound w → changes_by h.txn ≡ [] → seen_by h.txn (length w.commits) ≤ length w.commits → IsSound (record w { here = h })
sound-idle w h s e le = sound-here w h s (idle-sound w.commits w.moment h e le) (λ o c i j. absurd (subst (IsIn c) e j))

pub sound-rolled_back : (w : World) → IsSound w → IsSound (with_txn None w)
sound-rolled_back w s = sound-idle w (record w.here { txn = None }) s refl (le_refl (length w.commits))

pub sound-number : (w : World) (name : List ℕ) (n : ℕ) → IsSound w → IsSound (with_number name n w)
sound-number w name n s = record { commits = s.commits; moment = s.moment; sessions = s.sessions; apart = s.apart; building = s.building }

-- ---- commits of rows

if-def : (n : List ℕ) (ts us : List Table) (key : IndexDef) → def_of n us ≡ def_of n ts → IfTable n ts (λ t. IsCheckedKey t.def key) → IfTable n us (λ t. IsCheckedKey t.def key)
if-def n ts us key e h =
    let u = def-table n us h.0.def (e ∙ ap (option_map (λ (t : Table). t.def)) h.1) in
    (u.0, u.1, subst (λ d. IsCheckedKey d key) (sym u.2) h.2)

turned-apart : (ts : List Table) (ds : List Change) (c d : Change) → IsApartFrom ds ts d → IsIn c ds → (t : Table) → table_of (table_name c) ts ≡ Some t → table_name d ≡ table_name c → (r s : Row) → IsIn r (rows_of d) → IsIn s (rows_of c) → same_primary t.def r s ≡ false
turned-apart ts ds c d h i t e name r s j k = h t c (ap (λ n. table_of n ts) name ∙ e) i (sym name) r s j k

pub one-at-least : {A : Type 0} (x : A) (xs : List A) → 1 ≤ length (x ∷ xs)
one-at-least x xs = omega arith

pub sound-rows : (w : World) (h : Session) (xs : List Change) → 1 ≤ length xs → IsSound w → changes_by h.txn ≡ [] → ((n : ℕ) → seen_by h.txn n ≤ n) → are_lawful w.moment (replay w.commits) xs ≡ true → total_weight (replay w.commits) xs ≤ 67108864
    → ((o : Session) (c : Change) → IsIn o w.others → IsIn c xs → IsApartFrom (changes_by o.txn) (replay w.commits) c) → IsSound (with_commit (body.Rows xs) (record w { here = h }))
sound-rows w h xs some s e le lawful light apart = record {
  commits = lawful-push w.commits commit s.commits s.moment (some, lawful, light);
  moment = subst (λ n. n ≤ w.moment) (sym (last-push 0 w.commits commit)) (le_refl w.moment);
  sessions = chosen;
  apart = (λ o c i j. absurd (subst (IsIn c) e j), all-apart (replay w.commits) (replay (w.commits ++ commit ∷ [])) w.others (λ o c i j. defs (table_name c)) s.apart.1);
  building = λ name key f. if-def name (replay w.commits) (replay (w.commits ++ commit ∷ [])) key (defs name) (s.building name key f);
}
  where
    commit : Commit
    commit = record { moment = w.moment; body = body.Rows xs }

    defs : (n : List ℕ) → def_of n (replay (w.commits ++ record { moment = w.moment; body = body.Rows xs } ∷ [])) ≡ def_of n (replay w.commits)
    defs n = ap (def_of n) (replay-push w.commits (record { moment = w.moment; body = body.Rows xs })) ∙ def-with n xs (replay w.commits)

    chosen : (y : Session) → IsIn y (h ∷ w.others) → IsSoundSession (w.commits ++ record { moment = w.moment; body = body.Rows xs } ∷ []) w.moment y
    chosen y (inl f) = subst (IsSoundSession _ w.moment) f (idle-sound _ w.moment h e (le _))
    chosen y (inr i) = sound-behind_rows w.commits w.moment xs y (s.sessions y (inr i)) (λ c j t d f k name r r2 l m. turned-apart (replay w.commits) (changes_by y.txn) c d (apart y d i k) j t f name r r2 l m)

-- the current transaction is committed
pub sound-committed : (w : World) → IsSound w → IsSound (committed w)
sound-committed w s = by_changes (changes_by w.here.txn) (s.sessions w.here (inl refl)).lawful (s.sessions w.here (inl refl)).light s.apart.0
  where
    by_changes : (xs : List Change) → are_lawful w.moment (replay w.commits) xs ≡ true → total_weight (replay w.commits) xs ≤ 67108864
        → ((o : Session) (c : Change) → IsIn o w.others → IsIn c xs → IsApartFrom (changes_by o.txn) (replay w.commits) c) → IsSound (with_txn None (with_rows xs w))
    by_changes [] lawful light apart = sound-rolled_back w s
    by_changes (x ∷ xs) lawful light apart = sound-rows w (record w.here { txn = None }) (x ∷ xs) (one-at-least x xs) s refl (λ n. le_refl n) lawful light apart

-- ---- commits of the schema

pub sound-schema : (w : World) (x : Schema) → IsSound w → changes_by w.here.txn ≡ [] → seen_by w.here.txn (length w.commits) ≡ length w.commits → LawfulSchema w.moment (replay w.commits) x
    → ((o : Session) (c : Change) → IsIn o w.others → IsIn c (changes_by o.txn) → same_bytes (schema_table x) (table_name c) ≡ false)
    → ((name : List ℕ) (key : IndexDef) → w.building name ≡ Some key → same_bytes (schema_table x) name ≡ false) → IsSound (with_commit (body.Schema x) w)
sound-schema w x s e le lawful other free = record {
  commits = lawful-push w.commits commit s.commits s.moment lawful;
  moment = subst (λ n. n ≤ w.moment) (sym (last-push 0 w.commits commit)) (le_refl w.moment);
  sessions = chosen;
  apart = (λ o c i j. absurd (subst (IsIn c) e j), all-apart (replay w.commits) (replay (w.commits ++ commit ∷ [])) w.others (λ o c i j. defs (table_name c) (other o c i j)) s.apart.1);
  building = λ name key f. if-def name (replay w.commits) (replay (w.commits ++ commit ∷ [])) key (defs name (free name key f)) (s.building name key f);
}
  where
    commit : Commit
    commit = record { moment = w.moment; body = body.Schema x }

    defs : (n : List ℕ) → same_bytes (schema_table x) n ≡ false → def_of n (replay (w.commits ++ record { moment = w.moment; body = body.Schema x } ∷ [])) ≡ def_of n (replay w.commits)
    defs n q = ap (def_of n) (replay-push w.commits (record { moment = w.moment; body = body.Schema x })) ∙ def-elsewhere n (replay w.commits) x q

    none-here : (c : Change) → IsIn c (changes_by w.here.txn) → same_bytes (schema_table x) (table_name c) ≡ false
    none-here c i = absurd (subst (IsIn c) e i)

    chosen : (y : Session) → IsIn y (w.here ∷ w.others) → IsSoundSession (w.commits ++ record { moment = w.moment; body = body.Schema x } ∷ []) w.moment y
    chosen y (inl f) = subst (IsSoundSession _ w.moment) f (sound-behind_schema w.commits w.moment x w.here (s.sessions w.here (inl refl)) none-here)
    chosen y (inr i) = sound-behind_schema w.commits w.moment x y (s.sessions y (inr i)) (λ c j. other y c i j)

-- ---- the table is used

used-more : (w : World) (name : List ℕ) (t : Txn) → w.here.txn ≡ Some t → IsSound w → IsSound (with_txn (Some (using_table name (length w.commits) t)) w)
used-more w name t e s =
    let x = s.sessions w.here (inl refl) in
    let at = λ (P : Option Txn → Type 0) (p : P w.here.txn). subst P e p in
    sound-here w (record w.here { txn = Some (using_table name (length w.commits) t) }) s (record {
      seen = at (λ o. are_lawful w.moment (replay (take (seen_by o (length w.commits)) w.commits)) (changes_by o) ≡ true) x.seen;
      lawful = at (λ o. are_lawful w.moment (replay w.commits) (changes_by o) ≡ true) x.lawful;
      light = at (λ o. total_weight (replay w.commits) (changes_by o) ≤ 67108864) x.light;
      used = λ c i. or-right (same_bytes (table_name c) name) _ (at (λ o. (c : Change) → IsIn c (changes_by o) → has_used (table_name c) (record w.here { txn = o }) ≡ true) x.used c i);
      kept = at (λ o. (c : Change) → IsIn c (changes_by o) → list_any (defines (table_name c)) (drop (seen_by o (length w.commits)) w.commits) ≡ false) x.kept;
      within = at (λ o. seen_by o (length w.commits) ≤ length w.commits) x.within;
      unfixed = λ u f g. absurd (none-some (unwrap_or t.snapshot (length w.commits)) (sym g ∙ ap snapshot_in (sym f)));
    }) (λ o c i j. at (λ o2. (o : Session) (c : Change) → IsIn o w.others → IsIn c (changes_by o2) → IsApartFrom (changes_by o.txn) (replay w.commits) c) s.apart.0 o c i j)
  where
    snapshot_in : Option Txn → Option ℕ
    snapshot_in None = None
    snapshot_in (Some u) = u.snapshot

pub sound-entered : (w : World) (name : List ℕ) → IsSound w → IsSound (entered name w)
sound-entered w name s = by_txn w.here.txn refl
  where
    by_txn : (o : Option Txn) → w.here.txn ≡ o → IsSound (with_txn (option_map (using_table name (length w.commits)) o) w)
    by_txn None e = sound-rolled_back w s
    by_txn (Some t) e = used-more w name t e s

-- ---- sessions

symmetric : (ts : List Table) (xs ys : List Change) → ((c : Change) → IsIn c xs → IsApartFrom ys ts c) → (c : Change) → IsIn c ys → IsApartFrom xs ts c
symmetric ts xs ys h c i t d e j name r s k l = apart-back t.def s r (h d j t c (ap (λ n. table_of n ts) name ∙ e) i (sym name) s r l k)

pair-apart : (ts : List Table) (p : Session → Bool) (ss : List Session) (x o : Session) → AreAllApart ts ss → IsIn x ss → IsIn o ss → p x ≡ true → p o ≡ false → (c : Change) → IsIn c (changes_by x.txn) → IsApartFrom (changes_by o.txn) ts c
pair-apart ts p [] x o a i j e f = absurd i
pair-apart ts p (s ∷ ss) x o a (inl q) (inl r) e f = false-true (p o) f (ap p (sym r ∙ q) ∙ e)
pair-apart ts p (s ∷ ss) x o a (inl q) (inr j) e f = λ c k. a.0 o c j (subst (λ y. IsIn c (changes_by y.txn)) (sym q) k)
pair-apart ts p (s ∷ ss) x o a (inr i) (inl r) e f = symmetric ts (changes_by o.txn) (changes_by x.txn) (λ c k. a.0 x c i (subst (λ y. IsIn c (changes_by y.txn)) (sym r) k))
pair-apart ts p (s ∷ ss) x o a (inr i) (inr j) e f = pair-apart ts p ss x o a.1 i j e f

apart-filter : (ts : List Table) (q : Session → Bool) (ss : List Session) → AreAllApart ts ss → AreAllApart ts (filter q ss)
apart-filter ts q [] a = tt
apart-filter ts q (s ∷ ss) a = elim (q s) as (λ b. AreAllApart ts (cond b (s ∷ filter q ss) (filter q ss))) [
  | true ↦ (λ o c i j. a.0 o c (in-filter q o ss i).0 j, apart-filter ts q ss a.1)
  | false ↦ apart-filter ts q ss a.1
]

pub found-in : {A : Type 0} (p : A → Bool) (xs : List A) (x : A) → find p xs ≡ Some x → IsIn x xs × (p x ≡ true)
found-in p [] x e = absurd cc
found-in p (y ∷ xs) x e = (elim (p y) as (λ b. p y ≡ b → (cond b (Some y) (find p xs)) ≡ Some x → IsIn x (y ∷ xs) × (p x ≡ true)) [
  | true ↦ λ h i. let same : y ≡ x = cc in (inl same, subst (λ z. p z ≡ true) same h)
  | false ↦ λ h i. let k = found-in p xs x i in (inr k.0, k.1)
]) refl e

pub sound-turned : (w : World) (p : Session → Bool) (h : Session) (ss : List Session) → IsSound w → ((s : Session) → IsIn s ss → IsSoundSession w.commits w.moment s) → AreAllApart (replay w.commits) ss
    → h.txn ≡ None → IsSound (record w { here = unwrap_or (find p ss) h; others = filter (λ s. not (p s)) ss })
sound-turned w p h ss s all apart none = record {
  commits = s.commits;
  moment = s.moment;
  sessions = λ y i. chosen y i;
  apart = (by_found (find p ss) refl, apart-filter (replay w.commits) (λ s. not (p s)) ss apart);
  building = s.building;
}
  where
    fresh_one : IsSoundSession w.commits w.moment h
    fresh_one = idle-sound w.commits w.moment h (ap changes_by none) (subst (λ o. seen_by o (length w.commits) ≤ length w.commits) (sym none) (le_refl (length w.commits)))

    here_sound : (o : Option Session) → find p ss ≡ o → IsSoundSession w.commits w.moment (unwrap_or o h)
    here_sound None e = idle-sound w.commits w.moment h (ap changes_by none) (subst (λ o. seen_by o (length w.commits) ≤ length w.commits) (sym none) (le_refl (length w.commits)))
    here_sound (Some x) e = all x (found-in p ss x e).0

    chosen : (y : Session) → IsIn y (unwrap_or (find p ss) h ∷ filter (λ s. not (p s)) ss) → IsSoundSession w.commits w.moment y
    chosen y (inl e) = subst (IsSoundSession w.commits w.moment) e (here_sound (find p ss) refl)
    chosen y (inr i) = all y (in-filter (λ s. not (p s)) y ss i).0

    by_found : (f : Option Session) → find p ss ≡ f → (o : Session) (c : Change) → IsIn o (filter (λ s. not (p s)) ss) → IsIn c (changes_by (unwrap_or f h).txn) → IsApartFrom (changes_by o.txn) (replay w.commits) c
    by_found None e o c i j = absurd (subst (IsIn c) (ap changes_by none) j)
    by_found (Some x) e o c i j =
        let k = found-in p ss x e in
        let l = in-filter (λ s. not (p s)) o ss i in
        pair-apart (replay w.commits) p ss x o apart k.0 l.0 k.1 (not-true (p o) l.1) c j
