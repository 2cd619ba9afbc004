-- Worlds whose numbers are of 64 bits: their tables, and how they stay so where a part changes.
use Rattle.std.proofs.Common.{◌≡◌, ◌⊎◌, inl, inr, ℕ, ◌^◌, ◌<◌, Bool, true, false, cond, List, [], ◌∷◌, ◌++◌, length, take, filter, find, Option, Some, None, refl, ap, sym, subst, ◌∙◌}
use Rattle.std.specs.Prelude.{not, if◌then◌else◌}
use Rattle.std.proofs.lemmas.Option.{none-some}
use Rattle.mr_spec.specs.declared.world.Session.{Session}
use Rattle.mr_spec.specs.declared.world.Table.{Table}
use Rattle.mr_types.specs.declared.definition.IndexDef.{IndexDef}
use Rattle.mr_types.specs.declared.row.Row.{Row}
use Rattle.mr_types.specs.declared.row.Change.{Change}
use Rattle.mr_types.specs.declared.row.Commit.{Commit}
use Rattle.mr_types.specs.declared.row.CommitBody.{CommitBody}
use Rattle.mr_types.specs.declared.row.CommitBody.TheVariants as body
use Rattle.mr_types.specs.declared.row.Schema.{Schema}
use Rattle.mr_types.specs.declared.row.Schema.TheVariants.{CreateTable, DropTable, CreateIndex, DropIndex}
use Rattle.mr_types.specs.Values.{same_bytes}
use Rattle.mr_spec.specs.Rows.{table_name, rows_of, rows_after}
use Rattle.mr_spec.specs.KeyChecks.{is_named}
use Rattle.mr_spec.specs.Database.{is_table, table_of, at_table, changed, with_changes, with_schema, with_body, with_commits, replay, changes_in}
use Rattle.mr_spec.specs.World.{World, changes_by, seen_by, view_of, with_txn, with_rows, with_commit, committed, with_number, with_building}
use Rattle.mr_spec.specs.SchemaSteps.{with_schema_change}
use Rattle.mr_binlog.specs.CommitFitting.{NumbersFit, HasSmallNumbers}
use Rattle.mr_fields.specs.Fitting.{GivenFits}
use Rattle.mr_sound.specs.Sound.{IsIn}
use Rattle.mr_sound.proofs.Basics.{tells, in-append, in-take}
use Rattle.mr_sound.proofs.RowLists.{left-by}
use Rattle.mr_sound.proofs.Tables.{changed-of, after, at_its, table-at, table-elsewhere}
use Rattle.mr_sound.proofs.Well.{mapped, found-behind, gone-without}
use Rattle.mr_sound.proofs.Schemas.{bytes-same, IsIdle}
use Rattle.mr_forms.specs.Forms.{IsOf64Bits}
use Rattle.mr_forms.proofs.SmallRows.{row-small, numbers-fit}
use Rattle.mr_forms.proofs.Bounded.{IsWithin}

-- ---- rows

pub small-within : (r : Row) → HasSmallNumbers r → IsWithin (2 ^ 64) r
small-within r h = record { hidden = given r.hidden h.hidden; stamp = given r.stamp h.stamp }
  where
    given : (o : Option ℕ) → GivenFits o → (n : ℕ) → o ≡ Some n → n < 2 ^ 64
    given None f n e = absurd (none-some n e)
    given (Some m) f n e = let same : m ≡ n = cc in subst (λ x. x < 2 ^ 64) same f

pub within-small : (r : Row) → IsWithin (2 ^ 64) r → HasSmallNumbers r
within-small r w = record { hidden = given r.hidden w.hidden; stamp = given r.stamp w.stamp }
  where
    given : (o : Option ℕ) → ((n : ℕ) → o ≡ Some n → n < 2 ^ 64) → GivenFits o
    given None f = tt
    given (Some m) f = f m refl

abbrev pub AreSmall : List Row → Type 0
AreSmall rows = (r : Row) → IsIn r rows → HasSmallNumbers r

abbrev TablesAreSmall : List Table → Type 0
TablesAreSmall ts = (n : List ℕ) (t : Table) → table_of n ts ≡ Some t → AreSmall t.rows

abbrev pub ChangesAreSmall : List Change → Type 0
ChangesAreSmall cs = (c : Change) (r : Row) → IsIn c cs → IsIn r (rows_of c) → HasSmallNumbers r

small-after : (c : Change) (t : Table) → AreSmall t.rows → ((r : Row) → IsIn r (rows_of c) → HasSmallNumbers r) → AreSmall (after c t).rows
small-after c t h k = elim (is_table (table_name c) t) as (λ b. AreSmall (cond b (record t { rows = rows_after t.def t.rows c }) t).rows) [
  | true ↦ λ r i. elim (left-by t.def t.rows c r i) [ inl j ↦ k r j | inr j ↦ h r j ]
  | false ↦ h
]

small-changed : (ts : List Table) (c : Change) → TablesAreSmall ts → ((r : Row) → IsIn r (rows_of c) → HasSmallNumbers r) → TablesAreSmall (changed ts c)
small-changed ts c h k n u e =
    let x = mapped (after c) (table_of n ts) u (sym (changed-of n ts c) ∙ e) in
    subst (λ (y : Table). AreSmall y.rows) x.2 (small-after c x.0 (h n x.0 x.1) k)

small-with : (cs : List Change) (ts : List Table) → TablesAreSmall ts → ChangesAreSmall cs → TablesAreSmall (with_changes ts cs)
small-with [] ts h k = h
small-with (c ∷ cs) ts h k = small-with cs (changed ts c) (small-changed ts c h (λ r i. k c r (inl refl) i)) (λ d r i j. k d r (inr i) j)

small-at : (m : List ℕ) (f : Table → Table) (ts : List Table) → ((t : Table) → (f t).def.name ≡ t.def.name) → ((t : Table) → (f t).rows ≡ t.rows) → TablesAreSmall ts → TablesAreSmall (at_table m f ts)
small-at m f ts names same h n u e =
    let x = mapped (at_its m f) (table_of n ts) u (sym (table-at n m f names ts) ∙ e) in
    subst (λ (y : Table). AreSmall y.rows) x.2 (by_table x.0 (is_table m x.0) (h n x.0 x.1))
  where
    by_table : (t : Table) (b : Bool) → AreSmall t.rows → AreSmall (if b then f t else t).rows
    by_table t true k = subst AreSmall (sym (same t)) k
    by_table t false k = k

small-schema : (ts : List Table) (s : Schema) → TablesAreSmall ts → TablesAreSmall (with_schema ts s)
small-schema ts (CreateTable def) h = λ n t e. elim (found-behind (is_table n) (record { def = def; rows = [] }) t ts e) [
  | inl f ↦ h n t f
  | inr same ↦ subst (λ (x : Table). AreSmall x.rows) same (λ r i. absurd i)
]
small-schema ts (DropTable name) h = λ n t e. elim (tells (same_bytes name n)) [
  | inl f ↦ absurd (none-some t (sym (ap (λ x. find (is_table x) (filter (λ t. not (is_table name t)) ts)) (sym (bytes-same name n f)) ∙ gone-without (is_table name) ts) ∙ e))
  | inr f ↦ h n t (sym (table-elsewhere n (DropTable name) ts f) ∙ e)
]
small-schema ts (CreateIndex name key) h = small-at name (λ t. record t { def = record t.def { secondary = t.def.secondary ++ key ∷ [] } }) ts (λ t. refl) (λ t. refl) h
small-schema ts (DropIndex name key) h = small-at name (λ t. record t { def = record t.def { secondary = filter (λ k. not (is_named key k)) t.def.secondary } }) ts (λ t. refl) (λ t. refl) h

small-body : (ts : List Table) (b : CommitBody) → TablesAreSmall ts → ChangesAreSmall (changes_in b) → TablesAreSmall (with_body ts b)
small-body ts (body.Rows cs) h k = small-with cs ts h k
small-body ts (body.Schema s) h k = small-schema ts s h

small-commits : (cs : List Commit) (ts : List Table) → TablesAreSmall ts → ((c : Commit) → IsIn c cs → NumbersFit c) → TablesAreSmall (with_commits ts cs)
small-commits [] ts h k = h
small-commits (c ∷ cs) ts h k = small-commits cs (with_body ts c.body) (small-body ts c.body h (row-small c (k c (inl refl)))) (λ d i. k d (inr i))

pub small-seen : (w : World) → IsOf64Bits w → TablesAreSmall (view_of w.commits w.here.txn)
small-seen w b = small-with (changes_by w.here.txn) (replay (take (seen_by w.here.txn (length w.commits)) w.commits))
    (small-commits (take (seen_by w.here.txn (length w.commits)) w.commits) [] (λ n t e. absurd (none-some t e)) (λ c i. b.commits c (in-take (seen_by w.here.txn (length w.commits)) c w.commits i)))
    (λ c r i j. b.held w.here c r (inl refl) i j)

-- ---- worlds

push-in : (cs : List Commit) (x c : Commit) → IsIn c (cs ++ x ∷ []) → IsIn c cs ⊎ (x ≡ c)
push-in cs x c i = elim (in-append c cs (x ∷ []) i) [ inl j ↦ inl j | inr j ↦ elim j [ inl e ↦ inr e | inr k ↦ absurd k ] ]

of-commit : (w : World) (h : Session) (b : CommitBody) → IsOf64Bits w → changes_by h.txn ≡ [] → NumbersFit (record { moment = w.moment; body = b }) → IsOf64Bits (with_commit b (record w { here = h }))
of-commit w h b x e n = record {
  commits = λ c i. elim (push-in w.commits (record { moment = w.moment; body = b }) c i) [ inl j ↦ x.commits c j | inr f ↦ subst NumbersFit f n ];
  held = λ s c r i j k. elim i [ inl f ↦ absurd (subst (IsIn c) (ap (λ (y : Session). changes_by y.txn) (sym f) ∙ e) j) | inr l ↦ x.held s c r (inr l) j k ];
  moment = x.moment;
}

pub of-rows : (w : World) (h : Session) (c : Change) (cs : List Change) → IsOf64Bits w → changes_by h.txn ≡ [] → ChangesAreSmall (c ∷ cs) → IsOf64Bits (with_commit (body.Rows (c ∷ cs)) (record w { here = h }))
of-rows w h c cs x e k = of-commit w h (body.Rows (c ∷ cs)) x e (numbers-fit (record { moment = w.moment; body = body.Rows (c ∷ cs) }) x.moment k)

pub of-here : (w : World) (h : Session) → IsOf64Bits w → ChangesAreSmall (changes_by h.txn) → IsOf64Bits (record w { here = h })
of-here w h x k = record {
  commits = x.commits;
  held = λ s c r i j l. elim i [ inl f ↦ k c r (subst (λ (y : Session). IsIn c (changes_by y.txn)) (sym f) j) l | inr m ↦ x.held s c r (inr m) j l ];
  moment = x.moment;
}

pub of-none : (w : World) → IsOf64Bits w → IsOf64Bits (with_txn None w)
of-none w x = of-here w (record w.here { txn = None }) x (λ c r i j. absurd i)

pub of-number : (w : World) (name : List ℕ) (n : ℕ) → IsOf64Bits w → IsOf64Bits (with_number name n w)
of-number w name n x = record { commits = x.commits; held = x.held; moment = x.moment }

pub of-building : (w : World) (name : List ℕ) (key : Option IndexDef) → IsOf64Bits w → IsOf64Bits (with_building name key w)
of-building w name key x = record { commits = x.commits; held = x.held; moment = x.moment }

pub of-committed : (w : World) → IsOf64Bits w → IsOf64Bits (committed w)
of-committed w x = by_changes (changes_by w.here.txn) (λ c r i j. x.held w.here c r (inl refl) i j)
  where
    by_changes : (xs : List Change) → ChangesAreSmall xs → IsOf64Bits (with_txn None (with_rows xs w))
    by_changes [] k = of-none w x
    by_changes (c ∷ cs) k = of-rows w (record w.here { txn = None }) c cs x refl k

pub of-schema : (w : World) (s : Schema) → IsIdle w → IsOf64Bits w → IsOf64Bits (with_schema_change s w)
of-schema w s idle x = of-commit w w.here (body.Schema s) x (ap changes_by idle) (numbers-fit (record { moment = w.moment; body = body.Schema s }) x.moment (λ d r i j. absurd i))
