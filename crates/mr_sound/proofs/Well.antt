-- What lawful commits make: tables with rows of their own keys, and definitions whose defaults fit.
use Rattle.std.proofs.Common.{◌≡◌, ◌⊎◌, inl, inr, ℕ, Bool, true, false, cond, List, [], ◌∷◌, ◌++◌, filter, find, Option, Some, None, option_map, Result, Ok, Err, IfOk, refl, ap, sym, subst, ◌∙◌}
use Rattle.std.specs.Prelude.{◌&&◌, not, if◌then◌else◌, length, nat_lt, is_some}
use Rattle.std.specs.List.{list_any, list_all}
use Rattle.std.specs.Option.{option_map_or}
use Rattle.std.proofs.lemmas.Option.{none-some}
use Rattle.std.proofs.lemmas.Slice.Eq.{bytes_eq-Decides}
use Rattle.mr_spec.specs.declared.world.Table.{Table}
use Rattle.mr_types.specs.declared.value.Value.{Value}
use Rattle.mr_types.specs.declared.value.Value.TheVariants.{Null}
use Rattle.mr_types.specs.declared.definition.ColumnDef.{ColumnDef}
use Rattle.mr_types.specs.declared.definition.IndexDef.{IndexDef}
use Rattle.mr_types.specs.declared.definition.TableDef.{TableDef}
use Rattle.mr_types.specs.declared.text.ColumnText.{ColumnText}
use Rattle.mr_types.specs.declared.text.KeyText.{KeyText}
use Rattle.mr_types.specs.declared.text.TableText.{TableText}
use Rattle.mr_types.specs.declared.row.Row.{Row}
use Rattle.mr_types.specs.declared.row.Change.{Change}
use Rattle.mr_types.specs.declared.row.Commit.{Commit}
use Rattle.mr_types.specs.declared.row.CommitBody.{CommitBody}
use Rattle.mr_types.specs.declared.row.CommitBody.TheVariants as body
use Rattle.mr_types.specs.declared.row.Schema.{Schema}
use Rattle.mr_types.specs.declared.row.Schema.TheVariants.{CreateTable, DropTable, CreateIndex, DropIndex}
use Rattle.mr_types.specs.Grammatical.{is_table_text, is_column_text, is_name, is_kind_text, is_literal, where_given}
use Rattle.mr_types.specs.Refusals.{◌>>=◌, refuse_where, some_or, in_turn, refused_as}
use Rattle.mr_types.specs.Values.{same_bytes, assign_to}
use Rattle.mr_spec.specs.Rows.{rows_after, table_name, same_primary, place_from}
use Rattle.mr_spec.specs.ColumnChecks.{kind_of, default_kept, checked_column, with_column, checked_columns, is_primary_column}
use Rattle.mr_spec.specs.KeyChecks.{is_named, with_key}
use Rattle.mr_spec.specs.TtlOptions.{ttl_of}
use Rattle.mr_spec.specs.Checks.{check}
use Rattle.mr_spec.specs.Database.{is_table, table_of, at_table, changed, with_changes, with_schema, with_body, with_commits}
use Rattle.mr_spec.specs.Lawful.{is_lawful_in, is_lawful_change, are_lawful, fits_column, LawfulSchema, LawfulBody, LawfulFrom, IsChecked}
use Rattle.mr_sound.specs.Sound.{IsIn}
use Rattle.mr_sound.proofs.Basics.{both, tells, all-in, in-append}
use Rattle.mr_sound.proofs.SameKeys.{same-any}
use Rattle.mr_sound.proofs.RowLists.{AreDistinct}
use Rattle.mr_sound.proofs.Tables.{name-of, changed-of, after, at_its, table-at, table-elsewhere}
use Rattle.mr_sound.proofs.Made.{good-after, ok-bound, ok-behind}
use Rattle.mr_sound.proofs.MadeRows.{then-ok}
use Rattle.mr_sound.proofs.Fits.{assigned-fits, kept-fits, null-kept}
use Rattle.mr_sound.proofs.NewFits.{HasFittingDefault, turn-keeps}
use Rattle.mr_sound.proofs.StatementsMade.{IsReady}

-- each table of a name is ready for statements
abbrev pub AreWell : List Table → Type 0
AreWell ts = (n : List ℕ) (t : Table) → table_of n ts ≡ Some t → IsReady t.def t.rows

-- ---- changes of rows

pub mapped : {A : Type 0} (f : A → A) (o : Option A) (y : A) → option_map f o ≡ Some y → (x : A) × (o ≡ Some x) × (f x ≡ y)
mapped f None y e = absurd (none-some y e)
mapped f (Some x) y e = (x, refl, let h : Some (f x) ≡ Some y = e in cc)

pub lawful-of : (m : ℕ) (c : Change) (o : Option Table) (t : Table) → o ≡ Some t → option_map_or (λ t. is_lawful_in m t c) o false ≡ true → is_lawful_in m t c ≡ true
lawful-of m c o t e h = subst (λ (x : Option Table). option_map_or (λ t. is_lawful_in m t c) x false ≡ true) e h

ready-after : (m : ℕ) (c : Change) (t : Table) → IsReady t.def t.rows → (is_table (table_name c) t ≡ true → is_lawful_in m t c ≡ true) → IsReady (after c t).def (after c t).rows
ready-after m c t r h = (elim (is_table (table_name c) t) as (λ b. is_table (table_name c) t ≡ b → IsReady (cond b (record t { rows = rows_after t.def t.rows c }) t).def (cond b (record t { rows = rows_after t.def t.rows c }) t).rows) [
  | true ↦ λ e. record { good = good-after t.def m t.rows c r.good (h e); defaults = r.defaults }
  | false ↦ λ e. r
]) refl

pub well-changed : (m : ℕ) (ts : List Table) (c : Change) → AreWell ts → is_lawful_change m ts c ≡ true → AreWell (changed ts c)
well-changed m ts c w e n u f =
    let k = mapped (after c) (table_of n ts) u (sym (changed-of n ts c) ∙ f) in
    let t = k.0 in
    subst (λ x. IsReady x.def x.rows) k.2 (ready-after m c t (w n t k.1) (λ is.
    let same : n ≡ table_name c = sym (name-of n ts t k.1) ∙ (bytes_eq-Decides t.def.name (table_name c)).0 is in
    lawful-of m c (table_of (table_name c) ts) t (ap (λ x. table_of x ts) (sym same) ∙ k.1) e))

pub well-with : (m : ℕ) (cs : List Change) (ts : List Table) → AreWell ts → are_lawful m ts cs ≡ true → AreWell (with_changes ts cs)
well-with m [] ts w e = w
well-with m (c ∷ cs) ts w e = let p = both (is_lawful_change m ts c) (are_lawful m (changed ts c) cs) e in well-with m cs (changed ts c) (well-changed m ts c w p.0) p.1

-- ---- definitions

defaults-kept : (c : ColumnText) (kind : _) (b : Bool) → where_given is_literal c.default ≡ true
    → IfOk (default_kept (record { kind = kind; nullable = b }) c.default) (λ o. HasFittingDefault (record { name = c.name; ty = record { kind = kind; nullable = b }; default = o }))
defaults-kept c kind b lit = by_text c.default lit
  where
    column : Option Value → ColumnDef
    column o = record { name = c.name; ty = record { kind = kind; nullable = b }; default = o }

    null_fits : (b2 : Bool) → b ≡ b2 → HasFittingDefault (record { name = c.name; ty = record { kind = kind; nullable = b }; default = if b2 then Some Null else None })
    null_fits true e = λ d f. let same : Null ≡ d = cc in ap (λ x. fits_column (record { name = c.name; ty = record { kind = kind; nullable = b }; default = Some Null }, x)) (sym same)
        ∙ kept-fits (record { name = c.name; ty = record { kind = kind; nullable = b }; default = Some Null }) Null (ap not e) (null-kept kind)
    null_fits false e = λ d f. absurd (none-some d f)

    assigned : (v : Value) (r : Result Value ℕ) → IfOk r (λ w. fits_column (record { name = c.name; ty = record { kind = kind; nullable = b }; default = None }, w) ≡ true)
        → IfOk (refused_as 1067 r >>= (λ d. Ok (Some d))) (λ o. HasFittingDefault (record { name = c.name; ty = record { kind = kind; nullable = b }; default = o }))
    assigned v (Ok w) h = λ d f. let same : w ≡ d = cc in ap (λ x. fits_column (record { name = c.name; ty = record { kind = kind; nullable = b }; default = None }, x)) (sym same) ∙ h
    assigned v (Err e) h = tt

    by_text : (o : Option Value) → where_given is_literal o ≡ true → IfOk (default_kept (record { kind = kind; nullable = b }) o) (λ o. HasFittingDefault (record { name = c.name; ty = record { kind = kind; nullable = b }; default = o }))
    by_text None e = null_fits b refl
    by_text (Some v) e = assigned v (assign_to (record { kind = kind; nullable = b }) v) (assigned-fits (record { name = c.name; ty = record { kind = kind; nullable = b }; default = None }) v e)

column-kept : (keys : List KeyText) (before : List ColumnDef) (c : ColumnText) → is_column_text c ≡ true → IfOk (checked_column keys before c) HasFittingDefault
column-kept keys before c e =
    let lit : where_given is_literal c.default ≡ true = (both (is_kind_text c.kind) _ (both (is_name c.name) _ e).1).1 in
    ok-behind HasFittingDefault (refuse_where 1060 (is_some (place_from 0 c.name before))) _ (λ x f.
    ok-bound HasFittingDefault (some_or 1074 (kind_of c.kind)) _ (λ kind g.
    then-ok (λ o. HasFittingDefault (record { name = c.name; ty = record { kind = kind; nullable = c.nullable && not (is_primary_column keys c.name) }; default = o })) HasFittingDefault (default_kept (record { kind = kind; nullable = c.nullable && not (is_primary_column keys c.name) }) c.default) _
    (defaults-kept c kind (c.nullable && not (is_primary_column keys c.name)) lit) (λ o h. h)))

abbrev Defaults : List ColumnDef → Type 0
Defaults cs = (c : ColumnDef) → IsIn c cs → HasFittingDefault c

one-more : (cs : List ColumnDef) (d : ColumnDef) → Defaults cs → HasFittingDefault d → Defaults (cs ++ d ∷ [])
one-more cs d h k c i = elim (in-append c cs (d ∷ []) i) [ inl j ↦ h c j | inr j ↦ last j ]
  where
    last : IsIn c (d ∷ []) → HasFittingDefault c
    last (inl e) = subst HasFittingDefault e k
    last (inr x) = absurd x

columns-kept : (text : TableText) → list_all is_column_text text.columns ≡ true → IfOk (checked_columns text) Defaults
columns-kept text e =
    ok-behind Defaults (refuse_where 1117 (nat_lt 64 (length text.columns))) _ (λ x f.
    turn-keeps Defaults (with_column text.keys) text.columns [] (λ before c h i.
    then-ok HasFittingDefault Defaults (checked_column text.keys before c) (λ d. Ok (before ++ d ∷ [])) (column-kept text.keys before c (all-in is_column_text c text.columns e i)) (λ d k. one-more before d h k)) (λ c i. absurd i))

check-kept : (text : TableText) → is_table_text text ≡ true → IfOk (check text) (λ def. Defaults def.columns)
check-kept text e =
    then-ok Defaults (λ def. Defaults def.columns) (checked_columns text) _ (columns-kept text (both (list_all is_column_text text.columns) _ (both (is_name text.name) _ e).1).0) (λ columns h.
    ok-bound (λ def. Defaults def.columns) (in_turn (with_key columns) (record { primary = None; secondary = [] }) text.keys) _ (λ keys f.
    ok-bound (λ def. Defaults def.columns) (ttl_of columns text.comment) _ (λ ttl g. h)))

checked-defaults : (def : TableDef) → IsChecked def → Defaults def.columns
checked-defaults def c = subst (λ (r : Result TableDef ℕ). IfOk r (λ d. Defaults d.columns)) c.2 (check-kept c.0 c.1)

distinct-any : (def : TableDef) (keys : List IndexDef) (rows : List Row) → AreDistinct def rows → AreDistinct (record def { secondary = keys }) rows
distinct-any def keys [] d = tt
distinct-any def keys (r ∷ rows) d = (others rows d.0, distinct-any def keys rows d.1)
  where
    others : (rs : List Row) → list_any (same_primary def r) rs ≡ false → list_any (same_primary (record def { secondary = keys }) r) rs ≡ false
    others rs e = any-same rs ∙ e
      where
        any-same : (rs : List Row) → list_any (same_primary (record def { secondary = keys }) r) rs ≡ list_any (same_primary def r) rs
        any-same [] = refl
        any-same (s ∷ rs) = rw (same-any def keys r s, any-same rs) refl

ready-any : (def : TableDef) (keys : List IndexDef) (rows : List Row) → IsReady def rows → IsReady (record def { secondary = keys }) rows
ready-any def keys rows r = record { good = record { distinct = distinct-any def keys rows r.good.distinct; each = r.good.each }; defaults = r.defaults }

-- ---- changes of the schema

pub found-behind : {A : Type 0} (p : A → Bool) (x y : A) (xs : List A) → find p (xs ++ x ∷ []) ≡ Some y → (find p xs ≡ Some y) ⊎ (x ≡ y)
found-behind p x y [] e = (elim (p x) as (λ b. cond b (Some x) None ≡ Some y → (None ≡ Some y) ⊎ (x ≡ y)) [ true ↦ λ f. inr cc | false ↦ λ f. inl f ]) e
found-behind p x y (z ∷ xs) e = (elim (p z) as (λ b. cond b (Some z) (find p (xs ++ x ∷ [])) ≡ Some y → (cond b (Some z) (find p xs) ≡ Some y) ⊎ (x ≡ y)) [ true ↦ λ f. inl f | false ↦ λ f. found-behind p x y xs f ]) e

pub gone-without : {A : Type 0} (p : A → Bool) (xs : List A) → find p (filter (λ x. not (p x)) xs) ≡ None
gone-without p [] = refl
gone-without p (x ∷ xs) = elim (tells (p x)) [
  | inl e ↦ ap (λ b. find p (cond (not b) (x ∷ filter (λ x. not (p x)) xs) (filter (λ x. not (p x)) xs))) e ∙ gone-without p xs
  | inr e ↦ ap (λ b. find p (cond (not b) (x ∷ filter (λ x. not (p x)) xs) (filter (λ x. not (p x)) xs))) e ∙ ap (λ b. cond b (Some x) (find p (filter (λ x. not (p x)) xs))) e ∙ gone-without p xs
]

well-at : (m : List ℕ) (f : Table → Table) (ts : List Table) → ((t : Table) → (f t).def.name ≡ t.def.name) → ((t : Table) → IsReady t.def t.rows → IsReady (f t).def (f t).rows) → AreWell ts → AreWell (at_table m f ts)
well-at m f ts names keeps w n u e =
    let k = mapped (at_its m f) (table_of n ts) u (sym (table-at n m f names ts) ∙ e) in
    subst (λ x. IsReady x.def x.rows) k.2 (either-table (is_table m k.0) (w n k.0 k.1))
  where
    either-table : {t : Table} (b : Bool) → IsReady t.def t.rows → IsReady (if b then f t else t).def (if b then f t else t).rows
    either-table {t} true r = keeps t r
    either-table {t} false r = r

well-schema : (m : ℕ) (ts : List Table) (s : Schema) → AreWell ts → LawfulSchema m ts s → AreWell (with_schema ts s)
well-schema m ts (CreateTable def) w l = λ n t e. elim (found-behind (is_table n) (record { def = def; rows = [] }) t ts e) [
  | inl f ↦ w n t f
  | inr same ↦ subst (λ x. IsReady x.def x.rows) same (record { good = record { distinct = tt; each = λ r i. absurd i }; defaults = checked-defaults def l.1 })
]
well-schema m ts (DropTable name) w l = λ n t e. elim (tells (same_bytes name n)) [
  | inl f ↦ absurd (none-some t (sym (ap (λ x. find (is_table x) (filter (λ t. not (is_table name t)) ts)) (sym ((bytes_eq-Decides name n).0 f)) ∙ gone-without (is_table name) ts) ∙ e))
  | inr f ↦ w n t (sym (table-elsewhere n (DropTable name) ts f) ∙ e)
]
well-schema m ts (CreateIndex name key) w l = well-at name (λ t. record t { def = record t.def { secondary = t.def.secondary ++ key ∷ [] } }) ts (λ t. refl) (λ t r. ready-any t.def (t.def.secondary ++ key ∷ []) t.rows r) w
well-schema m ts (DropIndex name key) w l = well-at name (λ t. record t { def = record t.def { secondary = filter (λ k. not (is_named key k)) t.def.secondary } }) ts (λ t. refl) (λ t r. ready-any t.def (filter (λ k. not (is_named key k)) t.def.secondary) t.rows r) w

-- ---- commits

pub well-body : (m : ℕ) (ts : List Table) (b : CommitBody) → AreWell ts → LawfulBody m ts b → AreWell (with_body ts b)
well-body m ts (body.Rows changes) w l = well-with m changes ts w l.1
well-body m ts (body.Schema s) w l = well-schema m ts s w l

pub well-commits : (m : ℕ) (cs : List Commit) (ts : List Table) → AreWell ts → LawfulFrom m ts cs → AreWell (with_commits ts cs)
well-commits m [] ts w l = w
well-commits m (c ∷ cs) ts w l = well-commits c.moment cs (with_body ts c.body) (well-body c.moment ts c.body w l.1) l.2

pub well-none : AreWell []
well-none n t e = absurd (none-some t e)
