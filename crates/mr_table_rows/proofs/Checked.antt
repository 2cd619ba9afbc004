-- Definitions that pass the checks have a column for their stamps.
use Rattle.std.proofs.Common.{◌≡◌, ℕ, Bool, true, false, true≢false, cond, List, [], ◌∷◌, ◌++◌, filter, Option, Some, None, Result, Ok, Err, refl, ap, subst, ◌∙◌, slice_get}
use Rattle.std.specs.Prelude.{not, if◌then◌else◌, length, nat_lt}
use Rattle.std.specs.List.{AllByRecursion}
use Rattle.std.specs.Option.{option_map_or}
use Rattle.mr_types.specs.declared.definition.ColumnDef.{ColumnDef}
use Rattle.mr_types.specs.declared.definition.TableDef.{TableDef}
use Rattle.mr_types.specs.declared.definition.Ttl.{Ttl}
use Rattle.mr_types.specs.declared.row.Change.{Change}
use Rattle.mr_types.specs.declared.row.Commit.{Commit}
use Rattle.mr_types.specs.declared.row.CommitBody.{CommitBody}
use Rattle.mr_types.specs.declared.row.CommitBody.TheVariants as body
use Rattle.mr_types.specs.declared.row.Schema.{Schema}
use Rattle.mr_types.specs.declared.row.Schema.TheVariants.{CreateTable, DropTable, CreateIndex, DropIndex}
use Rattle.mr_types.specs.declared.text.TableText.{TableText}
use Rattle.mr_types.specs.Refusals.{◌>>=◌, ◌>>◌, refuse_where, some_or, in_turn}
use Rattle.mr_spec.specs.declared.world.Table.{Table}
use Rattle.mr_spec.specs.Checks.{check}
use Rattle.mr_spec.specs.ColumnChecks.{checked_columns}
use Rattle.mr_spec.specs.Database.{is_table, at_table, changed, with_changes, with_schema, with_body, with_commits, replay}
use Rattle.mr_spec.specs.KeyChecks.{is_named, with_key}
use Rattle.mr_spec.specs.Lawful.{IsChecked, LawfulBody, LawfulSchema, LawfulFrom, IsLawful}
use Rattle.mr_spec.specs.Rows.{place_from, rows_after, table_name}
use Rattle.mr_spec.specs.TtlOptions.{options_of, may_hold_stamp, stamp_column, ttl_for, ttl_of}
use Rattle.mr_table_rows.specs.StampColumns.{HasStampColumn}

went : {A B : Type 0} (m : Result A ℕ) (f : A → Result B ℕ) (y : B) → (m >>= f) ≡ Ok y → (x : A) × (m ≡ Ok x) × (f x ≡ Ok y)
went (Ok x) f y e = (x, refl, e)
went (Err c) f y e = absurd cc

passed : {B : Type 0} (code : ℕ) (b : Bool) (r : Result B ℕ) (y : B) → (refuse_where code b >> r) ≡ Ok y → (b ≡ false) × (r ≡ Ok y)
passed code true r y e = absurd cc
passed code false r y e = (refl, e)

ok-is : {A : Type 0} (x y : A) → ◌≡◌ {A = Result A ℕ} (Ok x) (Ok y) → x ≡ y
ok-is x y e = cc

some-is : {A : Type 0} (x y : A) → ◌≡◌ {A = Option A} (Some x) (Some y) → x ≡ y
some-is x y e = cc

-- the place has a column that may hold stamps
abbrev IsHeldAt : List ColumnDef → ℕ → Type 0
IsHeldAt columns place = (column : ColumnDef) × (slice_get columns place ≡ Some column) × (may_hold_stamp column ≡ true)

held-at : (columns : List ColumnDef) (place : ℕ) (o : Option ColumnDef) → slice_get columns place ≡ o → not (option_map_or may_hold_stamp o false) ≡ false → IsHeldAt columns place
held-at columns place None e h = absurd (true≢false h)
held-at columns place (Some c) e h = (c, e, is-true (may_hold_stamp c) h)
  where
    is-true : (b : Bool) → not b ≡ false → b ≡ true
    is-true true f = refl
    is-true false f = absurd (true≢false f)

column-held : (columns : List ColumnDef) (name : List ℕ) (place : ℕ) → stamp_column columns name ≡ Ok place → IsHeldAt columns place
column-held columns name place e =
    let p = went (some_or 1054 (place_from 0 name columns)) (λ i. refuse_where 1064 (not (option_map_or may_hold_stamp (slice_get columns i) false)) >> Ok i) place e in
    let q = passed 1064 (not (option_map_or may_hold_stamp (slice_get columns p.0) false)) (Ok p.0) place p.2 in
    subst (IsHeldAt columns) (ok-is p.0 place q.1) (held-at columns p.0 (slice_get columns p.0) refl q.0)

-- a TTL that names a column has one that may hold stamps
abbrev IsHeld : List ColumnDef → Option Ttl → Type 0
IsHeld columns ttl = (t : Ttl) (place : ℕ) → ttl ≡ Some t → t.column ≡ Some place → IsHeldAt columns place

ttl-held : (columns : List ColumnDef) (duration : Option ℕ) (column : Option (List ℕ)) (ttl : Option Ttl) → ttl_for columns duration column ≡ Ok ttl → IsHeld columns ttl
ttl-held columns None column ttl e = λ t place f g. absurd (nothing t (ok-is None ttl e ∙ f))
  where
    nothing : (t : Ttl) → ◌≡◌ {A = Option Ttl} None (Some t) → ⊥
    nothing t h = cc
ttl-held columns (Some n) None ttl e = λ t place f g. nothing place (ap (λ (u : Ttl). u.column) (some-is (record { duration = n; column = None }) t (ok-is (Some (record { duration = n; column = None })) ttl e ∙ f)) ∙ g)
  where
    nothing : (place : ℕ) {A : Type 0} → ◌≡◌ {A = Option ℕ} None (Some place) → A
    nothing place h = absurd cc
ttl-held columns (Some n) (Some name) ttl e =
    let p = went (stamp_column columns name) (λ i. Ok (Some (record { duration = n; column = Some i }))) ttl e in
    λ t place f g.
    let same : record { duration = n; column = Some p.0 } ≡ t = some-is (record { duration = n; column = Some p.0 }) t (ok-is (Some (record { duration = n; column = Some p.0 })) ttl p.2 ∙ f) in
    let at : p.0 ≡ place = some-is p.0 place (ap (λ (u : Ttl). u.column) same ∙ g) in
    subst (IsHeldAt columns) at (column-held columns name p.0 p.1)

of-comment : (columns : List ColumnDef) (comment : List ℕ) (ttl : Option Ttl) → ttl_of columns comment ≡ Ok ttl → IsHeld columns ttl
of-comment columns comment ttl e =
    let p = passed 1064 (nat_lt 1024 (length comment)) (options_of comment >>= λ o. ttl_for columns o.duration o.column) ttl e in
    let q = went (options_of comment) (λ o. ttl_for columns o.duration o.column) ttl p.1 in
    ttl-held columns q.0.duration q.0.column ttl q.2

of-check : (text : TableText) (def : TableDef) → check text ≡ Ok def → HasStampColumn def
of-check text def e =
    let c = went (checked_columns text) _ def e in
    let k = went (in_turn (with_key c.0) (record { primary = None; secondary = [] }) text.keys) _ def c.2 in
    let t = went (ttl_of c.0 text.comment) _ def k.2 in
    subst HasStampColumn (ok-is _ def t.2) (of-comment c.0 text.comment t.0 t.1)

pub checked-has : (def : TableDef) → IsChecked def → HasStampColumn def
checked-has def h = of-check h.0 def h.2

-- ---- tables

abbrev Has : Table → Type 0
Has t = HasStampColumn t.def

mapped : (name : List ℕ) (f : Table → Table) (ts : List Table) → ((t : Table) → Has t → Has (f t)) → AllByRecursion Has ts → AllByRecursion Has (at_table name f ts)
mapped name f [] h all = tt
mapped name f (t ∷ ts) h all = ((elim (is_table name t) as (λ b. Has (if b then f t else t)) [ true ↦ h t all.0 | false ↦ all.0 ]), mapped name f ts h all.1)

kept : (p : Table → Bool) (ts : List Table) → AllByRecursion Has ts → AllByRecursion Has (filter p ts)
kept p [] all = tt
kept p (t ∷ ts) all = elim (p t) as (λ b. AllByRecursion Has (cond b (t ∷ filter p ts) (filter p ts))) [
  | true ↦ (all.0, kept p ts all.1)
  | false ↦ kept p ts all.1
]

one-more : (ts : List Table) (t : Table) → AllByRecursion Has ts → Has t → AllByRecursion Has (ts ++ t ∷ [])
one-more [] t all here = (here, tt)
one-more (u ∷ ts) t all here = (all.0, one-more ts t all.1 here)

by-changes : (cs : List Change) (ts : List Table) → AllByRecursion Has ts → AllByRecursion Has (with_changes ts cs)
by-changes [] ts all = all
by-changes (c ∷ cs) ts all = by-changes cs (changed ts c) (mapped (table_name c) (λ t. record t { rows = rows_after t.def t.rows c }) ts (λ t h. h) all)

by-schema : (moment : ℕ) (s : Schema) (ts : List Table) → LawfulSchema moment ts s → AllByRecursion Has ts → AllByRecursion Has (with_schema ts s)
by-schema moment (CreateTable def) ts h all = one-more ts (record { def = def; rows = [] }) all (checked-has def h.1)
by-schema moment (DropTable name) ts h all = kept (λ t. not (is_table name t)) ts all
by-schema moment (CreateIndex name key) ts h all = mapped name (λ t. record t { def = record t.def { secondary = t.def.secondary ++ key ∷ [] } }) ts (λ t h. h) all
by-schema moment (DropIndex name key) ts h all = mapped name (λ t. record t { def = record t.def { secondary = filter (λ k. not (is_named key k)) t.def.secondary } }) ts (λ t h. h) all

by-body : (moment : ℕ) (b : CommitBody) (ts : List Table) → LawfulBody moment ts b → AllByRecursion Has ts → AllByRecursion Has (with_body ts b)
by-body moment (body.Rows cs) ts h all = by-changes cs ts all
by-body moment (body.Schema s) ts h all = by-schema moment s ts h all

by-commits : (moment : ℕ) (cs : List Commit) (ts : List Table) → LawfulFrom moment ts cs → AllByRecursion Has ts → AllByRecursion Has (with_commits ts cs)
by-commits moment [] ts h all = all
by-commits moment (c ∷ cs) ts h all = by-commits c.moment cs (with_body ts c.body) h.2 (by-body c.moment c.body ts h.1 all)

pub lawful-has : (commits : List Commit) → IsLawful commits → AllByRecursion (λ t. HasStampColumn t.def) (replay commits)
lawful-has commits h = by-commits 0 commits [] h tt
