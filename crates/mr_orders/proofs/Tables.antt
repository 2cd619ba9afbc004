-- The rows of each table of a view ascend.
use Rattle.std.proofs.Common.{◌≡◌, ℕ, Bool, true, false, cond, List, [], ◌∷◌, ◌++◌, filter, find, Option, Some, refl, sym, ◌∙◌, ap, subst, inl, inr, length, take, unwrap_or}
use Rattle.std.specs.Prelude.{not, if◌then◌else◌}
use Rattle.std.specs.List.{AllByRecursion}
use Rattle.std.specs.List.Sorted.{IsPermutation}
use Rattle.std.specs.Ordering.{is_lt, is_eq, ordering_reverse, ordering_then, nat_cmp}
use Rattle.std.specs.declared.cmp.Ordering.{Ordering}
use Rattle.std.specs.declared.cmp.Ordering.TheVariants.{Less, Equal, Greater}
use Rattle.std.proofs.lemmas.Bool.{cases_Bool}
use Rattle.mr_types.specs.declared.definition.IndexDef.{IndexDef}
use Rattle.mr_types.specs.declared.definition.TableDef.{TableDef}
use Rattle.mr_types.specs.declared.row.Row.{Row}
use Rattle.mr_types.specs.declared.row.Change.{Change}
use Rattle.mr_types.specs.declared.row.Change.TheVariants.{Insert, Update, Delete}
use Rattle.mr_types.specs.declared.row.Commit.{Commit}
use Rattle.mr_types.specs.declared.row.CommitBody.{CommitBody}
use Rattle.mr_types.specs.declared.row.CommitBody.TheVariants as body
use Rattle.mr_types.specs.declared.row.Schema.{Schema}
use Rattle.mr_types.specs.declared.row.Schema.TheVariants.{CreateTable, DropTable, CreateIndex, DropIndex}
use Rattle.mr_types.specs.declared.statement.Select.{Select}
use Rattle.mr_types.specs.Order.{value_cmp}
use Rattle.mr_spec.specs.declared.world.Table.{Table}
use Rattle.mr_spec.specs.declared.world.Txn.{Txn}
use Rattle.mr_spec.specs.Database.{is_table, table_of, at_table, changed, with_changes, with_schema, with_body, with_commits, replay}
use Rattle.mr_spec.specs.KeyChecks.{is_named}
use Rattle.mr_spec.specs.Rows.{kind_at, value_at, columns_cmp, primary_cmp, same_primary, placed, without, put, rows_after, is_visible, visible, table_name}
use Rattle.mr_spec.specs.Select.{selected}
use Rattle.mr_spec.specs.Truth.{Where}
use Rattle.mr_spec.specs.World.{seen_by, changes_by, view_of}
use Rattle.mr_orders.specs.Orders.{IsAscending, selected_of}
use Rattle.mr_orders.proofs.Totals.{primary_total}
use Rattle.mr_orders.proofs.Rising.{one-ascending}

-- ---- the rows of one table

each-kept : {A : Type 0} (P : A → Type 0) (p : A → Bool) (xs : List A) → AllByRecursion P xs → AllByRecursion P (filter p xs)
each-kept P p [] all = tt
each-kept P p (x ∷ xs) all = elim (p x) as (λ b. AllByRecursion P (cond b (x ∷ filter p xs) (filter p xs))) [
  | true ↦ (all.0, each-kept P p xs all.1)
  | false ↦ each-kept P p xs all.1
]

pub ascends-kept : (def : TableDef) (p : Row → Bool) (rs : List Row) → IsAscending def rs → IsAscending def (filter p rs)
ascends-kept def p [] all = tt
ascends-kept def p (r ∷ rs) all = elim (p r) as (λ b. IsAscending def (cond b (r ∷ filter p rs) (filter p rs))) [
  | true ↦ (each-kept (λ s. primary_cmp def r s ≡ Less) p rs all.0, ascends-kept def p rs all.1)
  | false ↦ ascends-kept def p rs all.1
]

each-placed : (def : TableDef) (P : Row → Type 0) (row : Row) (rs : List Row) → P row → AllByRecursion P rs → AllByRecursion P (placed def row rs)
each-placed def P row [] here all = (here, tt)
each-placed def P row (r ∷ rs) here all = elim (is_lt (primary_cmp def row r)) as (λ b. AllByRecursion P (cond b (row ∷ r ∷ rs) (r ∷ placed def row rs))) [
  | true ↦ (here, all)
  | false ↦ (all.0, each-placed def P row rs here all.1)
]

less-of : (a : Ordering) → is_lt a ≡ true → a ≡ Less
less-of Less e = refl
less-of Equal e = cc
less-of Greater e = cc

less-back : (a b : Ordering) → b ≡ ordering_reverse a → is_lt a ≡ false → is_eq a ≡ false → b ≡ Less
less-back Less b e f g = cc
less-back Equal b e f g = cc
less-back Greater b e f g = e

pub before-all : (def : TableDef) (x y : Row) (ys : List Row) → primary_cmp def x y ≡ Less → AllByRecursion (λ s. primary_cmp def y s ≡ Less) ys → AllByRecursion (λ s. primary_cmp def x s ≡ Less) ys
before-all def x y [] less all = tt
before-all def x y (z ∷ zs) less all = ((primary_total def).trans x y z less all.0, before-all def x y zs less all.1)

ascends-placed : (def : TableDef) (row : Row) (rs : List Row) → AllByRecursion (λ s. same_primary def row s ≡ false) rs → IsAscending def rs → IsAscending def (placed def row rs)
ascends-placed def row [] apart all = (tt, tt)
ascends-placed def row (r ∷ rs) apart all = elim (cases_Bool (is_lt (primary_cmp def row r))) [
  | inl lt ↦ let less : primary_cmp def row r ≡ Less = less-of (primary_cmp def row r) lt in rw lt ((less, before-all def row r rs less all.0), all)
  | inr ge ↦ rw ge (each-placed def (λ s. primary_cmp def r s ≡ Less) row rs (less-back (primary_cmp def row r) (primary_cmp def r row) ((primary_total def).antisymm r row) ge apart.0) all.0, ascends-placed def row rs apart.1 all.1)
]

not-true : (b : Bool) → not b ≡ true → b ≡ false
not-true true e = cc
not-true false e = refl

pub none-kept : (p : Row → Bool) (rs : List Row) → AllByRecursion (λ s. p s ≡ false) (filter (λ s. not (p s)) rs)
none-kept p [] = tt
none-kept p (r ∷ rs) = elim (cases_Bool (p r)) [
  | inl e ↦ rw e (none-kept p rs)
  | inr e ↦ rw e (e, none-kept p rs)
]

pub ascends-put : (def : TableDef) (row : Row) (rs : List Row) → IsAscending def rs → IsAscending def (put def row rs)
ascends-put def row rs all = ascends-placed def row (without def row rs) (none-kept (same_primary def row) rs) (ascends-kept def (λ r. not (same_primary def row r)) rs all)

pub ascends-after : (def : TableDef) (rs : List Row) (c : Change) → IsAscending def rs → IsAscending def (rows_after def rs c)
ascends-after def rs (Insert table new) all = ascends-put def new rs all
ascends-after def rs (Update table old new) all = ascends-put def new (without def old rs) (ascends-kept def (λ r. not (same_primary def old r)) rs all)
ascends-after def rs (Delete table old) all = ascends-kept def (λ r. not (same_primary def old r)) rs all

-- ---- secondary keys don't count

columns-any : (def : TableDef) (keys : List IndexDef) (is : List ℕ) (r s : Row) → columns_cmp (record def { secondary = keys }) is r s ≡ columns_cmp def is r s
columns-any def keys [] r s = refl
columns-any def keys (i ∷ is) r s = ap (ordering_then (value_cmp (kind_at def i) (value_at r i) (value_at s i))) (columns-any def keys is r s)

primary-any : (def : TableDef) (keys : List IndexDef) (r s : Row) → primary_cmp (record def { secondary = keys }) r s ≡ primary_cmp def r s
primary-any def keys r s = ap (λ o. ordering_then o (nat_cmp (unwrap_or r.hidden 0) (unwrap_or s.hidden 0))) (columns-any def keys def.primary.columns r s)

before-any : (def : TableDef) (keys : List IndexDef) (r : Row) (rs : List Row) → AllByRecursion (λ s. primary_cmp def r s ≡ Less) rs → AllByRecursion (λ s. primary_cmp (record def { secondary = keys }) r s ≡ Less) rs
before-any def keys r [] all = tt
before-any def keys r (s ∷ rs) all = (primary-any def keys r s ∙ all.0, before-any def keys r rs all.1)

ascends-any : (def : TableDef) (keys : List IndexDef) (rs : List Row) → IsAscending def rs → IsAscending (record def { secondary = keys }) rs
ascends-any def keys [] all = tt
ascends-any def keys (r ∷ rs) all = (before-any def keys r rs all.0, ascends-any def keys rs all.1)

-- ---- the tables

abbrev Ascends : Table → Type 0
Ascends t = IsAscending t.def t.rows

pub mapped : (name : List ℕ) (f : Table → Table) (ts : List Table) → ((t : Table) → Ascends t → Ascends (f t)) → AllByRecursion Ascends ts → AllByRecursion Ascends (at_table name f ts)
mapped name f [] h all = tt
mapped name f (t ∷ ts) h all = ((elim (is_table name t) as (λ b. Ascends (if b then f t else t)) [ true ↦ h t all.0 | false ↦ all.0 ]), mapped name f ts h all.1)

pub with-changes : (cs : List Change) (ts : List Table) → AllByRecursion Ascends ts → AllByRecursion Ascends (with_changes ts cs)
with-changes [] ts all = all
with-changes (c ∷ cs) ts all = with-changes cs (changed ts c) (mapped (table_name c) (λ t. record t { rows = rows_after t.def t.rows c }) ts (λ t. ascends-after t.def t.rows c) all)

pub one-more : (ts : List Table) (t : Table) → AllByRecursion Ascends ts → Ascends t → AllByRecursion Ascends (ts ++ t ∷ [])
one-more [] t all here = (here, tt)
one-more (u ∷ ts) t all here = (all.0, one-more ts t all.1 here)

pub with-schema : (s : Schema) (ts : List Table) → AllByRecursion Ascends ts → AllByRecursion Ascends (with_schema ts s)
with-schema (CreateTable def) ts all = one-more ts (record { def = def; rows = [] }) all tt
with-schema (DropTable name) ts all = each-kept Ascends (λ t. not (is_table name t)) ts all
with-schema (CreateIndex name key) ts all = mapped name (λ t. record t { def = record t.def { secondary = t.def.secondary ++ key ∷ [] } }) ts (λ t. ascends-any t.def (t.def.secondary ++ key ∷ []) t.rows) all
with-schema (DropIndex name key) ts all = mapped name (λ t. record t { def = record t.def { secondary = filter (λ k. not (is_named key k)) t.def.secondary } }) ts (λ t. ascends-any t.def (filter (λ k. not (is_named key k)) t.def.secondary) t.rows) all

pub with-body : (b : CommitBody) (ts : List Table) → AllByRecursion Ascends ts → AllByRecursion Ascends (with_body ts b)
with-body (body.Rows cs) ts all = with-changes cs ts all
with-body (body.Schema s) ts all = with-schema s ts all

pub with-commits : (cs : List Commit) (ts : List Table) → AllByRecursion Ascends ts → AllByRecursion Ascends (with_commits ts cs)
with-commits [] ts all = all
with-commits (c ∷ cs) ts all = with-commits cs (with_body ts c.body) (with-body c.body ts all)

pub views-ascend : (commits : List Commit) (txn : Option Txn) → AllByRecursion (λ t. IsAscending t.def t.rows) (view_of commits txn)
views-ascend commits txn = with-changes (changes_by txn) (replay (take (seen_by txn (length commits)) commits)) (with-commits (take (seen_by txn (length commits)) commits) [] tt)

-- ---- selections

pub found-ascends : (name : List ℕ) (ts : List Table) (t : Table) → AllByRecursion Ascends ts → table_of name ts ≡ Some t → IsAscending t.def t.rows
found-ascends name [] t all e = absurd cc
found-ascends name (u ∷ ts) t all e = (elim (is_table name u) as (λ b. cond b (Some u) (find (is_table name) ts) ≡ Some t → IsAscending t.def t.rows) [
  | true ↦ λ h. let same : u ≡ t = cc in subst Ascends same all.0
  | false ↦ λ h. found-ascends name ts t all.1 h
]) e

pub view-selection : (commits : List Commit) (txn : Option Txn) (name : List ℕ) (t : Table) (moment : ℕ) (s : Select) (c : Where) (rows : List Row) → table_of name (view_of commits txn) ≡ Some t → IsPermutation rows (visible t.def moment t.rows) → selected t.def s c (visible t.def moment t.rows) ≡ selected_of t.def s c rows
view-selection commits txn name t moment s c rows e p =
    let all : IsAscending t.def (visible t.def moment t.rows) = ascends-kept t.def (is_visible t.def moment) t.rows (found-ascends name (view_of commits txn) t (views-ascend commits txn) e) in
    ap (selected t.def s c) (sym (one-ascending t.def rows (visible t.def moment t.rows) p all))
