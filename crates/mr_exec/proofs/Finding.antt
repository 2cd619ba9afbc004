-- What the aggregates find in rows in any order is what they are of the rows in order.
use Rattle.std.proofs.Common.{◌≡◌, ◌+◌, ◌<◌, ℕ, take, drop, get_or, set, subst, add-one, IfSome, Bool, true, false, cond, List, [], ◌∷◌, ◌++◌, filter, map, length, Option, Some, None, refl, sym, ◌∙◌, ap, arith, append_assoc, append-nil}
use Rattle.std.specs.Prelude.{fold, not, pos, zero, suc}
use Rattle.std.specs.Cmp.{IsTotalOrder}
use Rattle.std.specs.Ordering.{is_gt, is_lt, ordering_then, ordering_reverse}
use Rattle.std.specs.declared.cmp.Ordering.{Ordering}
use Rattle.std.specs.declared.cmp.Ordering.TheVariants.{Less, Equal, Greater}
use Rattle.mr_types.specs.declared.value.Value.{Value}
use Rattle.mr_types.specs.declared.value.Value.TheVariants.{Number}
use Rattle.mr_types.specs.declared.definition.TableDef.{TableDef}
use Rattle.mr_types.specs.declared.row.Row.{Row}
use Rattle.mr_types.specs.Values.{is_null}
use Rattle.mr_types.specs.Order.{value_cmp}
use Rattle.mr_spec.specs.Rows.{kind_at, value_at, primary_cmp}
use Rattle.mr_spec.specs.Select.{sorted, sorted_in, first_by, values_of}
use Rattle.mr_orders.proofs.Totals.{primary_total}
use Rattle.mr_bound.specs.declared.bound.BoundOrder.{BoundOrder}
use Rattle.mr_bound.specs.declared.bound.BoundAggregate.{BoundAggregate}
use Rattle.mr_bound.specs.declared.bound.BoundAggregate.TheVariants as aggregate
use Rattle.mr_bound.specs.BoundSelects.{order_by, reply_by, aggregate_of, by_key}
use Rattle.mr_exec.specs.declared.found.Found.{Found}
use Rattle.mr_exec.specs.declared.found.Found.TheVariants.{Count, First}
use Rattle.mr_exec.specs.Gathering.{found_none, first_of, first_with, found_with, found_in, first_value, value_found}
use Rattle.mr_exec.specs.Sources.{Stepped}
use Rattle.mr_exec.proofs.Kept.{keeps-sorted}
use Rattle.mr_exec.proofs.Twice.{at-once}
use Rattle.mr_exec.proofs.Behind.{sorted-behind, one-more}
use Rattle.mr_exec.proofs.Replying.{order-total, reply-total}

abbrev first-row : List Row → Option Row
first-row [] = None
first-row (x ∷ xs) = Some x

-- the first of rows by an order, from one before them on
abbrev first-in : (Row → Row → Ordering) → Option Row → List Row → Option Row
first-in cmp best rows = fold (λ b r. Some (first_of cmp b r)) best rows

first-behind : (cmp : Row → Row → Ordering) (x : Row) (xs : List Row) → first-row (sorted-behind cmp x xs) ≡ Some (first_of cmp (first-row xs) x)
first-behind cmp x [] = refl
first-behind cmp x (y ∷ ys) = elim (is_lt (cmp x y)) as (λ b. first-row (cond b (x ∷ y ∷ ys) (y ∷ sorted-behind cmp x ys)) ≡ Some (cond b x y)) [
  | true ↦ refl
  | false ↦ refl
]

first-on : (cmp : Row → Row → Ordering) (o : IsTotalOrder cmp) (seen xs : List Row) → first-in cmp (first-row (sorted cmp seen)) xs ≡ first-row (sorted cmp (seen ++ xs))
first-on cmp o seen [] = ap (λ l. first-row (sorted cmp l)) (sym (append-nil seen))
first-on cmp o seen (x ∷ xs) =
    ap (λ b. first-in cmp b xs) (sym (first-behind cmp x (sorted cmp seen)) ∙ ap first-row (sym (one-more cmp o seen x)))
    ∙ first-on cmp o (seen ++ x ∷ []) xs
    ∙ ap (λ l. first-row (sorted cmp l)) (append_assoc seen (x ∷ []) xs)

-- it is the first of the rows in order
first-sorted : (cmp : Row → Row → Ordering) (o : IsTotalOrder cmp) (xs : List Row) → first-in cmp None xs ≡ first-row (sorted cmp xs)
first-sorted cmp o xs = first-on cmp o [] xs

-- ---- the rows whose value isn't NULL

abbrev has-value : ℕ → Row → Bool
has-value i r = not (is_null (value_at r i))

first-kept : (def : TableDef) (order : BoundOrder) (best : Option Row) (rows : List Row) → fold (first_with def order) best rows ≡ first-in (reply_by def (order ∷ [])) best (filter (has-value order.column) rows)
first-kept def order best [] = refl
first-kept def order best (r ∷ rs) = elim (is_null (value_at r order.column)) as (λ b. fold (first_with def order) (cond b best (Some (first_of (reply_by def (order ∷ [])) best r))) rs ≡ first-in (reply_by def (order ∷ [])) best (cond (not b) (r ∷ filter (has-value order.column) rs) (filter (has-value order.column) rs))) [
  | true ↦ first-kept def order best rs
  | false ↦ first-kept def order (Some (first_of (reply_by def (order ∷ [])) best r)) rs
]

values-kept : (i : ℕ) (rows : List Row) → values_of i rows ≡ map (λ r. value_at r i) (filter (has-value i) rows)
values-kept i [] = refl
values-kept i (r ∷ rs) = elim (has-value i r) as (λ b. cond b (value_at r i ∷ values_of i rs) (values_of i rs) ≡ map (λ s. value_at s i) (cond b (r ∷ filter (has-value i) rs) (filter (has-value i) rs))) [
  | true ↦ ap (λ vs. value_at r i ∷ vs) (values-kept i rs)
  | false ↦ values-kept i rs
]

-- ---- the value of the first row

module _ (before : Value → Value → Bool) (cmp : Row → Row → Ordering) (i : ℕ) (alike : (r s : Row) → is_lt (cmp r s) ≡ before (value_at r i) (value_at s i)) where
  by-test : (best r : Row) (rs : List Row) (b : Bool) → ((x : Row) → fold (λ b x. cond (before x b) x b) (value_at x i) (map (λ r. value_at r i) rs) ≡ first_value i (first-in cmp (Some x) rs))
      → fold (λ b x. cond (before x b) x b) (cond b (value_at r i) (value_at best i)) (map (λ r. value_at r i) rs) ≡ first_value i (first-in cmp (Some (cond b r best)) rs)
  by-test best r rs true more = more r
  by-test best r rs false more = more best

  value-first : (best : Row) (rs : List Row) → fold (λ b x. cond (before x b) x b) (value_at best i) (map (λ r. value_at r i) rs) ≡ first_value i (first-in cmp (Some best) rs)
  value-first best [] = refl
  value-first best (r ∷ rs) =
      by-test best r rs (before (value_at r i) (value_at best i)) (λ x. value-first x rs) ∙ ap (λ b. first_value i (first-in cmp (Some (cond b r best)) rs)) (sym (alike r best))

  value-of-first : (rs : List Row) → first_by before (map (λ r. value_at r i) rs) ≡ first_value i (first-in cmp None rs)
  value-of-first [] = refl
  value-of-first (r ∷ rs) = value-first r rs

-- the first value of a column of rows in order is that of the row that is found
first-found : (def : TableDef) (order : BoundOrder) (before : Value → Value → Bool) → ((r s : Row) → is_lt (order_by def (order ∷ []) r s) ≡ before (value_at r order.column) (value_at s order.column)) → (rows : List Row)
    → first_value order.column (fold (first_with def order) None rows) ≡ first_by before (values_of order.column (by_key def rows))
first-found def order before alike rows =
    let some : List Row = filter (has-value order.column) rows in
    let by-order = order_by def (order ∷ []) in
    let total = order-total def (order ∷ []) in
    ap (first_value order.column) (first-kept def order None rows ∙ first-sorted (reply_by def (order ∷ [])) (reply-total def (order ∷ [])) some
    ∙ ap first-row (sym (at-once by-order (primary_cmp def) total (primary_total def) some)) ∙ sym (first-sorted by-order total (sorted (primary_cmp def) some)))
    ∙ sym (value-of-first before by-order order.column alike (sorted (primary_cmp def) some))
    ∙ ap (λ l. first_by before (map (λ r. value_at r order.column) l)) (sym (keeps-sorted (primary_cmp def) (primary_total def) (has-value order.column) rows))
    ∙ ap (first_by before) (sym (values-kept order.column (by_key def rows)))

-- ---- the aggregates

least : (a : Ordering) → is_lt (ordering_then a Equal) ≡ is_lt a
least Less = refl
least Equal = refl
least Greater = refl

greatest : (a : Ordering) → is_lt (ordering_then (ordering_reverse a) Equal) ≡ is_gt a
greatest Less = refl
greatest Equal = refl
greatest Greater = refl

finds-first : (def : TableDef) (order : BoundOrder) (best : Option Row) (rows : List Row) → value_found (fold (found_with def) (First order best) rows) ≡ first_value order.column (fold (first_with def order) best rows)
finds-first def order best [] = refl
finds-first def order best (r ∷ rs) = finds-first def order (first_with def order best r) rs

counts : (def : TableDef) (n : ℕ) (rows : List Row) → value_found (fold (found_with def) (Count (pos n)) rows) ≡ Number (pos (n + length rows))
counts def n [] = ap (λ k. Number (pos k)) (omega arith)
counts def n (r ∷ rs) = counts def (n + 1) rs ∙ ap (λ k. Number (pos k)) (omega arith)

long-in : (cmp : Row → Row → Ordering) (x : Row) (xs : List Row) → length (sorted_in cmp x xs) ≡ suc (length xs)
long-in cmp x [] = refl
long-in cmp x (y ∷ ys) = elim (is_gt (cmp x y)) as (λ b. length (cond b (y ∷ sorted_in cmp x ys) (x ∷ y ∷ ys)) ≡ suc (suc (length ys))) [
  | true ↦ ap suc (long-in cmp x ys)
  | false ↦ refl
]

long : (cmp : Row → Row → Ordering) (xs : List Row) → length (sorted cmp xs) ≡ length xs
long cmp [] = refl
long cmp (x ∷ xs) = long-in cmp x (sorted cmp xs) ∙ ap suc (long cmp xs)

finds : (def : TableDef) (rows : List Row) (a : BoundAggregate) → value_found (found_in def rows a) ≡ aggregate_of def (by_key def rows) a
finds def rows aggregate.Count =
    let all : 0 + length rows ≡ length rows = omega arith in
    counts def 0 rows ∙ ap (λ k. Number (pos k)) (all ∙ sym (long (primary_cmp def) rows))
finds def rows (aggregate.Min i) =
    finds-first def (record { column = i; descending = false }) None rows
    ∙ first-found def (record { column = i; descending = false }) (λ a b. is_lt (value_cmp (kind_at def i) a b)) (λ r s. least (value_cmp (kind_at def i) (value_at r i) (value_at s i))) rows
finds def rows (aggregate.Max i) =
    finds-first def (record { column = i; descending = true }) None rows
    ∙ first-found def (record { column = i; descending = true }) (λ a b. is_gt (value_cmp (kind_at def i) a b)) (λ r s. greatest (value_cmp (kind_at def i) (value_at r i) (value_at s i))) rows

pub values-found : (def : TableDef) (rows : List Row) (list : List BoundAggregate) → map value_found (map (found_in def rows) list) ≡ map (aggregate_of def (by_key def rows)) list
values-found def rows [] = refl
values-found def rows (a ∷ more) = ap (λ v. v ∷ map value_found (map (found_in def rows) more)) (finds def rows a) ∙ ap (λ vs. aggregate_of def (by_key def rows) a ∷ vs) (values-found def rows more)

-- ---- one row after another

pub one-row-found : (def : TableDef) (r : Row) (rest : List Row) (all : List Found) → map (λ f. fold (found_with def) f rest) (map (λ f. found_with def f r) all) ≡ map (λ f. fold (found_with def) f (r ∷ rest)) all
one-row-found def r rest [] = refl
one-row-found def r rest (f ∷ fs) = ap (λ l. fold (found_with def) (found_with def f r) rest ∷ l) (one-row-found def r rest fs)

pub nothing-yet : (def : TableDef) (rows : List Row) (list : List BoundAggregate) → map (λ f. fold (found_with def) f rows) (map found_none list) ≡ map (found_in def rows) list
nothing-yet def rows [] = refl
nothing-yet def rows (a ∷ more) = ap (λ l. found_in def rows a ∷ l) (nothing-yet def rows more)

pub nothing-more : (def : TableDef) (all : List Found) → map (λ f. fold (found_with def) f []) all ≡ all
nothing-more def [] = refl
nothing-more def (f ∷ fs) = ap (λ l. f ∷ l) (nothing-more def fs)

-- a step onto a row that is kept, which is added to what each aggregate has found
pub one-more-found : (def : TableDef) (before rest : List Row) (now : Option Row) (all new wanted : List Found) → Stepped true before now rest → IfSome now (λ r. new ≡ map (λ f. found_with def f r) all)
    → map (λ f. fold (found_with def) f before) all ≡ wanted → map (λ f. fold (found_with def) f rest) new ≡ wanted
one-more-found def before rest now all new wanted (r, was, is) each so =
    ap (map (λ f. fold (found_with def) f rest)) (subst (λ o. IfSome o (λ r. new ≡ map (λ f. found_with def f r) all)) is each)
    ∙ one-row-found def r rest all ∙ ap (λ l. map (λ f. fold (found_with def) f l) all) (sym was) ∙ so

-- ---- one of them after another

set-next : (with : Found → Found) (i : ℕ) (old all : List Found) (item new : Found) → i < length old → map with (take i old) ++ drop i old ≡ all → item ≡ get_or all i item → new ≡ with item → map with (take (suc i) old) ++ drop (suc i) old ≡ set all i new
set-next with i [] all item new lt so is e = absurd (omega arith)
set-next with zero (f ∷ fs) all item new lt so is e =
    ap (λ g. g ∷ fs) (sym (e ∙ ap with (is ∙ ap (λ l. get_or l zero item) (sym so)))) ∙ ap (λ l. set l zero new) so
set-next with (suc i) (f ∷ fs) all item new lt so is e =
    ap (λ l. with f ∷ l) (set-next with i fs (map with (take i fs) ++ drop i fs) item new (omega arith) refl (is ∙ ap (λ l. get_or l (suc i) item) (sym so)) e) ∙ ap (λ l. set l (suc i) new) so

pub next-found : (with : Found → Found) (i : ℕ) (old all : List Found) (item new : Found) → i < length old → map with (take i old) ++ drop i old ≡ all → item ≡ get_or all i item → new ≡ with item → map with (take (i + 1) old) ++ drop (i + 1) old ≡ set all i new
next-found with i old all item new lt so is e = subst (λ n. map with (take n old) ++ drop n old ≡ set all i new) (sym (add-one i)) (set-next with i old all item new lt so is e)

pub if-both : (o : Option Row) (P Q R : Row → Type 0) → ((r : Row) → P r → Q r → R r) → IfSome o P → IfSome o Q → IfSome o R
if-both None P Q R so p q = p
if-both (Some r) P Q R so p q = so r p q
