-- The reply is that of the rows that are kept, put in order at once.
use Rattle.std.proofs.Common.{◌≡◌, refl, ap, sym, ◌∙◌, Bool, true, false, List, [], ◌∷◌, filter, map}
use Rattle.std.specs.Prelude.{if◌then◌else◌}
use Rattle.std.specs.Cmp.{IsTotalOrder}
use Rattle.std.specs.Ordering.{ordering_reverse}
use Rattle.std.specs.declared.cmp.Ordering.{Ordering}
use Rattle.std.specs.declared.cmp.Ordering.TheVariants.{Less, Equal, Greater}
use Rattle.std.proofs.lemmas.Cmp.{on_total, then_total}
use Rattle.mr_types.specs.declared.value.Value.{Value}
use Rattle.mr_types.specs.declared.definition.TableDef.{TableDef}
use Rattle.mr_types.specs.declared.row.Row.{Row}
use Rattle.mr_types.specs.Order.{value_cmp}
use Rattle.mr_types.proofs.Total.{values_total}
use Rattle.mr_spec.specs.Rows.{kind_at, value_at, primary_cmp}
use Rattle.mr_spec.specs.Select.{sorted, limited, listed}
use Rattle.mr_orders.proofs.Totals.{primary_total}
use Rattle.mr_bound.specs.declared.bound.BoundOrder.{BoundOrder}
use Rattle.mr_bound.specs.declared.bound.BoundSelect.{BoundSelect}
use Rattle.mr_bound.specs.declared.bound.BoundColumns.{BoundColumns}
use Rattle.mr_bound.specs.declared.bound.BoundColumns.TheVariants.{Places, Aggregates}
use Rattle.mr_bound.specs.BoundSelects.{keeps, order_by, reply_by, aggregate_of, by_key, shown_at, selected_at}
use Rattle.mr_exec.proofs.Kept.{keeps-sorted}
use Rattle.mr_exec.proofs.Twice.{at-once}

level : (a : Ordering) → ordering_reverse a ≡ Equal → a ≡ Equal
level Less p = cc
level Equal p = refl
level Greater p = cc

-- an order or the one turned round
turned-total : (b : Bool) (cmp : Row → Row → Ordering) → IsTotalOrder cmp → IsTotalOrder (λ r s. if b then ordering_reverse (cmp r s) else cmp r s)
turned-total false cmp o = o
turned-total true cmp o = record {
  antisymm = λ x y. ap ordering_reverse (o.antisymm x y);
  trans = λ x y z p q. sym (o.antisymm z x) ∙ o.trans z y x (o.antisymm z y ∙ q) (o.antisymm y x ∙ p);
  congr = λ x y z p. ap ordering_reverse (o.congr x y z (level (cmp x y) p));
}

pub order-total : (def : TableDef) (order : List BoundOrder) → IsTotalOrder (order_by def order)
order-total def [] = record { antisymm = λ x y. refl; trans = λ x y z p q. cc; congr = λ x y z p. refl }
order-total def (o ∷ os) =
    then_total (turned-total o.descending (λ r s. value_cmp (kind_at def o.column) (value_at r o.column) (value_at s o.column)) (on_total (λ r. value_at r o.column) (values_total (kind_at def o.column)))) (order-total def os)

pub reply-total : (def : TableDef) (order : List BoundOrder) → IsTotalOrder (reply_by def order)
reply-total def order = then_total (order-total def order) (primary_total def)

-- what SELECT shows of the rows that WHERE keeps, in any order
abbrev pub shown : TableDef → BoundSelect → BoundColumns → List Row → List (List Value)
shown def s (Places at) kept = map (listed at) (limited s.skip s.most (sorted (reply_by def s.order) kept))
shown def s (Aggregates list) kept = map (aggregate_of def (by_key def kept)) list ∷ []

shown-of : (def : TableDef) (s : BoundSelect) (columns : BoundColumns) (kept first : List Row) → first ≡ by_key def kept → shown def s columns kept ≡ shown_at def columns first (limited s.skip s.most (sorted (order_by def s.order) first))
shown-of def s (Places at) kept first e =
    ap (λ l. map (listed at) (limited s.skip s.most l)) (sym (at-once (order_by def s.order) (primary_cmp def) (order-total def s.order) (primary_total def) kept) ∙ ap (sorted (order_by def s.order)) (sym e))
shown-of def s (Aggregates list) kept first e = ap (λ l. map (aggregate_of def l) list ∷ []) (sym e)

pub reply-of-kept : (def : TableDef) (s : BoundSelect) (rows : List Row) → shown def s s.columns (filter (keeps def s.condition) rows) ≡ selected_at def s rows
reply-of-kept def s rows =
    shown-of def s s.columns (filter (keeps def s.condition) rows) (filter (keeps def s.condition) (by_key def rows)) (keeps-sorted (primary_cmp def) (primary_total def) (keeps def s.condition) rows)
