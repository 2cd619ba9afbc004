-- The orders of rows are total.
use Rattle.std.proofs.Common.{◌≡◌, refl, ap, sym, ◌∙◌, ℕ, Bool, true, false, List, [], ◌∷◌, unwrap_or}
use Rattle.std.specs.Prelude.{if◌then◌else◌}
use Rattle.std.specs.Cmp.{IsTotalOrder}
use Rattle.std.specs.Option.{option_map_or}
use Rattle.std.specs.Ordering.{ordering_reverse}
use Rattle.std.specs.declared.cmp.Ordering.{Ordering}
use Rattle.std.specs.declared.cmp.Ordering.TheVariants.{Less, Equal, Greater}
use Rattle.std.proofs.lemmas.Cmp.{on_total, then_total, nat_cmp_total}
use Rattle.mr_types.specs.declared.definition.TableDef.{TableDef}
use Rattle.mr_types.specs.declared.row.Row.{Row}
use Rattle.mr_types.specs.declared.statement.OrderItem.{OrderItem}
use Rattle.mr_types.specs.Order.{value_cmp}
use Rattle.mr_types.proofs.Total.{values_total}
use Rattle.mr_spec.specs.Rows.{place_of, kind_at, value_at, columns_cmp, primary_cmp}
use Rattle.mr_spec.specs.Select.{order_cmp}
use Rattle.mr_orders.specs.Orders.{reply_cmp}

columns_total : (def : TableDef) (places : List ℕ) → IsTotalOrder (columns_cmp def places)
columns_total def [] = record { antisymm = λ x y. refl; trans = λ x y z p q. cc; congr = λ x y z p. refl }
columns_total def (i ∷ is) = then_total (on_total (λ r. value_at r i) (values_total (kind_at def i))) (columns_total def is)

pub primary_total : (def : TableDef) → IsTotalOrder (primary_cmp def)
primary_total def = then_total (columns_total def def.primary.columns) (on_total (λ (r : Row). unwrap_or r.hidden 0) nat_cmp_total)

level : (a : Ordering) → ordering_reverse a ≡ Equal → a ≡ Equal
level Less p = cc
level Equal p = refl
level Greater p = cc

-- an order or the one turned round
turned : (b : Bool) (cmp : Row → Row → Ordering) → IsTotalOrder cmp → IsTotalOrder (λ r s. if b then ordering_reverse (cmp r s) else cmp r s)
turned false cmp o = o
turned true cmp o = record {
  antisymm = λ x y. ap ordering_reverse (o.antisymm x y);
  trans = λ x y z p q. sym (o.antisymm z x) ∙ o.trans z y x (o.antisymm z y ∙ q) (o.antisymm y x ∙ p);
  congr = λ x y z p. ap ordering_reverse (o.congr x y z (level (cmp x y) p));
}

pub order_total : (def : TableDef) (order : List OrderItem) → IsTotalOrder (order_cmp def order)
order_total def [] = record { antisymm = λ x y. refl; trans = λ x y z p q. cc; congr = λ x y z p. refl }
order_total def (o ∷ os) =
    let i : ℕ = option_map_or (λ n. n) (place_of def o.column) 0 in
    then_total (turned o.descending (λ r s. value_cmp (kind_at def i) (value_at r i) (value_at s i)) (on_total (λ r. value_at r i) (values_total (kind_at def i)))) (order_total def os)

pub reply_total : (def : TableDef) (order : List OrderItem) → IsTotalOrder (reply_cmp def order)
reply_total def order = then_total (order_total def order) (primary_total def)
