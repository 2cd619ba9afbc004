-- Rows in key order that are sorted by ORDER BY are sorted by both.
use Rattle.std.proofs.Common.{◌≡◌, true, false, List, [], ◌∷◌, refl, ap, inl, inr}
use Rattle.std.specs.Cmp.{IsTotalOrder}
use Rattle.std.specs.List.{AllByRecursion}
use Rattle.std.specs.Ordering.{ordering_reverse, ordering_then, is_gt, is_eq}
use Rattle.std.specs.declared.cmp.Ordering.{Ordering}
use Rattle.std.specs.declared.cmp.Ordering.TheVariants.{Less, Equal, Greater}
use Rattle.std.proofs.lemmas.Bool.{cases_Bool}
use Rattle.std.proofs.lemmas.Cmp.{then_total}
use Rattle.std.proofs.lemmas.List.Sorted.{IsPermutation-sym, IsPermutation-trans}
use Rattle.mr_types.specs.declared.definition.TableDef.{TableDef}
use Rattle.mr_types.specs.declared.row.Row.{Row}
use Rattle.mr_types.specs.declared.statement.OrderItem.{OrderItem}
use Rattle.mr_spec.specs.Rows.{primary_cmp}
use Rattle.mr_spec.specs.Select.{order_cmp, sorted, sorted_in}
use Rattle.mr_orders.specs.Orders.{HasKeysOnce, by_key, reply_cmp}
use Rattle.mr_orders.proofs.Totals.{order_total, primary_total}
use Rattle.mr_orders.proofs.Sorts.{each-in, each-sorted, same-sorted}
use Rattle.mr_orders.proofs.Rising.{Rising, Distinct, first-on, rising, one-list, distinct-keys}

module _ (first second : Row → Row → Ordering) (o : IsTotalOrder first) (p : IsTotalOrder second) where
  abbrev both : Row → Row → Ordering
  both r s = ordering_then (first r s) (second r s)

  both-total : IsTotalOrder both
  both-total = then_total o p

  before : (a b : Ordering) → is_gt a ≡ false → b ≡ Less → ordering_then a b ≡ Less
  before Less b e h = refl
  before Equal b e h = h
  before Greater b e h = cc

  behind : (a b c : Ordering) → b ≡ ordering_reverse a → is_gt a ≡ true → ordering_then b c ≡ Less
  behind Less b c e h = cc
  behind Equal b c e h = cc
  behind Greater b c e h = ap (λ d. ordering_then d c) e

  in-both : (x : Row) (xs : List Row) → AllByRecursion (λ y. second x y ≡ Less) xs → Rising both both-total xs → Rising both both-total (sorted_in first x xs)
  in-both x [] all r = (tt, tt)
  in-both x (y ∷ ys) all r = elim (cases_Bool (is_gt (first x y))) [
    | inl gt ↦ rw gt (each-in first (λ z. both y z ≡ Less) x ys (behind (first x y) (first y x) (second y x) (o.antisymm y x) gt) r.0, in-both x ys all.1 r.1)
    | inr le ↦ let less : both x y ≡ Less = before (first x y) (second x y) le all.0 in rw le ((less, first-on both both-total x y ys less r.0), r)
  ]

  rising-both : (xs : List Row) → Rising second p xs → Rising both both-total (sorted first xs)
  rising-both [] r = tt
  rising-both (x ∷ xs) r = in-both x (sorted first xs) (each-sorted first (λ y. second x y ≡ Less) xs r.0) (rising-both xs r.1)

  apart-both : (a b : Ordering) → is_eq b ≡ false → is_eq (ordering_then a b) ≡ false
  apart-both Less b e = refl
  apart-both Equal b e = e
  apart-both Greater b e = refl

  each-apart : (x : Row) (xs : List Row) → AllByRecursion (λ y. is_eq (second x y) ≡ false) xs → AllByRecursion (λ y. is_eq (both x y) ≡ false) xs
  each-apart x [] all = tt
  each-apart x (y ∷ ys) all = (apart-both (first x y) (second x y) all.0, each-apart x ys all.1)

  distinct-both : (xs : List Row) → Distinct second p xs → Distinct both both-total xs
  distinct-both [] d = tt
  distinct-both (x ∷ xs) d = (each-apart x xs d.0, distinct-both xs d.1)

  pub at-once : (xs : List Row) → Distinct second p xs → sorted first (sorted second xs) ≡ sorted both xs
  at-once xs d = one-list both both-total (sorted first (sorted second xs)) (sorted both xs) (rising-both (sorted second xs) (rising second p xs d)) (rising both both-total xs (distinct-both xs d))
      (IsPermutation-trans _ _ _ (IsPermutation-trans _ _ _ (IsPermutation-sym _ _ (same-sorted first (sorted second xs))) (IsPermutation-sym _ _ (same-sorted second xs))) (same-sorted both xs))

pub ties-by-key : (def : TableDef) (order : List OrderItem) (rows : List Row) → HasKeysOnce def rows → sorted (order_cmp def order) (by_key def rows) ≡ sorted (reply_cmp def order) rows
ties-by-key def order rows once = at-once (order_cmp def order) (primary_cmp def) (order_total def order) (primary_total def) rows (distinct-keys def rows once)
