-- Rows without a key twice have one list in order.
use Rattle.std.proofs.Common.{◌≡◌, ◌⊎◌, ℕ, ◌+◌, ◌≤◌, Bool, true, false, List, [], ◌∷◌, refl, sym, ◌∙◌, ap, subst, inl, inr, arith}
use Rattle.std.specs.Prelude.{if◌then◌else◌}
use Rattle.std.specs.Cmp.{IsTotalOrder}
use Rattle.std.specs.List.{AllByRecursion, sum_by}
use Rattle.std.specs.List.Sorted.{IsPermutation}
use Rattle.std.specs.Ordering.{ordering_reverse, is_gt, is_eq}
use Rattle.std.specs.declared.cmp.Ordering.{Ordering}
use Rattle.std.specs.declared.cmp.Ordering.TheVariants.{Less, Equal, Greater}
use Rattle.std.proofs.lemmas.Bool.{cases_Bool}
use Rattle.std.proofs.lemmas.List.Elements.{All-from_recursion, recursion_from_All}
use Rattle.std.proofs.lemmas.List.Sorted.{All-permutation, IsPermutation-sym, IsPermutation-trans, sum_by-IsPermutation}
use Rattle.std.proofs.lemmas.List.Sums.{sum_by-cons}
use Rattle.mr_types.specs.declared.definition.TableDef.{TableDef}
use Rattle.mr_types.specs.declared.row.Row.{Row}
use Rattle.mr_spec.specs.Rows.{primary_cmp}
use Rattle.mr_spec.specs.Select.{sorted, sorted_in}
use Rattle.mr_orders.specs.Orders.{IsAscending, HasKeysOnce, by_key}
use Rattle.mr_orders.proofs.Sorts.{each-in, each-sorted, same-sorted}
use Rattle.mr_orders.proofs.Totals.{primary_total}

-- ---- rows of a list

-- the row is one of these
abbrev pub IsAmong : Row → List Row → Type 0
IsAmong r [] = ⊥
IsAmong r (s ∷ ss) = (r ≡ s) ⊎ IsAmong r ss

at-each : (P : Row → Type 0) (r : Row) (xs : List Row) → IsAmong r xs → AllByRecursion P xs → P r
at-each P r [] h all = absurd h
at-each P r (x ∷ xs) (inl e) all = subst P (sym e) all.0
at-each P r (x ∷ xs) (inr h) all = at-each P r xs h all.1

each-of : (P : Row → Type 0) (xs : List Row) → ((r : Row) → IsAmong r xs → P r) → AllByRecursion P xs
each-of P [] h = tt
each-of P (x ∷ xs) h = (h x (inl refl), each-of P xs (λ r i. h r (inr i)))

each-moved : (P : Row → Type 0) (xs ys : List Row) → IsPermutation xs ys → AllByRecursion P xs → AllByRecursion P ys
each-moved P xs ys p all = recursion_from_All P ys (All-permutation P xs ys p (All-from_recursion P xs all))

pub among : (xs ys : List Row) → IsPermutation xs ys → (r : Row) → IsAmong r xs → IsAmong r ys
among xs ys p r h = at-each (λ s. IsAmong s ys) r xs h (each-moved (λ s. IsAmong s ys) ys xs (IsPermutation-sym xs ys p) (each-of (λ s. IsAmong s ys) ys (λ s i. i)))

abbrev one : Bool → ℕ
one b = if b then 1 else 0

module _ (cmp : Row → Row → Ordering) (o : IsTotalOrder cmp) where
  -- x comes before each of these
  abbrev First : Row → List Row → Type 0
  First x xs = AllByRecursion (λ y. cmp x y ≡ Less) xs

  abbrev pub Rising : List Row → Type 0
  Rising [] = Unit {0}
  Rising (x ∷ xs) = First x xs × Rising xs

  abbrev pub Apart : Row → List Row → Type 0
  Apart x xs = AllByRecursion (λ y. is_eq (cmp x y) ≡ false) xs

  abbrev pub Distinct : List Row → Type 0
  Distinct [] = Unit {0}
  Distinct (x ∷ xs) = Apart x xs × Distinct xs

  less-of : (a : Ordering) → is_eq a ≡ false → is_gt a ≡ false → a ≡ Less
  less-of Less e g = refl
  less-of Equal e g = cc
  less-of Greater e g = cc

  less-back : (a b : Ordering) → b ≡ ordering_reverse a → is_gt a ≡ true → b ≡ Less
  less-back Less b e g = cc
  less-back Equal b e g = cc
  less-back Greater b e g = e

  pub first-on : (x y : Row) (ys : List Row) → cmp x y ≡ Less → First y ys → First x ys
  first-on x y [] less all = tt
  first-on x y (z ∷ zs) less all = (o.trans x y z less all.0, first-on x y zs less all.1)

  rising-in : (x : Row) (xs : List Row) → Apart x xs → Rising xs → Rising (sorted_in cmp x xs)
  rising-in x [] apart all = (tt, tt)
  rising-in x (y ∷ ys) apart all = elim (cases_Bool (is_gt (cmp x y))) [
    | inl gt ↦ rw gt (each-in cmp (λ z. cmp y z ≡ Less) x ys (less-back (cmp x y) (cmp y x) (o.antisymm y x) gt) all.0, rising-in x ys apart.1 all.1)
    | inr le ↦ let less : cmp x y ≡ Less = less-of (cmp x y) apart.0 le in rw le ((less, first-on x y ys less all.0), all)
  ]

  pub rising : (xs : List Row) → Distinct xs → Rising (sorted cmp xs)
  rising [] all = tt
  rising (x ∷ xs) all = rising-in x (sorted cmp xs) (each-sorted cmp (λ y. is_eq (cmp x y) ≡ false) xs all.0) (rising xs all.1)

  not-itself : (x : Row) → cmp x x ≡ Less → ⊥
  not-itself x less = by-order (cmp x x) (o.antisymm x x) less
    where
      by-order : (a : Ordering) → a ≡ ordering_reverse a → a ≡ Less → ⊥
      by-order Less e l = cc
      by-order Equal e l = cc
      by-order Greater e l = cc

  not-both : (x y : Row) → cmp x y ≡ Less → cmp y x ≡ Less → ⊥
  not-both x y a b = not-itself x (o.trans x y x a b)

  heads : (x y : Row) (xs ys : List Row) → First x xs → First y ys → (x ≡ y) ⊎ IsAmong x ys → (y ≡ x) ⊎ IsAmong y xs → x ≡ y
  heads x y xs ys fx fy (inl is) h = is
  heads x y xs ys fx fy (inr a) (inl is) = sym is
  heads x y xs ys fx fy (inr a) (inr b) = absurd (not-both x y (at-each (λ z. cmp x z ≡ Less) y xs b fx) (at-each (λ z. cmp y z ≡ Less) x ys a fy))

  tails : (x y r : Row) (xs ys : List Row) → x ≡ y → First x xs → IsAmong r xs → (r ≡ y) ⊎ IsAmong r ys → IsAmong r ys
  tails x y r xs ys e fx h (inl is) = absurd (not-itself x (subst (λ (z : Row). cmp x z ≡ Less) (is ∙ sym e) (at-each (λ z. cmp x z ≡ Less) r xs h fx)))
  tails x y r xs ys e fx h (inr later) = later

  pub one-order : (xs ys : List Row) → Rising xs → Rising ys → ((r : Row) → IsAmong r xs → IsAmong r ys) → ((r : Row) → IsAmong r ys → IsAmong r xs) → xs ≡ ys
  one-order [] [] rx ry there back = refl
  one-order [] (y ∷ ys) rx ry there back = absurd (back y (inl refl))
  one-order (x ∷ xs) [] rx ry there back = absurd (there x (inl refl))
  one-order (x ∷ xs) (y ∷ ys) rx ry there back =
      let e : x ≡ y = heads x y xs ys rx.0 ry.0 (there x (inl refl)) (back y (inl refl)) in
      let more : xs ≡ ys = one-order xs ys rx.1 ry.1 (λ r h. tails x y r xs ys e rx.0 h (there r (inr h))) (λ r h. tails y x r ys xs (sym e) ry.0 h (back r (inr h))) in
      ap (λ (z : Row). z ∷ xs) e ∙ ap (λ (zs : List Row). y ∷ zs) more

  pub one-list : (xs ys : List Row) → Rising xs → Rising ys → IsPermutation xs ys → xs ≡ ys
  one-list xs ys rx ry p = one-order xs ys rx ry (among xs ys p) (among ys xs (IsPermutation-sym xs ys p))

  once-by : (a : Ordering) → a ≡ Less → is_eq a ≡ false
  once-by a e = ap is_eq e

  apart-first : (x : Row) (xs : List Row) → First x xs → Apart x xs
  apart-first x [] all = tt
  apart-first x (y ∷ ys) all = (once-by (cmp x y) all.0, apart-first x ys all.1)

  pub distinct-rising : (xs : List Row) → Rising xs → Distinct xs
  distinct-rising [] all = tt
  distinct-rising (x ∷ xs) all = (apart-first x xs all.0, distinct-rising xs all.1)

  -- ---- no key twice, in another order

  abbrev One : Row → Row → ℕ
  One x y = one (is_eq (cmp x y))

  -- how many of the rows tie with x
  abbrev count : Row → List Row → ℕ
  count x xs = sum_by (One x) xs

  back-apart : (x y : Row) → is_eq (cmp x y) ≡ false → is_eq (cmp y x) ≡ false
  back-apart x y e = by-order (cmp x y) (cmp y x) (o.antisymm y x) e
    where
      by-order : (a b : Ordering) → b ≡ ordering_reverse a → is_eq a ≡ false → is_eq b ≡ false
      by-order Less b e h = ap is_eq e
      by-order Equal b e h = cc
      by-order Greater b e h = ap is_eq e

  counted : (x y : Row) (ys : List Row) → count x (y ∷ ys) ≡ One x y + count x ys
  counted x y ys = sum_by-cons (One x) y ys

  no-tie : (b : Bool) → b ≡ false → one b ≡ 0
  no-tie b e = rw e refl

  at-most : (b : Bool) → one b ≤ 1
  at-most true = omega arith
  at-most false = omega arith

  no-tie-back : (b : Bool) → one b ≡ 0 → b ≡ false
  no-tie-back true e = absurd (omega arith)
  no-tie-back false e = refl

  none-of : (x : Row) (xs : List Row) → Apart x xs → count x xs ≡ 0
  none-of x [] all = refl
  none-of x (y ∷ ys) all =
      let here : One x y ≡ 0 = no-tie (is_eq (cmp x y)) all.0 in
      let rest : count x ys ≡ 0 = none-of x ys all.1 in
      let sum : count x (y ∷ ys) ≡ One x y + count x ys = counted x y ys in
      omega arith

  at-most-one : (x : Row) (xs : List Row) → Distinct xs → IsAmong x xs → count x xs ≤ 1
  at-most-one x [] d h = absurd h
  at-most-one x (y ∷ ys) d (inl e) =
      let here : One x y ≤ 1 = at-most (is_eq (cmp x y)) in
      let rest : count x ys ≡ 0 = none-of x ys (subst (λ z. Apart z ys) (sym e) d.0) in
      let sum : count x (y ∷ ys) ≡ One x y + count x ys = counted x y ys in
      omega arith
  at-most-one x (y ∷ ys) d (inr h) =
      let here : One x y ≡ 0 = no-tie (is_eq (cmp x y)) (back-apart y x (at-each (λ z. is_eq (cmp y z) ≡ false) x ys h d.0)) in
      let rest : count x ys ≤ 1 = at-most-one x ys d.1 h in
      let sum : count x (y ∷ ys) ≡ One x y + count x ys = counted x y ys in
      omega arith

  apart-none : (x : Row) (xs : List Row) → count x xs ≡ 0 → Apart x xs
  apart-none x [] e = tt
  apart-none x (y ∷ ys) e =
      let sum : count x (y ∷ ys) ≡ One x y + count x ys = counted x y ys in
      let here : One x y ≡ 0 = omega arith in
      let rest : count x ys ≡ 0 = omega arith in
      (no-tie-back (is_eq (cmp x y)) here, apart-none x ys rest)

  with-itself : (x : Row) → One x x ≡ 1
  with-itself x = by-order (cmp x x) (o.antisymm x x)
    where
      by-order : (a : Ordering) → a ≡ ordering_reverse a → one (is_eq a) ≡ 1
      by-order Less e = cc
      by-order Equal e = refl
      by-order Greater e = cc

  distinct-by : (xs : List Row) → ((r : Row) → IsAmong r xs → count r xs ≤ 1) → Distinct xs
  distinct-by [] h = tt
  distinct-by (x ∷ xs) h = (apart-none x xs none, distinct-by xs fewer)
    where
      none : count x xs ≡ 0
      none =
          let sum : count x (x ∷ xs) ≡ One x x + count x xs = counted x x xs in
          let most : count x (x ∷ xs) ≤ 1 = h x (inl refl) in
          let here : One x x ≡ 1 = with-itself x in
          omega arith

      fewer : (r : Row) → IsAmong r xs → count r xs ≤ 1
      fewer r i =
          let sum : count r (x ∷ xs) ≡ One r x + count r xs = counted r x xs in
          let most : count r (x ∷ xs) ≤ 1 = h r (inr i) in
          omega arith

  pub distinct-moved : (xs ys : List Row) → IsPermutation xs ys → Distinct xs → Distinct ys
  distinct-moved xs ys p d = distinct-by ys (λ r i.
      let same : count r ys ≡ count r xs = sum_by-IsPermutation (One r) xs ys p in
      let most : count r xs ≤ 1 = at-most-one r xs d (among ys xs (IsPermutation-sym xs ys p) r i) in
      omega arith)

-- ---- by the primary key

pub distinct-keys : (def : TableDef) (rows : List Row) → HasKeysOnce def rows → Distinct (primary_cmp def) (primary_total def) rows
distinct-keys def [] all = tt
distinct-keys def (r ∷ rs) all = (all.0, distinct-keys def rs all.1)

pub keys-distinct : (def : TableDef) (rows : List Row) → Distinct (primary_cmp def) (primary_total def) rows → HasKeysOnce def rows
keys-distinct def [] all = tt
keys-distinct def (r ∷ rs) all = (all.0, keys-distinct def rs all.1)

pub rising-ascends : (def : TableDef) (rows : List Row) → Rising (primary_cmp def) (primary_total def) rows → IsAscending def rows
rising-ascends def [] all = tt
rising-ascends def (r ∷ rs) all = (all.0, rising-ascends def rs all.1)

pub ascends-rising : (def : TableDef) (rows : List Row) → IsAscending def rows → Rising (primary_cmp def) (primary_total def) rows
ascends-rising def [] all = tt
ascends-rising def (r ∷ rs) all = (all.0, ascends-rising def rs all.1)

pub key-order-ascends : (def : TableDef) (rows : List Row) → HasKeysOnce def rows → IsAscending def (by_key def rows)
key-order-ascends def rows once = rising-ascends def (by_key def rows) (rising (primary_cmp def) (primary_total def) rows (distinct-keys def rows once))

pub ascending-once : (def : TableDef) (rows : List Row) → IsAscending def rows → HasKeysOnce def rows
ascending-once def rows all = keys-distinct def rows (distinct-rising (primary_cmp def) (primary_total def) rows (ascends-rising def rows all))

pub once-moved : (def : TableDef) (rows others : List Row) → IsPermutation rows others → HasKeysOnce def rows → HasKeysOnce def others
once-moved def rows others p once = keys-distinct def others (distinct-moved (primary_cmp def) (primary_total def) rows others p (distinct-keys def rows once))

pub one-ascending : (def : TableDef) (rows others : List Row) → IsPermutation rows others → IsAscending def others → by_key def rows ≡ others
one-ascending def rows others p all =
    let once : HasKeysOnce def rows = once-moved def others rows (IsPermutation-sym rows others p) (ascending-once def others all) in
    one-list (primary_cmp def) (primary_total def) (by_key def rows) others (ascends-rising def (by_key def rows) (key-order-ascends def rows once)) (ascends-rising def others all)
    (IsPermutation-trans (by_key def rows) rows others (IsPermutation-sym rows (by_key def rows) (same-sorted (primary_cmp def) rows)) p)

pub any-order : (def : TableDef) (rows others : List Row) → HasKeysOnce def rows → IsPermutation rows others → by_key def rows ≡ by_key def others
any-order def rows others once p = one-ascending def rows (by_key def others) (IsPermutation-trans rows others (by_key def others) p (same-sorted (primary_cmp def) others)) (key-order-ascends def others (once-moved def rows others p once))
