-- Laws of lists in order.
use Rattle.std.specs.Prelude.{◌≡◌, ℕ, ◌+◌, ◌<◌, Bool, true, false, cond, List, [], ◌∷◌, ◌++◌, refl, filter, length, map}
use Rattle.std.proofs.Common.{sym, ◌∙◌, ap, subst, inl, inr, arith, set, get_or, suc, zero}
use Rattle.std.specs.List.{AllByRecursion, AllByRecursion-prop}
use Rattle.std.specs.declared.cmp.Ordering.{Ordering}
use Rattle.std.specs.declared.cmp.Ordering.TheVariants.{Less, Equal, Greater}
use Rattle.std.specs.Ordering.{ordering_reverse, ordering_then, is_gt, is_lt}
use Rattle.std.specs.Cmp.{IsTotalOrder}
use mathlib.Core.Bool.{Bool-set}
use Rattle.std.specs.Coded.{×_prop, Unit-prop}
use Rattle.std.proofs.lemmas.Cmp.{upto, on_total, then_total, back_total, nat_cmp_total, nat_list_cmp_total}
use Rattle.std.proofs.lemmas.List.Elements.{filter-append}
use Rattle.std.proofs.lemmas.Bool.{cases_Bool, true_from_ne_false}
use Rattle.mr_base.specs.declared.stop.Direction.{Direction}
use Rattle.mr_base.specs.declared.stop.Direction.TheVariants.{Forward, Reverse}
use Rattle.mr_iter.specs.Versions.{Version, key_cmp, version_cmp, IsAtFront, IsInOrder, IsLeast, place_in, in_order, joined, merged}

pub key_total : (d : Direction) → IsTotalOrder (key_cmp d)
key_total Forward = nat_list_cmp_total
key_total Reverse = back_total nat_list_cmp_total

pub version_total : (d : Direction) → IsTotalOrder (version_cmp d)
version_total d = then_total (on_total (λ (v : Version). v.key) (key_total d)) (on_total (λ (v : Version). v.sequence) (back_total nat_cmp_total))

pub each-append : {X : Type 0} (P : X → Type 0) (xs ys : List X) → AllByRecursion P xs → AllByRecursion P ys → AllByRecursion P (xs ++ ys)
each-append P [] ys here there = there
each-append P (x ∷ xs) ys here there = (here.0, each-append P xs ys here.1 there)

pub each-filter : {X : Type 0} (p : X → Bool) (P : X → Type 0) (xs : List X) → AllByRecursion P xs → AllByRecursion P (filter p xs)
each-filter p P [] all = tt
each-filter p P (x ∷ xs) all = elim (p x) as (λ b. AllByRecursion P (cond b (x ∷ filter p xs) (filter p xs))) [
  | true ↦ (all.0, each-filter p P xs all.1)
  | false ↦ each-filter p P xs all.1
]

pub filter-joined : {X : Type 0} (p : X → Bool) (xss : List (List X)) → filter p (joined xss) ≡ joined (map (filter p) xss)
filter-joined p [] = refl
filter-joined p (xs ∷ xss) = filter-append p xs (joined xss) ∙ ap (λ zs. filter p xs ++ zs) (filter-joined p xss)

module _ {X : Type 0} (cmp : X → X → Ordering) (o : IsTotalOrder cmp) where
  -- what stands in front of the first stands in front of all
  pub front-trans : (x y : X) (ys : List X) → is_gt (cmp x y) ≡ false → IsAtFront cmp y ys → IsAtFront cmp x ys
  front-trans x y [] h all = tt
  front-trans x y (z ∷ zs) h all = (upto o x y z h all.0, front-trans x y zs h all.1)

  -- of two elements one isn't greater
  pub not_greater : (x y : X) → is_gt (cmp x y) ≡ true → is_gt (cmp y x) ≡ false
  not_greater x y h = by_order (cmp x y) (cmp y x) (o.antisymm y x) h
    where
      by_order : (a b : Ordering) → b ≡ ordering_reverse a → is_gt a ≡ true → is_gt b ≡ false
      by_order Less b e h = cc
      by_order Equal b e h = cc
      by_order Greater b e h = rw e

  pub place_in-front : (x : X) (xs : List X) → IsAtFront cmp x xs → place_in cmp x xs ≡ x ∷ xs
  place_in-front x [] all = refl
  place_in-front x (y ∷ ys) all = rw all.0

  pub each-place_in : (P : X → Type 0) (x : X) (xs : List X) → P x → AllByRecursion P xs → AllByRecursion P (place_in cmp x xs)
  each-place_in P x [] px all = (px, tt)
  each-place_in P x (y ∷ ys) px all =
      elim (is_gt (cmp x y)) as (λ b. AllByRecursion P (cond b (y ∷ place_in cmp x ys) (x ∷ y ∷ ys))) [
        | true ↦ (all.0, each-place_in P x ys px all.1)
        | false ↦ (px, all)
      ]

  pub each-in_order : (P : X → Type 0) (xs : List X) → AllByRecursion P xs → AllByRecursion P (in_order cmp xs)
  each-in_order P [] all = tt
  each-in_order P (x ∷ xs) all = each-place_in P x (in_order cmp xs) all.0 (each-in_order P xs all.1)

  pub IsInOrder-place_in : (x : X) (xs : List X) → IsInOrder cmp xs → IsInOrder cmp (place_in cmp x xs)
  IsInOrder-place_in x [] all = (tt, tt)
  IsInOrder-place_in x (y ∷ ys) all =
      elim (cases_Bool (is_gt (cmp x y))) [
        | inl gt ↦ rw gt (each-place_in (λ z. is_gt (cmp y z) ≡ false) x ys (not_greater x y gt) all.0, IsInOrder-place_in x ys all.1)
        | inr le ↦ rw le ((le, front-trans x y ys le all.0), all)
      ]

  -- its first element goes to the front of what many lists give
  pub in_order-first : (v : X) (t more : List X) → IsAtFront cmp v t → IsAtFront cmp v more → in_order cmp (v ∷ t ++ more) ≡ v ∷ in_order cmp (t ++ more)
  in_order-first v t more here there = place_in-front v (in_order cmp (t ++ more)) (each-in_order _ (t ++ more) (each-append _ t more here there))

  -- an element before all of xs goes in front of them
  pub in_order-past : (v : X) (xs ys zs : List X) → AllByRecursion (λ x. is_gt (cmp x v) ≡ true) xs → in_order cmp ys ≡ v ∷ in_order cmp zs → in_order cmp (xs ++ ys) ≡ v ∷ in_order cmp (xs ++ zs)
  in_order-past v [] ys zs before e = e
  in_order-past v (x ∷ xs) ys zs before e = ap (place_in cmp x) (in_order-past v xs ys zs before.1 e) ∙ rw before.0

  -- what comes before the first of a list in order comes before all of it
  pub before_all : (x : X) (xs : List X) (v : X) → is_gt (cmp x v) ≡ true → IsAtFront cmp x xs → AllByRecursion (λ y. is_gt (cmp y v) ≡ true) xs
  before_all x [] v gt all = tt
  before_all x (y ∷ ys) v gt all = (true_from_ne_false _ (λ le. let e : is_gt (cmp x v) ≡ false = upto o x y v all.0 le in cc), before_all x ys v gt all.1)

  -- what comes first of later lists stands in front of all their elements
  pub later_front : (v : X) (j k : ℕ) (xss : List (List X)) → j < k → AllByRecursion (IsInOrder cmp) xss → IsLeast cmp v j k xss → IsAtFront cmp v (joined xss)
  later_front v j k [] lt ordered least = tt
  later_front v j k ([] ∷ xss) lt ordered least = later_front v j (k + 1) xss (omega arith) ordered.1 least
  later_front v j k ((x ∷ xs) ∷ xss) lt ordered least = (least.1 lt, each-append _ xs (joined xss) (front-trans v x xs (least.1 lt) ordered.0.0) (later_front v j (k + 1) xss (omega arith) ordered.1 least.2))

  -- One ordered list of many begins with the least first element, of equal ones that of the earliest list.
  pub merged-next : (k : ℕ) (xss : List (List X)) (j : ℕ) (v : X) (t : List X) → j < length xss → get_or xss j [] ≡ v ∷ t → AllByRecursion (IsInOrder cmp) xss → IsLeast cmp v (k + j) k xss → merged cmp xss ≡ v ∷ merged cmp (set xss j t)
  merged-next k [] j v t at is ordered least = absurd (omega arith)
  merged-next k ([] ∷ xss) zero v t at is ordered least = cc
  merged-next k ((x ∷ xs) ∷ xss) zero v t at is ordered least =
      let ex : x ≡ v = cc in
      let et : xs ≡ t = cc in
      let later : IsAtFront cmp v (joined xss) = later_front v (k + 0) (k + 1) xss (omega arith) ordered.1 least.2 in
      let front : IsAtFront cmp v t = subst (λ (w : X). IsAtFront cmp w t) ex (subst (λ (ws : List X). IsAtFront cmp x ws) et ordered.0.0) in
      ap (λ (ws : List X). in_order cmp (ws ++ joined xss)) is ∙ in_order-first v t (joined xss) front later
  merged-next k ([] ∷ xss) (suc j) v t at is ordered least =
      merged-next (k + 1) xss j v t (omega arith) is ordered.1 (subst (λ (n : ℕ). IsLeast cmp v n (k + 1) xss) (omega arith) least)
  merged-next k ((x ∷ xs) ∷ xss) (suc j) v t at is ordered least =
      in_order-past v (x ∷ xs) (joined xss) (joined (set xss j t)) (least.0 (omega arith), before_all x xs v (least.0 (omega arith)) ordered.0.0)
      (merged-next (k + 1) xss j v t (omega arith) is ordered.1 (subst (λ (n : ℕ). IsLeast cmp v n (k + 1) xss) (omega arith) least.2))

  pub IsInOrder-in_order : (xs : List X) → IsInOrder cmp (in_order cmp xs)
  IsInOrder-in_order [] = tt
  IsInOrder-in_order (x ∷ xs) = IsInOrder-place_in x (in_order cmp xs) (IsInOrder-in_order xs)

  with_head : (p : X → Bool) (x y : X) (ys : List X) → is_gt (cmp x y) ≡ true → filter p (place_in cmp x ys) ≡ cond (p x) (place_in cmp x (filter p ys)) (filter p ys) → filter p (y ∷ place_in cmp x ys) ≡ cond (p x) (place_in cmp x (filter p (y ∷ ys))) (filter p (y ∷ ys))
  with_head p x y ys gt e = elim (cases_Bool (p y)) [
    | inl yes_y ↦ elim (cases_Bool (p x)) [
      | inl yes_x ↦ rw (e, yes_y, yes_x) (rw gt)
      | inr no_x ↦ rw (e, yes_y, no_x)
    ]
    | inr no_y ↦ rw (e, no_y)
  ]

  -- a test keeps what it takes out of a list in order
  pub filter-place_in : (p : X → Bool) (x : X) (xs : List X) → IsInOrder cmp xs → filter p (place_in cmp x xs) ≡ cond (p x) (place_in cmp x (filter p xs)) (filter p xs)
  filter-place_in p x [] all = refl
  filter-place_in p x (y ∷ ys) all =
      elim (cases_Bool (is_gt (cmp x y))) [
        | inl gt ↦ rw gt (with_head p x y ys gt (filter-place_in p x ys all.1))
        | inr le ↦ rw le (ap (λ (zs : List X). cond (p x) zs (filter p (y ∷ ys))) (sym (place_in-front x (filter p (y ∷ ys)) (each-filter p _ (y ∷ ys) (le, front-trans x y ys le all.0)))))
      ]

  pub filter-in_order : (p : X → Bool) (xs : List X) → filter p (in_order cmp xs) ≡ in_order cmp (filter p xs)
  filter-in_order p [] = refl
  filter-in_order p (x ∷ xs) =
      filter-place_in p x (in_order cmp xs) (IsInOrder-in_order xs)
      ∙ rw (filter-in_order p xs) (by_test (p x))
    where
      by_test : (b : Bool) → cond b (place_in cmp x (in_order cmp (filter p xs))) (in_order cmp (filter p xs)) ≡ in_order cmp (cond b (x ∷ filter p xs) (filter p xs))
      by_test true = refl
      by_test false = refl

  pub filter-merged : (p : X → Bool) (xss : List (List X)) → filter p (merged cmp xss) ≡ merged cmp (map (filter p) xss)
  filter-merged p xss = filter-in_order p (joined xss) ∙ ap (in_order cmp) (filter-joined p xss)

pub IsInOrder-prop : {X : Type 0} (cmp : X → X → Ordering) (xs : List X) → IsProp (IsInOrder cmp xs)
IsInOrder-prop cmp [] = Unit-prop
IsInOrder-prop cmp (x ∷ xs) = ×_prop (AllByRecursion-prop _ (λ y. Bool-set _ _) xs) (IsInOrder-prop cmp xs)

-- where the whole order says that a isn't behind, so does its first part
pub by_key : (a b : Ordering) → is_gt (ordering_then a b) ≡ false → is_gt a ≡ false
by_key Less b is = refl
by_key Equal b is = refl
by_key Greater b is = cc

pub not_before : {X : Type 0} (cmp : X → X → Ordering) (o : IsTotalOrder cmp) (a b k : X) → is_gt (cmp a b) ≡ false → is_lt (cmp a k) ≡ false → is_lt (cmp b k) ≡ false
not_before cmp o a b k upto least = go (cmp a b) refl upto (cmp b k) refl
  where
    go : (x : Ordering) → cmp a b ≡ x → is_gt x ≡ false → (y : Ordering) → cmp b k ≡ y → is_lt y ≡ false
    go x ex le Equal ey = refl
    go x ex le Greater ey = refl
    go Less ex le Less ey = let e : cmp a k ≡ Less = o.trans a b k ex ey in let t : is_lt (cmp a k) ≡ true = ap is_lt e in cc
    go Equal ex le Less ey = let e : cmp a k ≡ cmp b k = o.congr a b k ex in let t : is_lt (cmp a k) ≡ true = ap is_lt (e ∙ ey) in cc
    go Greater ex le Less ey = cc
