-- One more row behind all that came before it, and the first rows in order.
use Rattle.std.proofs.Common.{◌≡◌, ◌⊎◌, ◌+◌, ◌-◌, ◌≤◌, ◌<◌, ℕ, length, get_or, subst, IfSome, Bool, true, false, cond, List, [], ◌∷◌, ◌++◌, take, drop, Option, Some, None, refl, sym, ◌∙◌, ap, inl, inr, arith, append_assoc}
use Rattle.std.specs.Prelude.{zero, suc}
use Rattle.std.specs.Cmp.{IsTotalOrder}
use Rattle.std.specs.List.{AllByRecursion}
use Rattle.std.specs.Ordering.{is_gt, is_lt, ordering_reverse}
use Rattle.std.specs.declared.cmp.Ordering.{Ordering}
use Rattle.std.specs.declared.cmp.Ordering.TheVariants.{Less, Equal, Greater}
use Rattle.std.proofs.lemmas.Bool.{cases_Bool}
use Rattle.std.proofs.lemmas.Cmp.{upto}
use Rattle.std.proofs.lemmas.List.{take-take, drop-take, length-take-le, length_push, get_or_append_left}
use Rattle.mr_types.specs.declared.row.Row.{Row}
use Rattle.mr_spec.specs.Select.{sorted, sorted_in, limited}
use Rattle.mr_orders.specs.Orders.{IsInOrder}
use Rattle.mr_orders.proofs.Sorts.{ordered}
use Rattle.mr_exec.specs.Gathering.{StandsFor, IsReach}
use Rattle.mr_exec.specs.declared.held.Held.{Held}
use Rattle.mr_exec.specs.Sources.{Stepped}
use Rattle.mr_exec.specs.Holding.{IsBound, Holds}
use Rattle.mr_exec.proofs.Kept.{in-front, step-behind, step-before}

-- a row among rows in order, behind those that it ties with
abbrev pub sorted-behind : (Row → Row → Ordering) → Row → List Row → List Row
sorted-behind cmp x [] = x ∷ []
sorted-behind cmp x (y ∷ ys) = cond (is_lt (cmp x y)) (x ∷ y ∷ ys) (y ∷ sorted-behind cmp x ys)

put-before : (cmp : Row → Row → Ordering) (x y : Row) (ys : List Row) → is_lt (cmp x y) ≡ true → sorted-behind cmp x (y ∷ ys) ≡ x ∷ y ∷ ys
put-before cmp x y ys h = rw h

put-behind : (cmp : Row → Row → Ordering) (x y : Row) (ys : List Row) → is_lt (cmp x y) ≡ false → sorted-behind cmp x (y ∷ ys) ≡ y ∷ sorted-behind cmp x ys
put-behind cmp x y ys h = rw h

module _ (cmp : Row → Row → Ordering) (o : IsTotalOrder cmp) where
  turned : (a b : Ordering) → b ≡ ordering_reverse a → is_gt b ≡ is_lt a
  turned Less b e = rw e
  turned Equal b e = rw e
  turned Greater b e = rw e

  -- y stands behind x just where x is before y
  back : (x y : Row) → is_gt (cmp y x) ≡ is_lt (cmp x y)
  back x y = turned (cmp x y) (cmp y x) (o.antisymm y x)

  not-before : (a b : Ordering) → b ≡ ordering_reverse a → is_lt a ≡ false → is_gt b ≡ false
  not-before Less b e h = cc
  not-before Equal b e h = rw e
  not-before Greater b e h = rw e

  not-behind : (a : Ordering) → is_lt a ≡ true → is_gt a ≡ false
  not-behind Less h = refl
  not-behind Equal h = refl
  not-behind Greater h = cc

  never : (b : Bool) → b ≡ true → b ≡ false → ⊥
  never true e f = cc
  never false e f = cc

  -- x is before l, and y behind it
  past : (x y l : Row) → is_gt (cmp y l) ≡ true → is_lt (cmp x l) ≡ true → is_gt (cmp y x) ≡ true
  past x y l gt lt = elim (cases_Bool (is_gt (cmp y x))) [
    | inl h ↦ h
    | inr h ↦ absurd (never (is_gt (cmp y l)) gt (upto o y x l h (not-behind (cmp x l) lt)))
  ]

  -- y isn't behind l, nor x before it
  at-most : (x y l : Row) → is_gt (cmp y l) ≡ false → is_lt (cmp x l) ≡ false → is_lt (cmp x y) ≡ false
  at-most x y l gt lt = sym (back x y) ∙ upto o y l x gt (not-before (cmp x l) (cmp l x) (o.antisymm l x) lt)

  abbrev Exchanged : Row → Row → List Row → Type 0
  Exchanged x y ls = sorted_in cmp y (sorted-behind cmp x ls) ≡ sorted-behind cmp x (sorted_in cmp y ls)

  before-both : (x y l : Row) (ls : List Row) → is_gt (cmp y l) ≡ false → is_lt (cmp x l) ≡ true → (is_lt (cmp x y) ≡ true) ⊎ (is_lt (cmp x y) ≡ false) → sorted_in cmp y (x ∷ l ∷ ls) ≡ sorted-behind cmp x (y ∷ l ∷ ls)
  before-both x y l ls gt lt (inl h) =
      step-behind cmp y x (l ∷ ls) (back x y ∙ h) ∙ ap (λ zs. x ∷ zs) (step-before cmp y l ls gt) ∙ sym (put-before cmp x y (l ∷ ls) h)
  before-both x y l ls gt lt (inr h) =
      step-before cmp y x (l ∷ ls) (back x y ∙ h) ∙ sym (put-behind cmp x y (l ∷ ls) h ∙ ap (λ zs. y ∷ zs) (put-before cmp x l ls lt))

  by-place : (x y l : Row) (ls : List Row) → Exchanged x y ls → (is_gt (cmp y l) ≡ true) ⊎ (is_gt (cmp y l) ≡ false) → (is_lt (cmp x l) ≡ true) ⊎ (is_lt (cmp x l) ≡ false) → Exchanged x y (l ∷ ls)
  by-place x y l ls more (inl gt) (inl lt) =
      ap (sorted_in cmp y) (put-before cmp x l ls lt) ∙ step-behind cmp y x (l ∷ ls) (past x y l gt lt) ∙ ap (λ zs. x ∷ zs) (step-behind cmp y l ls gt)
      ∙ sym (ap (sorted-behind cmp x) (step-behind cmp y l ls gt) ∙ put-before cmp x l (sorted_in cmp y ls) lt)
  by-place x y l ls more (inl gt) (inr lt) =
      ap (sorted_in cmp y) (put-behind cmp x l ls lt) ∙ step-behind cmp y l (sorted-behind cmp x ls) gt ∙ ap (λ zs. l ∷ zs) more
      ∙ sym (ap (sorted-behind cmp x) (step-behind cmp y l ls gt) ∙ put-behind cmp x l (sorted_in cmp y ls) lt)
  by-place x y l ls more (inr gt) (inl lt) =
      ap (sorted_in cmp y) (put-before cmp x l ls lt) ∙ before-both x y l ls gt lt (cases_Bool (is_lt (cmp x y))) ∙ sym (ap (sorted-behind cmp x) (step-before cmp y l ls gt))
  by-place x y l ls more (inr gt) (inr lt) =
      ap (sorted_in cmp y) (put-behind cmp x l ls lt) ∙ step-before cmp y l (sorted-behind cmp x ls) gt
      ∙ sym (ap (sorted-behind cmp x) (step-before cmp y l ls gt) ∙ put-behind cmp x y (l ∷ ls) (at-most x y l gt lt) ∙ ap (λ zs. y ∷ zs) (put-behind cmp x l ls lt))

  exchanged : (x y : Row) (ls : List Row) → Exchanged x y ls
  exchanged x y [] = elim (cases_Bool (is_lt (cmp x y))) [
    | inl h ↦ step-behind cmp y x [] (back x y ∙ h) ∙ sym (put-before cmp x y [] h)
    | inr h ↦ step-before cmp y x [] (back x y ∙ h) ∙ sym (put-behind cmp x y [] h)
  ]
  exchanged x y (l ∷ ls) = by-place x y l ls (exchanged x y ls) (cases_Bool (is_gt (cmp y l))) (cases_Bool (is_lt (cmp x l)))

  pub one-more : (xs : List Row) (x : Row) → sorted cmp (xs ++ x ∷ []) ≡ sorted-behind cmp x (sorted cmp xs)
  one-more [] x = refl
  one-more (y ∷ ys) x = ap (sorted_in cmp y) (one-more ys x) ∙ exchanged x y (sorted cmp ys)

  -- ---- the first rows

  first-behind : (k : ℕ) (x : Row) (us : List Row) → take k (sorted-behind cmp x us) ≡ take k (sorted-behind cmp x (take k us))
  first-behind zero x us = refl
  first-behind (suc k) x [] = refl
  first-behind (suc k) x (u ∷ us) = elim (cases_Bool (is_lt (cmp x u))) [
    | inl h ↦ ap (take (suc k)) (put-before cmp x u us h) ∙ ap (λ zs. x ∷ zs) (sym (take-take k (suc k) (u ∷ us) (omega arith))) ∙ sym (ap (take (suc k)) (put-before cmp x u (take k us) h))
    | inr h ↦ ap (take (suc k)) (put-behind cmp x u us h) ∙ ap (λ zs. u ∷ zs) (first-behind k x us) ∙ sym (ap (take (suc k)) (put-behind cmp x u (take k us) h))
  ]

  alike-behind : (k : ℕ) (x : Row) (us vs : List Row) → take k us ≡ take k vs → take k (sorted-behind cmp x us) ≡ take k (sorted-behind cmp x vs)
  alike-behind k x us vs e = first-behind k x us ∙ ap (λ zs. take k (sorted-behind cmp x zs)) e ∙ sym (first-behind k x vs)

  -- one row more is held
  pub stands-for-more : (most : Option ℕ) (held seen : List Row) (x : Row) → StandsFor cmp most held seen → StandsFor cmp most (held ++ x ∷ []) (seen ++ x ∷ [])
  stands-for-more None held seen x e = ap (λ zs. zs ++ x ∷ []) e
  stands-for-more (Some k) held seen x e =
      ap (take k) (one-more held x) ∙ alike-behind k x (sorted cmp held) (sorted cmp seen) e ∙ sym (ap (take k) (one-more seen x))

  -- rows in order are in order once more
  again : (xs : List Row) → IsInOrder cmp xs → sorted cmp xs ≡ xs
  again [] all = refl
  again (x ∷ xs) all = ap (sorted_in cmp x) (again xs all.1) ∙ in-front cmp o x xs all.0

  each-taken : (P : Row → Type 0) (k : ℕ) (xs : List Row) → AllByRecursion P xs → AllByRecursion P (take k xs)
  each-taken P zero xs all = tt
  each-taken P (suc k) [] all = tt
  each-taken P (suc k) (x ∷ xs) all = (all.0, each-taken P k xs all.1)

  in-order-taken : (k : ℕ) (xs : List Row) → IsInOrder cmp xs → IsInOrder cmp (take k xs)
  in-order-taken zero xs all = tt
  in-order-taken (suc k) [] all = tt
  in-order-taken (suc k) (x ∷ xs) all = (each-taken (λ s. is_gt (cmp x s) ≡ false) k xs all.0, in-order-taken k xs all.1)

  -- the rows behind the first ones are dropped
  pub stands-for-first : (k : ℕ) (rows : List Row) → StandsFor cmp (Some k) (take k (sorted cmp rows)) rows
  stands-for-first k rows =
      ap (take k) (again (take k (sorted cmp rows)) (in-order-taken k (sorted cmp rows) (ordered cmp o rows))) ∙ take-take k k (sorted cmp rows) (omega arith)

  pub stands-for-both : (most : Option ℕ) (held rows seen : List Row) → StandsFor cmp most held rows → StandsFor cmp most rows seen → StandsFor cmp most held seen
  stands-for-both None held rows seen a b = a ∙ b
  stands-for-both (Some k) held rows seen a b = a ∙ b

  -- ---- rows behind those that are looked at

  -- a row that isn't before the first rows leaves them the first
  behind-first : (k : ℕ) (x : Row) (ls : List Row) → k ≤ length ls → AllByRecursion (λ y. is_lt (cmp x y) ≡ false) (take k ls) → take k (sorted-behind cmp x ls) ≡ take k ls
  behind-first zero x ls le all = refl
  behind-first (suc k) x [] le all = absurd (omega arith)
  behind-first (suc k) x (l ∷ ls) le all = ap (take (suc k)) (put-behind cmp x l ls all.0) ∙ ap (λ zs. l ∷ zs) (behind-first k x ls (omega arith) all.1)

  up-to : (x w : Row) (ys : List Row) → is_lt (cmp x w) ≡ false → AllByRecursion (λ y. is_gt (cmp y w) ≡ false) ys → AllByRecursion (λ y. is_lt (cmp x y) ≡ false) ys
  up-to x w [] h all = tt
  up-to x w (y ∷ ys) h all = (at-most x y w all.0 h, up-to x w ys h all.1)

  long-in : (x : Row) (xs : List Row) → length (sorted_in cmp x xs) ≡ suc (length xs)
  long-in x [] = refl
  long-in x (y ∷ ys) = elim (is_gt (cmp x y)) as (λ b. length (cond b (y ∷ sorted_in cmp x ys) (x ∷ y ∷ ys)) ≡ suc (suc (length ys))) [
    | true ↦ ap suc (long-in x ys)
    | false ↦ refl
  ]

  pub long : (xs : List Row) → length (sorted cmp xs) ≡ length xs
  long [] = refl
  long (x ∷ xs) = long-in x (sorted cmp xs) ∙ ap suc (long xs)

  passed-over : (k : ℕ) (held seen : List Row) (x w : Row) → k ≤ length held → AllByRecursion (λ y. is_gt (cmp y w) ≡ false) (take k (sorted cmp held)) → is_lt (cmp x w) ≡ false → StandsFor cmp (Some k) held seen → StandsFor cmp (Some k) held (seen ++ x ∷ [])
  passed-over k held seen x w le all h stands =
      let longer = long held in
      stands ∙ sym (ap (take k) (one-more seen x) ∙ alike-behind k x (sorted cmp seen) (sorted cmp held) (sym stands) ∙ behind-first k x (sorted cmp held) (omega arith) (up-to x w (take k (sorted cmp held)) h all) ∙ stands)

  -- so it stays where a row is added
  prefix-all : (P : Row → Type 0) (k : ℕ) (ls : List Row) → AllByRecursion P (take (suc k) ls) → AllByRecursion P (take k ls)
  prefix-all P zero ls all = tt
  prefix-all P (suc k) [] all = tt
  prefix-all P (suc k) (l ∷ ls) all = (all.0, prefix-all P k ls all.1)

  before-last : (y l w : Row) → is_lt (cmp y l) ≡ true → is_gt (cmp l w) ≡ false → is_gt (cmp y w) ≡ false
  before-last y l w lt le = upto o y l w (not-behind (cmp y l) lt) le

  bound-behind : (k : ℕ) (y w : Row) (ls : List Row) → k ≤ length ls → AllByRecursion (λ z. is_gt (cmp z w) ≡ false) (take k ls) → AllByRecursion (λ z. is_gt (cmp z w) ≡ false) (take k (sorted-behind cmp y ls))
  bound-behind zero y w ls le all = tt
  bound-behind (suc k) y w [] le all = absurd (omega arith)
  bound-behind (suc k) y w (l ∷ ls) le all = elim (cases_Bool (is_lt (cmp y l))) [
    | inl h ↦ subst (λ zs. AllByRecursion (λ z. is_gt (cmp z w) ≡ false) (take (suc k) zs)) (sym (put-before cmp y l ls h)) (before-last y l w h all.0, prefix-all (λ z. is_gt (cmp z w) ≡ false) k (l ∷ ls) all)
    | inr h ↦ subst (λ zs. AllByRecursion (λ z. is_gt (cmp z w) ≡ false) (take (suc k) zs)) (sym (put-behind cmp y l ls h)) (all.0, bound-behind k y w ls (omega arith) all.1)
  ]

  pub bound-more : (reach : Option ℕ) (rows : List Row) (y : Row) → IsBound cmp reach rows → IsBound cmp reach (rows ++ y ∷ [])
  bound-more None rows y b = b
  bound-more (Some k) rows y b =
      let longer = length_push rows y in (
        omega (arith, b.0),
        b.1,
        λ d.
            subst (λ (w : Row). AllByRecursion (λ z. is_gt (cmp z w) ≡ false) (take k (sorted cmp (rows ++ y ∷ [])))) (sym (get_or_append_left rows (y ∷ []) d (k - 1) (omega (arith, b.0, b.1))))
            (subst (λ zs. AllByRecursion (λ z. is_gt (cmp z (get_or rows (k - 1) d)) ≡ false) (take k zs)) (sym (one-more rows y)) (bound-behind k y (get_or rows (k - 1) d) (sorted cmp rows) (omega (arith, b.0, long rows)) (b.2 d))),
      )

  -- the last of rows in order bounds them
  at-place : (P : Row → Type 0) (i : ℕ) (xs : List Row) (d : Row) → i < length xs → AllByRecursion P xs → P (get_or xs i d)
  at-place P i [] d lt all = absurd (omega arith)
  at-place P zero (x ∷ xs) d lt all = all.0
  at-place P (suc i) (x ∷ xs) d lt all = at-place P i xs d (omega arith) all.1

  equal : (a : Ordering) → a ≡ ordering_reverse a → is_gt a ≡ false
  equal Less e = refl
  equal Equal e = refl
  equal Greater e = cc

  last-bounds : (x : Row) (xs : List Row) (d : Row) → IsInOrder cmp (x ∷ xs) → AllByRecursion (λ y. is_gt (cmp y (get_or (x ∷ xs) (length xs) d)) ≡ false) (x ∷ xs)
  last-bounds x [] d all = (equal (cmp x x) (o.antisymm x x), tt)
  last-bounds x (y ∷ ys) d all = (at-place (λ z. is_gt (cmp x z) ≡ false) (length ys) (y ∷ ys) d (omega arith) all.0, last-bounds y ys d all.1)

  ends-bound : (k : ℕ) (xs : List Row) (d : Row) → 0 < k → length xs ≡ k → IsInOrder cmp xs → AllByRecursion (λ y. is_gt (cmp y (get_or xs (k - 1) d)) ≡ false) xs
  ends-bound k [] d pos' e all = tt
  ends-bound k (x ∷ xs) d pos' e all = let at : length xs ≡ k - 1 = omega arith in subst (λ (i : ℕ). AllByRecursion (λ y. is_gt (cmp y (get_or (x ∷ xs) i d)) ≡ false) (x ∷ xs)) at (last-bounds x xs d all)

  pub bound-cut : (k : ℕ) (rows : List Row) → 0 < k → k ≤ length rows → IsBound cmp (Some k) (take k (sorted cmp rows))
  bound-cut k rows pos' le =
      let front : List Row = take k (sorted cmp rows) in
      let longer = long rows in
      let size : length front ≡ k = length-take-le k (sorted cmp rows) (omega arith) in
      let order : IsInOrder cmp front = in-order-taken k (sorted cmp rows) (ordered cmp o rows) in
      let whole : take k (sorted cmp front) ≡ front = ap (take k) (again front order) ∙ take-take k k (sorted cmp rows) (omega arith) in
      (omega arith, pos', λ d. subst (λ zs. AllByRecursion (λ y. is_gt (cmp y (get_or front (k - 1) d)) ≡ false) zs) (sym whole) (ends-bound k front d pos' size order))

  pub passes-over : (reach : Option ℕ) (held seen : List Row) (x : Row) → StandsFor cmp reach held seen → IsBound cmp reach held → ((k : ℕ) (d : Row) → reach ≡ Some k → is_lt (cmp x (get_or held (k - 1) d)) ≡ false) → StandsFor cmp reach held (seen ++ x ∷ [])
  passes-over None held seen x stands b h = absurd b
  passes-over (Some k) held seen x stands b h = passed-over k held seen x (get_or held (k - 1) x) b.0 (b.2 x) (h k x refl) stands

  -- ---- LIMIT

  within : (skip most : ℕ) (us vs : List Row) → take (skip + most) us ≡ take (skip + most) vs → take most (drop skip us) ≡ take most (drop skip vs)
  within skip most us vs e = sym (drop-take skip most us) ∙ ap (drop skip) e ∙ drop-take skip most vs

  pub limited-alike : (skip : ℕ) (most reach : Option ℕ) (held seen : List Row) → IsReach skip most reach → StandsFor cmp reach held seen → limited skip most (sorted cmp held) ≡ limited skip most (sorted cmp seen)
  limited-alike skip None None held seen r h = ap (λ rows. limited skip None (sorted cmp rows)) h
  limited-alike skip (Some most) None held seen r h = ap (λ rows. limited skip (Some most) (sorted cmp rows)) h
  limited-alike skip None (Some k) held seen r h = cc
  limited-alike skip (Some most) (Some k) held seen r h = within skip most (sorted cmp held) (sorted cmp seen) (ap (λ n. take n (sorted cmp held)) (sym r.1) ∙ h ∙ ap (λ n. take n (sorted cmp seen)) r.1)

pub if-on : (o : Option Row) (P Q : Row → Type 0) → ((r : Row) → P r → Q r) → IfSome o P → IfSome o Q
if-on None P Q so p = p
if-on (Some r) P Q so p = so r p

pub same-number : (m n : ℕ) → Some m ≡ Some n → m ≡ n
same-number m n e = cc

-- a step onto a row that is kept and passed over
pub kept-passed : (cmp : Row → Row → Ordering) (reach : Option ℕ) (held : Held) (before rest whole : List Row) (now : Option Row) → Stepped true before now rest → IfSome now (λ r. (seen : List Row) → Holds cmp reach held seen → Holds cmp reach held (seen ++ r ∷ []))
    → (seen : List Row) × Holds cmp reach held seen × (seen ++ before ≡ whole) → (seen : List Row) × Holds cmp reach held seen × (seen ++ rest ≡ whole)
kept-passed cmp reach held before rest whole now (r, was, is) each (seen, h, so) =
    (seen ++ r ∷ [], subst (λ (o : Option Row). IfSome o (λ r. (seen : List Row) → Holds cmp reach held seen → Holds cmp reach held (seen ++ r ∷ []))) is each seen h, append_assoc seen (r ∷ []) rest ∙ ap (λ l. seen ++ l) (sym was) ∙ so)
