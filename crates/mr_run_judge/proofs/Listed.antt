-- The ends of a run that is listed.
use Rattle.std.proofs.Common.{◌≡◌, ◌<◌, ◌+◌, ℕ, Bool, true, false, List, [], ◌∷◌, refl, sym, ◌∙◌, ap, subst, arith, length, drop}
use Rattle.std.specs.Prelude.{◌||◌, ◌&&◌, ◌==◌, suc, zero, cond, map}
use Rattle.std.specs.List.{AllByRecursion}
use Rattle.std.specs.declared.cmp.Ordering.{Ordering}
use Rattle.std.specs.Ordering.{is_gt}
use Rattle.std.proofs.lemmas.Bool.{eqb-true, eq-eqb}
use lib.ListN.{get_or}
use Rattle.mr_iter.specs.Versions.{place_in, in_order}
use Rattle.mr_manifest.specs.declared.live.LiveRun.{LiveRun}
use Rattle.mr_run_judge.specs.declared.ends.Ends.{Ends}
use Rattle.mr_run_judge.specs.Meeting.{is_run, is_listed, runs_of_ends}

both : (x y : Bool) → (x && y) ≡ true → (x ≡ true) × (y ≡ true)
both true y h = (refl, h)
both false y h = cc

abbrev built : ℕ → ℕ → ℕ → ℕ → ℕ → LiveRun
built file family level size entries = record { family = family; level = level; file = file; length = size; entries = entries }

made : (f f2 m m2 l l2 s s2 n n2 : ℕ) → f ≡ f2 → m ≡ m2 → l ≡ l2 → s ≡ s2 → n ≡ n2 → built f m l s n ≡ built f2 m2 l2 s2 n2
made f f2 m m2 l l2 s s2 n n2 ef em el es en = ap (λ x. built x m l s n) ef ∙ ap (λ x. built f2 x l s n) em ∙ ap (λ x. built f2 m2 x s n) el ∙ ap (λ x. built f2 m2 l2 x n) es ∙ ap (λ x. built f2 m2 l2 s2 x) en

equal : (m n : ℕ) → (m == n) ≡ true → m ≡ n
equal m n h = eqb-true m n h

itself-number : (n : ℕ) → (n == n) ≡ true
itself-number n = eq-eqb n n refl

pub same-run : (a b : LiveRun) → is_run a b ≡ true → a ≡ b
same-run a b h =
    let one = both (a.file == b.file) _ h in
    let two = both (a.family == b.family) _ one.1 in
    let three = both (a.level == b.level) _ two.1 in
    let four = both (a.length == b.length) _ three.1 in
    made a.file b.file a.family b.family a.level b.level a.length b.length a.entries b.entries (equal a.file b.file one.0) (equal a.family b.family two.0) (equal a.level b.level three.0) (equal a.length b.length four.0) (equal a.entries b.entries four.1)

pub same-get : {X : Type 0} (xs : List X) (i : ℕ) (d f : X) → i < length xs → get_or xs i d ≡ get_or xs i f
same-get [] i d f lt = absurd (omega arith)
same-get (x ∷ xs) zero d f lt = refl
same-get (x ∷ xs) (suc i) d f lt = same-get xs i d f (omega arith)

pub each-get : {X : Type 0} (P : X → Type 0) (xs : List X) (i : ℕ) (d : X) → i < length xs → AllByRecursion P xs → P (get_or xs i d)
each-get P [] i d lt all = absurd (omega arith)
each-get P (x ∷ xs) zero d lt all = all.0
each-get P (x ∷ xs) (suc i) d lt all = each-get P xs i d (omega arith) all.1

each-suc : {X : Type 0} (P : X → Type 0) (xs : List X) (i : ℕ) → i < length xs → AllByRecursion P (drop i xs) → AllByRecursion P (drop (suc i) xs)
each-suc P [] i lt all = absurd (omega arith)
each-suc P (x ∷ xs) zero lt all = all.1
each-suc P (x ∷ xs) (suc i) lt all = each-suc P xs i (omega arith) all

pub each-behind : {X : Type 0} (P : X → Type 0) (xs : List X) (i : ℕ) → i < length xs → AllByRecursion P (drop i xs) → AllByRecursion P (drop (i + 1) xs)
each-behind P xs i lt all = let e : suc i ≡ i + 1 = omega arith in subst (λ n. AllByRecursion P (drop n xs)) e (each-suc P xs i lt all)

itself : (a : LiveRun) → is_run a a ≡ true
itself a = let e = itself-number in rw (e a.file, e a.family, e a.level, e a.length, e a.entries)

or-right : (x y : Bool) → y ≡ true → (x || y) ≡ true
or-right true y h = refl
or-right false y h = h

exchanged : (x y z : Bool) → (x || (y || z)) ≡ (y || (x || z))
exchanged true true z = refl
exchanged true false z = refl
exchanged false y z = refl

more : (x : LiveRun) (all runs : List LiveRun) → AllByRecursion (λ (r : LiveRun). is_listed r all ≡ true) runs → AllByRecursion (λ (r : LiveRun). is_listed r (x ∷ all) ≡ true) runs
more x all [] each = tt
more x all (run ∷ runs) each = (or-right (is_run run x) (is_listed run all) each.0, more x all runs each.1)

all-listed : (runs : List LiveRun) → AllByRecursion (λ (r : LiveRun). is_listed r runs ≡ true) runs
all-listed [] = tt
all-listed (run ∷ runs) = (ap (λ b. b || is_listed run runs) (itself run), more run runs runs (all-listed runs))

module _ (cmp : LiveRun → LiveRun → Ordering) where
  listed-place_in : (r x : LiveRun) (xs : List LiveRun) → is_listed r (place_in cmp x xs) ≡ (is_run r x || is_listed r xs)
  listed-place_in r x [] = refl
  listed-place_in r x (y ∷ ys) = elim (is_gt (cmp x y)) as (λ b. is_listed r (cond b (y ∷ place_in cmp x ys) (x ∷ y ∷ ys)) ≡ (is_run r x || is_listed r (y ∷ ys))) [
    | true ↦ ap (λ b. is_run r y || b) (listed-place_in r x ys) ∙ exchanged (is_run r y) (is_run r x) (is_listed r ys)
    | false ↦ refl
  ]

  listed-in_order : (r : LiveRun) (xs : List LiveRun) → is_listed r (in_order cmp xs) ≡ is_listed r xs
  listed-in_order r [] = refl
  listed-in_order r (x ∷ xs) = listed-place_in r x (in_order cmp xs) ∙ ap (λ b. is_run r x || b) (listed-in_order r xs)

  each-listed : (all runs : List LiveRun) → AllByRecursion (λ (r : LiveRun). is_listed r all ≡ true) runs → AllByRecursion (λ (r : LiveRun). is_listed r (in_order cmp all) ≡ true) runs
  each-listed all [] each = tt
  each-listed all (run ∷ runs) each = (listed-in_order run all ∙ each.0, each-listed all runs each.1)

  runs-by-map : (es : List Ends) → runs_of_ends es ≡ map (λ (e : Ends). e.run) es
  runs-by-map [] = refl
  runs-by-map (e ∷ es) = ap (λ rs. e.run ∷ rs) (runs-by-map es)

  -- all runs are listed where they were opened in order
  pub opened-listed : (es : List Ends) (runs : List LiveRun) → map (λ (e : Ends). e.run) es ≡ in_order cmp runs → AllByRecursion (λ (r : LiveRun). is_listed r (runs_of_ends es) ≡ true) runs
  opened-listed es runs is = subst (λ rs. AllByRecursion (λ (r : LiveRun). is_listed r rs ≡ true) runs) (sym (runs-by-map es ∙ is)) (each-listed runs runs (all-listed runs))
