-- A list in order is as long, and its files are.
use Rattle.std.proofs.Common.{◌≡◌, ◌+◌, List, [], ◌∷◌, refl, length, true, false, cond, arith}
use Rattle.std.specs.declared.cmp.Ordering.{Ordering}
use Rattle.std.specs.Ordering.{is_gt}
use Rattle.mr_iter.specs.Versions.{place_in, in_order}
use Rattle.mr_manifest.specs.declared.live.LiveRun.{LiveRun}
use Rattle.mr_run_judge.specs.Judged.{lengths}

module _ (cmp : LiveRun → LiveRun → Ordering) where
  length-place_in : (x : LiveRun) (xs : List LiveRun) → length (place_in cmp x xs) ≡ 1 + length xs
  length-place_in x [] = refl
  length-place_in x (y ∷ ys) = elim (is_gt (cmp x y)) as (λ b. length (cond b (y ∷ place_in cmp x ys) (x ∷ y ∷ ys)) ≡ 1 + length (y ∷ ys)) [
    | true ↦ let e : length (place_in cmp x ys) ≡ 1 + length ys = length-place_in x ys in omega (arith, e)
    | false ↦ omega arith
  ]

  pub length-in_order : (xs : List LiveRun) → length (in_order cmp xs) ≡ length xs
  length-in_order [] = refl
  length-in_order (x ∷ xs) = let e : length (in_order cmp xs) ≡ length xs = length-in_order xs in let f : length (place_in cmp x (in_order cmp xs)) ≡ 1 + length (in_order cmp xs) = length-place_in x (in_order cmp xs) in omega (arith, e, f)

  lengths-place_in : (x : LiveRun) (xs : List LiveRun) → lengths (place_in cmp x xs) ≡ x.length + lengths xs
  lengths-place_in x [] = refl
  lengths-place_in x (y ∷ ys) = elim (is_gt (cmp x y)) as (λ b. lengths (cond b (y ∷ place_in cmp x ys) (x ∷ y ∷ ys)) ≡ x.length + lengths (y ∷ ys)) [
    | true ↦ let e : lengths (place_in cmp x ys) ≡ x.length + lengths ys = lengths-place_in x ys in omega (arith, e)
    | false ↦ refl
  ]

  pub lengths-in_order : (xs : List LiveRun) → lengths (in_order cmp xs) ≡ lengths xs
  lengths-in_order [] = refl
  lengths-in_order (x ∷ xs) = let e : lengths (in_order cmp xs) ≡ lengths xs = lengths-in_order xs in let f : lengths (place_in cmp x (in_order cmp xs)) ≡ x.length + lengths (in_order cmp xs) = lengths-place_in x (in_order cmp xs) in omega (arith, e, f)
