-- Lists of runs, one behind another.
use Rattle.std.proofs.Common.{◌≡◌, ℕ, ◌+◌, ◌<◌, ◌≤◌, Bool, List, [], ◌∷◌, ◌++◌, filter, length, map, take, get_or, zero, suc, add-one, refl, sym, ◌∙◌, ap, inl, inr, arith, Option, append_assoc}
use Rattle.std.proofs.lemmas.Bool.{cases_Bool}
use Rattle.mr_iter.specs.Versions.{Version, joined}
use Rattle.mr_iter.specs.Newest.{later, latest}
use Rattle.mr_iter.specs.Children.{AnyOf, total}
use Rattle.mr_iter.proofs.Newer.{later_assoc}

module _ {X : Type 0} where
  pub filter_append : (p : X → Bool) (xs ys : List X) → filter p (xs ++ ys) ≡ filter p xs ++ filter p ys
  filter_append p [] ys = refl
  filter_append p (x ∷ xs) ys = elim (cases_Bool (p x)) [
    | inl yes_x ↦ rw yes_x (ap (λ (zs : List X). x ∷ zs) (filter_append p xs ys))
    | inr no_x ↦ rw no_x (filter_append p xs ys)
  ]

  pub take_next : (xs : List X) (i : ℕ) (x : X) → i < length xs → take (i + 1) xs ≡ take i xs ++ get_or xs i x ∷ []
  take_next xs i x lt = ap (λ (n : ℕ). take n xs) (add-one i) ∙ go xs i x lt
    where
      go : (xs : List X) (i : ℕ) (x : X) → i < length xs → take (suc i) xs ≡ take i xs ++ get_or xs i x ∷ []
      go [] i x lt = absurd (omega (arith, lt))
      go (y ∷ ys) zero x lt = refl
      go (y ∷ ys) (suc i) x lt = ap (λ (zs : List X). y ∷ zs) (go ys i x (omega (arith, lt)))

  pub take_whole : (n : ℕ) (xs : List X) → length xs ≤ n → take n xs ≡ xs
  take_whole zero [] le = refl
  take_whole zero (x ∷ xs) le = absurd (omega (arith, le))
  take_whole (suc n) [] le = refl
  take_whole (suc n) (x ∷ xs) le = ap (λ (ys : List X). x ∷ ys) (take_whole n xs (omega (arith, le)))

  pub map_append : {Y : Type 0} (f : X → Y) (xs ys : List X) → map f (xs ++ ys) ≡ map f xs ++ map f ys
  map_append f [] ys = refl
  map_append {Y = Y} f (x ∷ xs) ys = ap (λ (zs : List Y). f x ∷ zs) (map_append f xs ys)

  pub joined_append : (xss yss : List (List X)) → joined (xss ++ yss) ≡ joined xss ++ joined yss
  joined_append [] yss = refl
  joined_append (xs ∷ xss) yss = ap (λ (zs : List X). xs ++ zs) (joined_append xss yss) ∙ sym (append_assoc xs (joined xss) (joined yss))

  pub total_append : (f : X → ℕ) (xs ys : List X) → total f (xs ++ ys) ≡ total f xs + total f ys
  total_append f [] ys = none (total f ys)
    where
      none : (n : ℕ) → n ≡ 0 + n
      none n = omega arith
  total_append f (x ∷ xs) ys = more (f x) (total f (xs ++ ys)) (total f xs) (total f ys) (total_append f xs ys)
    where
      more : (a m n k : ℕ) → m ≡ n + k → a + m ≡ (a + n) + k
      more a m n k e = omega (arith, e)

  pub any_front : (P : X → Type 0) (xs ys : List X) → AnyOf P xs → AnyOf P (xs ++ ys)
  any_front P [] ys any = absurd any
  any_front P (x ∷ xs) ys (inl here) = inl here
  any_front P (x ∷ xs) ys (inr later) = inr (any_front P xs ys later)

  pub any_behind : (P : X → Type 0) (xs ys : List X) → AnyOf P ys → AnyOf P (xs ++ ys)
  any_behind P [] ys any = any
  any_behind P (x ∷ xs) ys any = inr (any_behind P xs ys any)

pub latest_append : (os ps : List (Option Version)) → latest (os ++ ps) ≡ later (latest os) (latest ps)
latest_append [] ps = refl
latest_append (o ∷ os) ps = ap (later o) (latest_append os ps) ∙ sym (later_assoc o (latest os) (latest ps))
