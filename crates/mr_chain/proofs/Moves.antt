-- One of many children moves.
use Rattle.std.proofs.Common.{◌≡◌, ℕ, ◌<◌, ◌≤◌, IsTrue, Bool, true, List, [], ◌∷◌, length, map, get_or, set, suc, zero, sym, ◌∙◌, ap, subst, inl, inr, arith}
use Rattle.std.specs.List.{AllByRecursion, list_all}
use Rattle.mr_base.specs.Disk.{State, Tells, Image, seen}
use Rattle.mr_base.specs.declared.stop.Stop.{Stop}
use Rattle.mr_base.specs.declared.stop.Stop.TheVariants.{Memory, Disk, Full, Damaged}
use Rattle.mr_base.specs.declared.stop.Direction.{Direction}
use Rattle.mr_iter.specs.Cursors.{CursorState, MayStop}
use Rattle.mr_iter.specs.Walks.{image_same, same_list}
use Rattle.mr_base.specs.Calls.{Same}
use Rattle.mr_iter.specs.Children.{Zipped, AnyOf, KeepsChild}
use Rattle.mr_iter.specs.Places.{and_split}

module _ {K : Type 0} where
  zipped_same : (Q : K → K → Type 0) → ((x : K) → Q x x) → (xs : List K) → Zipped Q xs xs
  zipped_same Q so [] = tt
  zipped_same Q so (x ∷ xs) = (so x, zipped_same Q so xs)

  pub zipped_set : (Q : K → K → Type 0) → ((z : K) → Q z z) → (xs : List K) (j : ℕ) (x y : K) → x ≡ get_or xs j x → Q x y → Zipped Q xs (set xs j y)
  zipped_set Q still [] j x y at here = tt
  zipped_set Q still (w ∷ ws) zero x y at here = (subst (λ (v : K). Q v y) at here, zipped_same Q still ws)
  zipped_set Q still (w ∷ ws) (suc j) x y at here = (still w, zipped_set Q still ws j x y at here)

  pub each_of : (P : K → Type 0) (xs : List K) (n : ℕ) (x : K) → n < length xs → x ≡ get_or xs n x → AllByRecursion P xs → P x
  each_of P [] n x lt is all = absurd (omega (arith, lt))
  each_of P (w ∷ ws) zero x lt is all = subst P (sym is) all.0
  each_of P (w ∷ ws) (suc n) x lt is all = each_of P ws n x (omega (arith, lt)) is all.1

  pub any_of : (P : K → Type 0) (xs : List K) (n : ℕ) (x : K) → n < length xs → x ≡ get_or xs n x → P x → AnyOf P xs
  any_of P [] n x lt is here = absurd (omega (arith, lt))
  any_of P (w ∷ ws) zero x lt is here = inl (subst P is here)
  any_of P (w ∷ ws) (suc n) x lt is here = inr (any_of P ws n x (omega (arith, lt)) is here)

  -- of the one that changed it holds only if it did before
  pub any_set : (P : K → Type 0) (xs : List K) (n : ℕ) (x y : K) → n < length xs → x ≡ get_or xs n x → (P y → P x) → AnyOf P (set xs n y) → AnyOf P xs
  any_set P [] n x y lt is so any = any
  any_set P (w ∷ ws) zero x y lt is so (inl here) = inl (subst P is (so here))
  any_set P (w ∷ ws) zero x y lt is so (inr later) = inr later
  any_set P (w ∷ ws) (suc n) x y lt is so (inl here) = inl here
  any_set P (w ∷ ws) (suc n) x y lt is so (inr later) = inr (any_set P ws n x y (omega (arith, lt)) is so later)

  pub direction_at : (f : K → CursorState) (d : Direction) (xs : List K) (j : ℕ) (x : K) → x ≡ get_or xs j x → j < length xs → AllByRecursion (λ (c : CursorState). c.direction ≡ d) (map f xs) → (f x).direction ≡ d
  direction_at f d [] j x at lt all = absurd (omega (arith, lt))
  direction_at f d (w ∷ ws) zero x at lt all = ap (λ (z : K). (f z).direction) at ∙ all.0
  direction_at f d (w ∷ ws) (suc j) x at lt all = direction_at f d ws j x at (omega (arith, lt)) all.1

  -- what each child says, one of them says
  pub one_says : (f : K → CursorState) (P : CursorState → Bool) (xs : List K) (j : ℕ) (x : K) → x ≡ get_or xs j x → j < length xs → list_all P (map f xs) ≡ true → P (f x) ≡ true
  one_says f P [] j x at lt all = absurd (omega (arith, lt))
  one_says f P (w ∷ ws) zero x at lt all = ap (λ (z : K). P (f z)) at ∙ (and_split (P (f w)) (list_all P (map f ws)) all).0
  one_says f P (w ∷ ws) (suc j) x at lt all = one_says f P ws j x at (omega (arith, lt)) (and_split (P (f w)) (list_all P (map f ws)) all).1

  pub kept_still : (f : K → CursorState) (whole : K → Image → Type 0) (start : State) (z : K) → KeepsChild f whole (seen start) (Tells start) z z
  kept_still f whole start z = record { list = same_list (f z); stays_whole = λ told is. is }

-- a stop of a later call, as one since the start
pub stop_since : (start mid new : State) → mid.tells ≡ start.tells → (Tells start → Same start mid) → start.faults ≤ mid.faults → (there all : Image → ℕ → ℕ → Type 0) → ((image : Image) (file at : ℕ) → there image file at → all image file at) →
    (stop : Stop) → MayStop there mid new stop → MayStop all start new stop
stop_since start mid new tells same later there all so Memory may = may
stop_since start mid new tells same later there all so Disk may = omega (arith, later, may)
stop_since start mid new tells same later there all so (Full what at limit) may = may
stop_since start mid new tells same later there all so (Damaged file at) may = record {
  image = may.image;
  told = λ told. may.told (subst (λ b. IsTrue b) (sym tells) told) ∙ image_same start mid (same told);
  offence = so may.image file at may.offence;
}
