-- Many cursors, one after another.
use Rattle.std.proofs.Common.{◌≡◌, ℕ, ◌+◌, ◌<◌, ◌≤◌, List, [], ◌∷◌, length, get_or, set, take, suc, zero, sym, ◌∙◌, ap, subst, inl, inr, arith, add-one}
use Rattle.std.specs.List.{AllByRecursion}
use Rattle.mr_base.specs.Disk.{State}
use Rattle.mr_base.specs.Calls.{Counts}
use Rattle.mr_iter.specs.Children.{Zipped, AnyOf, total}

module _ {K : Type 0} where
  -- the first n elements of ys are in R to those of xs, and the others are those of xs
  abbrev pub DoneTo : (K → K → Type 0) → ℕ → List K → List K → Type 0
  DoneTo R zero xs ys = ys ≡ xs
  DoneTo R (suc n) [] ys = ys ≡ []
  DoneTo R (suc n) (x ∷ xs) [] = ⊥
  DoneTo R (suc n) (x ∷ xs) (y ∷ ys) = R x y × DoneTo R n xs ys

  pub done-get : (R : K → K → Type 0) (n : ℕ) (xs ys : List K) (d : K) → DoneTo R n xs ys → get_or ys n d ≡ get_or xs n d
  done-get R zero xs ys d done = ap (λ (zs : List K). get_or zs 0 d) done
  done-get R (suc n) [] ys d done = ap (λ (zs : List K). get_or zs (suc n) d) done
  done-get R (suc n) (x ∷ xs) [] d done = absurd done
  done-get R (suc n) (x ∷ xs) (y ∷ ys) d done = done-get R n xs ys d done.1

  pub done-length : (R : K → K → Type 0) (n : ℕ) (xs ys : List K) → DoneTo R n xs ys → length ys ≡ length xs
  done-length R zero xs ys done = ap length done
  done-length R (suc n) [] ys done = ap length done
  done-length R (suc n) (x ∷ xs) [] done = absurd done
  done-length R (suc n) (x ∷ xs) (y ∷ ys) done = ap suc (done-length R n xs ys done.1)

  -- one more is done; x is the element as it was read there
  pub done-more : (R : K → K → Type 0) (n : ℕ) (xs ys : List K) (x y : K) → n < length xs → DoneTo R n xs ys → x ≡ get_or ys n x → R x y → DoneTo R (n + 1) xs (set ys n y)
  done-more R n xs ys x y lt done is here = subst (λ (m : ℕ). DoneTo R m xs (set ys n y)) (sym (add-one n)) (go R n xs ys x y lt done is here)
    where
      go : (R : K → K → Type 0) (n : ℕ) (xs ys : List K) (x y : K) → n < length xs → DoneTo R n xs ys → x ≡ get_or ys n x → R x y → DoneTo R (suc n) xs (set ys n y)
      go R n [] ys x y lt done is here = absurd (omega arith)
      go R zero (w ∷ ws) [] x y lt done is here = cc
      go R zero (w ∷ ws) (z ∷ zs) x y lt done is here = (let e : x ≡ w = cc in subst (λ (v : K). R v y) e here, cc)
      go R (suc n) (w ∷ ws) [] x y lt done is here = absurd done
      go R (suc n) (w ∷ ws) (z ∷ zs) x y lt done is here = (done.0, go R n ws zs x y (omega arith) done.1 is here)

  pub done-all : (R : K → K → Type 0) (n : ℕ) (xs ys : List K) → length xs ≤ n → DoneTo R n xs ys → Zipped R xs ys
  done-all R zero [] ys le done = subst (Zipped R []) (sym done) tt
  done-all R zero (x ∷ xs) ys le done = absurd (omega arith)
  done-all R (suc n) [] ys le done = subst (Zipped R []) (sym done) tt
  done-all R (suc n) (x ∷ xs) [] le done = absurd done
  done-all R (suc n) (x ∷ xs) (y ∷ ys) le done = (done.0, done-all R n xs ys (omega arith) done.1)

  pub zipped-same : (R : K → K → Type 0) → ((x : K) → R x x) → (xs : List K) → Zipped R xs xs
  zipped-same R so [] = tt
  zipped-same R so (x ∷ xs) = (so x, zipped-same R so xs)

  pub zipped-map : (R Q : K → K → Type 0) → ((x y : K) → R x y → Q x y) → (xs ys : List K) → Zipped R xs ys → Zipped Q xs ys
  zipped-map R Q so [] [] all = tt
  zipped-map R Q so [] (y ∷ ys) all = absurd all
  zipped-map R Q so (x ∷ xs) [] all = absurd all
  zipped-map R Q so (x ∷ xs) (y ∷ ys) all = (so x y all.0, zipped-map R Q so xs ys all.1)

  -- all are kept if some are done
  pub done-kept : (R Q : K → K → Type 0) (n : ℕ) (xs ys : List K) → ((x : K) → Q x x) → ((x y : K) → R x y → Q x y) → DoneTo R n xs ys → Zipped Q xs ys
  done-kept R Q zero xs ys still so done = subst (Zipped Q xs) (sym done) (zipped-same Q still xs)
  done-kept R Q (suc n) [] ys still so done = subst (Zipped Q []) (sym done) tt
  done-kept R Q (suc n) (x ∷ xs) [] still so done = absurd done
  done-kept R Q (suc n) (x ∷ xs) (y ∷ ys) still so done = (so x y done.0, done-kept R Q n xs ys still so done.1)

  -- so they are where one more is only kept
  pub done-set : (R Q : K → K → Type 0) (n : ℕ) (xs ys : List K) (x y : K) → n < length xs → ((z : K) → Q z z) → ((v w : K) → R v w → Q v w) → DoneTo R n xs ys → x ≡ get_or ys n x → Q x y → Zipped Q xs (set ys n y)
  done-set R Q n [] ys x y lt still so done is here = absurd (omega arith)
  done-set R Q zero (w ∷ ws) [] x y lt still so done is here = cc
  done-set R Q zero (w ∷ ws) (z ∷ zs) x y lt still so done is here =
      let e : x ≡ w = cc in
      let es : zs ≡ ws = cc in
      (subst (λ (v : K). Q v y) e here, subst (Zipped Q ws) (sym es) (zipped-same Q still ws))
  done-set R Q (suc n) (w ∷ ws) [] x y lt still so done is here = absurd done
  done-set R Q (suc n) (w ∷ ws) (z ∷ zs) x y lt still so done is here = (so w z done.0, done-set R Q n ws zs x y (omega arith) still so done.1 is here)

  pub zipped-set : (Q : K → K → Type 0) → ((z : K) → Q z z) → (xs : List K) (j : ℕ) (x y : K) → x ≡ get_or xs j x → Q x y → Zipped Q xs (set xs j y)
  zipped-set Q still [] j x y at here = tt
  zipped-set Q still (w ∷ ws) zero x y at here = (subst (λ (v : K). Q v y) at here, zipped-same Q still ws)
  zipped-set Q still (w ∷ ws) (suc j) x y at here = (still w, zipped-set Q still ws j x y at here)

  pub sum-take_more : (f : K → ℕ) (n : ℕ) (ys : List K) (y : K) → n < length ys → total f (take (n + 1) (set ys n y)) ≡ total f (take n ys) + f y
  sum-take_more f n ys y lt = rw (add-one n) (go n ys lt)
    where
      go : (n : ℕ) (ys : List K) → n < length ys → total f (take (suc n) (set ys n y)) ≡ total f (take n ys) + f y
      go n [] lt = absurd (omega arith)
      go zero (z ∷ zs) lt = omega arith
      go (suc n) (z ∷ zs) lt = omega (arith, go n zs (omega arith))

  pub sum-take : (f : K → ℕ) (n : ℕ) (ys : List K) → total f (take n ys) ≤ total f ys
  sum-take f zero ys = omega arith
  sum-take f (suc n) [] = omega arith
  sum-take f (suc n) (y ∷ ys) = omega (arith, sum-take f n ys)

pub counts-then : (r a r' a' : ℕ) (old mid new : State) → Counts r a 0 old mid → Counts r' a' 0 mid new → Counts (r + r') (a + a') 0 old new
counts-then r a r' a' old mid new first second = record {
  tells = second.tells ∙ first.tells;
  faults = omega (arith, first.faults, second.faults);
  emit_faults = second.emit_faults ∙ first.emit_faults;
  reads = (omega (arith, first.reads.0, second.reads.0), omega (arith, first.reads.1, second.reads.1));
  asked = (omega (arith, first.asked.0, second.asked.0), omega (arith, first.asked.1, second.asked.1));
  syncs = (omega (arith, first.syncs.0, second.syncs.0), omega (arith, first.syncs.1, second.syncs.1));
}

pub counts-within : (r a r' a' : ℕ) (old new : State) → r ≤ r' → a ≤ a' → Counts r a 0 old new → Counts r' a' 0 old new
counts-within r a r' a' old new more more' counts = record {
  tells = counts.tells;
  faults = counts.faults;
  emit_faults = counts.emit_faults;
  reads = (counts.reads.0, omega (arith, counts.reads.1));
  asked = (counts.asked.0, omega (arith, counts.asked.1));
  syncs = counts.syncs;
}

module _ {K : Type 0} where
  pub each-of : (P : K → Type 0) (xs : List K) (n : ℕ) (x : K) → n < length xs → x ≡ get_or xs n x → AllByRecursion P xs → P x
  each-of P [] n x lt is all = absurd (omega arith)
  each-of P (w ∷ ws) zero x lt is all = subst P (sym is) all.0
  each-of P (w ∷ ws) (suc n) x lt is all = each-of P ws n x (omega arith) is all.1

  pub any-of : (P : K → Type 0) (xs : List K) (n : ℕ) (x : K) → n < length xs → x ≡ get_or xs n x → P x → AnyOf P xs
  any-of P [] n x lt is here = absurd (omega arith)
  any-of P (w ∷ ws) zero x lt is here = inl (subst P is here)
  any-of P (w ∷ ws) (suc n) x lt is here = inr (any-of P ws n x (omega arith) is here)

  -- of the one that changed it holds only if it did before
  pub any-set : (P : K → Type 0) (xs : List K) (n : ℕ) (x y : K) → n < length xs → x ≡ get_or xs n x → (P y → P x) → AnyOf P (set xs n y) → AnyOf P xs
  any-set P [] n x y lt is so any = any
  any-set P (w ∷ ws) zero x y lt is so (inl here) = inl (subst P is (so here))
  any-set P (w ∷ ws) zero x y lt is so (inr later) = inr later
  any-set P (w ∷ ws) (suc n) x y lt is so (inl here) = inl here
  any-set P (w ∷ ws) (suc n) x y lt is so (inr later) = inr (any-set P ws n x y (omega arith) is so later)
