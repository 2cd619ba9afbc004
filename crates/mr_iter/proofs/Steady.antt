-- A merge stays steady.
use Rattle.std.proofs.Common.{◌≡◌, ℕ, ◌+◌, ◌<◌, Bool, true, false, ◌&&◌, List, [], ◌∷◌, length, map, set, get_or, drop, suc, zero, Option, Some, None, refl, sym, ◌∙◌, ap, subst, arith}
use Rattle.std.specs.List.{AllByRecursion, list_all}
use Rattle.std.specs.declared.cmp.Ordering.{Ordering}
use Rattle.std.specs.declared.cmp.Ordering.TheVariants.{Less, Equal, Greater}
use Rattle.std.specs.Ordering.{is_lt, is_gt}
use Rattle.mr_base.specs.Disk.{Image}
use Rattle.mr_base.specs.declared.stop.Direction.{Direction}
use Rattle.mr_iter.specs.Versions.{Version, version_cmp, key_cmp, merged, joined, from_key, first, first_at, others, is_strict, IsInOrder}
use Rattle.mr_iter.specs.Order.{version_total, IsInOrder-in_order}
use Rattle.mr_iter.specs.Cursors.{CursorState, IsInPlace, SameList, left, with_current}
use Rattle.mr_iter.specs.Children.{Zipped, KeepsChild, FoundChild}
use Rattle.mr_iter.specs.Merging.{first_of, lefts, lists, merge_state, IsAt}
use Rattle.mr_iter.specs.MergePlaces.{IsMergeSteady}
use Rattle.mr_iter.specs.Places.{and_split, first_left, from_key-drop, drop_tail, at_found, at_other, at_next, strict_next, of_merged, each_upto, each_not_less, upto_first, key_reached, IsUpto}

both_true : (a b : Bool) → a ≡ true → b ≡ true → (a && b) ≡ true
both_true true true p q = refl
both_true true false p q = cc
both_true false b p q = cc

pub sought_at : {K : Type 0} (f : K → CursorState) (key : List ℕ) (xs : List K) (j : ℕ) (x : K) → x ≡ get_or xs j x → j < length xs → list_all (λ (c : CursorState). c.sought key) (map f xs) ≡ true → (f x).sought key ≡ true
sought_at f key [] j x at lt all = absurd (omega arith)
sought_at f key (w ∷ ws) zero x at lt all = ap (λ (z : _). (f z).sought key) at ∙ (and_split ((f w).sought key) (list_all (λ (c : CursorState). c.sought key) (map f ws)) all).0
sought_at f key (w ∷ ws) (suc j) x at lt all = sought_at f key ws j x at (omega arith) (and_split ((f w).sought key) (list_all (λ (c : CursorState). c.sought key) (map f ws)) all).1

pub direction_at : {K : Type 0} (f : K → CursorState) (d : Direction) (xs : List K) (j : ℕ) (x : K) → x ≡ get_or xs j x → j < length xs → AllByRecursion (λ (c : CursorState). c.direction ≡ d) (map f xs) → (f x).direction ≡ d
direction_at f d [] j x at lt all = absurd (omega arith)
direction_at f d (w ∷ ws) zero x at lt all = ap (λ (z : _). (f z).direction) at ∙ all.0
direction_at f d (w ∷ ws) (suc j) x at lt all = direction_at f d ws j x at (omega arith) all.1

lt_le : (d : Direction) (v u : Version) → is_lt (version_cmp d v u) ≡ true → is_gt (version_cmp d v u) ≡ false
lt_le d v u less = go (version_cmp d v u) less
  where
    go : (o : Ordering) → is_lt o ≡ true → is_gt o ≡ false
    go Less e = refl
    go Equal e = cc
    go Greater e = cc

module _ {K : Type 0} (f : K → CursorState) (whole steady : K → Image → Type 0) (image : Image) (tells : Type 0) (d : Direction) where
  pub found_sought : (key : List ℕ) (xs ys : List K) → Zipped (FoundChild f whole steady image tells key) xs ys → list_all (λ (c : CursorState). c.sought key) (map f ys) ≡ true
  found_sought key [] [] all = refl
  found_sought key [] (y ∷ ys) all = absurd all
  found_sought key (x ∷ xs) [] all = absurd all
  found_sought key (x ∷ xs) (y ∷ ys) all = both_true ((f y).sought key) (list_all (λ (c : CursorState). c.sought key) (map f ys)) all.0.sought (found_sought key xs ys all.1)

  pub next_sought : (key : List ℕ) (xs : List K) (j : ℕ) (y : K) → list_all (λ (c : CursorState). c.sought key) (map f xs) ≡ true → (f y).sought key ≡ true → list_all (λ (c : CursorState). c.sought key) (map f (set xs j y)) ≡ true
  next_sought key [] j y all here = all
  next_sought key (x ∷ xs) zero y all here = both_true ((f y).sought key) (list_all (λ (c : CursorState). c.sought key) (map f xs)) here (and_split ((f x).sought key) (list_all (λ (c : CursorState). c.sought key) (map f xs)) all).1
  next_sought key (x ∷ xs) (suc j) y all here =
      let parts = and_split ((f x).sought key) (list_all (λ (c : CursorState). c.sought key) (map f xs)) all in
      both_true ((f x).sought key) (list_all (λ (c : CursorState). c.sought key) (map f (set xs j y))) parts.0 (next_sought key xs j y parts.1 here)

  found_steady : (key : List ℕ) (xs ys : List K) → Zipped (FoundChild f whole steady image tells key) xs ys → tells → AllByRecursion (λ c. whole c image) xs → AllByRecursion (λ c. steady c image) ys
  found_steady key [] [] all told ws = tt
  found_steady key [] (y ∷ ys) all told ws = absurd all
  found_steady key (x ∷ xs) [] all told ws = absurd all
  found_steady key (x ∷ xs) (y ∷ ys) all told ws = (all.0.stands told ws.0, found_steady key xs ys all.1 told ws.1)

  -- each child stands on its first version at or behind v, which comes first of all
  found_at : (key : List ℕ) (v : Version) → is_lt (key_cmp d v.key key) ≡ false → (xs ys : List K) → Zipped (KeepsChild f whole image tells) xs ys → Zipped (FoundChild f whole steady image tells key) xs ys → AllByRecursion (λ (c : CursorState). c.direction ≡ d) (map f xs) → tells → AllByRecursion (λ c. whole c image) xs →
      AllByRecursion (AllByRecursion (λ w. is_gt (version_cmp d v w) ≡ false)) (lefts (map f ys) image) → AllByRecursion (λ c. IsAt d (Some v) image (f c)) ys
  found_at key v least [] [] kept found one told ws upto = tt
  found_at key v least [] (y ∷ ys) kept found one told ws upto = absurd kept
  found_at key v least (x ∷ xs) [] kept found one told ws upto = absurd kept
  found_at key v least (x ∷ xs) (y ∷ ys) kept found one told ws upto =
      let is : left (f y) image ≡ from_key d key ((f x).versions image) = found.0.found told ws.0 ∙ ap (λ (e : Direction). from_key e key ((f x).versions image)) one.0 in
      let is2 : left (f y) image ≡ from_key d key ((f y).versions image) = is ∙ ap (from_key d key) (sym (kept.0.list.versions image)) in
      let later : AllByRecursion (λ w. is_lt (version_cmp d w v) ≡ false) (from_key d key ((f y).versions image)) = subst (AllByRecursion (λ w. is_lt (version_cmp d w v) ≡ false)) is2 (each_not_less d v (left (f y) image) upto.0) in
      (ap first (at_found d v key ((f y).versions image) least later ∙ sym is2) ∙ first_left (f y) image, found_at key v least xs ys kept.1 found.1 one.1 told ws.1 upto.1)

  none_at : (xs : List K) → AllByRecursion (λ c. IsAt d None image (f c)) xs
  none_at [] = tt
  none_at (x ∷ xs) = (tt, none_at xs)

  -- after a seek
  pub merge_found_steady : (key : List ℕ) (xs ys : List K) (order : List ℕ) → Zipped (KeepsChild f whole image tells) xs ys → Zipped (FoundChild f whole steady image tells key) xs ys → AllByRecursion (λ (c : CursorState). c.direction ≡ d) (map f xs) → tells → AllByRecursion (λ c. whole c image) xs →
      lists (map f ys) image ≡ lists (map f xs) image → left (merge_state d order (map f ys)) image ≡ from_key d key (merged (version_cmp d) (lists (map f xs) image)) → left (merge_state d order (map f ys)) image ≡ merged (version_cmp d) (lefts (map f ys) image) → IsMergeSteady f steady d ys order image
  merge_found_steady key xs ys order kept found one told ws same is all = record {
    children = found_steady key xs ys found told ws;
    place = record { passed = n.0; rest = is ∙ n.1 ∙ ap (drop n.0) (ap (merged (version_cmp d)) (sym same)) };
    each = λ strict. by_first (first_of (map f ys) order) refl;
  }
    where
      n : (m : ℕ) × (from_key d key (merged (version_cmp d) (lists (map f xs) image)) ≡ drop m (merged (version_cmp d) (lists (map f xs) image)))
      n = from_key-drop d key (merged (version_cmp d) (lists (map f xs) image)) (IsInOrder-in_order (version_cmp d) (version_total d) (joined (lists (map f xs) image)))

      by_first : (o : Option Version) → first_of (map f ys) order ≡ o → AllByRecursion (λ c. IsAt d o image (f c)) ys
      by_first None e = none_at ys
      by_first (Some v) e =
          let begins : left (merge_state d order (map f ys)) image ≡ v ∷ others (merged (version_cmp d) (lefts (map f ys) image)) = ap (λ (p : Option Version). with_current p (others (merged (version_cmp d) (lefts (map f ys) image)))) e in
          let sorted : IsInOrder (version_cmp d) (merged (version_cmp d) (lefts (map f ys) image)) = IsInOrder-in_order (version_cmp d) (version_total d) (joined (lefts (map f ys) image)) in
          let upto = of_merged (version_cmp d) (λ w. is_gt (version_cmp d v w) ≡ false) (lefts (map f ys) image) (each_upto d v (merged (version_cmp d) (lefts (map f ys) image)) (others (merged (version_cmp d) (lefts (map f ys) image))) sorted (sym all ∙ begins)) in
          found_at key v (key_reached d key (merged (version_cmp d) (lists (map f xs) image)) v (others (merged (version_cmp d) (lefts (map f ys) image))) (sym is ∙ begins)) xs ys kept found one told ws upto

  next_steady : (xs : List K) (j : ℕ) (y : K) → AllByRecursion (λ c. steady c image) xs → steady y image → AllByRecursion (λ c. steady c image) (set xs j y)
  next_steady [] j y all here = tt
  next_steady (x ∷ xs) zero y all here = (here, all.1)
  next_steady (x ∷ xs) (suc j) y all here = (all.0, next_steady xs j y all.1 here)

  -- the others stay where they stand, and child j goes on from v
  moved_at : (v u : Version) → is_lt (version_cmp d v u) ≡ true → (xs : List K) (j : ℕ) (x y : K) → x ≡ get_or xs j x → j < length xs →
      ((f y).versions image ≡ (f x).versions image) → IsInOrder (version_cmp d) ((f x).versions image) → (m : ℕ) → drop m ((f x).versions image) ≡ v ∷ left (f y) image →
      AllByRecursion (λ c. IsAt d (Some v) image (f c)) xs → AllByRecursion (AllByRecursion (λ w. is_gt (version_cmp d u w) ≡ false)) (lefts (map f (set xs j y)) image) → AllByRecursion (λ c. IsAt d (Some u) image (f c)) (set xs j y)
  moved_at v u less [] j x y at lt same sorted m here ats upto = tt
  moved_at v u less (w ∷ ws) zero x y at lt same sorted m here ats upto = (
    (let fit : IsUpto d u (first (left (f y) image)) = subst (IsUpto d u) (sym (first_left (f y) image)) (upto_first d u (f y) image upto.0) in
        ap (first_at d (Some u)) same ∙ at_next d v u m ((f x).versions image) (left (f y) image) sorted here less fit ∙ first_left (f y) image),
    stay ws ats.1 upto.1,
  )
    where
      stay : (ws : List K) → AllByRecursion (λ c. IsAt d (Some v) image (f c)) ws → AllByRecursion (AllByRecursion (λ w. is_gt (version_cmp d u w) ≡ false)) (lefts (map f ws) image) → AllByRecursion (λ c. IsAt d (Some u) image (f c)) ws
      stay [] ats upto = tt
      stay (z ∷ zs) ats upto = (at_other d v u ((f z).versions image) (f z).current ats.0 (lt_le d v u less) (upto_first d u (f z) image upto.0), stay zs ats.1 upto.1)
  moved_at v u less (w ∷ ws) (suc j) x y at lt same sorted m here ats upto = (
    at_other d v u ((f w).versions image) (f w).current ats.0 (lt_le d v u less) (upto_first d u (f w) image upto.0),
    moved_at v u less ws j x y at (omega arith) same sorted m here ats.1 upto.1,
  )

  -- after a step
  pub merge_moved_steady : (xs : List K) (order new : List ℕ) (j : ℕ) (x y : K) → x ≡ get_or xs j x → j < length xs → (v : Version) → first_of (map f xs) order ≡ Some v → (f x).current ≡ Some v → SameList (f x) (f y) → (f x).direction ≡ d → IsInOrder (version_cmp (f x).direction) ((f x).versions image) → IsInPlace (f x) image → left (f y) image ≡ (f x).rest image → steady y image →
      IsMergeSteady f steady d xs order image → lists (map f (set xs j y)) image ≡ lists (map f xs) image → left (merge_state d new (map f (set xs j y))) image ≡ others (merged (version_cmp d) (lefts (map f xs) image)) →
      left (merge_state d new (map f (set xs j y))) image ≡ merged (version_cmp d) (lefts (map f (set xs j y)) image) → IsMergeSteady f steady d (set xs j y) new image
  merge_moved_steady xs order new j x y at lt v is here list dir sorted place moved stands old same rest all = record {
    children = next_steady xs j y old.children stands;
    place = record { passed = old.place.passed + 1; rest = rest ∙ sym (drop_tail old.place.passed (merged (version_cmp d) (lists (map f xs) image)) v (others (merged (version_cmp d) (lefts (map f xs) image))) begins) ∙ ap (drop (old.place.passed + 1)) (ap (merged (version_cmp d)) (sym same)) };
    each = λ strict. by_first strict (first_of (map f (set xs j y)) new) refl;
  }
    where
      begins : drop old.place.passed (merged (version_cmp d) (lists (map f xs) image)) ≡ v ∷ others (merged (version_cmp d) (lefts (map f xs) image))
      begins = sym old.place.rest ∙ ap (λ (p : Option Version). with_current p (others (merged (version_cmp d) (lefts (map f xs) image)))) is

      by_first : is_strict d (merged (version_cmp d) (lists (map f (set xs j y)) image)) ≡ true → (o : Option Version) → first_of (map f (set xs j y)) new ≡ o → AllByRecursion (λ c. IsAt d o image (f c)) (set xs j y)
      by_first strict None e = none_at (set xs j y)
      by_first strict (Some u) e =
          let tail = others (merged (version_cmp d) (lefts (map f (set xs j y)) image)) in
          let begins_new : left (merge_state d new (map f (set xs j y))) image ≡ u ∷ others (merged (version_cmp d) (lefts (map f (set xs j y)) image)) = ap (λ (p : Option Version). with_current p (others (merged (version_cmp d) (lefts (map f (set xs j y)) image)))) e in
          let strict_old : is_strict d (merged (version_cmp d) (lists (map f xs) image)) ≡ true = ap (λ (vss : List (List Version)). is_strict d (merged (version_cmp d) vss)) (sym same) ∙ strict in
          let two : drop old.place.passed (merged (version_cmp d) (lists (map f xs) image)) ≡ v ∷ u ∷ tail = begins ∙ ap (λ (vs : List Version). v ∷ vs) (sym rest ∙ begins_new) in
          let less = strict_next d old.place.passed (merged (version_cmp d) (lists (map f xs) image)) v u tail strict_old two in
          let whole_sorted : IsInOrder (version_cmp d) (merged (version_cmp d) (lefts (map f (set xs j y)) image)) = IsInOrder-in_order (version_cmp d) (version_total d) (joined (lefts (map f (set xs j y)) image)) in
          let upto = of_merged (version_cmp d) (λ w. is_gt (version_cmp d u w) ≡ false) (lefts (map f (set xs j y)) image) (each_upto d u (merged (version_cmp d) (lefts (map f (set xs j y)) image)) tail whole_sorted (sym all ∙ begins_new)) in
          let child : drop place.passed ((f x).versions image) ≡ v ∷ left (f y) image = sym place.rest ∙ ap (λ (p : Option Version). with_current p ((f x).rest image)) here ∙ ap (λ (vs : List Version). v ∷ vs) (sym moved) in
          let ats : AllByRecursion (λ c. IsAt d (Some v) image (f c)) xs = subst (λ (p : Option Version). AllByRecursion (λ c. IsAt d p image (f c)) xs) is (old.each strict_old) in
          moved_at v u less xs j x y at lt (list.versions image) (subst (λ (e : Direction). IsInOrder (version_cmp e) ((f x).versions image)) dir sorted) place.passed child ats upto
