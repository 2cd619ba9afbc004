-- A child of a chain moves, or the next one is opened: xs are the children before, x the child at j, and y the one in its place.
use Rattle.std.proofs.Common.{◌≡◌, ℕ, ◌+◌, ◌<◌, ◌≤◌, Bool, true, false, cond, not, List, [], ◌∷◌, ◌++◌, length, map, get_or, set, suc, zero, Option, Some, None, is_some, IsTrue, refl, sym, ◌∙◌, ap, subst, inl, inr, arith}
use Rattle.std.specs.List.{AllByRecursion, list_all}
use Rattle.std.specs.Ordering.{is_lt, is_gt}
use Rattle.std.specs.declared.cmp.Ordering.{Ordering}
use Rattle.std.specs.declared.cmp.Ordering.TheVariants.{Less, Equal, Greater}
use Rattle.std.specs.Ordering.{ordering_reverse}
use Rattle.std.proofs.lemmas.Cmp.{upto as key_upto, tied_itself}
use Rattle.std.proofs.lemmas.Bool.{cases_Bool}
use Rattle.std.proofs.lemmas.List.Elements.{filter-append}
use Rattle.mr_base.specs.Disk.{Image}
use Rattle.mr_base.specs.declared.stop.Direction.{Direction}
use Rattle.mr_iter.specs.Versions.{Version, key_cmp, joined, from_key}
use Rattle.mr_iter.specs.Order.{key_total}
use Rattle.mr_iter.specs.Places.{and_split}
use Rattle.mr_iter.specs.Cursors.{CursorState, SameList, left, with_current}
use Rattle.mr_iter.specs.Children.{AnyOf, Zipped, KeepsChild}
use Rattle.mr_iter.specs.Merging.{current_at, lists}
use Rattle.mr_chain.specs.Chains.{is_past, place_within, child_of, rest_at, steps_at, from_to, sought_at, cost_behind, chain_cost, chain_state, FollowOne, IsUptoLast, AreOpen, AreOpenBehind}
use Rattle.mr_chain.proofs.Kept.{kept_files, kept_lists, kept_distinct, kept_most}

clash : {b : Bool} → b ≡ false → b ≡ true → ⊥
clash low high = cc

no_less : (n : ℕ) → n < 0 → ⊥
no_less n lt = omega (arith, lt)

module _ {K : Type 0} (f : K → CursorState) where
  -- ---- what is left

  abbrev pub behind : List K → ℕ → Image → List Version
  behind [] j image = []
  behind (x ∷ xs) zero image = joined (lists (map f xs) image)
  behind (x ∷ xs) (suc j) image = behind xs j image

  pub current_now : (xs : List K) (j : ℕ) (y : K) → j < length xs → current_at (map f (set xs j y)) j ≡ (f y).current
  current_now [] j y lt = absurd (no_less j lt)
  current_now (x ∷ xs) zero y lt = refl
  current_now (x ∷ xs) (suc j) y lt = current_now xs j y (omega (arith, lt))

  pub rest_is : (image : Image) (xs : List K) (j : ℕ) (x : K) → j < length xs → x ≡ get_or xs j x → rest_at (map f xs) j image ≡ (f x).rest image ++ behind xs j image
  rest_is image [] j x lt at = absurd (no_less j lt)
  rest_is image (w ∷ ws) zero x lt at = ap (λ (z : K). (f z).rest image ++ joined (lists (map f ws) image)) (sym at)
  rest_is image (w ∷ ws) (suc j) x lt at = rest_is image ws j x (omega (arith, lt)) at

  rest_now : (image : Image) (xs : List K) (j : ℕ) (y : K) → j < length xs → rest_at (map f (set xs j y)) j image ≡ (f y).rest image ++ behind xs j image
  rest_now image [] j y lt = absurd (no_less j lt)
  rest_now image (w ∷ ws) zero y lt = refl
  rest_now image (w ∷ ws) (suc j) y lt = rest_now image ws j y (omega (arith, lt))

  with_more : (o : Option Version) (vs ws : List Version) → is_some o ≡ true → with_current o (vs ++ ws) ≡ with_current o vs ++ ws
  with_more None vs ws some = cc
  with_more (Some v) vs ws some = refl

  -- where it stands on a version of child j
  pub left_now : (image : Image) (xs : List K) (j : ℕ) (y : K) → j < length xs → is_some (f y).current ≡ true → with_current (current_at (map f (set xs j y)) j) (rest_at (map f (set xs j y)) j image) ≡ left (f y) image ++ behind xs j image
  left_now image xs j y lt some =
      ap (λ (o : Option Version). with_current o (rest_at (map f (set xs j y)) j image)) (current_now xs j y lt)
      ∙ ap (with_current (f y).current) (rest_now image xs j y lt)
      ∙ with_more (f y).current ((f y).rest image) (behind xs j image) some

  behind_none : (image : Image) (xs : List K) (j : ℕ) → length xs ≤ j + 1 → behind xs j image ≡ []
  behind_none image [] j le = refl
  behind_none image (x ∷ []) zero le = refl
  behind_none image (x ∷ w ∷ ws) zero le = absurd (omega (arith, le))
  behind_none image (x ∷ xs) (suc j) le = behind_none image xs j (omega (arith, le))

  pub behind_set : (image : Image) (xs : List K) (j : ℕ) (y : K) → behind (set xs j y) j image ≡ behind xs j image
  behind_set image [] j y = refl
  behind_set image (x ∷ xs) zero y = refl
  behind_set image (x ∷ xs) (suc j) y = behind_set image xs j y

  behind_next : (image : Image) (xs : List K) (j : ℕ) (w : K) → suc j < length xs → w ≡ get_or xs (suc j) w → behind xs j image ≡ (f w).versions image ++ behind xs (suc j) image
  behind_next image [] j w lt at = absurd (no_less (suc j) lt)
  behind_next image (x ∷ []) zero w lt at = absurd (omega (arith, lt))
  behind_next image (x ∷ v ∷ vs) zero w lt at = ap (λ (z : K). (f z).versions image ++ joined (lists (map f vs) image)) (sym at)
  behind_next image (x ∷ xs) (suc j) w lt at = behind_next image xs j w (omega (arith, lt)) at

  none_left : (s : CursorState) (image : Image) → s.current ≡ None → left s image ≡ []
  none_left s image is = ap (λ (o : Option Version). with_current o (s.rest image)) is

  -- the child went one version on
  pub moved_stays : (image : Image) (xs : List K) (j : ℕ) (x y : K) → j < length xs → x ≡ get_or xs j x → is_some (f y).current ≡ true → left (f y) image ≡ (f x).rest image → with_current (current_at (map f (set xs j y)) j) (rest_at (map f (set xs j y)) j image) ≡ rest_at (map f xs) j image
  moved_stays image xs j x y lt at some moved = left_now image xs j y lt some ∙ ap (λ (vs : List Version). vs ++ behind xs j image) moved ∙ sym (rest_is image xs j x lt at)

  -- the last child came to its end
  pub moved_over : (image : Image) (xs : List K) (j : ℕ) (x y : K) → j < length xs → x ≡ get_or xs j x → (f y).current ≡ None → left (f y) image ≡ (f x).rest image → length xs ≤ j + 1 → with_current (current_at (map f (set xs j y)) j) (rest_at (map f (set xs j y)) j image) ≡ rest_at (map f xs) j image
  moved_over image xs j x y lt at none moved last =
      ap (λ (o : Option Version). with_current o (rest_at (map f (set xs j y)) j image)) (current_now xs j y lt ∙ none)
      ∙ sym (rest_is image xs j x lt at ∙ ap (λ (vs : List Version). vs ++ behind xs j image) (sym moved ∙ none_left (f y) image none) ∙ behind_none image xs j last)

  -- what was left of the child that came to its end
  pub rest_over : (image : Image) (xs : List K) (j : ℕ) (x y : K) → j < length xs → x ≡ get_or xs j x → (f y).current ≡ None → left (f y) image ≡ (f x).rest image → rest_at (map f xs) j image ≡ behind (set xs j y) j image
  rest_over image xs j x y lt at none moved =
      rest_is image xs j x lt at ∙ ap (λ (vs : List Version). vs ++ behind xs j image) (sym moved ∙ none_left (f y) image none) ∙ sym (behind_set image xs j y)

  -- the next child was opened, and stands on its first version
  pub left_opened : (image : Image) (xs : List K) (j : ℕ) (w z : K) → suc j < length xs → w ≡ get_or xs (suc j) w → is_some (f z).current ≡ true → left (f z) image ≡ (f w).versions image → with_current (current_at (map f (set xs (suc j) z)) (suc j)) (rest_at (map f (set xs (suc j) z)) (suc j) image) ≡ behind xs j image
  left_opened image xs j w z lt at some opened =
      left_now image xs (suc j) z lt some ∙ ap (λ (vs : List Version). vs ++ behind xs (suc j) image) opened ∙ sym (behind_next image xs j w lt at)

  -- ---- counts

  pub sum_now : (g : CursorState → ℕ) (xs : List K) (i j : ℕ) (x y : K) → i ≤ j → j < length xs → x ≡ get_or xs j x → from_to g (map f (set xs j y)) i j + g (f x) ≡ from_to g (map f xs) i j + g (f y)
  sum_now g [] i j x y le lt at = absurd (no_less j lt)
  sum_now g (w ∷ ws) zero zero x y le lt at = let e : g (f x) ≡ g (f w) = ap (λ (z : K). g (f z)) at in omega (arith, e)
  sum_now g (w ∷ ws) (suc i) zero x y le lt at = absurd (omega (arith, le))
  sum_now g (w ∷ ws) zero (suc j) x y le lt at = omega (arith, sum_now g ws zero j x y (omega arith) (omega (arith, lt)) at)
  sum_now g (w ∷ ws) (suc i) (suc j) x y le lt at = sum_now g ws i j x y (omega (arith, le)) (omega (arith, lt)) at

  pub sum_one : (g : CursorState → ℕ) (xs : List K) (j : ℕ) (y : K) → j < length xs → from_to g (map f (set xs j y)) j j ≡ g (f y)
  sum_one g [] j y lt = absurd (no_less j lt)
  sum_one g (w ∷ ws) zero y lt = refl
  sum_one g (w ∷ ws) (suc j) y lt = sum_one g ws j y (omega (arith, lt))

  pub sum_more : (g : CursorState → ℕ) (xs : List K) (i j : ℕ) (z : K) → i ≤ j → suc j < length xs → from_to g (map f (set xs (suc j) z)) i (suc j) ≡ from_to g (map f xs) i j + g (f z)
  sum_more g [] i j z le lt = absurd (no_less (suc j) lt)
  sum_more g (w ∷ []) zero zero z le lt = absurd (omega (arith, lt))
  sum_more g (w ∷ v ∷ vs) zero zero z le lt = refl
  sum_more g (w ∷ ws) (suc i) zero z le lt = absurd (omega (arith, le))
  sum_more g (w ∷ ws) zero (suc j) z le lt = omega (arith, sum_more g ws zero j z (omega arith) (omega (arith, lt)))
  sum_more g (w ∷ ws) (suc i) (suc j) z le lt = sum_more g ws i j z (omega (arith, le)) (omega (arith, lt))

  -- ---- steps

  pub steps_now : (xs : List K) (j : ℕ) (x y : K) → j < length xs → x ≡ get_or xs j x → (f y).steps < (f x).steps → steps_at (map f (set xs j y)) j < steps_at (map f xs) j
  steps_now [] j x y lt at less = absurd (no_less j lt)
  steps_now (w ∷ ws) zero x y lt at less = let e : (f x).steps ≡ (f w).steps = ap (λ (z : K). (f z).steps) at in omega (arith, e, less)
  steps_now (w ∷ ws) (suc j) x y lt at less = steps_now ws j x y (omega (arith, lt)) at less

  pub steps_more : (xs : List K) (j : ℕ) (w z : K) → suc j < length xs → w ≡ get_or xs (suc j) w → (f z).steps ≤ (f w).most → steps_at (map f (set xs (suc j) z)) (suc j) ≤ steps_at (map f xs) j
  steps_more [] j w z lt at few = absurd (no_less (suc j) lt)
  steps_more (x ∷ []) zero w z lt at few = absurd (omega (arith, lt))
  steps_more (x ∷ v ∷ vs) zero w z lt at few = let e : (f w).most ≡ (f v).most = ap (λ (u : K). (f u).most) at in omega (arith, e, few)
  steps_more (x ∷ xs) (suc j) w z lt at few = steps_more xs j w z (omega (arith, lt)) at few

  -- ---- the key that was sought

  pub sought_now : (k : List ℕ) (xs : List K) (i j : ℕ) (x y : K) → x ≡ get_or xs j x → ((f x).sought k ≡ true → (f y).sought k ≡ true) → sought_at (map f xs) i k ≡ true → sought_at (map f (set xs j y)) i k ≡ true
  sought_now k [] i j x y at keeps is = is
  sought_now k (w ∷ ws) zero zero x y at keeps is = keeps (ap (λ (z : K). (f z).sought k) at ∙ is)
  sought_now k (w ∷ ws) zero (suc j) x y at keeps is = is
  sought_now k (w ∷ ws) (suc i) zero x y at keeps is = is
  sought_now k (w ∷ ws) (suc i) (suc j) x y at keeps is = sought_now k ws i j x y at keeps is

  pub sought_more : (k : List ℕ) (xs : List K) (i j : ℕ) (z : K) → i ≤ j → sought_at (map f xs) i k ≡ true → sought_at (map f (set xs (suc j) z)) i k ≡ true
  sought_more k [] i j z le is = is
  sought_more k (w ∷ ws) zero j z le is = is
  sought_more k (w ∷ ws) (suc i) zero z le is = absurd (omega (arith, le))
  sought_more k (w ∷ ws) (suc i) (suc j) z le is = sought_more k ws i j z (omega (arith, le)) is

  pub sought_one : (k : List ℕ) (xs : List K) (j : ℕ) (y : K) → (f y).sought k ≡ true → sought_at (map f (set xs j y)) j k ≡ true
  sought_one k [] j y is = refl
  sought_one k (w ∷ ws) zero y is = is
  sought_one k (w ∷ ws) (suc j) y is = sought_one k ws j y is

  -- ---- up to the last key

  pub upto_now : (d : Direction) (image : Image) (ls : List (List ℕ)) (xs : List K) (j : ℕ) (x y : K) → x ≡ get_or xs j x → ((P : Version → Bool) → AllByRecursion (λ v. P v ≡ false) (left (f x) image) → AllByRecursion (λ v. P v ≡ false) (left (f y) image)) → IsUptoLast d ls (map f xs) j image → IsUptoLast d ls (map f (set xs j y)) j image
  upto_now d image ls [] j x y at so upto = upto
  upto_now d image [] (w ∷ ws) zero x y at so upto = upto
  upto_now d image [] (w ∷ ws) (suc j) x y at so upto = upto
  upto_now d image (l ∷ ls) (w ∷ ws) zero x y at so upto = so (λ v. is_gt (key_cmp d v.key l)) (subst (λ (z : K). AllByRecursion (λ (v : Version). is_gt (key_cmp d v.key l) ≡ false) (left (f z) image)) (sym at) upto)
  upto_now d image (l ∷ ls) (w ∷ ws) (suc j) x y at so upto = upto_now d image ls ws j x y at so upto

  pub upto_opened : (d : Direction) (image : Image) (ls : List (List ℕ)) (xs : List K) (j : ℕ) (w z : K) → w ≡ get_or xs j w → ((P : Version → Bool) → AllByRecursion (λ v. P v ≡ false) ((f w).versions image) → AllByRecursion (λ v. P v ≡ false) (left (f z) image)) → FollowOne d ls (lists (map f xs) image) → IsUptoLast d ls (map f (set xs j z)) j image
  upto_opened d image ls [] j w z at so follow = tt
  upto_opened d image [] (x ∷ xs) j w z at so follow = absurd follow
  upto_opened d image (l ∷ ls) (x ∷ xs) zero w z at so follow = so (λ v. is_gt (key_cmp d v.key l)) (subst (λ (u : K). AllByRecursion (λ (v : Version). is_gt (key_cmp d v.key l) ≡ false) ((f u).versions image)) (sym at) follow.0)
  upto_opened d image (l ∷ ls) (x ∷ xs) (suc j) w z at so follow = upto_opened d image ls xs j w z at so follow.3

-- ---- which children are open

module _ {K : Type 0} (f : K → CursorState) (steady : K → Image → Type 0) (image : Image) where
  pub open_one : (ls : List (List ℕ)) (xs : List K) (j : ℕ) (y : K) → steady y image → AreOpen f steady image ls (set xs j y) j j
  open_one ls [] j y is = tt
  open_one [] (w ∷ ws) zero y is = tt
  open_one [] (w ∷ ws) (suc j) y is = tt
  open_one (l ∷ ls) (w ∷ ws) zero y is = is
  open_one (l ∷ ls) (w ∷ ws) (suc j) y is = open_one ls ws j y is

  behind_now : (prev : List ℕ) (ls : List (List ℕ)) (xs : List K) (j : ℕ) (x y : K) → x ≡ get_or xs j x → (steady x image → steady y image) → ((k : List ℕ) → IsTrue ((f x).sought k) → IsTrue ((f y).sought k)) → AreOpenBehind f steady image prev ls xs j → AreOpenBehind f steady image prev ls (set xs j y) j
  behind_now prev ls [] j x y at keeps so opens = opens
  behind_now prev [] (w ∷ ws) zero x y at keeps so opens = tt
  behind_now prev [] (w ∷ ws) (suc j) x y at keeps so opens = tt
  behind_now prev (l ∷ ls) (w ∷ ws) zero x y at keeps so opens = (keeps (subst (λ (z : K). steady z image) (sym at) opens.0), so prev (subst (λ (z : K). IsTrue ((f z).sought prev)) (sym at) opens.1))
  behind_now prev (l ∷ ls) (w ∷ ws) (suc j) x y at keeps so opens = (opens.0, opens.1, behind_now l ls ws j x y at keeps so opens.2)

  pub open_now : (ls : List (List ℕ)) (xs : List K) (i j : ℕ) (x y : K) → x ≡ get_or xs j x → (steady x image → steady y image) → ((k : List ℕ) → IsTrue ((f x).sought k) → IsTrue ((f y).sought k)) → AreOpen f steady image ls xs i j → AreOpen f steady image ls (set xs j y) i j
  open_now ls [] i j x y at keeps so opens = opens
  open_now [] (w ∷ ws) i zero x y at keeps so opens = tt
  open_now [] (w ∷ ws) i (suc j) x y at keeps so opens = tt
  open_now (l ∷ ls) (w ∷ ws) zero zero x y at keeps so opens = keeps (subst (λ (z : K). steady z image) (sym at) opens)
  open_now (l ∷ ls) (w ∷ ws) zero (suc j) x y at keeps so opens = (opens.0, behind_now l ls ws j x y at keeps so opens.1)
  open_now (l ∷ ls) (w ∷ ws) (suc i) zero x y at keeps so opens = tt
  open_now (l ∷ ls) (w ∷ ws) (suc i) (suc j) x y at keeps so opens = open_now ls ws i j x y at keeps so opens

  behind_more : (prev : List ℕ) (ls : List (List ℕ)) (xs : List K) (j : ℕ) (z : K) → suc j < length xs → length ls ≡ length xs → steady z image → IsTrue ((f z).sought (get_or ls j [])) → AreOpenBehind f steady image prev ls xs j → AreOpenBehind f steady image prev ls (set xs (suc j) z) (suc j)
  behind_more prev ls [] j z lt same is so opens = absurd (no_less (suc j) lt)
  behind_more prev [] (w ∷ ws) j z lt same is so opens = tt
  behind_more prev (l ∷ ls) (w ∷ []) zero z lt same is so opens = absurd (omega (arith, lt))
  behind_more prev (l ∷ []) (w ∷ v ∷ vs) zero z lt same is so opens = (opens.0, opens.1, tt)
  behind_more prev (l ∷ m ∷ ls) (w ∷ v ∷ vs) zero z lt same is so opens = (opens.0, opens.1, (is, so))
  behind_more prev (l ∷ ls) (w ∷ ws) (suc j) z lt same is so opens = (opens.0, opens.1, behind_more l ls ws j z (omega (arith, lt)) (omega (arith, same)) is so opens.2)

  pub open_more : (ls : List (List ℕ)) (xs : List K) (i j : ℕ) (z : K) → i ≤ j → suc j < length xs → length ls ≡ length xs → steady z image → IsTrue ((f z).sought (get_or ls j [])) → AreOpen f steady image ls xs i j → AreOpen f steady image ls (set xs (suc j) z) i (suc j)
  open_more ls [] i j z le lt same is so opens = absurd (no_less (suc j) lt)
  open_more [] (w ∷ ws) i j z le lt same is so opens = tt
  open_more (l ∷ ls) (w ∷ ws) (suc i) zero z le lt same is so opens = absurd (omega (arith, le))
  open_more (l ∷ ls) (w ∷ []) zero zero z le lt same is so opens = absurd (omega (arith, lt))
  open_more (l ∷ []) (w ∷ v ∷ vs) zero zero z le lt same is so opens = (opens, tt)
  open_more (l ∷ m ∷ ls) (w ∷ v ∷ vs) zero zero z le lt same is so opens = (opens, (is, so))
  open_more (l ∷ ls) (w ∷ ws) zero (suc j) z le lt same is so opens = (opens.0, behind_more l ls ws j z (omega (arith, lt)) (omega (arith, same)) is so opens.1)
  open_more (l ∷ ls) (w ∷ ws) (suc i) (suc j) z le lt same is so opens = open_more ls ws i j z (omega (arith, le)) (omega (arith, lt)) (omega (arith, same)) is so opens

-- ---- what a seek finds

module _ (d : Direction) (key : List ℕ) where
  none_from : (l : List ℕ) (vs : List Version) → is_lt (key_cmp d l key) ≡ true → AllByRecursion (λ (v : Version). is_gt (key_cmp d v.key l) ≡ false) vs → from_key d key vs ≡ []
  none_from l [] low all = refl
  none_from l (v ∷ vs) low all = rw (less_of (key_cmp d v.key key) (key_cmp d key v.key) ((key_total d).antisymm v.key key) (λ no. above v all.0 no)) (none_from l vs low all.1)
    where
      turned : (a b : Ordering) → b ≡ ordering_reverse a → is_lt a ≡ true → is_gt b ≡ true
      turned Less b e is = rw e refl
      turned Equal b e is = cc
      turned Greater b e is = cc

      above : (v : Version) → is_gt (key_cmp d v.key l) ≡ false → is_gt (key_cmp d key v.key) ≡ false → ⊥
      above v upto_l not_gt = clash (key_upto (key_total d) key v.key l not_gt upto_l) (turned (key_cmp d l key) (key_cmp d key l) ((key_total d).antisymm key l) low)

      less_of : (a b : Ordering) → a ≡ ordering_reverse b → (is_gt b ≡ false → ⊥) → is_lt a ≡ true
      less_of a Less e some = absurd (some refl)
      less_of a Equal e some = absurd (some refl)
      less_of a Greater e some = rw e refl

  -- what is behind a key that isn't before this one isn't either
  high : (l : List ℕ) (v : Version) → is_lt (key_cmp d l key) ≡ false → is_gt (key_cmp d v.key l) ≡ true → is_lt (key_cmp d v.key key) ≡ false
  high l v low above = by_order (key_cmp d v.key key) (key_cmp d key v.key) ((key_total d).antisymm key v.key) (λ lt. clash (key_upto (key_total d) v.key key l (weak lt) (not_low (key_cmp d l key) (key_cmp d key l) ((key_total d).antisymm key l) low)) above)
    where
      weak : is_lt (key_cmp d v.key key) ≡ true → is_gt (key_cmp d v.key key) ≡ false
      weak is = go (key_cmp d v.key key) is
        where
          go : (a : Ordering) → is_lt a ≡ true → is_gt a ≡ false
          go Less e = refl
          go Equal e = cc
          go Greater e = cc

      not_low : (a b : Ordering) → b ≡ ordering_reverse a → is_lt a ≡ false → is_gt b ≡ false
      not_low Less b e is = cc
      not_low Equal b e is = rw e refl
      not_low Greater b e is = rw e refl

      by_order : (a b : Ordering) → b ≡ ordering_reverse a → (is_lt a ≡ true → ⊥) → is_lt a ≡ false
      by_order Less b e never = absurd (never refl)
      by_order Equal b e never = refl
      by_order Greater b e never = refl

  all_from : (l : List ℕ) (vs : List Version) → is_lt (key_cmp d l key) ≡ false → AllByRecursion (λ (v : Version). is_gt (key_cmp d v.key l) ≡ true) vs → from_key d key vs ≡ vs
  all_from l [] low all = refl
  all_from l (v ∷ vs) low all = rw (high l v low all.0) (ap (λ (ws : List Version). v ∷ ws) (all_from l vs low all.1))

  -- a list that ends at a key which isn't before this one has a version from this one on
  some_from : (s : CursorState) (image : Image) (l : List ℕ) (vs : List Version) → is_lt (key_cmp d l key) ≡ false → AnyOf (λ (v : Version). v.key ≡ l) vs → left s image ≡ from_key d key vs → is_some s.current ≡ true
  some_from s image l vs low any is = go s.current is
    where
      kept : (vs : List Version) → AnyOf (λ (v : Version). v.key ≡ l) vs → from_key d key vs ≡ [] → ⊥
      kept [] any none = any
      kept (v ∷ vs) (inl same) none = let e : is_lt (key_cmp d v.key key) ≡ false = ap (λ (k : List ℕ). is_lt (key_cmp d k key)) same ∙ low in nothing e none
        where
          nothing : is_lt (key_cmp d v.key key) ≡ false → from_key d key (v ∷ vs) ≡ [] → ⊥
          nothing e none = let no : v ∷ from_key d key vs ≡ [] = rw e at none in cc
      kept (v ∷ vs) (inr later) none = elim (cases_Bool (is_lt (key_cmp d v.key key))) [
        | inl low ↦ let rest : from_key d key vs ≡ [] = rw low at none in kept vs later rest
        | inr up ↦ let no : v ∷ from_key d key vs ≡ [] = rw up at none in cc
      ]

      go : (o : Option Version) → with_current o (s.rest image) ≡ from_key d key vs → is_some o ≡ true
      go None e = absurd (kept vs any (sym e))
      go (Some v) e = refl

  module _ {K : Type 0} (f : K → CursorState) (image : Image) where
    -- where the key is behind all last keys
    pub found_none : (ls : List (List ℕ)) (xs : List K) → length xs ≤ child_of d ls key → FollowOne d ls (lists (map f xs) image) → from_key d key (joined (lists (map f xs) image)) ≡ []
    found_none ls [] le follow = refl
    found_none [] (x ∷ xs) le follow = absurd follow
    found_none (l ∷ ls) (x ∷ xs) le follow = elim (cases_Bool (is_lt (key_cmp d l key))) [
      | inl low ↦
          let e : cond (is_lt (key_cmp d l key)) (child_of d ls key + 1) 0 ≡ child_of d ls key + 1 = rw low refl in
          filter-append (λ (v : Version). not (is_lt (key_cmp d v.key key))) ((f x).versions image) (joined (lists (map f xs) image))
          ∙ ap (λ (vs : List Version). vs ++ from_key d key (joined (lists (map f xs) image))) (none_from l ((f x).versions image) low follow.0)
          ∙ found_none ls xs (omega (arith, le, e)) follow.3
      | inr up ↦
          let e : cond (is_lt (key_cmp d l key)) (child_of d ls key + 1) 0 ≡ 0 = rw up refl in absurd (omega (arith, le, e))
    ]

    -- the child that was opened has the first version from the key on
    pub found_one : (ls : List (List ℕ)) (xs : List K) (j : ℕ) (x y : K) → child_of d ls key ≡ j → j < length xs → x ≡ get_or xs j x → FollowOne d ls (lists (map f xs) image) → left (f y) image ≡ from_key d key ((f x).versions image) →
        (is_some (f y).current ≡ true) × (left (f y) image ++ behind f xs j image ≡ from_key d key (joined (lists (map f xs) image)))
    found_one ls [] j x y is lt at follow found = absurd (no_less j lt)
    found_one [] (w ∷ ws) j x y is lt at follow found = absurd follow
    found_one (l ∷ ls) (w ∷ ws) j x y is lt at follow found = elim (cases_Bool (is_lt (key_cmp d l key))) [
      | inl low ↦ later (λ m e less there. found_one ls ws m x y e less there follow.3 found) j (sym is ∙ ap (λ b. cond b (child_of d ls key + 1) 0) low) lt at low
      | inr up ↦ here j (sym is ∙ ap (λ b. cond b (child_of d ls key + 1) 0) up) at up
    ]
      where
        parts : from_key d key ((f w).versions image ++ joined (lists (map f ws) image)) ≡ from_key d key ((f w).versions image) ++ from_key d key (joined (lists (map f ws) image))
        parts = filter-append (λ (v : Version). not (is_lt (key_cmp d v.key key))) ((f w).versions image) (joined (lists (map f ws) image))

        later : ((m : ℕ) → child_of d ls key ≡ m → m < length ws → x ≡ get_or ws m x → (is_some (f y).current ≡ true) × (left (f y) image ++ behind f ws m image ≡ from_key d key (joined (lists (map f ws) image)))) → (j : ℕ) → j ≡ child_of d ls key + 1 → j < length (w ∷ ws) → x ≡ get_or (w ∷ ws) j x → is_lt (key_cmp d l key) ≡ true → (is_some (f y).current ≡ true) × (left (f y) image ++ behind f (w ∷ ws) j image ≡ from_key d key ((f w).versions image ++ joined (lists (map f ws) image)))
        later again zero e lt at low = absurd (omega (arith, e))
        later again (suc j) e lt at low =
            let more = again j (omega (arith, e)) (omega (arith, lt)) at in
            (more.0, more.1 ∙ sym (parts ∙ ap (λ (vs : List Version). vs ++ from_key d key (joined (lists (map f ws) image))) (none_from l ((f w).versions image) low follow.0)))

        here : (j : ℕ) → j ≡ 0 → x ≡ get_or (w ∷ ws) j x → is_lt (key_cmp d l key) ≡ false → (is_some (f y).current ≡ true) × (left (f y) image ++ behind f (w ∷ ws) j image ≡ from_key d key ((f w).versions image ++ joined (lists (map f ws) image)))
        here (suc j) e at up = absurd (omega (arith, e))
        here zero e at up =
            let first : left (f y) image ≡ from_key d key ((f w).versions image) = found ∙ ap (λ (z : K). from_key d key ((f z).versions image)) at in (
              some_from (f y) image l ((f w).versions image) up follow.1 first,
              ap (λ (vs : List Version). vs ++ joined (lists (map f ws) image)) first ∙ sym (parts ∙ ap (λ (vs : List Version). from_key d key ((f w).versions image) ++ vs) (all_from l (joined (lists (map f ws) image)) up follow.2)),
            )

each_parts : (P : Version → Type 0) (vs ws : List Version) → AllByRecursion P (vs ++ ws) → AllByRecursion P vs × AllByRecursion P ws
each_parts P [] ws all = (tt, all)
each_parts P (v ∷ vs) ws all = let both = each_parts P vs ws all.1 in ((all.0, both.0), both.1)

some_any : (P : Version → Type 0) (s : CursorState) (image : Image) (vs : List Version) → AnyOf P vs → left s image ≡ vs → is_some s.current ≡ true
some_any P s image vs any is = go s.current is
  where
    go : (o : Option Version) → with_current o (s.rest image) ≡ vs → is_some o ≡ true
    go None e = absurd (subst (AnyOf P) (sym e) any)
    go (Some v) e = refl

-- the next child, sought for the last key before it, stands on its first version
pub opened : {K : Type 0} (f : K → CursorState) (d : Direction) (image : Image) (ls : List (List ℕ)) (xs : List K) (j : ℕ) (w z : K) → FollowOne d ls (lists (map f xs) image) → suc j < length xs → w ≡ get_or xs (suc j) w → left (f z) image ≡ from_key d (get_or ls j []) ((f w).versions image) →
    (is_some (f z).current ≡ true) × (left (f z) image ≡ (f w).versions image)
opened f d image ls [] j w z follow lt at found = absurd (no_less (suc j) lt)
opened f d image [] (x ∷ xs) j w z follow lt at found = absurd follow
opened f d image (l ∷ ls) (x ∷ []) zero w z follow lt at found = absurd (omega (arith, lt))
opened f d image (l ∷ []) (x ∷ v ∷ vs) zero w z follow lt at found = absurd follow.3
opened f d image (l ∷ m ∷ ls) (x ∷ v ∷ vs) zero w z follow lt at found =
    let above = (each_parts (λ (u : Version). is_gt (key_cmp d u.key l) ≡ true) ((f v).versions image) (joined (lists (map f vs) image)) follow.2).0 in
    let low : is_lt (key_cmp d l l) ≡ false = ap is_lt (tied_itself (key_total d) l) in
    let all : left (f z) image ≡ (f v).versions image = found ∙ ap (λ (u : _). from_key d l ((f u).versions image)) at ∙ all_from d l l ((f v).versions image) low above in
    (some_any (λ (u : Version). u.key ≡ m) (f z) image ((f v).versions image) follow.3.1 all, all ∙ ap (λ (u : _). (f u).versions image) (sym at))
opened f d image (l ∷ ls) (x ∷ xs) (suc j) w z follow lt at found = opened f d image ls xs j w z follow.3 (omega (arith, lt)) at found

-- ---- costs up to the end

module _ {K : Type 0} (f : K → CursorState) (g : CursorState → Image → List ℕ → Option Version → ℕ) (r : CursorState → ℕ) (d : Direction) (image : Image) where
  pub cost_has : (key : List ℕ) (ls : List (List ℕ)) (xs : List K) (j : ℕ) (x : K) → child_of d ls key ≡ j → j < length xs → length ls ≡ length xs → x ≡ get_or xs j x → g (f x) image key None ≤ chain_cost d g image key None ls (map f xs)
  cost_has key ls [] j x is lt same at = absurd (no_less j lt)
  cost_has key [] (w ∷ ws) j x is lt same at = absurd (omega (arith, same))
  cost_has key (l ∷ ls) (w ∷ ws) j x is lt same at = elim (cases_Bool (is_lt (key_cmp d l key))) [
    | inl low ↦ later (λ m e less there. cost_has key ls ws m x e less (omega (arith, same)) there) j (sym is ∙ ap (λ b. cond b (child_of d ls key + 1) 0) low) lt at low
    | inr up ↦ here j (sym is ∙ ap (λ b. cond b (child_of d ls key + 1) 0) up) at up
  ]
    where
      later : ((m : ℕ) → child_of d ls key ≡ m → m < length ws → x ≡ get_or ws m x → g (f x) image key None ≤ chain_cost d g image key None ls (map f ws)) → (j : ℕ) → j ≡ child_of d ls key + 1 → j < length (w ∷ ws) → x ≡ get_or (w ∷ ws) j x → is_lt (key_cmp d l key) ≡ true → g (f x) image key None ≤ chain_cost d g image key None (l ∷ ls) (map f (w ∷ ws))
      later again zero e lt at low = absurd (omega (arith, e))
      later again (suc j) e lt at low = rw low (again j (omega (arith, e)) (omega (arith, lt)) at)

      here : (j : ℕ) → j ≡ 0 → x ≡ get_or (w ∷ ws) j x → is_lt (key_cmp d l key) ≡ false → g (f x) image key None ≤ chain_cost d g image key None (l ∷ ls) (map f (w ∷ ws))
      here (suc j) e at up = absurd (omega (arith, e))
      here zero e at up = let same_cost : g (f x) image key None ≡ g (f w) image key None = ap (λ (z : K). g (f z) image key None) at in rw up (omega (arith, same_cost))

  -- each that was opened has read no more than up to its end
  abbrev EndsBehind : List ℕ → List (List ℕ) → List K → ℕ → Type 0
  EndsBehind prev ls [] j = Unit {0}
  EndsBehind prev [] (x ∷ xs) j = Unit {0}
  EndsBehind prev (l ∷ ls) (x ∷ xs) zero = r (f x) ≤ g (f x) image prev None
  EndsBehind prev (l ∷ ls) (x ∷ xs) (suc j) = (r (f x) ≤ g (f x) image prev None) × EndsBehind l ls xs j

  abbrev pub Ends : List ℕ → List (List ℕ) → List K → ℕ → ℕ → Type 0
  Ends key ls [] i j = Unit {0}
  Ends key [] (x ∷ xs) i j = Unit {0}
  Ends key (l ∷ ls) (x ∷ xs) zero zero = r (f x) ≤ g (f x) image key None
  Ends key (l ∷ ls) (x ∷ xs) zero (suc j) = (r (f x) ≤ g (f x) image key None) × EndsBehind l ls xs j
  Ends key (l ∷ ls) (x ∷ xs) (suc i) zero = Unit {0}
  Ends key (l ∷ ls) (x ∷ xs) (suc i) (suc j) = Ends key ls xs i j

  behind_cost : (prev : List ℕ) (ls : List (List ℕ)) (xs : List K) (j : ℕ) → length ls ≡ length xs → EndsBehind prev ls xs j → from_to r (map f xs) 0 j ≤ cost_behind d g image None prev ls (map f xs)
  behind_cost prev ls [] j same ends = omega arith
  behind_cost prev [] (x ∷ xs) j same ends = absurd (omega (arith, same))
  behind_cost prev (l ∷ ls) (x ∷ xs) zero same ends = omega (arith, ends)
  behind_cost prev (l ∷ ls) (x ∷ xs) (suc j) same ends = omega (arith, ends.0, behind_cost l ls xs j (omega (arith, same)) ends.1)

  pub ends_cost : (key : List ℕ) (ls : List (List ℕ)) (xs : List K) (i j : ℕ) → child_of d ls key ≡ i → length ls ≡ length xs → Ends key ls xs i j → from_to r (map f xs) i j ≤ chain_cost d g image key None ls (map f xs)
  ends_cost key ls [] i j is same ends = omega arith
  ends_cost key [] (x ∷ xs) i j is same ends = absurd (omega (arith, same))
  ends_cost key (l ∷ ls) (x ∷ xs) i j is same ends = elim (cases_Bool (is_lt (key_cmp d l key))) [
    | inl low ↦ later (λ m n e over. ends_cost key ls xs m n e (omega (arith, same)) over) i j (sym is ∙ ap (λ b. cond b (child_of d ls key + 1) 0) low) ends low
    | inr up ↦ here i j (sym is ∙ ap (λ b. cond b (child_of d ls key + 1) 0) up) ends up
  ]
    where
      later : ((m n : ℕ) → child_of d ls key ≡ m → Ends key ls xs m n → from_to r (map f xs) m n ≤ chain_cost d g image key None ls (map f xs)) → (i j : ℕ) → i ≡ child_of d ls key + 1 → Ends key (l ∷ ls) (x ∷ xs) i j → is_lt (key_cmp d l key) ≡ true → from_to r (map f (x ∷ xs)) i j ≤ chain_cost d g image key None (l ∷ ls) (map f (x ∷ xs))
      later again zero j e ends low = absurd (omega (arith, e))
      later again (suc i) zero e ends low = omega arith
      later again (suc i) (suc j) e ends low = rw low (again i j (omega (arith, e)) ends)

      here : (i j : ℕ) → i ≡ 0 → Ends key (l ∷ ls) (x ∷ xs) i j → is_lt (key_cmp d l key) ≡ false → from_to r (map f (x ∷ xs)) i j ≤ chain_cost d g image key None (l ∷ ls) (map f (x ∷ xs))
      here (suc i) j e ends up = absurd (omega (arith, e))
      here zero zero e ends up = rw up (omega (arith, ends))
      here zero (suc j) e ends up = rw up (omega (arith, ends.0, behind_cost l ls xs j (omega (arith, same)) ends.1))

  module _ (whole steady : K → Image → Type 0) (bound : (c : K) (key : List ℕ) → whole c image → steady c image → (f c).distinct image ≡ true → (f c).sought key ≡ true → r (f c) ≤ g (f c) image key None) where
    behind_ends_now : (prev : List ℕ) (ls : List (List ℕ)) (xs : List K) (j : ℕ) (x y : K) → x ≡ get_or xs j x → AllByRecursion (λ c. whole c image) xs → list_all (λ (c : CursorState). c.distinct image) (map f xs) ≡ true → ((k : List ℕ) → steady x image → IsTrue ((f x).sought k) → r (f y) ≤ g (f y) image k None) → AreOpenBehind f steady image prev ls xs j → EndsBehind prev ls (set xs j y) j
    behind_ends_now prev ls [] j x y at all ones end opens = tt
    behind_ends_now prev [] (w ∷ ws) zero x y at all ones end opens = tt
    behind_ends_now prev [] (w ∷ ws) (suc j) x y at all ones end opens = tt
    behind_ends_now prev (l ∷ ls) (w ∷ ws) zero x y at all ones end opens = end prev (subst (λ (z : K). steady z image) (sym at) opens.0) (subst (λ (z : K). IsTrue ((f z).sought prev)) (sym at) opens.1)
    behind_ends_now prev (l ∷ ls) (w ∷ ws) (suc j) x y at all ones end opens =
        let one = and_split ((f w).distinct image) (list_all (λ (c : CursorState). c.distinct image) (map f ws)) ones in
        (bound w prev all.0 opens.0 one.0 opens.1, behind_ends_now l ls ws j x y at all.1 one.1 end opens.2)

    pub ends_now : (key : List ℕ) (ls : List (List ℕ)) (xs : List K) (i j : ℕ) (x y : K) → x ≡ get_or xs j x → AllByRecursion (λ c. whole c image) xs → list_all (λ (c : CursorState). c.distinct image) (map f xs) ≡ true → sought_at (map f xs) i key ≡ true → ((k : List ℕ) → steady x image → IsTrue ((f x).sought k) → r (f y) ≤ g (f y) image k None) → AreOpen f steady image ls xs i j → Ends key ls (set xs j y) i j
    ends_now key ls [] i j x y at all ones sought end opens = tt
    ends_now key [] (w ∷ ws) i zero x y at all ones sought end opens = tt
    ends_now key [] (w ∷ ws) i (suc j) x y at all ones sought end opens = tt
    ends_now key (l ∷ ls) (w ∷ ws) zero zero x y at all ones sought end opens = end key (subst (λ (z : K). steady z image) (sym at) opens) (ap (λ (z : K). (f z).sought key) at ∙ sought)
    ends_now key (l ∷ ls) (w ∷ ws) zero (suc j) x y at all ones sought end opens =
        let one = and_split ((f w).distinct image) (list_all (λ (c : CursorState). c.distinct image) (map f ws)) ones in
        (bound w key all.0 opens.0 one.0 sought, behind_ends_now l ls ws j x y at all.1 one.1 end opens.1)
    ends_now key (l ∷ ls) (w ∷ ws) (suc i) zero x y at all ones sought end opens = tt
    ends_now key (l ∷ ls) (w ∷ ws) (suc i) (suc j) x y at all ones sought end opens =
        let one = and_split ((f w).distinct image) (list_all (λ (c : CursorState). c.distinct image) (map f ws)) ones in
        ends_now key ls ws i j x y at all.1 one.1 sought end opens

    behind_ends_more : (prev : List ℕ) (ls : List (List ℕ)) (xs : List K) (j : ℕ) (z : K) → suc j < length xs → AllByRecursion (λ c. whole c image) xs → list_all (λ (c : CursorState). c.distinct image) (map f xs) ≡ true → r (f z) ≤ g (f z) image (get_or ls j []) None → AreOpenBehind f steady image prev ls xs j → EndsBehind prev ls (set xs (suc j) z) (suc j)
    behind_ends_more prev ls [] j z lt all ones end opens = tt
    behind_ends_more prev [] (w ∷ ws) j z lt all ones end opens = tt
    behind_ends_more prev (l ∷ ls) (w ∷ []) zero z lt all ones end opens = absurd (omega (arith, lt))
    behind_ends_more prev (l ∷ []) (w ∷ v ∷ vs) zero z lt all ones end opens =
        let one = and_split ((f w).distinct image) (list_all (λ (c : CursorState). c.distinct image) (map f (v ∷ vs))) ones in
        (bound w prev all.0 opens.0 one.0 opens.1, tt)
    behind_ends_more prev (l ∷ m ∷ ls) (w ∷ v ∷ vs) zero z lt all ones end opens =
        let one = and_split ((f w).distinct image) (list_all (λ (c : CursorState). c.distinct image) (map f (v ∷ vs))) ones in
        (bound w prev all.0 opens.0 one.0 opens.1, end)
    behind_ends_more prev (l ∷ ls) (w ∷ ws) (suc j) z lt all ones end opens =
        let one = and_split ((f w).distinct image) (list_all (λ (c : CursorState). c.distinct image) (map f ws)) ones in
        (bound w prev all.0 opens.0 one.0 opens.1, behind_ends_more l ls ws j z (omega (arith, lt)) all.1 one.1 end opens.2)

    pub ends_more : (key : List ℕ) (ls : List (List ℕ)) (xs : List K) (i j : ℕ) (z : K) → i ≤ j → suc j < length xs → AllByRecursion (λ c. whole c image) xs → list_all (λ (c : CursorState). c.distinct image) (map f xs) ≡ true → sought_at (map f xs) i key ≡ true → r (f z) ≤ g (f z) image (get_or ls j []) None → AreOpen f steady image ls xs i j → Ends key ls (set xs (suc j) z) i (suc j)
    ends_more key ls [] i j z le lt all ones sought end opens = tt
    ends_more key [] (w ∷ ws) i j z le lt all ones sought end opens = tt
    ends_more key (l ∷ ls) (w ∷ ws) (suc i) zero z le lt all ones sought end opens = absurd (omega (arith, le))
    ends_more key (l ∷ ls) (w ∷ []) zero zero z le lt all ones sought end opens = absurd (omega (arith, lt))
    ends_more key (l ∷ []) (w ∷ v ∷ vs) zero zero z le lt all ones sought end opens =
        let one = and_split ((f w).distinct image) (list_all (λ (c : CursorState). c.distinct image) (map f (v ∷ vs))) ones in
        (bound w key all.0 opens one.0 sought, tt)
    ends_more key (l ∷ m ∷ ls) (w ∷ v ∷ vs) zero zero z le lt all ones sought end opens =
        let one = and_split ((f w).distinct image) (list_all (λ (c : CursorState). c.distinct image) (map f (v ∷ vs))) ones in
        (bound w key all.0 opens one.0 sought, end)
    ends_more key (l ∷ ls) (w ∷ ws) zero (suc j) z le lt all ones sought end opens =
        let one = and_split ((f w).distinct image) (list_all (λ (c : CursorState). c.distinct image) (map f ws)) ones in
        (bound w key all.0 opens.0 one.0 sought, behind_ends_more l ls ws j z (omega (arith, lt)) all.1 one.1 end opens.1)
    ends_more key (l ∷ ls) (w ∷ ws) (suc i) (suc j) z le lt all ones sought end opens =
        let one = and_split ((f w).distinct image) (list_all (λ (c : CursorState). c.distinct image) (map f ws)) ones in
        ends_more key ls ws i j z (omega (arith, le)) (omega (arith, lt)) all.1 one.1 sought end opens

-- ---- what moves keep

module _ {K : Type 0} (f : K → CursorState) (whole : K → Image → Type 0) (image : Image) (tells : Type 0) (d : Direction) where
  module _ (g : CursorState → Image → List ℕ → Option Version → ℕ) (keeps : (x y : CursorState) → SameList x y → (i : Image) (key : List ℕ) (place : Option Version) → g y i key place ≡ g x i key place) (i : Image) (place : Option Version) where
    sum_same : {a b m n : ℕ} → a ≡ b → m ≡ n → a + m ≡ b + n
    sum_same e es = omega (arith, e, es)

    kept_behind : (prev : List ℕ) (ls : List (List ℕ)) (xs ys : List K) → Zipped (KeepsChild f whole image tells) xs ys → cost_behind d g i place prev ls (map f ys) ≡ cost_behind d g i place prev ls (map f xs)
    kept_behind prev ls [] [] all = refl
    kept_behind prev ls [] (y ∷ ys) all = absurd all
    kept_behind prev ls (x ∷ xs) [] all = absurd all
    kept_behind prev [] (x ∷ xs) (y ∷ ys) all = refl
    kept_behind prev (l ∷ ls) (x ∷ xs) (y ∷ ys) all = ap (λ (n : ℕ). cond (is_past d prev place) n 0) (sum_same (keeps (f x) (f y) all.0.list i prev (place_within d l place)) (kept_behind l ls xs ys all.1))

    pub kept_cost : (key : List ℕ) (ls : List (List ℕ)) (xs ys : List K) → Zipped (KeepsChild f whole image tells) xs ys → chain_cost d g i key place ls (map f ys) ≡ chain_cost d g i key place ls (map f xs)
    kept_cost key ls [] [] all = refl
    kept_cost key ls [] (y ∷ ys) all = absurd all
    kept_cost key ls (x ∷ xs) [] all = absurd all
    kept_cost key [] (x ∷ xs) (y ∷ ys) all = refl
    kept_cost key (l ∷ ls) (x ∷ xs) (y ∷ ys) all =
        ap (λ (n : ℕ). cond (is_lt (key_cmp d l key)) n (g (f y) i key (place_within d l place) + cost_behind d g i place l ls (map f ys))) (kept_cost key ls xs ys all.1)
        ∙ ap (λ (n : ℕ). cond (is_lt (key_cmp d l key)) (chain_cost d g i key place ls (map f xs)) n) (sum_same (keeps (f x) (f y) all.0.list i key (place_within d l place)) (kept_behind l ls xs ys all.1))

  pub kept_anew : (xs ys : List K) → Zipped (KeepsChild f whole image tells) xs ys → list_all (λ (c : CursorState). c.anew) (map f ys) ≡ list_all (λ (c : CursorState). c.anew) (map f xs)
  kept_anew [] [] all = refl
  kept_anew [] (y ∷ ys) all = absurd all
  kept_anew (x ∷ xs) [] all = absurd all
  kept_anew (x ∷ xs) (y ∷ ys) all = let e = all.0.list.anew in let es = kept_anew xs ys all.1 in cc

  pub kept_chain : (ls : List (List ℕ)) (p q : Bool) (i j m n : ℕ) (xs ys : List K) → Zipped (KeepsChild f whole image tells) xs ys → SameList (chain_state d ls p i j (map f xs)) (chain_state d ls q m n (map f ys))
  kept_chain ls p q i j m n xs ys all = record {
    direction = refl;
    files = kept_files f whole image tells d xs ys all;
    most = kept_most f whole image tells d xs ys all;
    anew = refl;
    versions = λ i. ap joined (kept_lists f whole image tells d xs ys all i);
    distinct = λ i. kept_distinct f whole image tells d xs ys all i;
    reads_to = λ i key place. kept_cost (λ c. c.reads_to) (λ x y kept. kept.reads_to) i place key ls xs ys all;
    asked_to = λ i key place. kept_cost (λ c. c.asked_to) (λ x y kept. kept.asked_to) i place key ls xs ys all;
  }
