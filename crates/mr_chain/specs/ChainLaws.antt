-- Laws of cursors whose lists follow one another.
use Rattle.std.specs.Prelude.{◌≡◌, ◌&&◌, ℕ, ◌+◌, ◌<◌, ◌≤◌, Bool, true, false, cond, List, [], ◌∷◌, ◌++◌, drop, map, Option, Some, None, is_some, nat_eq, zero, suc, refl}
use Rattle.std.proofs.Common.{sym, ◌∙◌, ap, subst, inl, inr, arith}
use Rattle.std.specs.List.{AllByRecursion, list_all}
use Rattle.std.specs.declared.cmp.Ordering.{Ordering}
use Rattle.std.specs.declared.cmp.Ordering.TheVariants.{Less, Equal, Greater}
use Rattle.std.specs.Ordering.{nat_cmp, is_lt, is_gt, ordering_then, ordering_reverse}
use Rattle.std.proofs.lemmas.Cmp.{upto as key_upto}
use Rattle.std.proofs.lemmas.Bool.{cases_Bool, true_from_ne_false}
use Rattle.mr_base.specs.Disk.{Image}
use Rattle.mr_base.specs.declared.stop.Direction.{Direction}
use Rattle.mr_iter.specs.Versions.{Version, key_cmp, version_cmp, IsAtFront, IsInOrder, joined}
use Rattle.mr_iter.specs.Order.{key_total, each-append}
use Rattle.mr_iter.specs.Places.{and_split, left_by, in_place_by}
use Rattle.mr_iter.specs.Cursors.{CursorState, SameFiles, SaysSame, IsInPlace, IsWithinBound, GrowsToEnd, left, with_current}
use Rattle.mr_iter.specs.Children.{total}
use Rattle.mr_iter.specs.Merging.{current_at, lists, IsOneDirection}
use Rattle.mr_iter.specs.MergeLaws.{IsOneDirection-prop}
use Rattle.std.proofs.Props.{props}
use Rattle.std.proofs.lemmas.Bool.Decides.{nat_tests}
use Rattle.mr_iter.specs.MergeFiles.{each_split}
use Rattle.mr_chain.specs.ByFiles.{whole_by, lists_by, distinct_by}
use Rattle.mr_chain.specs.Chains.{IsChain, is_past, place_within, child_of, rest_at, steps_at, from_to, sought_at, cost_behind, chain_cost, chain_state, FollowOne, IsUptoLast, IsChainWhole, AreOpen, AreOpenBehind, IsChainSteady}

clash : {b : Bool} → b ≡ false → b ≡ true → ⊥
clash low high = cc

-- ---- order

turned : (a b : Ordering) → b ≡ ordering_reverse a → is_gt b ≡ true → (o : Ordering) → is_gt (ordering_then a o) ≡ false
turned Less b e gt o = refl
turned Equal b e gt o = let no : is_gt b ≡ false = ap is_gt e in absurd (clash no gt)
turned Greater b e gt o = let no : is_gt b ≡ false = ap is_gt e in absurd (clash no gt)

-- a version up to a key, and one behind it
apart : (d : Direction) (l : List ℕ) (v w : Version) → is_gt (key_cmp d v.key l) ≡ false → is_gt (key_cmp d w.key l) ≡ true → is_gt (version_cmp d v w) ≡ false
apart d l v w low high =
    let above : is_gt (key_cmp d w.key v.key) ≡ true = true_from_ne_false _ (λ no. absurd (clash (key_upto (key_total d) w.key v.key l no low) high)) in
    turned (key_cmp d v.key w.key) (key_cmp d w.key v.key) ((key_total d).antisymm w.key v.key) above (nat_cmp w.sequence v.sequence)

all_apart : (d : Direction) (l : List ℕ) (v : Version) (ws : List Version) → is_gt (key_cmp d v.key l) ≡ false → AllByRecursion (λ (w : Version). is_gt (key_cmp d w.key l) ≡ true) ws → IsAtFront (version_cmp d) v ws
all_apart d l v [] low all = tt
all_apart d l v (w ∷ ws) low all = (apart d l v w low all.0, all_apart d l v ws low all.1)

order_append : (d : Direction) (l : List ℕ) (vs ws : List Version) → IsInOrder (version_cmp d) vs → IsInOrder (version_cmp d) ws → AllByRecursion (λ (v : Version). is_gt (key_cmp d v.key l) ≡ false) vs → AllByRecursion (λ (w : Version). is_gt (key_cmp d w.key l) ≡ true) ws → IsInOrder (version_cmp d) (vs ++ ws)
order_append d l [] ws one two low high = two
order_append d l (v ∷ vs) ws one two low high = (each-append (λ w. is_gt (version_cmp d v w) ≡ false) vs ws one.0 (all_apart d l v ws low.0 high), order_append d l vs ws one.1 two low.1 high)

joined_in_order : (d : Direction) (ls : List (List ℕ)) (vss : List (List Version)) → AllByRecursion (IsInOrder (version_cmp d)) vss → FollowOne d ls vss → IsInOrder (version_cmp d) (joined vss)
joined_in_order d ls [] all follow = tt
joined_in_order d [] (vs ∷ vss) all follow = absurd follow
joined_in_order d (l ∷ ls) (vs ∷ vss) all follow = order_append d l vs (joined vss) all.0 (joined_in_order d ls vss all.1 follow.3) follow.0 follow.2

with_more : (o : Option Version) (vs ws : List Version) → is_some o ≡ true → with_current o (vs ++ ws) ≡ with_current o vs ++ ws
with_more None vs ws some = cc
with_more (Some v) vs ws some = refl

module _ {K : Type 0} (f : K → CursorState) (whole : K → Image → Type 0) (law : (c : K) (image : Image) → whole c image → IsInOrder (version_cmp (f c).direction) (left (f c) image) × IsInOrder (version_cmp (f c).direction) ((f c).versions image)) (d : Direction) (image : Image) where
  each_list : (xs : List K) → IsOneDirection d (map f xs) → AllByRecursion (λ c. whole c image) xs → AllByRecursion (IsInOrder (version_cmp d)) (lists (map f xs) image)
  each_list [] one all = tt
  each_list (x ∷ xs) one all = (subst (λ (e : Direction). IsInOrder (version_cmp e) ((f x).versions image)) one.0 (law x image all.0).1, each_list xs one.1 all.1)

  left_in_order : (ls : List (List ℕ)) (xs : List K) (i : ℕ) → IsOneDirection d (map f xs) → AllByRecursion (λ c. whole c image) xs → FollowOne d ls (lists (map f xs) image) → IsUptoLast d ls (map f xs) i image → is_some (current_at (map f xs) i) ≡ true → IsInOrder (version_cmp d) (with_current (current_at (map f xs) i) (rest_at (map f xs) i image))
  left_in_order ls [] i one all follow upto some = cc
  left_in_order [] (x ∷ xs) i one all follow upto some = absurd follow
  left_in_order (l ∷ ls) (x ∷ xs) zero one all follow upto some =
      subst (IsInOrder (version_cmp d)) (sym (with_more (f x).current ((f x).rest image) (joined (lists (map f xs) image)) some))
      (order_append d l (left (f x) image) (joined (lists (map f xs) image)) (subst (λ (e : Direction). IsInOrder (version_cmp e) (left (f x) image)) one.0 (law x image all.0).0) (joined_in_order d ls (lists (map f xs) image) (each_list xs one.1 all.1) follow.3) upto follow.2)
  left_in_order (l ∷ ls) (x ∷ xs) (suc i) one all follow upto some = left_in_order ls xs i one.1 all.1 follow.3 upto some

  pub chain_in_order : (ls : List (List ℕ)) (placed : Bool) (from here : ℕ) (xs : List K) → IsOneDirection d (map f xs) → IsChainWhole f whole d ls placed here xs image →
      IsInOrder (version_cmp d) (left (chain_state d ls placed from here (map f xs)) image) × IsInOrder (version_cmp d) (joined (lists (map f xs) image))
  chain_in_order ls false from here xs one is = (tt, joined_in_order d ls (lists (map f xs) image) (each_list xs one is.each) is.follow)
  chain_in_order ls true from here xs one is = (go (current_at (map f xs) here) refl, joined_in_order d ls (lists (map f xs) image) (each_list xs one is.each) is.follow)
    where
      go : (o : Option Version) → current_at (map f xs) here ≡ o → IsInOrder (version_cmp d) (with_current (current_at (map f xs) here) (rest_at (map f xs) here image))
      go None e = subst (λ (o : Option Version). IsInOrder (version_cmp d) (with_current o (rest_at (map f xs) here image))) (sym e) tt
      go (Some v) e = left_in_order ls xs here one is.each is.follow (is.upto refl) (ap is_some e)

-- ---- steps

pub chain_bounded : {K : Type 0} (f : K → CursorState) → ((c : K) → (f c).steps ≤ (f c).most) → (xs : List K) (here : ℕ) → steps_at (map f xs) here ≤ total (λ (c : CursorState). c.most) (map f xs)
chain_bounded f law [] here = omega arith
chain_bounded f law (x ∷ xs) zero = omega (arith, law x)
chain_bounded f law (x ∷ xs) (suc here) = omega (arith, chain_bounded f law xs here)

pub chain_going : {K : Type 0} (f : K → CursorState) → ((c : K) → is_some (f c).current ≡ true → 0 < (f c).steps) → (placed : Bool) (xs : List K) (here : ℕ) → is_some (cond placed (current_at (map f xs) here) None) ≡ true → 0 < steps_at (map f xs) here
chain_going f law false xs here is = cc
chain_going f law true [] here is = cc
chain_going f law true (x ∷ xs) zero is = omega (arith, law x is)
chain_going f law true (x ∷ xs) (suc here) is = chain_going f law true xs here is

-- ---- costs: g is what one child costs up to a place, and no place costs more than the end

module _ {K : Type 0} (f : K → CursorState) (g : CursorState → Image → List ℕ → Option Version → ℕ) (whole : K → Image → Type 0) (d : Direction) (image : Image)
    (grows : (c : K) (key : List ℕ) (place : Option Version) → whole c image → g (f c) image key place ≤ g (f c) image key None) where
  one_grows : (c : K) (key last : List ℕ) (place : Option Version) → whole c image → g (f c) image key (place_within d last place) ≤ g (f c) image key None
  one_grows c key last place is = grows c key (place_within d last place) is

  behind_grows : (place : Option Version) (prev : List ℕ) (ls : List (List ℕ)) (xs : List K) → AllByRecursion (λ c. whole c image) xs → cost_behind d g image place prev ls (map f xs) ≤ cost_behind d g image None prev ls (map f xs)
  behind_grows place prev ls [] all = omega arith
  behind_grows place prev [] (x ∷ xs) all = omega arith
  behind_grows place prev (l ∷ ls) (x ∷ xs) all =
      let here = one_grows x prev l place all.0 in
      let later = behind_grows place l ls xs all.1 in
      elim (is_past d prev place) as (λ b. cond b (g (f x) image prev (place_within d l place) + cost_behind d g image place l ls (map f xs)) 0 ≤ g (f x) image prev None + cost_behind d g image None l ls (map f xs)) [
        | true ↦ omega (arith, here, later)
        | false ↦ omega arith
      ]

  pub chain_grows : (key : List ℕ) (place : Option Version) (ls : List (List ℕ)) (xs : List K) → AllByRecursion (λ c. whole c image) xs → chain_cost d g image key place ls (map f xs) ≤ chain_cost d g image key None ls (map f xs)
  chain_grows key place ls [] all = omega arith
  chain_grows key place [] (x ∷ xs) all = omega arith
  chain_grows key place (l ∷ ls) (x ∷ xs) all =
      let here = one_grows x key l place all.0 in
      let later = behind_grows place l ls xs all.1 in
      let past = chain_grows key place ls xs all.1 in
      elim (is_lt (key_cmp d l key)) as (λ b. cond b (chain_cost d g image key place ls (map f xs)) (g (f x) image key (place_within d l place) + cost_behind d g image place l ls (map f xs)) ≤ cond b (chain_cost d g image key None ls (map f xs)) (g (f x) image key None + cost_behind d g image None l ls (map f xs))) [
        | true ↦ past
        | false ↦ omega (arith, here, later)
      ]

each_drop : (P : Version → Type 0) (n : ℕ) (vs : List Version) → AllByRecursion P vs → AllByRecursion P (drop n vs)
each_drop P zero vs all = all
each_drop P (suc n) [] all = tt
each_drop P (suc n) (v ∷ vs) all = each_drop P n vs all.1

each_parts : (P : Version → Type 0) (vs ws : List Version) → AllByRecursion P (vs ++ ws) → AllByRecursion P vs × AllByRecursion P ws
each_parts P [] ws all = (tt, all)
each_parts P (v ∷ vs) ws all = let both = each_parts P vs ws all.1 in ((all.0, both.0), both.1)

-- what holds of a child's list holds of the version that it stands on
stands_in : (P : Version → Type 0) (s : CursorState) (image : Image) (v : Version) → IsInPlace s image → AllByRecursion P (s.versions image) → s.current ≡ Some v → P v
stands_in P s image v place all is =
    let rest : AllByRecursion P (left s image) = subst (AllByRecursion P) (sym place.rest) (each_drop P place.passed (s.versions image) all) in
    (subst (λ (o : Option Version). AllByRecursion P (with_current o (s.rest image))) is rest).0

module _ {K : Type 0} (f : K → CursorState) (g : CursorState → Image → List ℕ → Option Version → ℕ) (r : CursorState → ℕ) (whole steady : K → Image → Type 0) (d : Direction) (image : Image)
    (grows : (c : K) (key : List ℕ) (place : Option Version) → whole c image → g (f c) image key place ≤ g (f c) image key None)
    (costs : (c : K) (key : List ℕ) → whole c image → steady c image → (f c).distinct image ≡ true → (f c).sought key ≡ true → r (f c) ≤ g (f c) image key (f c).current)
    (in_place : (c : K) → whole c image → steady c image → IsInPlace (f c) image) where
  abbrev at_place : Bool → List K → ℕ → Option Version
  at_place placed xs j = cond placed (current_at (map f xs) j) None

  -- the child in which it stands
  one_bound : (c : K) (key l : List ℕ) (placed : Bool) → whole c image → steady c image → (f c).distinct image ≡ true → (f c).sought key ≡ true → (placed ≡ true → AllByRecursion (λ (v : Version). is_gt (key_cmp d v.key l) ≡ false) (left (f c) image)) →
      r (f c) ≤ g (f c) image key (place_within d l (cond placed (f c).current None))
  one_bound c key l false is stands one sought upto = omega (arith, costs c key is stands one sought, grows c key (f c).current is)
  one_bound c key l true is stands one sought upto = go (f c).current refl
    where
      go : (o : Option Version) → (f c).current ≡ o → r (f c) ≤ g (f c) image key (place_within d l (f c).current)
      go None e = subst (λ (p : Option Version). r (f c) ≤ g (f c) image key (place_within d l p)) (sym e) (omega (arith, costs c key is stands one sought, grows c key (f c).current is))
      go (Some v) e =
          let low : is_gt (key_cmp d v.key l) ≡ false = (subst (λ (o : Option Version). AllByRecursion (λ (v : Version). is_gt (key_cmp d v.key l) ≡ false) (with_current o ((f c).rest image))) e (upto refl)).0 in
          let same : place_within d l (f c).current ≡ (f c).current = ap (place_within d l) e ∙ ap (λ b. cond b None (Some v)) low ∙ sym e in
          subst (λ (p : Option Version). r (f c) ≤ g (f c) image key p) (sym same) (costs c key is stands one sought)

  -- a child that was passed
  whole_bound : (c : K) (key : List ℕ) → whole c image → steady c image → (f c).distinct image ≡ true → (f c).sought key ≡ true → r (f c) ≤ g (f c) image key None
  whole_bound c key is stands one sought = omega (arith, costs c key is stands one sought, grows c key (f c).current is)

  -- the version that it stands on is behind the last keys of the children in front
  past_behind : (l prev : List ℕ) (placed : Bool) (ls : List (List ℕ)) (xs : List K) (j : ℕ) → AllByRecursion (λ c. whole c image) xs → FollowOne d ls (lists (map f xs) image) → AreOpenBehind f steady image prev ls xs j → AllByRecursion (λ (v : Version). is_gt (key_cmp d v.key l) ≡ true) (joined (lists (map f xs) image)) → is_past d l (at_place placed xs j) ≡ true
  past_behind l prev false ls xs j all follow opens above = refl
  past_behind l prev true ls [] j all follow opens above = refl
  past_behind l prev true [] (x ∷ xs) j all follow opens above = absurd follow
  past_behind l prev true (m ∷ ls) (x ∷ xs) zero all follow opens above = go (f x).current refl
    where
      go : (o : Option Version) → (f x).current ≡ o → is_past d l (f x).current ≡ true
      go None e = ap (is_past d l) e
      go (Some v) e = ap (is_past d l) e ∙ stands_in (λ (v : Version). is_gt (key_cmp d v.key l) ≡ true) (f x) image v (in_place x all.0 opens.0) (each_parts (λ (v : Version). is_gt (key_cmp d v.key l) ≡ true) ((f x).versions image) (joined (lists (map f xs) image)) above).0 e
  past_behind l prev true (m ∷ ls) (x ∷ xs) (suc j) all follow opens above =
      past_behind l m true ls xs j all.1 follow.3 opens.2 (each_parts (λ (v : Version). is_gt (key_cmp d v.key l) ≡ true) ((f x).versions image) (joined (lists (map f xs) image)) above).1

  behind_bound : (prev : List ℕ) (placed : Bool) (ls : List (List ℕ)) (xs : List K) (j : ℕ) → AllByRecursion (λ c. whole c image) xs → FollowOne d ls (lists (map f xs) image) → (placed ≡ true → IsUptoLast d ls (map f xs) j image) → AreOpenBehind f steady image prev ls xs j → list_all (λ (c : CursorState). c.distinct image) (map f xs) ≡ true →
      is_past d prev (at_place placed xs j) ≡ true → from_to r (map f xs) 0 j ≤ cost_behind d g image (at_place placed xs j) prev ls (map f xs)
  behind_bound prev placed ls [] j all follow upto opens ones past = omega arith
  behind_bound prev placed [] (x ∷ xs) j all follow upto opens ones past = absurd follow
  behind_bound prev placed (l ∷ ls) (x ∷ xs) zero all follow upto opens ones past =
      let one = and_split ((f x).distinct image) (list_all (λ (c : CursorState). c.distinct image) (map f xs)) ones in
      let here = one_bound x prev l placed all.0 opens.0 one.0 opens.1 upto in
      subst (λ b. r (f x) ≤ cond b (g (f x) image prev (place_within d l (at_place placed (x ∷ xs) 0)) + cost_behind d g image (at_place placed (x ∷ xs) 0) l ls (map f xs)) 0) (sym past) (omega (arith, here))
  behind_bound prev placed (l ∷ ls) (x ∷ xs) (suc j) all follow upto opens ones past =
      let one = and_split ((f x).distinct image) (list_all (λ (c : CursorState). c.distinct image) (map f xs)) ones in
      let here = whole_bound x prev all.0 opens.0 one.0 opens.1 in
      let gone = past_behind l l placed ls xs j all.1 follow.3 opens.2 follow.2 in
      let within : place_within d l (at_place placed xs j) ≡ None = ap (λ b. cond b None (at_place placed xs j)) gone in
      let full : r (f x) ≤ g (f x) image prev (place_within d l (at_place placed xs j)) = subst (λ (p : Option Version). r (f x) ≤ g (f x) image prev p) (sym within) here in
      let later = behind_bound l placed ls xs j all.1 follow.3 upto opens.2 one.1 gone in
      subst (λ b. r (f x) + from_to r (map f xs) 0 j ≤ cond b (g (f x) image prev (place_within d l (at_place placed xs j)) + cost_behind d g image (at_place placed xs j) l ls (map f xs)) 0) (sym past) (omega (arith, full, later))

  -- what a chain read is at most what its opened children may have read
  pub chain_bound : (key : List ℕ) (placed : Bool) (ls : List (List ℕ)) (xs : List K) (i j : ℕ) → AllByRecursion (λ c. whole c image) xs → FollowOne d ls (lists (map f xs) image) → (placed ≡ true → IsUptoLast d ls (map f xs) j image) → AreOpen f steady image ls xs i j → list_all (λ (c : CursorState). c.distinct image) (map f xs) ≡ true →
      child_of d ls key ≡ i → sought_at (map f xs) i key ≡ true → from_to r (map f xs) i j ≤ chain_cost d g image key (at_place placed xs j) ls (map f xs)
  chain_bound key placed ls [] i j all follow upto opens ones is sought = omega arith
  chain_bound key placed [] (x ∷ xs) i j all follow upto opens ones is sought = absurd follow
  chain_bound key placed (l ∷ ls) (x ∷ xs) i j all follow upto opens ones is sought = elim (cases_Bool (is_lt (key_cmp d l key))) [
    | inl before ↦ passed (λ m n e u o q. chain_bound key placed ls xs m n all.1 follow.3 u o (and_split ((f x).distinct image) (list_all (λ (c : CursorState). c.distinct image) (map f xs)) ones).1 e q) i j (sym is ∙ ap (λ b. cond b (child_of d ls key + 1) 0) before) before upto opens sought
    | inr here ↦ stands i j (sym is ∙ ap (λ b. cond b (child_of d ls key + 1) 0) here) here upto opens sought
  ]
    where
      one : ((f x).distinct image ≡ true) × (list_all (λ (c : CursorState). c.distinct image) (map f xs) ≡ true)
      one = and_split ((f x).distinct image) (list_all (λ (c : CursorState). c.distinct image) (map f xs)) ones

      passed : ((m n : ℕ) → child_of d ls key ≡ m → (placed ≡ true → IsUptoLast d ls (map f xs) n image) → AreOpen f steady image ls xs m n → sought_at (map f xs) m key ≡ true → from_to r (map f xs) m n ≤ chain_cost d g image key (at_place placed xs n) ls (map f xs)) → (i j : ℕ) → i ≡ child_of d ls key + 1 → is_lt (key_cmp d l key) ≡ true → (placed ≡ true → IsUptoLast d (l ∷ ls) (map f (x ∷ xs)) j image) → AreOpen f steady image (l ∷ ls) (x ∷ xs) i j → sought_at (map f (x ∷ xs)) i key ≡ true → from_to r (map f (x ∷ xs)) i j ≤ chain_cost d g image key (at_place placed (x ∷ xs) j) (l ∷ ls) (map f (x ∷ xs))
      passed again zero j e before upto opens sought = absurd (omega (arith, e))
      passed again (suc i) zero e before upto opens sought = omega arith
      passed again (suc i) (suc j) e before upto opens sought =
          rw before (again i j (omega (arith, e)) upto opens sought)

      stands : (i j : ℕ) → i ≡ 0 → is_lt (key_cmp d l key) ≡ false → (placed ≡ true → IsUptoLast d (l ∷ ls) (map f (x ∷ xs)) j image) → AreOpen f steady image (l ∷ ls) (x ∷ xs) i j → sought_at (map f (x ∷ xs)) i key ≡ true → from_to r (map f (x ∷ xs)) i j ≤ chain_cost d g image key (at_place placed (x ∷ xs) j) (l ∷ ls) (map f (x ∷ xs))
      stands (suc i) j e here upto opens sought = absurd (omega (arith, e))
      stands zero zero e here upto opens sought = rw here (omega (arith, one_bound x key l placed all.0 opens one.0 sought upto))
      stands zero (suc j) e here upto opens sought =
          let first = whole_bound x key all.0 opens.0 one.0 sought in
          let gone = past_behind l l placed ls xs j all.1 follow.3 opens.1 follow.2 in
          let within : place_within d l (at_place placed xs j) ≡ None = ap (λ b. cond b None (at_place placed xs j)) gone in
          let full : r (f x) ≤ g (f x) image key (place_within d l (at_place placed xs j)) = subst (λ (p : Option Version). r (f x) ≤ g (f x) image key p) (sym within) first in
          let later = behind_bound l placed ls xs j all.1 follow.3 upto opens.1 one.1 gone in
          rw here (omega (arith, full, later))

pub IsChain-prop : (d : Direction) (ls : List (List ℕ)) (from here : ℕ) (cs : List CursorState) → IsProp (IsChain d ls from here cs)
IsChain-prop d ls from here cs = hlevel (props, IsOneDirection-prop d cs)

module _ {K : Type 0} (f : K → CursorState) (whole steady : K → Image → Type 0)
    (costs : (c : K) (image : Image) (k : List ℕ) → whole c image → steady c image → (f c).distinct image ≡ true → (f c).sought k ≡ true → IsWithinBound (f c) image k)
    (to_end : (c : K) (image : Image) (k : List ℕ) (place : Option Version) → whole c image → GrowsToEnd (f c) image k place)
    (in_place : (c : K) (image : Image) → whole c image → steady c image → IsInPlace (f c) image) (d : Direction) (image : Image) where
  pub chain_to_end : (k : List ℕ) (ls : List (List ℕ)) (placed : Bool) (from here : ℕ) (xs : List K) (place : Option Version) → IsChainWhole f whole d ls placed here xs image → GrowsToEnd (chain_state d ls placed from here (map f xs)) image k place
  chain_to_end k ls placed from here xs place is = record {
    reads = chain_grows f (λ c. c.reads_to) whole d image (λ c key p w. (to_end c image key p w).reads) k place ls xs is.each;
    asked = chain_grows f (λ c. c.asked_to) whole d image (λ c key p w. (to_end c image key p w).asked) k place ls xs is.each;
  }

  pub chain_costs : (k : List ℕ) (ls : List (List ℕ)) (placed : Bool) (from here : ℕ) (xs : List K) → IsChainWhole f whole d ls placed here xs image → IsChainSteady f steady d ls placed from here xs image → list_all (λ (c : CursorState). c.distinct image) (map f xs) ≡ true → (nat_eq (child_of d ls k) from && sought_at (map f xs) from k) ≡ true → IsWithinBound (chain_state d ls placed from here (map f xs)) image k
  chain_costs k ls placed from here xs is stands one key =
      let parts = and_split (nat_eq (child_of d ls k) from) (sought_at (map f xs) from k) key in
      let same : child_of d ls k ≡ from = grind (arith, nat_tests) in
      record {
        reads = chain_bound f (λ c. c.reads_to) (λ c. c.reads) whole steady d image (λ c key p w. (to_end c image key p w).reads) (λ c key w s o q. (costs c image key w s o q).reads) (λ c w s. in_place c image w s) k placed ls xs from here is.each is.follow is.upto stands.opened one same parts.1;
        asked = chain_bound f (λ c. c.asked_to) (λ c. c.asked) whole steady d image (λ c key p w. (to_end c image key p w).asked) (λ c key w s o q. (costs c image key w s o q).asked) (λ c w s. in_place c image w s) k placed ls xs from here is.each is.follow is.upto stands.opened one same parts.1;
      }

-- ---- by two images that have the same in all its files

module _ {K : Type 0} (f : K → CursorState) (whole steady : K → Image → Type 0)
    (law : (c : K) (i j : Image) → SameFiles (f c).files i j → whole c i → whole c j × (steady c i → steady c j) × SaysSame (f c) i j) (d : Direction) (i j : Image) where
  abbrev Shared : List K → Type 0
  Shared xs = AllByRecursion (λ file. i file ≡ j file) (joined (map (λ (c : CursorState). c.files) (map f xs)))

  parts : (x : K) (xs : List K) → Shared (x ∷ xs) → SameFiles (f x).files i j × Shared xs
  parts x xs same = each_split (λ file. i file ≡ j file) (f x).files (joined (map (λ (c : CursorState). c.files) (map f xs))) same

  upto_by : (ls : List (List ℕ)) (xs : List K) (here : ℕ) → Shared xs → AllByRecursion (λ c. whole c i) xs → IsUptoLast d ls (map f xs) here i → IsUptoLast d ls (map f xs) here j
  upto_by ls [] here same all upto = tt
  upto_by [] (x ∷ xs) here same all upto = upto
  upto_by (l ∷ ls) (x ∷ xs) zero same all upto = subst (AllByRecursion (λ (v : Version). is_gt (key_cmp d v.key l) ≡ false)) (left_by (f x) i j (law x i j (parts x xs same).0 all.0).2) upto
  upto_by (l ∷ ls) (x ∷ xs) (suc here) same all upto = upto_by ls xs here (parts x xs same).1 all.1 upto

  rest_by : (xs : List K) (here : ℕ) → Shared xs → AllByRecursion (λ c. whole c i) xs → rest_at (map f xs) here i ≡ rest_at (map f xs) here j
  rest_by [] here same all = refl
  rest_by (x ∷ xs) zero same all =
      let e = (law x i j (parts x xs same).0 all.0).2.rest in
      let es = lists_by f whole steady law d i j xs (parts x xs same).1 all.1 in
      ap (λ (vs : List Version). vs ++ joined (lists (map f xs) i)) e ∙ ap (λ (vss : List (List Version)). (f x).rest j ++ joined vss) es
  rest_by (x ∷ xs) (suc here) same all = rest_by xs here (parts x xs same).1 all.1

  module _ (g : CursorState → Image → List ℕ → Option Version → ℕ) (says : (s : CursorState) → SaysSame s i j → (key : List ℕ) (place : Option Version) → g s i key place ≡ g s j key place) (place : Option Version) where
    behind_by : (prev : List ℕ) (ls : List (List ℕ)) (xs : List K) → Shared xs → AllByRecursion (λ c. whole c i) xs → cost_behind d g i place prev ls (map f xs) ≡ cost_behind d g j place prev ls (map f xs)
    behind_by prev ls [] same all = refl
    behind_by prev [] (x ∷ xs) same all = refl
    behind_by prev (l ∷ ls) (x ∷ xs) same all =
        let e = says (f x) (law x i j (parts x xs same).0 all.0).2 prev (place_within d l place) in
        let es = behind_by l ls xs (parts x xs same).1 all.1 in
        ap (λ (n : ℕ). cond (is_past d prev place) n 0) (sum_same e es)
      where
        sum_same : {a b m n : ℕ} → a ≡ b → m ≡ n → a + m ≡ b + n
        sum_same e es = omega (arith, e, es)

    cost_by : (key : List ℕ) (ls : List (List ℕ)) (xs : List K) → Shared xs → AllByRecursion (λ c. whole c i) xs → chain_cost d g i key place ls (map f xs) ≡ chain_cost d g j key place ls (map f xs)
    cost_by key ls [] same all = refl
    cost_by key [] (x ∷ xs) same all = refl
    cost_by key (l ∷ ls) (x ∷ xs) same all =
        let e = says (f x) (law x i j (parts x xs same).0 all.0).2 key (place_within d l place) in
        let es = behind_by l ls xs (parts x xs same).1 all.1 in
        let past = cost_by key ls xs (parts x xs same).1 all.1 in
        ap (λ (n : ℕ). cond (is_lt (key_cmp d l key)) n (g (f x) i key (place_within d l place) + cost_behind d g i place l ls (map f xs))) past
        ∙ ap (λ (n : ℕ). cond (is_lt (key_cmp d l key)) (chain_cost d g j key place ls (map f xs)) n) (sum_same e es)
      where
        sum_same : {a b m n : ℕ} → a ≡ b → m ≡ n → a + m ≡ b + n
        sum_same e es = omega (arith, e, es)

  open_behind_by : (prev : List ℕ) (ls : List (List ℕ)) (xs : List K) (n : ℕ) → Shared xs → AllByRecursion (λ c. whole c i) xs → AreOpenBehind f steady i prev ls xs n → AreOpenBehind f steady j prev ls xs n
  open_behind_by prev ls [] n same all opens = tt
  open_behind_by prev [] (x ∷ xs) n same all opens = tt
  open_behind_by prev (l ∷ ls) (x ∷ xs) zero same all opens = ((law x i j (parts x xs same).0 all.0).1 opens.0, opens.1)
  open_behind_by prev (l ∷ ls) (x ∷ xs) (suc n) same all opens = ((law x i j (parts x xs same).0 all.0).1 opens.0, opens.1, open_behind_by l ls xs n (parts x xs same).1 all.1 opens.2)

  open_by : (ls : List (List ℕ)) (xs : List K) (m n : ℕ) → Shared xs → AllByRecursion (λ c. whole c i) xs → AreOpen f steady i ls xs m n → AreOpen f steady j ls xs m n
  open_by ls [] m n same all opens = tt
  open_by [] (x ∷ xs) m n same all opens = tt
  open_by (l ∷ ls) (x ∷ xs) zero zero same all opens = (law x i j (parts x xs same).0 all.0).1 opens
  open_by (l ∷ ls) (x ∷ xs) zero (suc n) same all opens = ((law x i j (parts x xs same).0 all.0).1 opens.0, open_behind_by l ls xs n (parts x xs same).1 all.1 opens.1)
  open_by (l ∷ ls) (x ∷ xs) (suc m) zero same all opens = tt
  open_by (l ∷ ls) (x ∷ xs) (suc m) (suc n) same all opens = open_by ls xs m n (parts x xs same).1 all.1 opens

  chain_says : (ls : List (List ℕ)) (placed : Bool) (from here : ℕ) (xs : List K) → Shared xs → AllByRecursion (λ c. whole c i) xs → SaysSame (chain_state d ls placed from here (map f xs)) i j
  chain_says ls placed from here xs same all = record {
    versions = ap joined (lists_by f whole steady law d i j xs same all);
    rest = rest_by xs here same all;
    distinct = distinct_by f whole steady law d i j xs same all;
    reads_to = λ key place. cost_by (λ c. c.reads_to) (λ s says. says.reads_to) place key ls xs same all;
    asked_to = λ key place. cost_by (λ c. c.asked_to) (λ s says. says.asked_to) place key ls xs same all;
  }

  pub chain_by_files : (ls : List (List ℕ)) (placed : Bool) (from here : ℕ) (xs : List K) → SameFiles (chain_state d ls placed from here (map f xs)).files i j → IsChainWhole f whole d ls placed here xs i →
      IsChainWhole f whole d ls placed here xs j × (IsChainSteady f steady d ls placed from here xs i → IsChainSteady f steady d ls placed from here xs j) × SaysSame (chain_state d ls placed from here (map f xs)) i j
  chain_by_files ls placed from here xs same is = (
    record {
      each = whole_by f whole steady law d i j xs same is.each;
      follow = subst (FollowOne d ls) (lists_by f whole steady law d i j xs same is.each) is.follow;
      upto = λ now. upto_by ls xs here same is.each (is.upto now);
    },
    (λ stands. record {
      opened = open_by ls xs from here same is.each stands.opened;
      place = in_place_by (chain_state d ls placed from here (map f xs)) i j (chain_says ls placed from here xs same is.each) stands.place;
    }),
    chain_says ls placed from here xs same is.each,
  )
