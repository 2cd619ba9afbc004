-- Laws of many cursors as one.
use Rattle.std.specs.Prelude.{◌≡◌, ℕ, ◌+◌, ◌<◌, ◌≤◌, Bool, true, false, List, [], ◌∷◌, ◌++◌, length, map, Option, Some, None, is_some, nat_eq, refl, ◌≢◌}
use Rattle.std.proofs.Common.{sym, ◌∙◌, ap, subst, inl, inr, arith, set, get_or, suc, zero}
use Rattle.std.specs.List.{AllByRecursion, AllByRecursion-prop, list_any}
use Rattle.std.specs.declared.cmp.Ordering.{Ordering}
use Rattle.std.specs.declared.cmp.Ordering.TheVariants.{Less, Equal, Greater}
use Rattle.std.specs.Ordering.{nat_cmp, is_lt, is_gt, ordering_then, ordering_reverse}
use mathlib.Core.Bool.{Bool-set}
use Rattle.std.proofs.lemmas.Bool.{cases_eq}
use Rattle.std.proofs.lemmas.Bool.Decides.{nat_tests}
use Rattle.std.specs.Coded.{×_prop, Unit-prop, Coded, Coded-set, code_by, coded_bool}
use Rattle.mr_base.specs.declared.stop.Direction.{Direction}
use Rattle.mr_base.specs.declared.stop.Direction.TheVariants.{Forward, Reverse}
use Rattle.mr_iter.specs.Versions.{Version, version_cmp, joined, merged, in_order, IsInOrder, IsLeast, others}
use Rattle.mr_iter.specs.Order.{version_total, merged-next, IsInOrder-in_order}
use Rattle.mr_iter.specs.Children.{total}
use Rattle.mr_iter.specs.Cursors.{CursorState, left, with_current}
use Rattle.mr_base.specs.Disk.{Image}
use Rattle.mr_iter.specs.Merging.{current_at, lefts, lists, rank_cmp, precedes, IsRanked, IsQueue, HasAll, IsMergeQueue, merge_state, IsOneDirection}

pub IsRanked-prop : (d : Direction) (cs : List CursorState) (order : List ℕ) → IsProp (IsRanked d cs order)
IsRanked-prop d cs [] = Unit-prop
IsRanked-prop d cs (j ∷ js) = ×_prop (AllByRecursion-prop _ (λ k. Bool-set _ _) js) (IsRanked-prop d cs js)

pub IsMergeQueue-prop : (d : Direction) (cs : List CursorState) (order : List ℕ) → IsProp (IsMergeQueue d cs order)
IsMergeQueue-prop d cs order = hlevel (IsRanked-prop d cs order, AllByRecursion-prop (λ j. is_some (current_at cs j) ≡ true) (λ k. Bool-set _ _) order, Bool-set)

is_reverse : Direction → Bool
is_reverse Forward = false
is_reverse Reverse = true

by_reverse : Bool → Direction
by_reverse false = Forward
by_reverse true = Reverse

by_reverse-is_reverse : (d : Direction) → by_reverse (is_reverse d) ≡ d
unfolding is_reverse by_reverse
by_reverse-is_reverse Forward = refl
by_reverse-is_reverse Reverse = refl

direction_code : Coded Direction
direction_code = code_by Bool coded_bool is_reverse by_reverse by_reverse-is_reverse

pub IsOneDirection-prop : (d : Direction) (cs : List CursorState) → IsProp (IsOneDirection d cs)
IsOneDirection-prop d cs = AllByRecursion-prop _ (λ c. Coded-set direction_code _ _) cs

pub none_left : (cs : List CursorState) (image : Image) → ((i : ℕ) → i < length cs → is_some (current_at cs i) ≡ true → ⊥) → joined (lefts cs image) ≡ []
none_left [] image none = refl
none_left (c ∷ cs) image none = ap (λ vs. vs ++ joined (lefts cs image)) (at_end c.current (none 0 (omega arith))) ∙ none_left cs image (λ i lt. none (suc i) (omega (arith, lt)))
  where
    at_end : (o : Option Version) → (is_some o ≡ true → ⊥) → with_current o (c.rest image) ≡ []
    at_end None not = refl
    at_end (Some v) not = absurd (not refl)

-- a fact of each member
pub each_at : (P : ℕ → Type 0) (i : ℕ) (js : List ℕ) → AllByRecursion P js → list_any (nat_eq i) js ≡ true → P i
each_at P i [] all is = cc
each_at P i (k ∷ ks) all is = elim (cases_eq i k) [
  | inl same ↦ subst P (sym same) all.0
  | inr other ↦ each_at P i ks all.1 (grind (arith, nat_tests))
]

pub current_below : (cs : List CursorState) (i : ℕ) → is_some (current_at cs i) ≡ true → i < length cs
current_below [] i is = cc
current_below (c ∷ cs) zero is = omega arith
current_below (c ∷ cs) (suc i) is = omega (arith, current_below cs i is)

-- what a rank says
pub from_rank : (a b : Ordering) (i j : ℕ) → b ≡ ordering_reverse a → is_lt (ordering_then a (nat_cmp j i)) ≡ true → (i < j → is_gt b ≡ true) × (j < i → is_gt a ≡ false)
from_rank Less b i j e is = ((λ _. rw e), (λ _. refl))
from_rank Equal b i j e is = ((λ lt. absurd (grind (arith, nat_tests))), (λ _. refl))
from_rank Greater b i j e is = cc

module _ (d : Direction) (image : Image) (v : Version) (j : ℕ) where
  abbrev IsAfter : Option Version → ℕ → Type 0
  IsAfter o i = is_some o ≡ true → i ≢ j → rank_cmp d (Some v) o j i ≡ true

  all_after : (k : ℕ) (cs : List CursorState) → ((i : ℕ) → IsAfter (current_at cs i) (k + i)) → IsLeast (version_cmp d) v j k (lefts cs image)
  all_after k [] after = tt
  all_after k (c ∷ cs) after = by_head c.current (after 0) (all_after (k + 1) cs (λ i. subst (λ (n : ℕ). IsAfter (current_at cs i) n) (omega arith) (after (suc i))))
    where
      by_head : (o : Option Version) → IsAfter o (k + 0) → IsLeast (version_cmp d) v j (k + 1) (lefts cs image) → IsLeast (version_cmp d) v j k (with_current o (c.rest image) ∷ lefts cs image)
      by_head None here later = later
      by_head (Some w) here later = (
        (λ lt. (from_rank (version_cmp d v w) (version_cmp d w v) (k + 0) j ((version_total d).antisymm w v) (here refl (omega arith))).0 (omega arith)),
        (λ lt. (from_rank (version_cmp d v w) (version_cmp d w v) (k + 0) j ((version_total d).antisymm w v) (here refl (omega arith))).1 (omega arith)),
        later,
      )

-- the first of a queue comes first of all
pub first_is_least : (d : Direction) (cs : List CursorState) (image : Image) (j : ℕ) (js : List ℕ) (v : Version) → current_at cs j ≡ Some v → IsMergeQueue d cs (j ∷ js) → IsLeast (version_cmp d) v j 0 (lefts cs image)
first_is_least d cs image j js v at queue = all_after d image v j 0 cs (λ i. subst (λ (n : ℕ). IsAfter d image v j (current_at cs i) n) (omega arith) (after i))
  where
    after : (i : ℕ) → IsAfter d image v j (current_at cs i) i
    after i is other =
        let inside : list_any (nat_eq i) (j ∷ js) ≡ true = queue.all (omega arith) i (current_below cs i is) is in
        let behind : list_any (nat_eq i) js ≡ true = grind (arith, nat_tests) in
        subst (λ (o : Option Version). rank_cmp d o (current_at cs i) j i ≡ true) at (each_at (λ k. precedes d cs j k ≡ true) i js queue.queue.ranked.0 behind)

pub left_at : (cs : List CursorState) (image : Image) (j : ℕ) (v : Version) → current_at cs j ≡ Some v → (t : List Version) × (get_or (lefts cs image) j [] ≡ v ∷ t)
left_at [] image j v at = cc
left_at (c ∷ cs) image zero v at = (c.rest image, ap (λ (o : Option Version). with_current o (c.rest image)) at)
left_at (c ∷ cs) image (suc j) v at = left_at cs image j v at

pub each_left : (d : Direction) (cs : List CursorState) (image : Image) → AllByRecursion (λ (c : CursorState). IsInOrder (version_cmp d) (left c image)) cs → AllByRecursion (IsInOrder (version_cmp d)) (lefts cs image)
each_left d [] image all = tt
each_left d (c ∷ cs) image all = (all.0, each_left d cs image all.1)

pub length_lefts : (cs : List CursorState) (image : Image) → length (lefts cs image) ≡ length cs
length_lefts [] image = refl
length_lefts (c ∷ cs) image = ap suc (length_lefts cs image)

-- the merged list begins with the version of the first in the queue, and goes on with that child one further
pub merge_begins : (d : Direction) (cs : List CursorState) (image : Image) (j : ℕ) (js : List ℕ) (v : Version) (t : List Version) → current_at cs j ≡ Some v → get_or (lefts cs image) j [] ≡ v ∷ t → IsMergeQueue d cs (j ∷ js) → AllByRecursion (λ (c : CursorState). IsInOrder (version_cmp d) (left c image)) cs → merged (version_cmp d) (lefts cs image) ≡ v ∷ merged (version_cmp d) (set (lefts cs image) j t)
merge_begins d cs image j js v t at is queue ordered =
    merged-next (version_cmp d) (version_total d) 0 (lefts cs image) j v t (omega (arith, length_lefts cs image, current_below cs j (ap is_some at))) is (each_left d cs image ordered)
    (subst (λ (n : ℕ). IsLeast (version_cmp d) v n 0 (lefts cs image)) (omega arith) (first_is_least d cs image j js v at queue))

pub some_of : (o : Option Version) → is_some o ≡ true → (v : Version) × (o ≡ Some v)
some_of None is = cc
some_of (Some v) is = (v, refl)

-- what is left of all is what the queue says
pub left-merge : (d : Direction) (cs : List CursorState) (image : Image) (j : ℕ) (js : List ℕ) → IsMergeQueue d cs (j ∷ js) → AllByRecursion (λ (c : CursorState). IsInOrder (version_cmp d) (left c image)) cs → left (merge_state d (j ∷ js) cs) image ≡ merged (version_cmp d) (lefts cs image)
left-merge d cs image j js queue ordered =
    let some = some_of (current_at cs j) queue.queue.live.0 in
    let at = left_at cs image j some.0 some.1 in
    let e = merge_begins d cs image j js some.0 at.0 some.1 at.1 queue ordered in
    ap (λ (o : Option Version). with_current o (others (merged (version_cmp d) (lefts cs image)))) some.1 ∙ ap (λ (vs : List Version). some.0 ∷ others vs) e ∙ sym e

-- what is left of all, where the queue has all that aren't at their ends
pub left-all : (d : Direction) (cs : List CursorState) (image : Image) (order : List ℕ) → IsQueue d cs order → HasAll (length cs) cs order → AllByRecursion (λ (c : CursorState). IsInOrder (version_cmp d) (left c image)) cs → left (merge_state d order cs) image ≡ merged (version_cmp d) (lefts cs image)
left-all d cs image [] queue all ordered = sym (ap (in_order (version_cmp d)) (none_left cs image (λ i lt live. let in_none : false ≡ true = all i lt live in cc)))
left-all d cs image (j ∷ js) queue all ordered = left-merge d cs image j js (record { queue = queue; all = λ _. all }) ordered

-- what is behind the first, where that child goes on to another state
pub rest-next : (d : Direction) (cs : List CursorState) (image : Image) (j : ℕ) (js : List ℕ) (s : CursorState) (v : Version) → current_at cs j ≡ Some v → get_or (lefts cs image) j [] ≡ v ∷ left s image → IsMergeQueue d cs (j ∷ js) → AllByRecursion (λ (c : CursorState). IsInOrder (version_cmp d) (left c image)) cs → others (merged (version_cmp d) (lefts cs image)) ≡ merged (version_cmp d) (lefts (set cs j s) image)
rest-next d cs image j js s v at is queue ordered =
    ap others (merge_begins d cs image j js v (left s image) at is queue ordered) ∙ ap (merged (version_cmp d)) (lefts-set cs j)
  where
    lefts-set : (cs : List CursorState) (j : ℕ) → set (lefts cs image) j (left s image) ≡ lefts (set cs j s) image
    lefts-set [] j = refl
    lefts-set (c ∷ cs) zero = refl
    lefts-set (c ∷ cs) (suc j) = ap (λ vss. left c image ∷ vss) (lefts-set cs j)

module _ {K : Type 0} (f : K → CursorState) (whole : K → Image → Type 0) where
  pub each_ordered : ((c : K) (image : Image) → whole c image → IsInOrder (version_cmp (f c).direction) (left (f c) image) × IsInOrder (version_cmp (f c).direction) ((f c).versions image)) →
      (d : Direction) (xs : List K) (image : Image) → IsOneDirection d (map f xs) → AllByRecursion (λ c. whole c image) xs → AllByRecursion (λ (c : CursorState). IsInOrder (version_cmp d) (left c image)) (map f xs)
  each_ordered law d [] image one all = tt
  each_ordered law d (x ∷ xs) image one all = (subst (λ (e : Direction). IsInOrder (version_cmp e) (left (f x) image)) one.0 (law x image all.0).0, each_ordered law d xs image one.1 all.1)

  pub merge_in_order : ((c : K) (image : Image) → whole c image → IsInOrder (version_cmp (f c).direction) (left (f c) image) × IsInOrder (version_cmp (f c).direction) ((f c).versions image)) →
      (d : Direction) (xs : List K) (order : List ℕ) (image : Image) → IsOneDirection d (map f xs) → IsMergeQueue d (map f xs) order → AllByRecursion (λ c. whole c image) xs →
      IsInOrder (version_cmp d) (left (merge_state d order (map f xs)) image) × IsInOrder (version_cmp d) (merged (version_cmp d) (lists (map f xs) image))
  merge_in_order law d xs [] image one queue all = (tt, IsInOrder-in_order (version_cmp d) (version_total d) (joined (lists (map f xs) image)))
  merge_in_order law d xs (j ∷ js) image one queue all = (
    subst (IsInOrder (version_cmp d)) (sym (left-merge d (map f xs) image j js queue (each_ordered law d xs image one all))) (IsInOrder-in_order (version_cmp d) (version_total d) (joined (lefts (map f xs) image))),
    IsInOrder-in_order (version_cmp d) (version_total d) (joined (lists (map f xs) image)),
  )

-- steps are left where it stands on a version
pub merge_going : {K : Type 0} (f : K → CursorState) → ((c : K) → is_some (f c).current ≡ true → 0 < (f c).steps) → (d : Direction) (xs : List K) (order : List ℕ) → is_some (merge_state d order (map f xs)).current ≡ true → 0 < (merge_state d order (map f xs)).steps
merge_going {K} f law d xs [] is = cc
merge_going {K} f law d xs (j ∷ js) is = go xs j is
  where
    go : (xs : List K) (j : ℕ) → is_some (current_at (map f xs) j) ≡ true → 0 < total (λ (c : CursorState). c.steps) (map f xs)
    go [] j is = cc
    go (x ∷ xs) zero is = omega (arith, law x is)
    go (x ∷ xs) (suc j) is = omega (arith, go xs j is)

-- no more steps are left than ever can be
pub merge_bounded : {K : Type 0} (f : K → CursorState) → ((c : K) → (f c).steps ≤ (f c).most) → (d : Direction) (xs : List K) (order : List ℕ) → (merge_state d order (map f xs)).steps ≤ (merge_state d order (map f xs)).most
merge_bounded {K} f law d xs order = go xs
  where
    go : (xs : List K) → total (λ (c : CursorState). c.steps) (map f xs) ≤ total (λ (c : CursorState). c.most) (map f xs)
    go [] = omega arith
    go (x ∷ xs) = omega (arith, law x, go xs)
