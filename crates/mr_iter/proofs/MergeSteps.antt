-- What a seek and a step do to many cursors as one.
use Rattle.std.proofs.Common.{◌≡◌, ℕ, ◌+◌, ◌-◌, ◌<◌, Bool, true, false, List, [], ◌∷◌, length, map, get_or, set, suc, zero, Option, Some, None, is_some, nat_eq, not, refl, sym, ◌∙◌, ap, subst, inl, inr, arith}
use Rattle.std.specs.List.{AllByRecursion, list_all, list_any}
use Rattle.std.specs.Ordering.{is_lt}
use Rattle.std.proofs.lemmas.Cmp.{tied_itself, nat_cmp_total}
use Rattle.std.proofs.lemmas.Bool.{cases_eq, cases_Bool}
use Rattle.std.proofs.lemmas.Bool.Decides.{nat_tests}
use Rattle.mr_base.specs.Disk.{State, Image}
use Rattle.mr_base.specs.Calls.{Counts}
use Rattle.mr_base.specs.declared.stop.Direction.{Direction}
use Rattle.mr_iter.specs.Versions.{Version, version_cmp, key_cmp, joined, merged, from_key, first_at, IsInOrder, others}
use Rattle.mr_iter.specs.Order.{version_total, filter-merged}
use Rattle.mr_iter.specs.Cursors.{CursorState, SameList, CountsStep, left, with_current}
use Rattle.mr_iter.specs.Children.{Zipped, total, KeepsChild, FoundChild}
use Rattle.mr_iter.specs.Merging.{current_at, first_of, lefts, lists, rank_cmp, precedes, IsRanked, IsQueue, IsPut, HasAll, IsMergeQueue, merge_state, IsOneDirection}
use Rattle.mr_iter.specs.MergeLaws.{left-all, rest-next, each_ordered, current_below, some_of}
use Rattle.mr_iter.proofs.ChildLaws.{current_of}
use Rattle.mr_iter.proofs.Ranks.{put_any, put_here}

pub total-map : {K : Type 0} (f : K → CursorState) (g : CursorState → ℕ) (xs : List K) → total g (map f xs) ≡ total (λ c. g (f c)) xs
total-map f g [] = refl
total-map f g (x ∷ xs) = ap (λ n. g (f x) + n) (total-map f g xs)

pub total-set : (g : CursorState → ℕ) (cs : List CursorState) (j : ℕ) (c s : CursorState) → j < length cs → c ≡ get_or cs j c → total g (set cs j s) + g c ≡ total g cs + g s
total-set g [] j c s lt at = absurd (omega arith)
total-set g (b ∷ bs) zero c s lt at = let e : g c ≡ g b = ap g at in omega arith
total-set g (b ∷ bs) (suc j) c s lt at = omega (arith, total-set g bs j c s (omega arith) at)

pub map-set : {K : Type 0} (f : K → CursorState) (xs : List K) (j : ℕ) (y : K) → map f (set xs j y) ≡ set (map f xs) j (f y)
map-set f [] j y = refl
map-set f (x ∷ xs) zero y = refl
map-set f (x ∷ xs) (suc j) y = ap (λ zs. f x ∷ zs) (map-set f xs j y)

pub map-get : {K : Type 0} (f : K → CursorState) (xs : List K) (j : ℕ) (x : K) → x ≡ get_or xs j x → f x ≡ get_or (map f xs) j (f x)
map-get f [] j x at = refl
map-get f (w ∷ ws) zero x at = ap f at
map-get f (w ∷ ws) (suc j) x at = map-get f ws j x at

pub length-map : {K : Type 0} (f : K → CursorState) (xs : List K) → length (map f xs) ≡ length xs
length-map f [] = refl
length-map f (x ∷ xs) = ap suc (length-map f xs)

-- the queue is empty
pub empty_queue : (d : Direction) (cs : List CursorState) (order : List ℕ) → order ≡ [] → IsMergeQueue d cs order
empty_queue d cs order is = subst (IsMergeQueue d cs) (sym is) (record { queue = record { live = tt; ranked = tt }; all = λ lt. absurd (omega arith) })

pub full_queue : {K : Type 0} (f : K → CursorState) (d : Direction) (ys : List K) (order : List ℕ) → IsQueue d (map f ys) order → HasAll (length ys) (map f ys) order → IsMergeQueue d (map f ys) order
full_queue f d ys order queue all = record { queue = queue; all = λ _. subst (λ (n : ℕ). HasAll n (map f ys) order) (sym (length-map f ys)) all }

pub no_first : (cs : List CursorState) (order : List ℕ) → order ≡ [] → first_of cs order ≡ None
no_first cs order is = ap (first_of cs) is

module _ {K : Type 0} (f : K → CursorState) (whole : K → Image → Type 0) (image : Image) (tells : Type 0) (d : Direction) where
  pub kept_files : (xs ys : List K) → Zipped (KeepsChild f whole image tells) xs ys → joined (map (λ (c : CursorState). c.files) (map f ys)) ≡ joined (map (λ (c : CursorState). c.files) (map f xs))
  kept_files [] [] all = refl
  kept_files [] (y ∷ ys) all = absurd all
  kept_files (x ∷ xs) [] all = absurd all
  kept_files (x ∷ xs) (y ∷ ys) all = let e = all.0.list.files in let es = kept_files xs ys all.1 in cc

  pub kept_lists : (xs ys : List K) → Zipped (KeepsChild f whole image tells) xs ys → (i : Image) → lists (map f ys) i ≡ lists (map f xs) i
  kept_lists [] [] all i = refl
  kept_lists [] (y ∷ ys) all i = absurd all
  kept_lists (x ∷ xs) [] all i = absurd all
  kept_lists (x ∷ xs) (y ∷ ys) all i = let e = all.0.list.versions i in let es = kept_lists xs ys all.1 i in cc

  kept_distinct : (xs ys : List K) → Zipped (KeepsChild f whole image tells) xs ys → (i : Image) → list_all (λ (c : CursorState). c.distinct i) (map f ys) ≡ list_all (λ (c : CursorState). c.distinct i) (map f xs)
  kept_distinct [] [] all i = refl
  kept_distinct [] (y ∷ ys) all i = absurd all
  kept_distinct (x ∷ xs) [] all i = absurd all
  kept_distinct (x ∷ xs) (y ∷ ys) all i = let e = all.0.list.distinct i in let es = kept_distinct xs ys all.1 i in cc

  kept_sums : (g : CursorState → Image → List ℕ → Option Version → ℕ) → ((x y : CursorState) → SameList x y → (i : Image) (key : List ℕ) (place : Option Version) → g y i key place ≡ g x i key place) →
      (xs ys : List K) → Zipped (KeepsChild f whole image tells) xs ys → (i : Image) (key : List ℕ) (place : Option Version) →
      total (λ (c : CursorState). g c i key (first_at d place (c.versions i))) (map f ys) ≡ total (λ (c : CursorState). g c i key (first_at d place (c.versions i))) (map f xs)
  kept_sums g keeps [] [] all i key place = refl
  kept_sums g keeps [] (y ∷ ys) all i key place = absurd all
  kept_sums g keeps (x ∷ xs) [] all i key place = absurd all
  kept_sums g keeps (x ∷ xs) (y ∷ ys) all i key place =
      let here : g (f y) i key (first_at d place ((f y).versions i)) ≡ g (f x) i key (first_at d place ((f x).versions i)) =
      ap (λ (vs : List Version). g (f y) i key (first_at d place vs)) (all.0.list.versions i) ∙ keeps (f x) (f y) all.0.list i key (first_at d place ((f x).versions i)) in
      let later = kept_sums g keeps xs ys all.1 i key place in
      omega (arith, here, later)

  kept_most : (xs ys : List K) → Zipped (KeepsChild f whole image tells) xs ys → total (λ (c : CursorState). c.most) (map f ys) ≡ total (λ (c : CursorState). c.most) (map f xs)
  kept_most [] [] all = refl
  kept_most [] (y ∷ ys) all = absurd all
  kept_most (x ∷ xs) [] all = absurd all
  kept_most (x ∷ xs) (y ∷ ys) all = let here = all.0.list.most in let later = kept_most xs ys all.1 in omega (arith, here, later)

  pub kept_list : (xs ys : List K) (order order' : List ℕ) → Zipped (KeepsChild f whole image tells) xs ys → SameList (merge_state d order (map f xs)) (merge_state d order' (map f ys))
  kept_list xs ys order order' all = record {
    direction = refl;
    files = kept_files xs ys all;
    most = kept_most xs ys all;
    anew = refl;
    versions = λ i. ap (merged (version_cmp d)) (kept_lists xs ys all i);
    distinct = λ i. let e = kept_distinct xs ys all i in let es = kept_lists xs ys all i in cc;
    reads_to = λ i key place. kept_sums (λ c. c.reads_to) (λ x y kept. kept.reads_to) xs ys all i key place;
    asked_to = λ i key place. kept_sums (λ c. c.asked_to) (λ x y kept. kept.asked_to) xs ys all i key place;
  }

  pub kept_whole : (xs ys : List K) → Zipped (KeepsChild f whole image tells) xs ys → tells → AllByRecursion (λ c. whole c image) xs → AllByRecursion (λ c. whole c image) ys
  kept_whole [] [] all told is = tt
  kept_whole [] (y ∷ ys) all told is = absurd all
  kept_whole (x ∷ xs) [] all told is = absurd all
  kept_whole (x ∷ xs) (y ∷ ys) all told is = (all.0.stays_whole told is.0, kept_whole xs ys all.1 told is.1)

  pub kept_direction : (xs ys : List K) → Zipped (KeepsChild f whole image tells) xs ys → IsOneDirection d (map f xs) → IsOneDirection d (map f ys)
  kept_direction [] [] all one = tt
  kept_direction [] (y ∷ ys) all one = absurd all
  kept_direction (x ∷ xs) [] all one = absurd all
  kept_direction (x ∷ xs) (y ∷ ys) all one = (all.0.list.direction ∙ one.0, kept_direction xs ys all.1 one.1)

  pub found_lefts : (steady : K → Image → Type 0) (key : List ℕ) (xs ys : List K) → Zipped (FoundChild f whole steady image tells key) xs ys → IsOneDirection d (map f xs) → tells → AllByRecursion (λ c. whole c image) xs →
      lefts (map f ys) image ≡ map (from_key d key) (lists (map f xs) image)
  found_lefts steady key [] [] all one told is = refl
  found_lefts steady key [] (y ∷ ys) all one told is = absurd all
  found_lefts steady key (x ∷ xs) [] all one told is = absurd all
  found_lefts steady key (x ∷ xs) (y ∷ ys) all one told is =
      let e : left (f y) image ≡ from_key d key ((f x).versions image) = all.0.found told is.0 ∙ ap (λ (e : Direction). from_key e key ((f x).versions image)) one.0 in
      let es = found_lefts steady key xs ys all.1 one.1 told is.1 in cc

  -- what is left of all after a seek
  pub seek_left : ((c : K) (image : Image) → whole c image → IsInOrder (version_cmp (f c).direction) (left (f c) image) × IsInOrder (version_cmp (f c).direction) ((f c).versions image)) →
      (xs ys : List K) (order : List ℕ) → Zipped (KeepsChild f whole image tells) xs ys → IsOneDirection d (map f xs) → IsQueue d (map f ys) order → HasAll (length ys) (map f ys) order → tells → AllByRecursion (λ c. whole c image) xs →
      left (merge_state d order (map f ys)) image ≡ merged (version_cmp d) (lefts (map f ys) image)
  seek_left law xs ys order kept one queue all told is =
      left-all d (map f ys) image order queue (subst (λ (n : ℕ). HasAll n (map f ys) order) (sym (length-map f ys)) all)
      (each_ordered f whole law d ys image (kept_direction xs ys kept one) (kept_whole xs ys kept told is))

  -- the merge stands where the key is found in its list
  pub found_merge : ((c : K) (image : Image) → whole c image → IsInOrder (version_cmp (f c).direction) (left (f c) image) × IsInOrder (version_cmp (f c).direction) ((f c).versions image)) →
      (steady : K → Image → Type 0) (key : List ℕ) (xs ys : List K) (order : List ℕ) → Zipped (KeepsChild f whole image tells) xs ys → Zipped (FoundChild f whole steady image tells key) xs ys → IsOneDirection d (map f xs) → IsQueue d (map f ys) order → HasAll (length ys) (map f ys) order → tells → AllByRecursion (λ c. whole c image) xs →
      left (merge_state d order (map f ys)) image ≡ from_key d key (merged (version_cmp d) (lists (map f xs) image))
  found_merge law steady key xs ys order kept found one queue all told is =
      left-all d (map f ys) image order queue (subst (λ (n : ℕ). HasAll n (map f ys) order) (sym (length-map f ys)) all)
      (each_ordered f whole law d ys image (kept_direction xs ys kept one) (kept_whole xs ys kept told is))
      ∙ ap (merged (version_cmp d)) (found_lefts steady key xs ys found one told is)
      ∙ sym (filter-merged (version_cmp d) (version_total d) (λ v. not (is_lt (key_cmp d v.key key))) (lists (map f xs) image))

-- Child j of a queue moves on: cs are the states before, and s is the one of that child afterwards.
module _ (d : Direction) (cs : List CursorState) (j : ℕ) (s : CursorState) where
  pub current_other : (i : ℕ) → nat_eq j i ≡ false → current_at (set cs j s) i ≡ current_at cs i
  current_other i other = go cs j i other
    where
      go : (cs : List CursorState) (j i : ℕ) → nat_eq j i ≡ false → current_at (set cs j s) i ≡ current_at cs i
      go [] j i other = refl
      go (c ∷ cs) zero zero other = cc
      go (c ∷ cs) zero (suc i) other = refl
      go (c ∷ cs) (suc j) zero other = refl
      go (c ∷ cs) (suc j) (suc i) other = go cs j i (grind (arith, nat_tests))

  not_itself : (o : Option Version) → rank_cmp d o o j j ≡ false
  not_itself None = refl
  not_itself (Some v) = rw (tied_itself (version_total d) v, tied_itself nat_cmp_total j)

  pub not_first : (ks : List ℕ) → AllByRecursion (λ k. precedes d cs j k ≡ true) ks → AllByRecursion (λ k. nat_eq j k ≡ false) ks
  not_first [] all = tt
  not_first (k ∷ ks) all = (
    elim (cases_eq j k) [
      | inl same ↦ absurd (clash (not_itself (current_at cs j)) (subst (λ (m : ℕ). precedes d cs j m ≡ true) (sym same) all.0))
      | inr other ↦ grind (arith, nat_tests)
    ],
    not_first ks all.1,
  )
    where
      clash : {b : Bool} → b ≡ false → b ≡ true → ⊥
      clash low high = cc

  live_other : (ks : List ℕ) → AllByRecursion (λ k. nat_eq j k ≡ false) ks → AllByRecursion (λ k. is_some (current_at cs k) ≡ true) ks → AllByRecursion (λ k. is_some (current_at (set cs j s) k) ≡ true) ks
  live_other [] other all = tt
  live_other (k ∷ ks) other all = (ap is_some (current_other k other.0) ∙ all.0, live_other ks other.1 all.1)

  ranked_one : (k : ℕ) (ks : List ℕ) → nat_eq j k ≡ false → AllByRecursion (λ m. nat_eq j m ≡ false) ks → AllByRecursion (λ m. precedes d cs k m ≡ true) ks → AllByRecursion (λ m. precedes d (set cs j s) k m ≡ true) ks
  ranked_one k [] ok other all = tt
  ranked_one k (m ∷ ms) ok other all = (rw (current_other k ok, current_other m other.0) all.0, ranked_one k ms ok other.1 all.1)

  ranked_other : (ks : List ℕ) → AllByRecursion (λ k. nat_eq j k ≡ false) ks → IsRanked d cs ks → IsRanked d (set cs j s) ks
  ranked_other [] other all = tt
  ranked_other (k ∷ ks) other all = (ranked_one k ks other.0 other.1 all.0, ranked_other ks other.1 all.1)

  pub queue_behind : (js : List ℕ) → IsQueue d cs (j ∷ js) → IsQueue d (set cs j s) js
  queue_behind js queue = let other = not_first js queue.ranked.0 in record { live = live_other js other queue.live.1; ranked = ranked_other js other queue.ranked.1 }

  -- all that aren't at their ends are in the queue again
  pub all_again : (js new : List ℕ) → IsMergeQueue d cs (j ∷ js) → IsPut (set cs j s) j js new → HasAll (length (set cs j s)) (set cs j s) new
  all_again js new queue put i lt live = elim (cases_Bool (nat_eq j i)) [
    | inl same ↦ let e : j ≡ i = grind (arith, nat_tests) in
        subst (λ (m : ℕ). list_any (nat_eq m) new ≡ true) e (put_here (set cs j s) j js new put (subst (λ (m : ℕ). is_some (current_at (set cs j s) m) ≡ true) (sym e) live))
    | inr other ↦ put_any (set cs j s) j js new i put (behind (ap is_some (sym (current_other i other)) ∙ live) other)
  ]
    where
      behind : is_some (current_at cs i) ≡ true → nat_eq j i ≡ false → list_any (nat_eq i) js ≡ true
      behind here other =
          let inside : list_any (nat_eq i) (j ∷ js) ≡ true = queue.all (omega arith) i (current_below cs i here) here in
          grind (arith, nat_tests)

-- The same over the cursors themselves: x is the child before, and y afterwards.
module _ {K : Type 0} (f : K → CursorState) (d : Direction) (xs : List K) (order js : List ℕ) (j : ℕ) (x y : K) (is : order ≡ j ∷ js) (lt : j < length xs) (at : x ≡ get_or xs j x) where
  pub next_queue : IsMergeQueue d (map f xs) order → IsQueue d (map f (set xs j y)) js
  next_queue queue = subst (λ (cs : List CursorState). IsQueue d cs js) (sym (map-set f xs j y)) (queue_behind d (map f xs) j (f y) js (subst (IsQueue d (map f xs)) is queue.queue))

  pub next_others : IsMergeQueue d (map f xs) order → AllByRecursion (λ k. nat_eq j k ≡ false) js
  next_others queue = let split : IsQueue d (map f xs) (j ∷ js) = subst (IsQueue d (map f xs)) is queue.queue in not_first d (map f xs) j (f y) js split.ranked.0

  next_all : (new : List ℕ) → IsMergeQueue d (map f xs) order → IsPut (map f (set xs j y)) j js new → HasAll (length (map f (set xs j y))) (map f (set xs j y)) new
  next_all new queue put = subst (λ (cs : List CursorState). HasAll (length cs) cs new) (sym (map-set f xs j y))
      (all_again d (map f xs) j (f y) js new (subst (IsMergeQueue d (map f xs)) is queue) (subst (λ (cs : List CursorState). IsPut cs j js new) (map-set f xs j y) put))

  pub next_full : (new : List ℕ) → IsMergeQueue d (map f xs) order → IsPut (map f (set xs j y)) j js new → IsQueue d (map f (set xs j y)) new → IsMergeQueue d (map f (set xs j y)) new
  next_full new queue put now = record { queue = now; all = λ _. next_all new queue put }

  next_total : (g : CursorState → ℕ) → total g (map f (set xs j y)) + g (f x) ≡ total g (map f xs) + g (f y)
  next_total g = ap (λ (cs : List CursorState). total g cs + g (f x)) (map-set f xs j y) ∙ total-set g (map f xs) j (f x) (f y) (omega (arith, length-map f xs, lt)) (map-get f xs j x at)

  pub next_counts : (new : List ℕ) (before after : State) → CountsStep (f x) (f y) before after → CountsStep (merge_state d order (map f xs)) (merge_state d new (map f (set xs j y))) before after
  next_counts new before after step =
      let r = next_total (λ (c : CursorState). c.reads) in
      let a = next_total (λ (c : CursorState). c.asked) in
      let er : (f y).reads - (f x).reads ≡ total (λ (c : CursorState). c.reads) (map f (set xs j y)) - total (λ (c : CursorState). c.reads) (map f xs) = omega (arith, r, step.reads) in
      let ea : (f y).asked - (f x).asked ≡ total (λ (c : CursorState). c.asked) (map f (set xs j y)) - total (λ (c : CursorState). c.asked) (map f xs) = omega (arith, a, step.asked) in
      record {
        reads = omega (arith, r, step.reads);
        asked = omega (arith, a, step.asked);
        disk = subst (λ (n : ℕ). Counts n (total (λ (c : CursorState). c.asked) (map f (set xs j y)) - total (λ (c : CursorState). c.asked) (map f xs)) 0 before after) er
            (subst (λ (n : ℕ). Counts ((f y).reads - (f x).reads) n 0 before after) ea step.disk);
      }

  pub next_steps : (f y).steps < (f x).steps → total (λ (c : CursorState). c.steps) (map f (set xs j y)) < total (λ (c : CursorState). c.steps) (map f xs)
  next_steps less = let t = next_total (λ (c : CursorState). c.steps) in omega (arith, t, less)

  pub next_left : (whole : K → Image → Type 0) (image : Image) (tells : Type 0) →
      ((c : K) (image : Image) → whole c image → IsInOrder (version_cmp (f c).direction) (left (f c) image) × IsInOrder (version_cmp (f c).direction) ((f c).versions image)) →
      (new : List ℕ) → IsOneDirection d (map f xs) → IsMergeQueue d (map f xs) order → IsPut (map f (set xs j y)) j js new → IsQueue d (map f (set xs j y)) new → Zipped (KeepsChild f whole image tells) xs (set xs j y) →
      tells → AllByRecursion (λ c. whole c image) xs → left (merge_state d new (map f (set xs j y))) image ≡ merged (version_cmp d) (lefts (map f (set xs j y)) image)
  next_left whole image tells law new one queue put now kept told all =
      left-all d (map f (set xs j y)) image new now (next_all new queue put) (each_ordered f whole law d (set xs j y) image (kept_direction f whole image tells d xs (set xs j y) kept one) (kept_whole f whole image tells d xs (set xs j y) kept told all))

  -- the version of the first child is that of all
  pub first_version : is_some (first_of (map f xs) order) ≡ true → (v : Version) × (first_of (map f xs) order ≡ Some v) × ((f x).current ≡ Some v)
  first_version some =
      let v = some_of (first_of (map f xs) order) some in
      (v.0, v.1, sym (ap (first_of (map f xs)) is ∙ current_of f xs j x lt at) ∙ v.1)

  pub next_moved : (whole : K → Image → Type 0) (image : Image) (tells : Type 0) →
      ((c : K) (image : Image) → whole c image → IsInOrder (version_cmp (f c).direction) (left (f c) image) × IsInOrder (version_cmp (f c).direction) ((f c).versions image)) →
      (new : List ℕ) → IsOneDirection d (map f xs) → IsMergeQueue d (map f xs) order → IsPut (map f (set xs j y)) j js new → IsQueue d (map f (set xs j y)) new → Zipped (KeepsChild f whole image tells) xs (set xs j y) →
      tells → AllByRecursion (λ c. whole c image) xs → left (f y) image ≡ (f x).rest image →
      left (merge_state d new (map f (set xs j y))) image ≡ others (merged (version_cmp d) (lefts (map f xs) image))
  next_moved whole image tells law new one queue put now kept told all moved =
      let split : IsMergeQueue d (map f xs) (j ∷ js) = subst (IsMergeQueue d (map f xs)) is queue in
      let some = some_of (current_at (map f xs) j) split.queue.live.0 in
      let same : current_at (map f xs) j ≡ (f x).current = current_of f xs j x lt at in
      left-all d (map f (set xs j y)) image new now (next_all new queue put) (each_ordered f whole law d (set xs j y) image (kept_direction f whole image tells d xs (set xs j y) kept one) (kept_whole f whole image tells d xs (set xs j y) kept told all))
      ∙ ap (λ (cs : List CursorState). merged (version_cmp d) (lefts cs image)) (map-set f xs j y)
      ∙ sym (rest-next d (map f xs) image j js (f y) some.0 some.1 (left_is image (f x) some.0 (sym same ∙ some.1) moved (lefts_get (map f xs) j (f x) (map-get f xs j x at) (omega (arith, length-map f xs, lt)))) split (each_ordered f whole law d xs image one all))
    where
      lefts_get : (cs : List CursorState) (j : ℕ) (c : CursorState) → c ≡ get_or cs j c → j < length cs → get_or (lefts cs image) j [] ≡ left c image
      lefts_get [] j c at lt = absurd (omega arith)
      lefts_get (b ∷ bs) zero c at lt = ap (λ (e : CursorState). left e image) (sym at)
      lefts_get (b ∷ bs) (suc j) c at lt = lefts_get bs j c at (omega arith)

      left_is : (image : Image) (c : CursorState) (v : Version) → c.current ≡ Some v → left (f y) image ≡ c.rest image → {zs : List Version} → zs ≡ left c image → zs ≡ v ∷ left (f y) image
      left_is image c v here moved {zs} e = e ∙ ap (λ (o : Option Version). with_current o (c.rest image)) here ∙ ap (λ (vs : List Version). v ∷ vs) (sym moved)
