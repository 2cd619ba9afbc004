-- A step of a chain: child j goes from x to y, and where it comes to its end the next one is opened, from w to z.
use Rattle.std.proofs.Common.{◌≡◌, ℕ, ◌+◌, ◌-◌, ◌<◌, ◌≤◌, ◌⊎◌, Bool, true, false, cond, ◌&&◌, List, [], ◌∷◌, length, map, get_or, set, suc, zero, Option, Some, None, is_some, is_none, IsTrue, nat_eq, refl, sym, ◌∙◌, ap, subst, inl, inr, arith}
use Rattle.std.specs.List.{AllByRecursion, list_all}
use Rattle.std.proofs.lemmas.Bool.Decides.{nat_tests}
use Rattle.mr_base.specs.Disk.{State, Image, Tells, seen}
use Rattle.mr_base.specs.Calls.{Counts, Same}
use Rattle.mr_base.specs.declared.stop.Direction.{Direction}
use Rattle.mr_iter.specs.Versions.{Version, joined, from_key}
use Rattle.mr_iter.specs.Places.{and_split}
use Rattle.mr_iter.specs.SnapshotLaws.{moved_place}
use Rattle.mr_iter.specs.Walks.{image_same, list_then, counts_step_then}
use Rattle.mr_iter.specs.Cursors.{CursorState, SameList, CountsStep, IsWithinBound, IsWithinEnd, GrowsToEnd, left, with_current}
use Rattle.mr_iter.specs.Children.{KeepsChild}
use Rattle.mr_iter.specs.Merging.{current_at}
use Rattle.mr_chain.specs.Chains.{child_of, rest_at, steps_at, from_to, sought_at, chain_cost, chain_state, IsChain, IsChainWhole, AreOpen, IsChainSteady}
use Rattle.mr_chain.proofs.Kept.{kept_distinct}
use Rattle.mr_chain.proofs.Chaining.{behind, left_opened, moved_stays, moved_over, rest_over, sum_now, sum_more, steps_now, steps_more, sought_now, sought_more, upto_now, upto_opened, opened, open_now, open_more, ends_cost, ends_now, ends_more}
use Rattle.mr_chain.proofs.Moves.{each_of, direction_at, one_says}
use Rattle.mr_chain.proofs.Reading.{current_of}
use Rattle.mr_chain.proofs.Seeks.{all_kept, one_list, one_chain, same_lists, whole_out, same_length, length_after}

both : (a b : Bool) → a ≡ true → b ≡ true → (a && b) ≡ true
both a b p q = rw p q

is_child : (a b : ℕ) → nat_eq a b ≡ true → a ≡ b
is_child a b e = grind (arith, nat_tests)

pub placed_true : (p : Bool) (o : Option Version) → is_some (cond p o None) ≡ true → p ≡ true
placed_true true o is = refl
placed_true false o is = cc

pub child_keeps : {K : Type 0} (f : K → CursorState) (whole : K → Image → Type 0) (start mid : State) → mid.tells ≡ start.tells → (Tells start → Same start mid) → (x y : K) → SameList (f x) (f y) → (Tells mid → whole x (seen mid) → whole y (seen mid)) → KeepsChild f whole (seen start) (Tells start) x y
child_keeps f whole start mid tells same x y list stays = record {
  list = list;
  stays_whole = λ told is. subst (whole y) (image_same start mid (same told)) (stays (subst (λ b. IsTrue b) (sym tells) told) (subst (whole x) (sym (image_same start mid (same told))) is));
}

-- what holds at the start holds in between
pub told_mid : (start mid : State) → mid.tells ≡ start.tells → Tells start → Tells mid
told_mid start mid tells told = subst (λ b. IsTrue b) (sym tells) told

pub last_at : (ls : List (List ℕ)) (j : ℕ) (l : List ℕ) → j < length ls → l ≡ get_or ls j l → l ≡ get_or ls j []
last_at [] j l lt at = absurd (omega (arith, lt))
last_at (k ∷ ks) zero l lt at = at
last_at (k ∷ ks) (suc j) l lt at = last_at ks j l (omega (arith, lt)) at

-- what a later call said, as since the start
module _ {K : Type 0} (f : K → CursorState) (whole : K → Image → Type 0) (start mid : State) (tells : mid.tells ≡ start.tells) (same : Tells start → Same start mid) (told : Tells start) (w z : K) where
  whole_mid : whole w (seen start) → whole w (seen mid)
  whole_mid is = subst (whole w) (sym (image_same start mid (same told))) is

  pub found_since : (key l : List ℕ) → key ≡ l → (Tells mid → whole w (seen mid) → left (f z) (seen mid) ≡ from_key (f w).direction key ((f w).versions (seen mid))) → whole w (seen start) → left (f z) (seen start) ≡ from_key (f w).direction l ((f w).versions (seen start))
  found_since key l e found is =
      subst (λ (k : List ℕ). left (f z) (seen start) ≡ from_key (f w).direction k ((f w).versions (seen start))) e
      (subst (λ (image : Image). left (f z) image ≡ from_key (f w).direction key ((f w).versions image)) (image_same start mid (same told)) (found (told_mid start mid tells told) (whole_mid is)))

  pub stands_since : (steady : K → Image → Type 0) → (Tells mid → whole w (seen mid) → steady z (seen mid)) → whole w (seen start) → steady z (seen start)
  stands_since steady stands is = subst (steady z) (image_same start mid (same told)) (stands (told_mid start mid tells told) (whole_mid is))

  pub end_since : (key l : List ℕ) → key ≡ l → (Tells mid → whole w (seen mid) → IsTrue ((f w).distinct (seen mid)) → IsTrue (f w).anew → IsWithinEnd (f z) (seen mid) key) → whole w (seen start) → (f w).distinct (seen start) ≡ true → (f w).anew ≡ true → IsWithinEnd (f z) (seen start) l
  end_since key l e within is one anew =
      subst (λ (k : List ℕ). IsWithinEnd (f z) (seen start) k) e
      (subst (λ (image : Image). IsWithinEnd (f z) image key) (image_same start mid (same told))
      (within (told_mid start mid tells told) (whole_mid is) (subst (λ (image : Image). IsTrue ((f w).distinct image)) (sym (image_same start mid (same told))) one) anew))

-- it stands on a version, or it came to its end and is the last one
abbrev pub Stays : CursorState → ℕ → ℕ → Type 0
Stays c n j = (is_some c.current ≡ true) ⊎ ((c.current ≡ None) × (n ≤ j + 1))

-- how the child stands that moved
now_there : {K : Type 0} (xs : List K) (j : ℕ) (y v : K) → j < length xs → get_or (set xs j y) j v ≡ y
now_there [] j y v lt = absurd (omega (arith, lt))
now_there (x ∷ xs) zero y v lt = refl
now_there (x ∷ xs) (suc j) y v lt = now_there xs j y v (omega (arith, lt))

some_of : (o : Option Version) → is_none o ≡ false → is_some o ≡ true
some_of None e = cc
some_of (Some v) e = refl

none_of : (o : Option Version) → is_none o ≡ true → o ≡ None
none_of None e = refl
none_of (Some v) e = cc

pub goes_on : {K : Type 0} (f : K → CursorState) (xs : List K) (j : ℕ) (y v : K) (end : Bool) → j < length xs → v ≡ get_or (set xs j y) j v → end ≡ is_none (f v).current → end ≡ false → is_some (f y).current ≡ true
goes_on {K} f xs j y v end lt there is not = some_of (f y).current (ap (λ (c : K). is_none (f c).current) (sym (there ∙ now_there xs j y v lt)) ∙ sym is ∙ not)

pub ended : {K : Type 0} (f : K → CursorState) (xs : List K) (j : ℕ) (y v : K) (end : Bool) → j < length xs → v ≡ get_or (set xs j y) j v → end ≡ is_none (f v).current → end ≡ true → (f y).current ≡ None
ended {K} f xs j y v end lt there is yet = none_of (f y).current (ap (λ (c : K). is_none (f c).current) (sym (there ∙ now_there xs j y v lt)) ∙ sym is ∙ yet)

module _ {K : Type 0} (f : K → CursorState) (whole : K → Image → Type 0) (start : State) (d : Direction) (ls : List (List ℕ)) (xs : List K) (j : ℕ) (x y : K) (at : x ≡ get_or xs j x) (keeps : KeepsChild f whole (seen start) (Tells start) x y) (lt : j < length xs) (i : ℕ) (before : IsChain d ls i j (map f xs)) where
  pub stands_on : (p : Bool) → is_some (cond p (current_at (map f xs) j) None) ≡ true → is_some (f x).current ≡ true
  stands_on true is = ap is_some (sym (current_of f xs j x lt at)) ∙ is
  stands_on false is = cc

  pub step_counts : (p q : Bool) (new : State) → CountsStep (f x) (f y) start new → CountsStep (chain_state d ls p i j (map f xs)) (chain_state d ls q i j (map f (set xs j y))) start new
  step_counts p q new step =
      let r = sum_now f (λ (c : CursorState). c.reads) xs i j x y before.order lt at in
      let a = sum_now f (λ (c : CursorState). c.asked) xs i j x y before.order lt at in
      let er : (f y).reads - (f x).reads ≡ from_to (λ (c : CursorState). c.reads) (map f (set xs j y)) i j - from_to (λ (c : CursorState). c.reads) (map f xs) i j = omega (arith, r, step.reads) in
      let ea : (f y).asked - (f x).asked ≡ from_to (λ (c : CursorState). c.asked) (map f (set xs j y)) i j - from_to (λ (c : CursorState). c.asked) (map f xs) i j = omega (arith, a, step.asked) in
      record {
        reads = omega (arith, r, step.reads);
        asked = omega (arith, a, step.asked);
        disk = subst (λ (n : ℕ). Counts n (from_to (λ (c : CursorState). c.asked) (map f (set xs j y)) i j - from_to (λ (c : CursorState). c.asked) (map f xs) i j) 0 start new) er
            (subst (λ (n : ℕ). Counts ((f y).reads - (f x).reads) n 0 start new) ea step.disk);
      }

  pub step_steps : (f y).steps < (f x).steps → steps_at (map f (set xs j y)) j < steps_at (map f xs) j
  step_steps less = steps_now f xs j x y lt at less

  pub step_sought : (k : List ℕ) → ((f x).sought k ≡ true → (f y).sought k ≡ true) → (nat_eq (child_of d ls k) i && sought_at (map f xs) i k) ≡ true → (nat_eq (child_of d ls k) i && sought_at (map f (set xs j y)) i k) ≡ true
  step_sought k so is =
      let parts = and_split (nat_eq (child_of d ls k) i) (sought_at (map f xs) i k) is in
      both (nat_eq (child_of d ls k) i) (sought_at (map f (set xs j y)) i k) parts.0 (sought_now f k xs i j x y at so parts.1)

  step_left : (image : Image) → left (f y) image ≡ (f x).rest image → Stays (f y) (length xs) j → with_current (current_at (map f (set xs j y)) j) (rest_at (map f (set xs j y)) j image) ≡ rest_at (map f xs) j image
  step_left image moved (inl some) = moved_stays f image xs j x y lt at some moved
  step_left image moved (inr last) = moved_over f image xs j x y lt at last.0 moved last.1

  module _ (p : Bool) (told : Tells start) (w : IsChainWhole f whole d ls p j xs (seen start)) where
    pub whole_x : whole x (seen start)
    whole_x = each_of (λ c. whole c (seen start)) xs j x lt at w.each

    pub step_moved : (whole x (seen start) → left (f y) (seen start) ≡ (f x).rest (seen start)) → Stays (f y) (length xs) j → left (chain_state d ls true i j (map f (set xs j y))) (seen start) ≡ rest_at (map f xs) j (seen start)
    step_moved moved stays = step_left (seen start) (moved whole_x) stays

    on_tail : (P : Version → Bool) (o : Option Version) (vs : List Version) → is_some o ≡ true → AllByRecursion (λ v. P v ≡ false) (with_current o vs) → AllByRecursion (λ v. P v ≡ false) vs
    on_tail P None vs some all = cc
    on_tail P (Some v) vs some all = all.1

    pub step_whole : is_some (cond p (current_at (map f xs) j) None) ≡ true → (whole x (seen start) → left (f y) (seen start) ≡ (f x).rest (seen start)) → IsChainWhole f whole d ls true j (set xs j y) (seen start)
    step_whole on moved = record {
      each = (whole_out f whole start d ls xs j x y at keeps p j j told w).each;
      follow = (whole_out f whole start d ls xs j x y at keeps p j j told w).follow;
      upto = λ now. upto_now f d (seen start) ls xs j x y at
          (λ P all. subst (AllByRecursion (λ v. P v ≡ false)) (sym (moved whole_x)) (on_tail P (f x).current ((f x).rest (seen start)) (stands_on p on) all))
          (w.upto (placed_true p (current_at (map f xs) j) on));
    }

    pub step_steady : (steady : K → Image → Type 0) → IsChainSteady f steady d ls p i j xs (seen start) → is_some (cond p (current_at (map f xs) j) None) ≡ true → (whole x (seen start) → left (f y) (seen start) ≡ (f x).rest (seen start)) → Stays (f y) (length xs) j →
        (whole x (seen start) → steady x (seen start) → steady y (seen start)) → ((k : List ℕ) → IsTrue ((f x).sought k) → IsTrue ((f y).sought k)) → IsChainSteady f steady d ls true i j (set xs j y) (seen start)
    step_steady steady s on moved stays so sought = record {
      opened = open_now f steady (seen start) ls xs i j x y at (so whole_x) sought s.opened;
      place = moved_place (chain_state d ls p i j (map f xs)) (chain_state d ls true i j (map f (set xs j y))) (seen start)
          (ap joined (same_lists f whole start d ls xs j x y at keeps (seen start))) on s.place (step_moved moved stays);
    }

    module _ (steady : K → Image → Type 0) (costs : (c : K) (image : Image) (k : List ℕ) → whole c image → steady c image → (f c).distinct image ≡ true → (f c).sought k ≡ true → IsWithinBound (f c) image k)
        (to_end : (c : K) (image : Image) (k : List ℕ) (place : Option Version) → whole c image → GrowsToEnd (f c) image k place) (s : IsChainSteady f steady d ls p i j xs (seen start)) (ones : list_all (λ (c : CursorState). c.distinct (seen start)) (map f xs) ≡ true) where
      pub bound_reads : (c : K) (key : List ℕ) → whole c (seen start) → steady c (seen start) → (f c).distinct (seen start) ≡ true → (f c).sought key ≡ true → (f c).reads ≤ (f c).reads_to (seen start) key None
      bound_reads c key is stands one sought = omega (arith, (costs c (seen start) key is stands one sought).reads, (to_end c (seen start) key (f c).current is).reads)

      pub bound_asked : (c : K) (key : List ℕ) → whole c (seen start) → steady c (seen start) → (f c).distinct (seen start) ≡ true → (f c).sought key ≡ true → (f c).asked ≤ (f c).asked_to (seen start) key None
      bound_asked c key is stands one sought = omega (arith, (costs c (seen start) key is stands one sought).asked, (to_end c (seen start) key (f c).current is).asked)

      pub step_spent : (k : List ℕ) → (whole x (seen start) → steady x (seen start) → (f x).distinct (seen start) ≡ true → (key : List ℕ) → (f x).sought key ≡ true → IsWithinEnd (f y) (seen start) key) →
          (nat_eq (child_of d ls k) i && sought_at (map f xs) i k) ≡ true → IsWithinEnd (chain_state d ls false i j (map f (set xs j y))) (seen start) k
      step_spent k spent is =
          let parts = and_split (nat_eq (child_of d ls k) i) (sought_at (map f xs) i k) is in
          let one = one_says f (λ (c : CursorState). c.distinct (seen start)) xs j x at lt ones in
          let same : length ls ≡ length (set xs j y) = same_length f ls (set xs j y) (one_chain f whole start d ls xs j x y at keeps i j i j before.order before).lasts in
          record {
            reads = ends_cost f (λ c. c.reads_to) (λ c. c.reads) d (seen start) k ls (set xs j y) i j (is_child (child_of d ls k) i parts.0) same
                (ends_now f (λ c. c.reads_to) (λ c. c.reads) d (seen start) whole steady bound_reads k ls xs i j x y at w.each ones parts.1 (λ key stands sought. (spent whole_x stands one key sought).reads) s.opened);
            asked = ends_cost f (λ c. c.asked_to) (λ c. c.asked) d (seen start) k ls (set xs j y) i j (is_child (child_of d ls k) i parts.0) same
                (ends_now f (λ c. c.asked_to) (λ c. c.asked) d (seen start) whole steady bound_asked k ls xs i j x y at w.each ones parts.1 (λ key stands sought. (spent whole_x stands one key sought).asked) s.opened);
          }

  -- the next child, at m, is opened behind y
  module _ (m : ℕ) (e : m ≡ suc j) (w z : K) (there : w ≡ get_or (set xs j y) m w) (room : m < length xs) (kept : KeepsChild f whole (seen start) (Tells start) w z) where
    abbrev ys : List K
    ys = set xs j y

    length_now : length ys ≡ length xs
    length_now = length_after xs j y

    lower : suc j < length ys
    lower = omega (arith, room, e, length_now)

    below : m < length ys
    below = omega (arith, room, length_now)

    beside : w ≡ get_or ys (suc j) w
    beside = subst (λ (n : ℕ). w ≡ get_or ys n w) e there

    chain_now : IsChain d ls i j (map f ys)
    chain_now = one_chain f whole start d ls xs j x y at keeps i j i j before.order before

    same_now : length ls ≡ length ys
    same_now = same_length f ls ys chain_now.lasts

    sum_opened : (g : CursorState → ℕ) → from_to g (map f (set ys m z)) i m ≡ from_to g (map f ys) i j + g (f z)
    sum_opened g = subst (λ (n : ℕ). from_to g (map f (set ys n z)) i n ≡ from_to g (map f ys) i j + g (f z)) (sym e) (sum_more f g ys i j z before.order lower)

    pub open_list : (p q : Bool) → SameList (chain_state d ls p i j (map f xs)) (chain_state d ls q i m (map f (set (set xs j y) m z)))
    open_list p q = list_then (chain_state d ls p i j (map f xs)) (chain_state d ls false i j (map f ys)) (chain_state d ls q i m (map f (set ys m z)))
        (one_list f whole start d ls xs j x y at keeps p false i j i j) (one_list f whole start d ls ys m w z there kept false q i j i m)

    pub open_chain : IsChain d ls i m (map f (set (set xs j y) m z))
    open_chain = one_chain f whole start d ls ys m w z there kept i j i m (omega (arith, before.order, e)) chain_now

    pub open_counts : (p q : Bool) (mid new : State) → CountsStep (f x) (f y) start mid → Counts (f z).reads (f z).asked 0 mid new → CountsStep (chain_state d ls p i j (map f xs)) (chain_state d ls q i m (map f (set (set xs j y) m z))) start new
    open_counts p q mid new first second =
        let r = sum_opened (λ (c : CursorState). c.reads) in
        let a = sum_opened (λ (c : CursorState). c.asked) in
        let er : (f z).reads ≡ from_to (λ (c : CursorState). c.reads) (map f (set ys m z)) i m - from_to (λ (c : CursorState). c.reads) (map f ys) i j = omega (arith, r) in
        let ea : (f z).asked ≡ from_to (λ (c : CursorState). c.asked) (map f (set ys m z)) i m - from_to (λ (c : CursorState). c.asked) (map f ys) i j = omega (arith, a) in
        counts_step_then (chain_state d ls p i j (map f xs)) (chain_state d ls false i j (map f ys)) (chain_state d ls q i m (map f (set ys m z))) start mid new (step_counts p false mid first) (record {
          reads = omega (arith, r);
          asked = omega (arith, a);
          disk = subst (λ (n : ℕ). Counts n (from_to (λ (c : CursorState). c.asked) (map f (set ys m z)) i m - from_to (λ (c : CursorState). c.asked) (map f ys) i j) 0 mid new) er
              (subst (λ (n : ℕ). Counts (f z).reads n 0 mid new) ea second);
        })

    pub open_steps : (f z).steps ≤ (f z).most → (f y).steps < (f x).steps → steps_at (map f (set (set xs j y) m z)) m < steps_at (map f xs) j
    open_steps few less =
        let one : steps_at (map f (set ys m z)) m ≤ steps_at (map f ys) j = subst (λ (n : ℕ). steps_at (map f (set ys n z)) n ≤ steps_at (map f ys) j) (sym e) (steps_more f ys j w z lower beside (omega (arith, few, kept.list.most))) in
        omega (arith, one, step_steps less)

    pub open_sought : (k : List ℕ) → ((f x).sought k ≡ true → (f y).sought k ≡ true) → (nat_eq (child_of d ls k) i && sought_at (map f xs) i k) ≡ true → (nat_eq (child_of d ls k) i && sought_at (map f (set (set xs j y) m z)) i k) ≡ true
    open_sought k so is =
        let parts = and_split (nat_eq (child_of d ls k) i) (sought_at (map f ys) i k) (step_sought k so is) in
        both (nat_eq (child_of d ls k) i) (sought_at (map f (set ys m z)) i k) parts.0 (subst (λ (n : ℕ). sought_at (map f (set ys n z)) i k ≡ true) (sym e) (sought_more f k ys i j z before.order parts.1))

    module _ (p : Bool) (told : Tells start) (is : IsChainWhole f whole d ls p j xs (seen start)) where
      whole_now : IsChainWhole f whole d ls false j ys (seen start)
      whole_now = whole_out f whole start d ls xs j x y at keeps p j j told is

      pub whole_w : whole w (seen start)
      whole_w = each_of (λ c. whole c (seen start)) ys m w below there whole_now.each

      pub open_whole_out : IsChainWhole f whole d ls false m (set (set xs j y) m z) (seen start)
      open_whole_out = whole_out f whole start d ls ys m w z there kept false j m told whole_now

      distinct_now : list_all (λ (c : CursorState). c.distinct (seen start)) (map f xs) ≡ true → list_all (λ (c : CursorState). c.distinct (seen start)) (map f ys) ≡ true
      distinct_now ones = kept_distinct f whole (seen start) (Tells start) d xs ys (all_kept f whole start d ls xs j x y at keeps) (seen start) ∙ ones

      module _ (steady : K → Image → Type 0) (costs : (c : K) (image : Image) (k : List ℕ) → whole c image → steady c image → (f c).distinct image ≡ true → (f c).sought k ≡ true → IsWithinBound (f c) image k)
          (to_end : (c : K) (image : Image) (k : List ℕ) (place : Option Version) → whole c image → GrowsToEnd (f c) image k place) (s : IsChainSteady f steady d ls p i j xs (seen start)) (ones : list_all (λ (c : CursorState). c.distinct (seen start)) (map f xs) ≡ true) where
        pub open_spent : (k : List ℕ) → (whole x (seen start) → steady x (seen start) → steady y (seen start)) → ((q : List ℕ) → IsTrue ((f x).sought q) → IsTrue ((f y).sought q)) →
            (whole w (seen start) → (f w).distinct (seen start) ≡ true → (f w).anew ≡ true → IsWithinEnd (f z) (seen start) (get_or ls j [])) →
            (nat_eq (child_of d ls k) i && sought_at (map f xs) i k) ≡ true → IsWithinEnd (chain_state d ls false i m (map f (set (set xs j y) m z))) (seen start) k
        open_spent k so sought spent key =
            let parts = and_split (nat_eq (child_of d ls k) i) (sought_at (map f ys) i k) (step_sought k (sought k) key) in
            let all = distinct_now ones in
            let within = spent whole_w (one_says f (λ (c : CursorState). c.distinct (seen start)) ys m w there below all) (one_says f (λ (c : CursorState). c.anew) ys m w there below chain_now.anew) in
            let opens = open_now f steady (seen start) ls xs i j x y at (so (whole_x p told is)) sought s.opened in
            let same : length ls ≡ length (set ys m z) = same_length f ls (set ys m z) open_chain.lasts in
            let child = is_child (child_of d ls k) i parts.0 in
            let r = ends_more f (λ c. c.reads_to) (λ c. c.reads) d (seen start) whole steady (bound_reads p told is steady costs to_end s ones) k ls ys i j z before.order lower whole_now.each all parts.1 within.reads opens in
            let a = ends_more f (λ c. c.asked_to) (λ c. c.asked) d (seen start) whole steady (bound_asked p told is steady costs to_end s ones) k ls ys i j z before.order lower whole_now.each all parts.1 within.asked opens in
            let re : from_to (λ c. c.reads) (map f (set ys (suc j) z)) i (suc j) ≤ chain_cost d (λ c. c.reads_to) (seen start) k None ls (map f (set ys (suc j) z)) = ends_cost f (λ c. c.reads_to) (λ c. c.reads) d (seen start) k ls (set ys (suc j) z) i (suc j) child (same_now ∙ sym (length_after ys (suc j) z)) r in
            let ae : from_to (λ c. c.asked) (map f (set ys (suc j) z)) i (suc j) ≤ chain_cost d (λ c. c.asked_to) (seen start) k None ls (map f (set ys (suc j) z)) = ends_cost f (λ c. c.asked_to) (λ c. c.asked) d (seen start) k ls (set ys (suc j) z) i (suc j) child (same_now ∙ sym (length_after ys (suc j) z)) a in
            record {
              reads = subst (λ (n : ℕ). from_to (λ c. c.reads) (map f (set ys n z)) i n ≤ chain_cost d (λ c. c.reads_to) (seen start) k None ls (map f (set ys n z))) (sym e) re;
              asked = subst (λ (n : ℕ). from_to (λ c. c.asked) (map f (set ys n z)) i n ≤ chain_cost d (λ c. c.asked_to) (seen start) k None ls (map f (set ys n z))) (sym e) ae;
            }

      module _ (moved : whole x (seen start) → left (f y) (seen start) ≡ (f x).rest (seen start)) (none : (f y).current ≡ None) (found : whole w (seen start) → left (f z) (seen start) ≡ from_key (f w).direction (get_or ls j []) ((f w).versions (seen start))) where
        first : (is_some (f z).current ≡ true) × (left (f z) (seen start) ≡ (f w).versions (seen start))
        first = opened f d (seen start) ls ys j w z whole_now.follow lower beside
            (found whole_w ∙ ap (λ (o : Direction). from_key o (get_or ls j []) ((f w).versions (seen start))) (direction_at f d ys m w there below chain_now.one))

        pub open_moved : left (chain_state d ls true i m (map f (set (set xs j y) m z))) (seen start) ≡ rest_at (map f xs) j (seen start)
        open_moved =
            subst (λ (n : ℕ). with_current (current_at (map f (set ys n z)) n) (rest_at (map f (set ys n z)) n (seen start)) ≡ behind f ys j (seen start)) (sym e) (left_opened f (seen start) ys j w z lower beside first.0 first.1)
            ∙ sym (rest_over f (seen start) xs j x y lt at none (moved (whole_x p told is)))

        pub open_whole : IsChainWhole f whole d ls true m (set (set xs j y) m z) (seen start)
        open_whole = record {
          each = open_whole_out.each;
          follow = open_whole_out.follow;
          upto = λ now. upto_opened f d (seen start) ls ys m w z there (λ P all. subst (AllByRecursion (λ v. P v ≡ false)) (sym first.1) all) whole_now.follow;
        }

        pub open_steady : (steady : K → Image → Type 0) → IsChainSteady f steady d ls p i j xs (seen start) → is_some (cond p (current_at (map f xs) j) None) ≡ true →
            (whole x (seen start) → steady x (seen start) → steady y (seen start)) → ((q : List ℕ) → IsTrue ((f x).sought q) → IsTrue ((f y).sought q)) → (whole w (seen start) → steady z (seen start)) → IsTrue ((f z).sought (get_or ls j [])) → IsChainSteady f steady d ls true i m (set (set xs j y) m z) (seen start)
        open_steady steady s on so sought stands key = record {
          opened = subst (λ (n : ℕ). AreOpen f steady (seen start) ls (set ys n z) i n) (sym e)
              (open_more f steady (seen start) ls ys i j z before.order lower same_now (stands whole_w) key (open_now f steady (seen start) ls xs i j x y at (so (whole_x p told is)) sought s.opened));
          place = moved_place (chain_state d ls p i j (map f xs)) (chain_state d ls true i m (map f (set ys m z))) (seen start) ((open_list p true).versions (seen start)) on s.place open_moved;
        }
