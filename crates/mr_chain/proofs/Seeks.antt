-- One child of a chain moved, x became y; then what a seek says.
use Rattle.std.proofs.Common.{◌≡◌, ℕ, ◌<◌, ◌≤◌, Bool, true, false, ◌&&◌, List, [], ◌∷◌, length, drop, map, get_or, set, suc, zero, None, nat_eq, refl, sym, ◌∙◌, ap, subst, inl, inr, arith}
use Rattle.std.specs.List.{AllByRecursion, list_all}
use Rattle.std.specs.Ordering.{is_lt}
use Rattle.std.proofs.lemmas.Bool.{cases_Bool}
use Rattle.std.proofs.lemmas.Bool.Decides.{nat_tests}
use Rattle.std.proofs.lemmas.List.{length-map}
use Rattle.mr_base.specs.Disk.{State, Image, Tells, seen}
use Rattle.mr_base.specs.Calls.{Counts, Reads}
use Rattle.mr_base.specs.declared.stop.Direction.{Direction}
use Rattle.mr_iter.specs.Versions.{Version, key_cmp, version_cmp, IsInOrder, joined, from_key}
use Rattle.mr_iter.specs.Places.{from_key-drop, drop_all}
use Rattle.mr_iter.specs.Cursors.{CursorState, SameList, IsWithinEnd, left}
use Rattle.mr_iter.specs.Children.{Zipped, KeepsChild}
use Rattle.mr_iter.specs.Merging.{lists}
use Rattle.mr_chain.specs.Chains.{child_of, from_to, sought_at, chain_cost, chain_state, FollowOne, IsChain, IsChainWhole, AreOpen, IsChainSteady}
use Rattle.mr_chain.specs.ChainLaws.{chain_in_order}
use Rattle.mr_chain.proofs.Moves.{zipped_set, each_of, direction_at, one_says, kept_still}
use Rattle.mr_chain.proofs.Kept.{kept_lists, kept_whole, kept_direction}
use Rattle.mr_chain.proofs.Chaining.{left_now, sum_one, sought_one, upto_opened, open_one, found_none, found_one, cost_has, kept_chain, kept_anew}

clash : {b : Bool} → b ≡ false → b ≡ true → ⊥
clash low high = cc

pub same_length : {K : Type 0} (f : K → CursorState) (ls : List (List ℕ)) (xs : List K) → length ls ≡ length (map f xs) → length ls ≡ length xs
same_length f ls xs is = is ∙ length-map xs f

pub get_set : {K : Type 0} (xs : List K) (j : ℕ) (y : K) → j < length xs → y ≡ get_or (set xs j y) j y
get_set [] j y lt = absurd (omega (arith, lt))
get_set (x ∷ xs) zero y lt = refl
get_set (x ∷ xs) (suc j) y lt = get_set xs j y (omega (arith, lt))

pub length_after : {K : Type 0} (xs : List K) (j : ℕ) (y : K) → length (set xs j y) ≡ length xs
length_after [] j y = refl
length_after (x ∷ xs) zero y = refl
length_after (x ∷ xs) (suc j) y = ap suc (length_after xs j y)

length_both : {K : Type 0} (f : K → CursorState) (xs : List K) (j : ℕ) (y : K) → length (map f xs) ≡ length (map f (set xs j y))
length_both f [] j y = refl
length_both f (x ∷ xs) zero y = refl
length_both f (x ∷ xs) (suc j) y = ap suc (length_both f xs j y)

each_from : (P : Version → Bool) (d : Direction) (key : List ℕ) (vs : List Version) → AllByRecursion (λ v. P v ≡ false) vs → AllByRecursion (λ v. P v ≡ false) (from_key d key vs)
each_from P d key [] all = tt
each_from P d key (v ∷ vs) all = elim (cases_Bool (is_lt (key_cmp d v.key key))) [
  | inl low ↦ rw low (each_from P d key vs all.1)
  | inr up ↦ rw up (all.0, each_from P d key vs all.1)
]

open_out : {K : Type 0} (f : K → CursorState) (steady : K → Image → Type 0) (image : Image) (ls : List (List ℕ)) (xs : List K) (i : ℕ) → length xs ≤ i → AreOpen f steady image ls xs i i
open_out f steady image ls [] i le = tt
open_out f steady image [] (x ∷ xs) i le = tt
open_out f steady image (l ∷ ls) (x ∷ xs) zero le = absurd (omega (arith, le))
open_out f steady image (l ∷ ls) (x ∷ xs) (suc i) le = open_out f steady image ls xs i (omega (arith, le))

sought_out : {K : Type 0} (f : K → CursorState) (xs : List K) (i : ℕ) (key : List ℕ) → length xs ≤ i → sought_at (map f xs) i key ≡ true
sought_out f [] i key le = refl
sought_out f (x ∷ xs) zero key le = absurd (omega (arith, le))
sought_out f (x ∷ xs) (suc i) key le = sought_out f xs i key (omega (arith, le))

is_both : (a b : ℕ) (c : Bool) → a ≡ b → c ≡ true → (nat_eq a b && c) ≡ true
is_both a b c e is = let one : nat_eq a b ≡ true = grind (arith, nat_tests) in rw one is

-- no child was opened
module _ {K : Type 0} (f : K → CursorState) (whole steady : K → Image → Type 0) (in_order : (c : K) (image : Image) → whole c image → IsInOrder (version_cmp (f c).direction) (left (f c) image) × IsInOrder (version_cmp (f c).direction) ((f c).versions image)) (d : Direction) (image : Image) (key : List ℕ) (ls : List (List ℕ)) (xs : List K) (i : ℕ) (le : length xs ≤ i) (is : i ≡ child_of d ls key) where
  pub out_found : (p : Bool) (h : ℕ) → IsChainWhole f whole d ls p h xs image → [] ≡ from_key d key (joined (lists (map f xs) image))
  out_found p h w = sym (found_none d key f image ls xs (omega (arith, le, is)) w.follow)

  pub out_sought : (nat_eq (child_of d ls key) i && sought_at (map f xs) i key) ≡ true
  out_sought = is_both (child_of d ls key) i (sought_at (map f xs) i key) (sym is) (sought_out f xs i key le)

  pub out_steady : IsChainSteady f steady d ls false i i xs image
  out_steady = record { opened = open_out f steady image ls xs i le; place = record { passed = length (joined (lists (map f xs) image)); rest = sym (drop_all (joined (lists (map f xs) image))) } }

module _ {K : Type 0} (f : K → CursorState) (whole : K → Image → Type 0) (start : State) (d : Direction) (ls : List (List ℕ)) (xs : List K) (j : ℕ) (x y : K) (at : x ≡ get_or xs j x) (keeps : KeepsChild f whole (seen start) (Tells start) x y) where
  pub all_kept : Zipped (KeepsChild f whole (seen start) (Tells start)) xs (set xs j y)
  all_kept = zipped_set (KeepsChild f whole (seen start) (Tells start)) (kept_still f whole start) xs j x y at keeps

  pub one_list : (p q : Bool) (i m n k : ℕ) → SameList (chain_state d ls p i m (map f xs)) (chain_state d ls q n k (map f (set xs j y)))
  one_list p q i m n k = kept_chain f whole (seen start) (Tells start) d ls p q i m n k xs (set xs j y) all_kept

  pub one_chain : (i m n k : ℕ) → n ≤ k → IsChain d ls i m (map f xs) → IsChain d ls n k (map f (set xs j y))
  one_chain i m n k le is = record {
    one = kept_direction f whole (seen start) (Tells start) d xs (set xs j y) all_kept is.one;
    anew = kept_anew f whole (seen start) (Tells start) d xs (set xs j y) all_kept ∙ is.anew;
    lasts = is.lasts ∙ length_both f xs j y;
    order = le;
    ascending = is.ascending;
  }

  pub same_lists : (image : Image) → lists (map f (set xs j y)) image ≡ lists (map f xs) image
  same_lists image = kept_lists f whole (seen start) (Tells start) d xs (set xs j y) all_kept image

  pub whole_out : (p : Bool) (h k : ℕ) → Tells start → IsChainWhole f whole d ls p h xs (seen start) → IsChainWhole f whole d ls false k (set xs j y) (seen start)
  whole_out p h k told is = record {
    each = kept_whole f whole (seen start) (Tells start) d xs (set xs j y) all_kept told is.each;
    follow = subst (FollowOne d ls) (sym (same_lists (seen start))) is.follow;
    upto = λ now. absurd (clash refl now);
  }

  -- as a seek left it
  module _ (lt : j < length xs) (key : List ℕ) (is : child_of d ls key ≡ j) (m n : ℕ) (before : IsChain d ls m n (map f xs)) where
    pub one_counts : (new : State) → Counts (f y).reads (f y).asked 0 start new → Counts (from_to (λ c. c.reads) (map f (set xs j y)) j j) (from_to (λ c. c.asked) (map f (set xs j y)) j j) 0 start new
    one_counts new counts = rw (sum_one f (λ c. c.reads) xs j y lt, sum_one f (λ c. c.asked) xs j y lt) counts

    pub one_spent : (p : Bool) (h : ℕ) (new : State) → Tells start → IsChainWhole f whole d ls p h xs (seen start) → list_all (λ (c : CursorState). c.distinct (seen start)) (map f xs) ≡ true →
        (whole x (seen start) → (f x).distinct (seen start) ≡ true → Reads ((f x).reads_to (seen start) key None) ((f x).asked_to (seen start) key None) start new) →
        Reads (chain_cost d (λ c. c.reads_to) (seen start) key None ls (map f xs)) (chain_cost d (λ c. c.asked_to) (seen start) key None ls (map f xs)) start new
    one_spent p h new told w ones spent =
        let r = spent (each_of (λ c. whole c (seen start)) xs j x lt at w.each) (one_says f (λ (c : CursorState). c.distinct (seen start)) xs j x at lt ones) in
        let e = cost_has f (λ c. c.reads_to) (λ c. c.reads) d (seen start) key ls xs j x is lt (same_length f ls xs before.lasts) at in
        let a = cost_has f (λ c. c.asked_to) (λ c. c.asked) d (seen start) key ls xs j x is lt (same_length f ls xs before.lasts) at in
        record { reads = omega (arith, r.reads, e); asked = omega (arith, r.asked, a) }

    pub one_end : (p : Bool) (h : ℕ) → IsChainWhole f whole d ls p h xs (seen start) → list_all (λ (c : CursorState). c.distinct (seen start)) (map f xs) ≡ true →
        (whole x (seen start) → (f x).distinct (seen start) ≡ true → (f x).anew ≡ true → IsWithinEnd (f y) (seen start) key) → IsWithinEnd (chain_state d ls false j j (map f (set xs j y))) (seen start) key
    one_end p h w ones within =
        let b = within (each_of (λ c. whole c (seen start)) xs j x lt at w.each) (one_says f (λ (c : CursorState). c.distinct (seen start)) xs j x at lt ones) (one_says f (λ (c : CursorState). c.anew) xs j x at lt before.anew) in
        let same : length ls ≡ length (set xs j y) = same_length f ls xs before.lasts ∙ sym (length_after xs j y) in
        let lt' : j < length (set xs j y) = omega (arith, lt, length_after xs j y) in
        let e = cost_has f (λ c. c.reads_to) (λ c. c.reads) d (seen start) key ls (set xs j y) j y is lt' same (get_set xs j y lt) in
        let a = cost_has f (λ c. c.asked_to) (λ c. c.asked) d (seen start) key ls (set xs j y) j y is lt' same (get_set xs j y lt) in
        record {
          reads = omega (arith, sum_one f (λ c. c.reads) xs j y lt, b.reads, e);
          asked = omega (arith, sum_one f (λ c. c.asked) xs j y lt, b.asked, a);
        }

    pub one_sought : (f y).sought key ≡ true → (nat_eq (child_of d ls key) j && sought_at (map f (set xs j y)) j key) ≡ true
    one_sought sought = is_both (child_of d ls key) j (sought_at (map f (set xs j y)) j key) is (sought_one f key xs j y sought)

    module _ (p : Bool) (h : ℕ) (told : Tells start) (w : IsChainWhole f whole d ls p h xs (seen start)) (found : whole x (seen start) → left (f y) (seen start) ≡ from_key (f x).direction key ((f x).versions (seen start))) where
      one_from : left (f y) (seen start) ≡ from_key d key ((f x).versions (seen start))
      one_from = found (each_of (λ c. whole c (seen start)) xs j x lt at w.each) ∙ ap (λ (e : Direction). from_key e key ((f x).versions (seen start))) (direction_at f d xs j x at lt before.one)

      pub one_whole : IsChainWhole f whole d ls true j (set xs j y) (seen start)
      one_whole = record {
        each = (whole_out p h j told w).each;
        follow = (whole_out p h j told w).follow;
        upto = λ now. upto_opened f d (seen start) ls xs j x y at (λ P all. subst (AllByRecursion (λ v. P v ≡ false)) (sym one_from) (each_from P d key ((f x).versions (seen start)) all)) w.follow;
      }

      pub one_left : left (chain_state d ls true j j (map f (set xs j y))) (seen start) ≡ from_key d key (joined (lists (map f xs) (seen start)))
      one_left =
          let both = found_one d key f (seen start) ls xs j x y is lt at w.follow one_from in
          left_now f (seen start) xs j y lt both.0 ∙ both.1

      pub one_steady : (steady : K → Image → Type 0) (in_order : (c : K) (image : Image) → whole c image → IsInOrder (version_cmp (f c).direction) (left (f c) image) × IsInOrder (version_cmp (f c).direction) ((f c).versions image)) →
          steady y (seen start) → IsChainSteady f steady d ls true j j (set xs j y) (seen start)
      one_steady steady in_order stands =
          let order = (chain_in_order f whole in_order d (seen start) ls p m h xs before.one w).1 in
          let ends = from_key-drop d key (joined (lists (map f xs) (seen start))) order in
          record {
            opened = open_one f steady (seen start) ls xs j y stands;
            place = record { passed = ends.0; rest = one_left ∙ ends.1 ∙ ap (λ (vss : List (List Version)). drop ends.0 (joined vss)) (sym (same_lists (seen start))) };
          }
