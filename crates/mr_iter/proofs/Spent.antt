-- What was read where a call fails.
use Rattle.std.proofs.Common.{◌≡◌, ℕ, ◌+◌, ◌<◌, ◌≤◌, IsTrue, Bool, true, ◌&&◌, List, [], ◌∷◌, length, map, get_or, set, take, suc, zero, Option, None, sym, ◌∙◌, ap, subst, arith, add-one}
use Rattle.std.specs.List.{AllByRecursion, list_all}
use Rattle.mr_base.specs.Disk.{State, Tells, Image, seen}
use Rattle.mr_base.specs.Calls.{Counts, Reads, Same}
use Rattle.mr_base.specs.declared.stop.Direction.{Direction}
use Rattle.mr_iter.specs.Versions.{Version, version_cmp, merged, is_strict}
use Rattle.mr_iter.specs.Cursors.{CursorState, SameList, CountsStep, IsWithinBound, IsWithinEnd, GrowsToEnd}
use Rattle.mr_iter.specs.Children.{total}
use Rattle.mr_iter.specs.Merging.{merge_state, lists}
use Rattle.mr_iter.specs.Places.{and_split}
use Rattle.mr_iter.specs.Snapshots.{snapshot_state}
use Rattle.mr_iter.proofs.MergeSteps.{total-map}
use Rattle.mr_iter.specs.Walks.{image_same}

pub no_reads : (s : State) → Reads 0 0 s s
no_reads s = record { reads = omega arith; asked = omega arith }

-- n children are sought, and then one more
pub total_next : {K : Type 0} (g : K → ℕ) (n : ℕ) (xs : List K) (x : K) → n < length xs → x ≡ get_or xs n x → total g (take (n + 1) xs) ≡ total g (take n xs) + g x
total_next {K} g n xs x lt is = ap (λ (m : ℕ). total g (take m xs)) (add-one n) ∙ go n xs lt is
  where
    go : (n : ℕ) (xs : List K) → n < length xs → x ≡ get_or xs n x → total g (take (suc n) xs) ≡ total g (take n xs) + g x
    go n [] lt is = absurd (omega arith)
    go zero (w ∷ ws) lt is = let e : g x ≡ g w = ap g is in omega (arith, e)
    go (suc n) (w ∷ ws) lt is = let e = go n ws (omega arith) is in omega (arith, e)

pub total_take : {K : Type 0} (g : K → ℕ) (n : ℕ) (xs : List K) → total g (take n xs) ≤ total g xs
total_take g zero xs = omega arith
total_take g (suc n) [] = omega arith
total_take g (suc n) (x ∷ xs) = omega (arith, total_take g n xs)

-- so many reads up to one child, and then those of the next one
pub reads_next : {K : Type 0} (g h : K → ℕ) (n : ℕ) (xs : List K) (x : K) (start mid new : State) → n < length xs → x ≡ get_or xs n x →
    Reads (total g (take n xs)) (total h (take n xs)) start mid → Reads (g x) (h x) mid new → Reads (total g (take (n + 1) xs)) (total h (take (n + 1) xs)) start new
reads_next g h n xs x start mid new lt is so_far more = record {
  reads = omega (arith, total_next g n xs x lt is, so_far.reads, more.reads);
  asked = omega (arith, total_next h n xs x lt is, so_far.asked, more.asked);
}

pub reads_in_all : {K : Type 0} (g h : K → ℕ) (n : ℕ) (xs : List K) (start new : State) → Reads (total g (take n xs)) (total h (take n xs)) start new → Reads (total g xs) (total h xs) start new
reads_in_all g h n xs start new some = record {
  reads = omega (arith, total_take g n xs, some.reads);
  asked = omega (arith, total_take h n xs, some.asked);
}

module _ {K : Type 0} (f : K → CursorState) (whole steady : K → Image → Type 0)
    (costs : (c : K) (image : Image) (k : List ℕ) → whole c image → steady c image → (f c).distinct image ≡ true → (f c).sought k ≡ true → IsWithinBound (f c) image k)
    (to_end : (c : K) (image : Image) (k : List ℕ) (place : Option Version) → whole c image → GrowsToEnd (f c) image k place) where
  pub within_end : (c : K) (image : Image) (k : List ℕ) → whole c image → steady c image → (f c).distinct image ≡ true → (f c).sought k ≡ true → IsWithinEnd (f c) image k
  within_end c image k is stands one key =
      let b = costs c image k is stands one key in
      let e = to_end c image k (f c).current is in
      record { reads = omega (arith, b.reads, e.reads); asked = omega (arith, b.asked, e.asked) }

  -- after a seek of one child
  pub sought_spent : (x y : K) (image : Image) (k : List ℕ) (mid new : State) → SameList (f x) (f y) → Counts (f y).reads (f y).asked 0 mid new → whole y image → steady y image → (f x).distinct image ≡ true → (f y).sought k ≡ true →
      Reads ((f x).reads_to image k None) ((f x).asked_to image k None) mid new
  sought_spent x y image k mid new list counts is stands one key =
      let b = within_end y image k is stands (list.distinct image ∙ one) key in
      record {
        reads = omega (arith, b.reads, list.reads_to image k None, counts.reads.1);
        asked = omega (arith, b.asked, list.asked_to image k None, counts.asked.1);
      }

  all_ends : (image : Image) (k : List ℕ) (xs : List K) → AllByRecursion (λ c. whole c image) xs → AllByRecursion (λ c. steady c image) xs → list_all (λ (c : CursorState). c.distinct image) (map f xs) ≡ true → list_all (λ (c : CursorState). c.sought k) (map f xs) ≡ true →
      (total (λ (c : CursorState). c.reads) (map f xs) ≤ total (λ (c : CursorState). c.reads_to image k None) (map f xs)) × (total (λ (c : CursorState). c.asked) (map f xs) ≤ total (λ (c : CursorState). c.asked_to image k None) (map f xs))
  all_ends image k [] is stands ones keys = (omega arith, omega arith)
  all_ends image k (x ∷ xs) is stands ones keys =
      let one = and_split ((f x).distinct image) (list_all (λ (c : CursorState). c.distinct image) (map f xs)) ones in
      let key = and_split ((f x).sought k) (list_all (λ (c : CursorState). c.sought k) (map f xs)) keys in
      let here = within_end x image k is.0 stands.0 one.0 key.0 in
      let later = all_ends image k xs is.1 stands.1 one.1 key.1 in
      (omega (arith, here.reads, later.0), omega (arith, here.asked, later.1))

  ends_set : (image : Image) (k : List ℕ) (y : K) → IsWithinEnd (f y) image k → (xs : List K) (j : ℕ) → AllByRecursion (λ c. whole c image) xs → AllByRecursion (λ c. steady c image) xs → list_all (λ (c : CursorState). c.distinct image) (map f xs) ≡ true → list_all (λ (c : CursorState). c.sought k) (map f xs) ≡ true →
      (total (λ (c : CursorState). c.reads) (map f (set xs j y)) ≤ total (λ (c : CursorState). c.reads_to image k None) (map f (set xs j y))) × (total (λ (c : CursorState). c.asked) (map f (set xs j y)) ≤ total (λ (c : CursorState). c.asked_to image k None) (map f (set xs j y)))
  ends_set image k y end [] j is stands ones keys = (omega arith, omega arith)
  ends_set image k y end (x ∷ xs) zero is stands ones keys =
      let one = and_split ((f x).distinct image) (list_all (λ (c : CursorState). c.distinct image) (map f xs)) ones in
      let key = and_split ((f x).sought k) (list_all (λ (c : CursorState). c.sought k) (map f xs)) keys in
      let later = all_ends image k xs is.1 stands.1 one.1 key.1 in
      (omega (arith, end.reads, later.0), omega (arith, end.asked, later.1))
  ends_set image k y end (x ∷ xs) (suc j) is stands ones keys =
      let one = and_split ((f x).distinct image) (list_all (λ (c : CursorState). c.distinct image) (map f xs)) ones in
      let key = and_split ((f x).sought k) (list_all (λ (c : CursorState). c.sought k) (map f xs)) keys in
      let here = within_end x image k is.0 stands.0 one.0 key.0 in
      let later = ends_set image k y end xs j is.1 stands.1 one.1 key.1 in
      (omega (arith, here.reads, later.0), omega (arith, here.asked, later.1))

  -- child j moved on to y, which read no more than up to its end
  pub merge_within_end : (d : Direction) (image : Image) (k : List ℕ) (xs : List K) (order new : List ℕ) (j : ℕ) (y : K) → IsWithinEnd (f y) image k → AllByRecursion (λ c. whole c image) xs → AllByRecursion (λ c. steady c image) xs →
      (merge_state d order (map f xs)).distinct image ≡ true → list_all (λ (c : CursorState). c.sought k) (map f xs) ≡ true → IsWithinEnd (merge_state d new (map f (set xs j y))) image k
  merge_within_end d image k xs order new j y end is stands one keys =
      let ones = and_split (list_all (λ (c : CursorState). c.distinct image) (map f xs)) (is_strict d (merged (version_cmp d) (lists (map f xs) image))) one in
      let all = ends_set image k y end xs j is stands ones.0 keys in
      record { reads = all.0; asked = all.1 }

pub distinct_at : {K : Type 0} (f : K → CursorState) (image : Image) (xs : List K) (j : ℕ) (x : K) → x ≡ get_or xs j x → j < length xs → list_all (λ (c : CursorState). c.distinct image) (map f xs) ≡ true → (f x).distinct image ≡ true
distinct_at {K} f image [] j x at lt all = absurd (omega arith)
distinct_at {K} f image (w ∷ ws) zero x at lt all = ap (λ (z : K). (f z).distinct image) at ∙ (and_split ((f w).distinct image) (list_all (λ (c : CursorState). c.distinct image) (map f ws)) all).0
distinct_at {K} f image (w ∷ ws) (suc j) x at lt all = distinct_at f image ws j x at (omega arith) (and_split ((f w).distinct image) (list_all (λ (c : CursorState). c.distinct image) (map f ws)) all).1

pub each_distinct : {K : Type 0} (f : K → CursorState) (image : Image) (xs : List K) (b : Bool) → (list_all (λ (c : CursorState). c.distinct image) (map f xs) && b) ≡ true → AllByRecursion (λ c. (f c).distinct image ≡ true) xs
each_distinct {K} f image xs b all = go xs (and_split (list_all (λ (c : CursorState). c.distinct image) (map f xs)) b all).0
  where
    go : (xs : List K) → list_all (λ (c : CursorState). c.distinct image) (map f xs) ≡ true → AllByRecursion (λ c. (f c).distinct image ≡ true) xs
    go [] all = tt
    go (x ∷ xs) all = let split = and_split ((f x).distinct image) (list_all (λ (c : CursorState). c.distinct image) (map f xs)) all in (split.0, go xs split.1)

-- the children's reads are those of the merge
pub merge_spent : {K : Type 0} (f : K → CursorState) (d : Direction) (order : List ℕ) (image : Image) (k : List ℕ) (xs : List K) (old new : State) → Reads (total (λ c. (f c).reads_to image k None) xs) (total (λ c. (f c).asked_to image k None) xs) old new →
    Reads ((merge_state d order (map f xs)).reads_to image k None) ((merge_state d order (map f xs)).asked_to image k None) old new
merge_spent f d order image k xs old new spent =
    let er = total-map f (λ (s : CursorState). s.reads_to image k None) xs in
    let ea = total-map f (λ (s : CursorState). s.asked_to image k None) xs in
    record { reads = omega (arith, er, spent.reads); asked = omega (arith, ea, spent.asked) }

-- of the files as they were at the start
module _ {K : Type 0} (f : K → CursorState) (whole steady : K → Image → Type 0) (start mid new : State) (tells : mid.tells ≡ start.tells) (same : Tells start → Same start mid) (y z : K) (k : List ℕ) where
  pub seek_spent : (Tells mid → whole y (seen mid) → (f y).distinct (seen mid) ≡ true → Reads ((f y).reads_to (seen mid) k None) ((f y).asked_to (seen mid) k None) mid new) →
      Tells start → whole y (seen start) → (f y).distinct (seen start) ≡ true → Reads ((f y).reads_to (seen start) k None) ((f y).asked_to (seen start) k None) mid new
  seek_spent next told is one =
      let e = image_same start mid (same told) in
      let now = sym e in
      subst (λ (image : Image). Reads ((f y).reads_to image k None) ((f y).asked_to image k None) mid new) e
      (next (subst (λ b. IsTrue b) (sym tells) told) (subst (whole y) now is) (subst (λ (image : Image). (f y).distinct image ≡ true) now one))

  pub run_spent : (Tells mid → whole y (seen mid) → steady y (seen mid) → (f y).distinct (seen mid) ≡ true → (f y).sought k ≡ true → IsWithinEnd (f z) (seen mid) k) →
      Tells start → whole y (seen start) → steady y (seen start) → (f y).distinct (seen start) ≡ true → (f y).sought k ≡ true → IsWithinEnd (f z) (seen start) k
  run_spent next told is stands one key =
      let e = image_same start mid (same told) in
      let now = sym e in
      subst (λ (image : Image). IsWithinEnd (f z) image k) e
      (next (subst (λ b. IsTrue b) (sym tells) told) (subst (whole y) now is) (subst (steady y) now stands) (subst (λ (image : Image). (f y).distinct image ≡ true) now one) key)

pub snapshot_end : (number : ℕ) (placed : Bool) (s : CursorState) (image : Image) (k : List ℕ) → IsWithinEnd s image k → IsWithinEnd (snapshot_state number placed s) image k
snapshot_end number placed s image k end = record { reads = end.reads; asked = end.asked }

-- after a seek that gave t, and the way on to u
pub snapshot_spent : (s t u : CursorState) (image : Image) (k : List ℕ) (start mid new : State) → SameList s t → SameList t u → Counts t.reads t.asked 0 start mid → CountsStep t u mid new → IsWithinEnd u image k → Reads (s.reads_to image k None) (s.asked_to image k None) start new
snapshot_spent s t u image k start mid new first second seek step end = record {
  reads = omega (arith, first.reads_to image k None, second.reads_to image k None, seek.reads.1, step.reads, step.disk.reads.1, end.reads);
  asked = omega (arith, first.asked_to image k None, second.asked_to image k None, seek.asked.1, step.asked, step.disk.asked.1, end.asked);
}
