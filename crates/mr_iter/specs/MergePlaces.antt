-- Where a merge stands, and what it costs.
use Rattle.std.specs.Prelude.{◌≡◌, ℕ, ◌≤◌, true, List, [], ◌∷◌, map, Option, Some, None}
use Rattle.std.proofs.Common.{sym, subst, arith}
use Rattle.std.specs.List.{AllByRecursion, list_all}
use Rattle.mr_base.specs.Disk.{Image}
use Rattle.mr_base.specs.declared.stop.Direction.{Direction}
use Rattle.mr_iter.specs.Versions.{Version, version_cmp, merged, is_strict, first_at}
use Rattle.mr_iter.specs.Cursors.{CursorState, IsInPlace, IsWithinBound, GrowsToEnd}
use Rattle.mr_iter.specs.Children.{total}
use Rattle.mr_iter.specs.Merging.{first_of, lists, merge_state, IsAt}
use Rattle.mr_iter.specs.Places.{and_split}

-- its children are steady, it stands in its list, and each child stands on its first version at or behind that of the merge
pub record IsMergeSteady {K : Type 0} (f : K → CursorState) (steady : K → Image → Type 0) (d : Direction) (xs : List K) (order : List ℕ) (image : Image) : Type 0 where
  pub children : AllByRecursion (λ c. steady c image) xs
  pub place : IsInPlace (merge_state d order (map f xs)) image
  pub each : is_strict d (merged (version_cmp d) (lists (map f xs) image)) ≡ true → AllByRecursion (λ c. IsAt d (first_of (map f xs) order) image (f c)) xs

module _ {K : Type 0} (f : K → CursorState) (whole steady : K → Image → Type 0)
    (costs : (c : K) (image : Image) (k : List ℕ) → whole c image → steady c image → (f c).distinct image ≡ true → (f c).sought k ≡ true → IsWithinBound (f c) image k)
    (to_end : (c : K) (image : Image) (k : List ℕ) (place : Option Version) → whole c image → GrowsToEnd (f c) image k place) (d : Direction) (image : Image) (k : List ℕ) where
  child_bound : (o : Option Version) (x : K) → whole x image → steady x image → (f x).distinct image ≡ true → (f x).sought k ≡ true → IsAt d o image (f x) →
      ((f x).reads ≤ (f x).reads_to image k (first_at d o ((f x).versions image))) × ((f x).asked ≤ (f x).asked_to image k (first_at d o ((f x).versions image)))
  child_bound None x w s one key at =
      let b = costs x image k w s one key in
      let e = to_end x image k (f x).current w in
      (omega (arith, b.reads, e.reads), omega (arith, b.asked, e.asked))
  child_bound (Some v) x w s one key at =
      let b = costs x image k w s one key in
      (subst (λ (p : Option Version). (f x).reads ≤ (f x).reads_to image k p) (sym at) b.reads, subst (λ (p : Option Version). (f x).asked ≤ (f x).asked_to image k p) (sym at) b.asked)

  all_bounds : (o : Option Version) (xs : List K) → AllByRecursion (λ c. whole c image) xs → AllByRecursion (λ c. steady c image) xs → list_all (λ (c : CursorState). c.distinct image) (map f xs) ≡ true → list_all (λ (c : CursorState). c.sought k) (map f xs) ≡ true → AllByRecursion (λ c. IsAt d o image (f c)) xs →
      (total (λ (c : CursorState). c.reads) (map f xs) ≤ total (λ (c : CursorState). c.reads_to image k (first_at d o (c.versions image))) (map f xs)) × (total (λ (c : CursorState). c.asked) (map f xs) ≤ total (λ (c : CursorState). c.asked_to image k (first_at d o (c.versions image))) (map f xs))
  all_bounds o [] ws ss ones keys ats = (omega arith, omega arith)
  all_bounds o (x ∷ xs) ws ss ones keys ats =
      let one = and_split ((f x).distinct image) (list_all (λ (c : CursorState). c.distinct image) (map f xs)) ones in
      let key = and_split ((f x).sought k) (list_all (λ (c : CursorState). c.sought k) (map f xs)) keys in
      let here = child_bound o x ws.0 ss.0 one.0 key.0 ats.0 in
      let later = all_bounds o xs ws.1 ss.1 one.1 key.1 ats.1 in
      (omega (arith, here.0, later.0), omega (arith, here.1, later.1))

  -- what a merge read is at most what its children may have read, each up to its first version at or behind the place
  pub merge_costs : (xs : List K) (order : List ℕ) → AllByRecursion (λ c. whole c image) xs → IsMergeSteady f steady d xs order image → (merge_state d order (map f xs)).distinct image ≡ true → (merge_state d order (map f xs)).sought k ≡ true → IsWithinBound (merge_state d order (map f xs)) image k
  merge_costs xs order ws s one key =
      let parts = and_split (list_all (λ (c : CursorState). c.distinct image) (map f xs)) (is_strict d (merged (version_cmp d) (lists (map f xs) image))) one in
      let all = all_bounds (first_of (map f xs) order) xs ws s.children parts.0 key (s.each parts.1) in
      record { reads = all.0; asked = all.1 }

  end_bounds : (o : Option Version) (xs : List K) → AllByRecursion (λ c. whole c image) xs →
      (total (λ (c : CursorState). c.reads_to image k (first_at d o (c.versions image))) (map f xs) ≤ total (λ (c : CursorState). c.reads_to image k None) (map f xs)) × (total (λ (c : CursorState). c.asked_to image k (first_at d o (c.versions image))) (map f xs) ≤ total (λ (c : CursorState). c.asked_to image k None) (map f xs))
  end_bounds o [] ws = (omega arith, omega arith)
  end_bounds o (x ∷ xs) ws =
      let here = to_end x image k (first_at d o ((f x).versions image)) ws.0 in
      let later = end_bounds o xs ws.1 in
      (omega (arith, here.reads, later.0), omega (arith, here.asked, later.1))

  pub merge_to_end : (xs : List K) (order : List ℕ) (place : Option Version) → AllByRecursion (λ c. whole c image) xs → GrowsToEnd (merge_state d order (map f xs)) image k place
  merge_to_end xs order place ws = let all = end_bounds place xs ws in record { reads = all.0; asked = all.1 }
