-- A merge by what its children's files have.
use Rattle.std.specs.Prelude.{◌≡◌, ℕ, List, [], ◌∷◌, ◌++◌, map, refl, Option, Some, None}
use Rattle.std.proofs.Common.{sym, ◌∙◌, ap, inl, inr, arith}
use Rattle.std.specs.List.{AllByRecursion, list_all}
use Rattle.mr_base.specs.Disk.{Image}
use Rattle.mr_base.specs.declared.stop.Direction.{Direction}
use Rattle.mr_iter.specs.Versions.{Version, version_cmp, joined, merged, others, is_strict, first_at}
use Rattle.mr_iter.specs.Cursors.{CursorState, SameFiles, SaysSame}
use Rattle.mr_iter.specs.Children.{AnyOf, total}
use Rattle.mr_iter.specs.Merging.{merge_state, first_of, lists, lefts, IsAt}
use Rattle.mr_iter.specs.MergePlaces.{IsMergeSteady}
use Rattle.mr_iter.specs.Places.{left_by, in_place_by}

pub each_split : {X : Type 0} (P : X → Type 0) (ys zs : List X) → AllByRecursion P (ys ++ zs) → AllByRecursion P ys × AllByRecursion P zs
each_split P [] zs all = (tt, all)
each_split P (y ∷ ys) zs all = let both = each_split P ys zs all.1 in ((all.0, both.0), both.1)

module _ {K : Type 0} (f : K → CursorState) (whole : K → Image → Type 0) (offends : K → Image → ℕ → ℕ → Type 0) where
  -- a child with an offence isn't whole
  pub merge_not_whole : ((c : K) (image : Image) (file at : ℕ) → offends c image file at → whole c image → ⊥) → (xs : List K) (image : Image) (file at : ℕ) → AnyOf (λ c. offends c image file at) xs → AllByRecursion (λ c. whole c image) xs → ⊥
  merge_not_whole law [] image file at any all = any
  merge_not_whole law (x ∷ xs) image file at (inl here) all = law x image file at here all.0
  merge_not_whole law (x ∷ xs) image file at (inr later) all = merge_not_whole law xs image file at later all.1

  pub merge_offends_by_files : ((c : K) (i j : Image) (file at : ℕ) → SameFiles (f c).files i j → offends c i file at → offends c j file at) →
      (d : Direction) (order : List ℕ) (xs : List K) (i j : Image) (file at : ℕ) → SameFiles (merge_state d order (map f xs)).files i j → AnyOf (λ c. offends c i file at) xs → AnyOf (λ c. offends c j file at) xs
  merge_offends_by_files law d order [] i j file at same any = any
  merge_offends_by_files law d order (x ∷ xs) i j file at same (inl here) = inl (law x i j file at (each_split (λ f. i f ≡ j f) (f x).files (joined (map (λ (c : CursorState). c.files) (map f xs))) same).0 here)
  merge_offends_by_files law d order (x ∷ xs) i j file at same (inr later) = inr (merge_offends_by_files law d order xs i j file at (each_split (λ f. i f ≡ j f) (f x).files (joined (map (λ (c : CursorState). c.files) (map f xs))) same).1 later)

-- By two images that have the same in all its files.
module _ {K : Type 0} (f : K → CursorState) (whole steady : K → Image → Type 0)
    (law : (c : K) (i j : Image) → SameFiles (f c).files i j → whole c i → whole c j × (steady c i → steady c j) × SaysSame (f c) i j) (d : Direction) (i j : Image) where
  abbrev Shared : List K → Type 0
  Shared xs = AllByRecursion (λ file. i file ≡ j file) (joined (map (λ (c : CursorState). c.files) (map f xs)))

  parts : (x : K) (xs : List K) → Shared (x ∷ xs) → SameFiles (f x).files i j × Shared xs
  parts x xs same = each_split (λ file. i file ≡ j file) (f x).files (joined (map (λ (c : CursorState). c.files) (map f xs))) same

  whole_by : (xs : List K) → Shared xs → AllByRecursion (λ c. whole c i) xs → AllByRecursion (λ c. whole c j) xs
  whole_by [] same all = tt
  whole_by (x ∷ xs) same all = let split = parts x xs same in ((law x i j split.0 all.0).0, whole_by xs split.1 all.1)

  steady_by : (xs : List K) → Shared xs → AllByRecursion (λ c. whole c i) xs → AllByRecursion (λ c. steady c i) xs → AllByRecursion (λ c. steady c j) xs
  steady_by [] same all stands = tt
  steady_by (x ∷ xs) same all stands = let split = parts x xs same in ((law x i j split.0 all.0).1 stands.0, steady_by xs split.1 all.1 stands.1)

  lists_by : (xs : List K) → Shared xs → AllByRecursion (λ c. whole c i) xs → lists (map f xs) i ≡ lists (map f xs) j
  lists_by [] same all = refl
  lists_by (x ∷ xs) same all =
      let split = parts x xs same in
      let e = (law x i j split.0 all.0).2.versions in
      let es = lists_by xs split.1 all.1 in cc

  lefts_by : (xs : List K) → Shared xs → AllByRecursion (λ c. whole c i) xs → lefts (map f xs) i ≡ lefts (map f xs) j
  lefts_by [] same all = refl
  lefts_by (x ∷ xs) same all =
      let split = parts x xs same in
      let e = left_by (f x) i j (law x i j split.0 all.0).2 in
      let es = lefts_by xs split.1 all.1 in cc

  distinct_by : (xs : List K) → Shared xs → AllByRecursion (λ c. whole c i) xs → list_all (λ (c : CursorState). c.distinct i) (map f xs) ≡ list_all (λ (c : CursorState). c.distinct j) (map f xs)
  distinct_by [] same all = refl
  distinct_by (x ∷ xs) same all =
      let split = parts x xs same in
      let e = (law x i j split.0 all.0).2.distinct in
      let es = distinct_by xs split.1 all.1 in cc

  sums_by : (g : CursorState → Image → List ℕ → Option Version → ℕ) → ((s : CursorState) → SaysSame s i j → (key : List ℕ) (place : Option Version) → g s i key place ≡ g s j key place) →
      (xs : List K) → Shared xs → AllByRecursion (λ c. whole c i) xs → (key : List ℕ) (place : Option Version) →
      total (λ (c : CursorState). g c i key (first_at d place (c.versions i))) (map f xs) ≡ total (λ (c : CursorState). g c j key (first_at d place (c.versions j))) (map f xs)
  sums_by g says [] same all key place = refl
  sums_by g says (x ∷ xs) same all key place =
      let split = parts x xs same in
      let here = (law x i j split.0 all.0).2 in
      let e : g (f x) i key (first_at d place ((f x).versions i)) ≡ g (f x) j key (first_at d place ((f x).versions j)) =
      says (f x) here key (first_at d place ((f x).versions i)) ∙ ap (λ (vs : List Version). g (f x) j key (first_at d place vs)) here.versions in
      let es = sums_by g says xs split.1 all.1 key place in
      omega (arith, e, es)

  at_by : (o : Option Version) (xs : List K) → Shared xs → AllByRecursion (λ c. whole c i) xs → AllByRecursion (λ c. IsAt d o i (f c)) xs → AllByRecursion (λ c. IsAt d o j (f c)) xs
  at_by o [] same all ats = tt
  at_by None (x ∷ xs) same all ats = (tt, at_by None xs (parts x xs same).1 all.1 ats.1)
  at_by (Some v) (x ∷ xs) same all ats =
      let split = parts x xs same in
      (ap (first_at d (Some v)) (sym (law x i j split.0 all.0).2.versions) ∙ ats.0, at_by (Some v) xs split.1 all.1 ats.1)

  merge_says : (order : List ℕ) (xs : List K) → Shared xs → AllByRecursion (λ c. whole c i) xs → SaysSame (merge_state d order (map f xs)) i j
  merge_says order xs same all = record {
    versions = ap (merged (version_cmp d)) (lists_by xs same all);
    rest = ap (λ (vss : List (List Version)). others (merged (version_cmp d) vss)) (lefts_by xs same all);
    distinct = let e = distinct_by xs same all in let es = lists_by xs same all in cc;
    reads_to = λ key place. sums_by (λ c. c.reads_to) (λ s says. says.reads_to) xs same all key place;
    asked_to = λ key place. sums_by (λ c. c.asked_to) (λ s says. says.asked_to) xs same all key place;
  }

  merge_steady_by : (order : List ℕ) (xs : List K) → Shared xs → AllByRecursion (λ c. whole c i) xs → IsMergeSteady f steady d xs order i → IsMergeSteady f steady d xs order j
  merge_steady_by order xs same all stands = record {
    children = steady_by xs same all stands.children;
    place = in_place_by (merge_state d order (map f xs)) i j (merge_says order xs same all) stands.place;
    each = λ strict. at_by (first_of (map f xs) order) xs same all (stands.each (ap (λ (vss : List (List Version)). is_strict d (merged (version_cmp d) vss)) (lists_by xs same all) ∙ strict));
  }

  pub merge_by_files : (order : List ℕ) (xs : List K) → SameFiles (merge_state d order (map f xs)).files i j → AllByRecursion (λ c. whole c i) xs →
      AllByRecursion (λ c. whole c j) xs × (IsMergeSteady f steady d xs order i → IsMergeSteady f steady d xs order j) × SaysSame (merge_state d order (map f xs)) i j
  merge_by_files order xs same all = (whole_by xs same all, merge_steady_by order xs same all, merge_says order xs same all)
