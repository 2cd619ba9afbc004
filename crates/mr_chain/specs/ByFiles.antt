-- Many cursors by two images that have the same in all their files.
use Rattle.std.specs.Prelude.{◌≡◌, List, [], ◌∷◌, map, refl}
use Rattle.std.specs.List.{AllByRecursion, list_all}
use Rattle.mr_base.specs.Disk.{Image}
use Rattle.mr_base.specs.declared.stop.Direction.{Direction}
use Rattle.mr_iter.specs.Versions.{joined}
use Rattle.mr_iter.specs.Cursors.{CursorState, SameFiles, SaysSame}
use Rattle.mr_iter.specs.Merging.{lists}
use Rattle.mr_iter.specs.MergeFiles.{each_split}

module _ {K : Type 0} (f : K → CursorState) (whole steady : K → Image → Type 0)
    (law : (c : K) (i j : Image) → SameFiles (f c).files i j → whole c i → whole c j × (steady c i → steady c j) × SaysSame (f c) i j) (d : Direction) (i j : Image) where
  abbrev Shared : List K → Type 0
  Shared xs = AllByRecursion (λ file. i file ≡ j file) (joined (map (λ (c : CursorState). c.files) (map f xs)))

  parts : (x : K) (xs : List K) → Shared (x ∷ xs) → SameFiles (f x).files i j × Shared xs
  parts x xs same = each_split (λ file. i file ≡ j file) (f x).files (joined (map (λ (c : CursorState). c.files) (map f xs))) same

  pub whole_by : (xs : List K) → Shared xs → AllByRecursion (λ c. whole c i) xs → AllByRecursion (λ c. whole c j) xs
  whole_by [] same all = tt
  whole_by (x ∷ xs) same all = let split = parts x xs same in ((law x i j split.0 all.0).0, whole_by xs split.1 all.1)

  pub lists_by : (xs : List K) → Shared xs → AllByRecursion (λ c. whole c i) xs → lists (map f xs) i ≡ lists (map f xs) j
  lists_by [] same all = refl
  lists_by (x ∷ xs) same all =
      let split = parts x xs same in
      let e = (law x i j split.0 all.0).2.versions in
      let es = lists_by xs split.1 all.1 in cc

  pub distinct_by : (xs : List K) → Shared xs → AllByRecursion (λ c. whole c i) xs → list_all (λ (c : CursorState). c.distinct i) (map f xs) ≡ list_all (λ (c : CursorState). c.distinct j) (map f xs)
  distinct_by [] same all = refl
  distinct_by (x ∷ xs) same all =
      let split = parts x xs same in
      let e = (law x i j split.0 all.0).2.distinct in
      let es = distinct_by xs split.1 all.1 in cc
