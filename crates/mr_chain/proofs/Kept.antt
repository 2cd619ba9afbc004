-- What moves of the children keep of all of them.
use Rattle.std.proofs.Common.{◌≡◌, List, [], ◌∷◌, map, refl, ◌∙◌, arith}
use Rattle.std.specs.List.{AllByRecursion, list_all}
use Rattle.mr_base.specs.Disk.{Image}
use Rattle.mr_base.specs.declared.stop.Direction.{Direction}
use Rattle.mr_iter.specs.Versions.{joined}
use Rattle.mr_iter.specs.Cursors.{CursorState}
use Rattle.mr_iter.specs.Children.{Zipped, total, KeepsChild}
use Rattle.mr_iter.specs.Merging.{lists, IsOneDirection}

module _ {K : Type 0} (f : K → CursorState) (whole : K → Image → Type 0) (image : Image) (tells : Type 0) (d : Direction) where
  pub kept_files : (xs ys : List K) → Zipped (KeepsChild f whole image tells) xs ys → joined (map (λ (c : CursorState). c.files) (map f ys)) ≡ joined (map (λ (c : CursorState). c.files) (map f xs))
  kept_files [] [] all = refl
  kept_files [] (y ∷ ys) all = absurd all
  kept_files (x ∷ xs) [] all = absurd all
  kept_files (x ∷ xs) (y ∷ ys) all = let e = all.0.list.files in let es = kept_files xs ys all.1 in cc

  pub kept_lists : (xs ys : List K) → Zipped (KeepsChild f whole image tells) xs ys → (i : Image) → lists (map f ys) i ≡ lists (map f xs) i
  kept_lists [] [] all i = refl
  kept_lists [] (y ∷ ys) all i = absurd all
  kept_lists (x ∷ xs) [] all i = absurd all
  kept_lists (x ∷ xs) (y ∷ ys) all i = let e = all.0.list.versions i in let es = kept_lists xs ys all.1 i in cc

  pub kept_distinct : (xs ys : List K) → Zipped (KeepsChild f whole image tells) xs ys → (i : Image) → list_all (λ (c : CursorState). c.distinct i) (map f ys) ≡ list_all (λ (c : CursorState). c.distinct i) (map f xs)
  kept_distinct [] [] all i = refl
  kept_distinct [] (y ∷ ys) all i = absurd all
  kept_distinct (x ∷ xs) [] all i = absurd all
  kept_distinct (x ∷ xs) (y ∷ ys) all i = let e = all.0.list.distinct i in let es = kept_distinct xs ys all.1 i in cc

  pub kept_most : (xs ys : List K) → Zipped (KeepsChild f whole image tells) xs ys → total (λ (c : CursorState). c.most) (map f ys) ≡ total (λ (c : CursorState). c.most) (map f xs)
  kept_most [] [] all = refl
  kept_most [] (y ∷ ys) all = absurd all
  kept_most (x ∷ xs) [] all = absurd all
  kept_most (x ∷ xs) (y ∷ ys) all = let here = all.0.list.most in let later = kept_most xs ys all.1 in omega (arith, here, later)

  pub kept_whole : (xs ys : List K) → Zipped (KeepsChild f whole image tells) xs ys → tells → AllByRecursion (λ c. whole c image) xs → AllByRecursion (λ c. whole c image) ys
  kept_whole [] [] all told is = tt
  kept_whole [] (y ∷ ys) all told is = absurd all
  kept_whole (x ∷ xs) [] all told is = absurd all
  kept_whole (x ∷ xs) (y ∷ ys) all told is = (all.0.stays_whole told is.0, kept_whole xs ys all.1 told is.1)

  pub kept_direction : (xs ys : List K) → Zipped (KeepsChild f whole image tells) xs ys → IsOneDirection d (map f xs) → IsOneDirection d (map f ys)
  kept_direction [] [] all one = tt
  kept_direction [] (y ∷ ys) all one = absurd all
  kept_direction (x ∷ xs) [] all one = absurd all
  kept_direction (x ∷ xs) (y ∷ ys) all one = (all.0.list.direction ∙ one.0, kept_direction xs ys all.1 one.1)
