-- Lists whose items all go forward.
use Rattle.std.proofs.Common.{◌≡◌, ℕ, ◌<◌, zero, suc, List, [], ◌∷◌, ◌++◌, length, map, get_or, sym, subst, arith}
use Rattle.std.specs.List.{AllByRecursion}
use Rattle.mr_base.specs.declared.stop.Direction.{Direction}
use Rattle.mr_iter.specs.Cursors.{CursorState}
use Rattle.mr_iter.specs.Merging.{IsOneDirection}
use Rattle.mr_iter.specs.Order.{each-append}

-- the item at a place
pub all_at : {X : Type 0} (P : X → Type 0) (xs : List X) (i : ℕ) (x : X) → AllByRecursion P xs → i < length xs → x ≡ get_or xs i x → P x
all_at P [] i x all lt is = absurd (omega arith)
all_at P (y ∷ xs) zero x all lt is = subst P (sym is) all.0
all_at P (y ∷ xs) (suc i) x all lt is = all_at P xs i x all.1 (omega (arith, lt)) is

-- one item more
pub all_more : {X : Type 0} (P : X → Type 0) (xs ys : List X) (x : X) → ys ≡ xs ++ x ∷ [] → AllByRecursion P xs → P x → AllByRecursion P ys
all_more P xs ys x e all one = subst (AllByRecursion P) (sym e) (each-append P xs (x ∷ []) all (one, tt))

-- one cursor more
pub cursor_more : {X : Type 0} (f : X → CursorState) (d : Direction) (xs ys : List X) (x : X) → ys ≡ xs ++ x ∷ [] → IsOneDirection d (map f xs) → (f x).direction ≡ d → IsOneDirection d (map f ys)
cursor_more {X = X} f d xs ys x e all one = subst (λ zs. IsOneDirection d (map f zs)) (sym e) (go xs all)
  where
    go : (zs : List X) → IsOneDirection d (map f zs) → IsOneDirection d (map f (zs ++ x ∷ []))
    go [] all = (one, tt)
    go (z ∷ zs) all = (all.0, go zs all.1)
