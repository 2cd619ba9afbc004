-- The child in which a chain stands.
use Rattle.std.proofs.Common.{◌≡◌, ℕ, ◌<◌, ◌≤◌, Bool, true, false, cond, List, [], ◌∷◌, length, map, get_or, suc, zero, Option, None, is_some, IsSome, IfSome, subst, refl, sym, ◌∙◌, ap, arith}
use Rattle.mr_iter.specs.Cursors.{CursorState}
use Rattle.mr_iter.specs.Versions.{Version}
use Rattle.mr_iter.specs.Merging.{current_at}

pub current_of : {K : Type 0} (f : K → CursorState) (xs : List K) (i : ℕ) (x : K) → i < length xs → x ≡ get_or xs i x → current_at (map f xs) i ≡ (f x).current
current_of f [] i x lt is = absurd (omega arith)
current_of f (y ∷ ys) zero x lt is = ap (λ (z : _). (f z).current) (sym is)
current_of f (y ∷ ys) (suc i) x lt is = current_of f ys i x (omega arith) is

pub below_children : {K : Type 0} (f : K → CursorState) (xs : List K) (i : ℕ) → is_some (current_at (map f xs) i) ≡ true → i < length xs
below_children f [] i is = cc
below_children f (y ∷ ys) zero is = omega arith
below_children f (y ∷ ys) (suc i) is = omega (arith, below_children f ys i is)

pub none_above : {K : Type 0} (f : K → CursorState) (xs : List K) (i : ℕ) → length xs ≤ i → current_at (map f xs) i ≡ None
none_above f [] i le = refl
none_above f (y ∷ ys) zero le = absurd (omega (arith, le))
none_above f (y ∷ ys) (suc i) le = none_above f ys i (omega (arith, le))

pub placed_some : (placed : Bool) (o : Option Version) → is_some (cond placed o None) ≡ true → is_some o ≡ true
placed_some true o is = is
placed_some false o is = cc

pub placed_is : (placed : Bool) (o : Option Version) → is_some (cond placed o None) ≡ true → cond placed o None ≡ o
placed_is true o is = refl
placed_is false o is = cc

pub child_live : {K : Type 0} (f : K → CursorState) (placed : Bool) (ds xs : List K) (here : ℕ) → ds ≡ xs → is_some (cond placed (current_at (map f xs) here) None) ≡ true → is_some (current_at (map f ds) here) ≡ true
child_live {K} f placed ds xs here same is = ap (λ (zs : List K). is_some (current_at (map f zs) here)) same ∙ placed_some placed (current_at (map f xs) here) is

pub child_some : {K : Type 0} (f : K → CursorState) (placed : Bool) (o : Option Version) (ds xs : List K) (here : ℕ) → o ≡ current_at (map f ds) here → ds ≡ xs → is_some (cond placed (current_at (map f xs) here) None) ≡ true → IsSome o
child_some {K} f placed o ds xs here e same is = ap is_some e ∙ child_live f placed ds xs here same is

pub child_if : {K : Type 0} (f : K → CursorState) (P : Version → Type 0) (placed : Bool) (o : Option Version) (ds xs : List K) (here : ℕ) → o ≡ current_at (map f ds) here → ds ≡ xs → is_some (cond placed (current_at (map f xs) here) None) ≡ true → IfSome o P → IfSome (cond placed (current_at (map f xs) here) None) P
child_if {K} f P placed o ds xs here e same is holds = subst (λ (p : Option Version). IfSome p P) (e ∙ ap (λ (zs : List K). current_at (map f zs) here) same ∙ sym (placed_is placed (current_at (map f xs) here) is)) holds
