-- Children of a merge and what they mean.
use Rattle.std.proofs.Common.{◌≡◌, ℕ, ◌<◌, Bool, true, false, List, [], ◌∷◌, length, map, get_or, suc, zero, Option, Some, None, is_some, is_none, IsSome, refl, sym, ◌∙◌, ap, subst, arith, rules, IfSome}
use Rattle.mr_iter.specs.Cursors.{CursorState}
use Rattle.std.specs.Ordering.{nat_cmp, is_lt, ordering_then}
use Rattle.mr_base.specs.declared.stop.Direction.{Direction}
use Rattle.mr_iter.specs.Versions.{Version, key_cmp}
use Rattle.mr_iter.specs.Merging.{current_at, rank_cmp, precedes, first_of, IsPut}
use Rattle.std.specs.List.{insert, remove}

-- the version that the child at i stands on
pub current_of : {K : Type 0} (f : K → CursorState) (xs : List K) (i : ℕ) (x : K) → i < length xs → x ≡ get_or xs i x → current_at (map f xs) i ≡ (f x).current
current_of f [] i x lt is = absurd (omega arith)
current_of f (y ∷ ys) zero x lt is = ap (λ (z : _). (f z).current) (sym is)
current_of f (y ∷ ys) (suc i) x lt is = current_of f ys i x (omega arith) is

pub below_children : {K : Type 0} (f : K → CursorState) (xs : List K) (i : ℕ) → is_some (current_at (map f xs) i) ≡ true → i < length xs
below_children f [] i is = cc
below_children f (y ∷ ys) zero is = omega arith
below_children f (y ∷ ys) (suc i) is = omega (arith, below_children f ys i is)

pub some_by : {X : Type 0} (o : Option X) → is_some o ≡ true → IsSome o
some_by None is = cc
some_by (Some x) is = search rules

pub some_child : {K : Type 0} (f : K → CursorState) (xs : List K) (i : ℕ) (x : K) → i < length xs → x ≡ get_or xs i x → is_some (current_at (map f xs) i) ≡ true → IsSome (f x).current
some_child f xs i x lt is live = some_by (f x).current (ap is_some (sym (current_of f xs i x lt is)) ∙ live)

rank_is : (d : Direction) (o p : Option Version) (i j : ℕ) (a b : List ℕ) (m n : ℕ) → IsSome o → IsSome p → IfSome o (λ v. a ≡ v.key) → IfSome p (λ v. b ≡ v.key) → IfSome o (λ v. m ≡ v.sequence) → IfSome p (λ v. n ≡ v.sequence) →
    is_lt (ordering_then (ordering_then (key_cmp d a b) (nat_cmp n m)) (nat_cmp i j)) ≡ rank_cmp d o p i j
rank_is d None p i j a b m n live live' ka kb sm sn = cc
rank_is d (Some v) None i j a b m n live live' ka kb sm sn = cc
rank_is d (Some v) (Some w) i j a b m n live live' ka kb sm sn = rw (ka, kb, sm, sn)

-- what the comparisons of two children say
pub precedes_is : {K : Type 0} (f : K → CursorState) (d : Direction) (xs : List K) (i j : ℕ) (x y : K) (a b : List ℕ) (m n : ℕ) →
    i < length xs → j < length xs → x ≡ get_or xs i x → y ≡ get_or xs j y → IsSome (f x).current → IsSome (f y).current →
    IfSome (f x).current (λ v. a ≡ v.key) → IfSome (f y).current (λ v. b ≡ v.key) → IfSome (f x).current (λ v. m ≡ v.sequence) → IfSome (f y).current (λ v. n ≡ v.sequence) →
    is_lt (ordering_then (ordering_then (key_cmp d a b) (nat_cmp n m)) (nat_cmp i j)) ≡ precedes d (map f xs) i j
precedes_is f d xs i j x y a b m n lt lt' at at' live live' ka kb sm sn =
    rw (current_of f xs i x lt at, current_of f xs j y lt' at') (rank_is d (f x).current (f y).current i j a b m n live live' ka kb sm sn)

pub live_by : (o p : Option Version) (b : Bool) → o ≡ p → b ≡ is_none p → b ≡ false → is_some o ≡ true
live_by None p b e is not = cc
live_by (Some v) p b e is not = refl

pub end_by : (o p : Option Version) (b : Bool) → o ≡ p → b ≡ is_none p → b ≡ true → is_some o ≡ false
end_by None p b e is so = refl
end_by (Some v) p b e is so = cc

pub put_none : (cs : List CursorState) (j : ℕ) (old : List ℕ) → is_some (current_at cs j) ≡ false → IsPut cs j old old
put_none cs j old end = record { live = λ live. cc; at_end = λ _. refl }

pub put_one : (cs : List CursorState) (j : ℕ) (old new : List ℕ) → is_some (current_at cs j) ≡ true → (place : ℕ) × (new ≡ insert old place j) → IsPut cs j old new
put_one cs j old new live at = record { live = λ _. at; at_end = λ end. cc }

pub front_below : {K : Type 0} (f : K → CursorState) (xs : List K) (order : List ℕ) → is_some (first_of (map f xs) order) ≡ true → get_or order 0 0 < length xs
front_below f xs [] is = cc
front_below f xs (j ∷ js) is = below_children f xs j is

pub front_current : {K : Type 0} (f : K → CursorState) (xs : List K) (order : List ℕ) (x : K) → is_some (first_of (map f xs) order) ≡ true → x ≡ get_or xs (get_or order 0 0) x → (f x).current ≡ first_of (map f xs) order
front_current f xs [] x is at = cc
front_current f xs (j ∷ js) x is at = sym (current_of f xs j x (below_children f xs j is) at)

pub some_front : (o : Option Version) (cs : List CursorState) (order : List ℕ) → o ≡ first_of cs order → is_some (first_of cs order) ≡ true → is_some o ≡ true
some_front o cs order e is = ap is_some e ∙ is

pub order_split : (cs : List CursorState) (order : List ℕ) (j : ℕ) → is_some (first_of cs order) ≡ true → j ≡ get_or order 0 j → order ≡ j ∷ remove order 0
order_split cs [] j is at = cc
order_split cs (k ∷ ks) j is at = cc

pub front_some : {K : Type 0} (f : K → CursorState) (o : Option Version) (ds xs : List K) (order : List ℕ) → o ≡ first_of (map f ds) order → ds ≡ xs → is_some (first_of (map f xs) order) ≡ true → IsSome o
front_some {K} f o ds xs order e same is = ap is_some (e ∙ ap (λ (zs : List K). first_of (map f zs) order) same) ∙ is

pub front_if : {K : Type 0} (f : K → CursorState) (P : Version → Type 0) (o : Option Version) (ds xs : List K) (order : List ℕ) → o ≡ first_of (map f ds) order → ds ≡ xs → IfSome o P → IfSome (first_of (map f xs) order) P
front_if {K} f P o ds xs order e same holds = subst (λ (p : Option Version). IfSome p P) (e ∙ ap (λ (zs : List K). first_of (map f zs) order) same) holds

pub first_below : {K : Type 0} (f : K → CursorState) (xs : List K) (order : List ℕ) (j : ℕ) → is_some (first_of (map f xs) order) ≡ true → j ≡ get_or order 0 j → j < length xs
first_below f xs [] j is at = cc
first_below f xs (k ∷ ks) j is at = rw at (below_children f xs k is)

pub first_live : {K : Type 0} (f : K → CursorState) (xs : List K) (order : List ℕ) (j : ℕ) (x : K) → is_some (first_of (map f xs) order) ≡ true → j ≡ get_or order 0 j → x ≡ get_or xs j x → IsSome (f x).current
first_live f xs [] j x is at here = cc
first_live f xs (k ∷ ks) j x is at here = some_child f xs j x (first_below f xs (k ∷ ks) j is at) here (ap (λ (i : ℕ). is_some (current_at (map f xs) i)) at ∙ is)
