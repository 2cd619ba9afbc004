-- How a child is put in a queue.
use Rattle.std.proofs.Common.{◌≡◌, ℕ, ◌+◌, ◌<◌, Bool, true, false, ◌||◌, List, [], ◌∷◌, length, get_or, take, drop, suc, zero, Option, Some, None, is_some, nat_eq, refl, sym, ap, subst, inl, inr, arith}
use Rattle.std.specs.List.{AllByRecursion, list_any, insert}
use Rattle.std.specs.declared.cmp.Ordering.{Ordering}
use Rattle.std.specs.declared.cmp.Ordering.TheVariants.{Less, Equal, Greater}
use Rattle.std.specs.Ordering.{nat_cmp, is_lt, ordering_then, ordering_reverse, on, then_cmp}
use Rattle.std.specs.Cmp.{IsTotalOrder}
use Rattle.std.proofs.lemmas.Cmp.{on_total, then_total, nat_cmp_total}
use Rattle.std.proofs.lemmas.Bool.{cases_eq, cases_Bool}
use Rattle.std.proofs.lemmas.Bool.Decides.{nat_tests}
use Rattle.mr_base.specs.declared.stop.Direction.{Direction}
use Rattle.mr_iter.specs.Versions.{Version, version_cmp}
use Rattle.mr_iter.specs.Order.{version_total}
use Rattle.mr_iter.specs.Cursors.{CursorState}
use Rattle.mr_iter.specs.Merging.{current_at, rank_cmp, precedes, IsRanked, IsQueue, IsPut, HasAll}

-- versions with their children's numbers are totally ordered
placed_total : (d : Direction) → IsTotalOrder (then_cmp (on (λ (p : Version × ℕ). p.0) (version_cmp d)) (on (λ (p : Version × ℕ). p.1) nat_cmp))
placed_total d = then_total (on_total (λ (p : Version × ℕ). p.0) (version_total d)) (on_total (λ (p : Version × ℕ). p.1) nat_cmp_total)

less_of : (a : Ordering) → is_lt a ≡ true → a ≡ Less
less_of Less is = refl
less_of Equal is = cc
less_of Greater is = cc

pub rank-trans : (d : Direction) (o p q : Option Version) (i j k : ℕ) → rank_cmp d o p i j ≡ true → rank_cmp d p q j k ≡ true → rank_cmp d o q i k ≡ true
rank-trans d None p q i j k a b = cc
rank-trans d (Some u) None q i j k a b = cc
rank-trans d (Some u) (Some v) None i j k a b = cc
rank-trans d (Some u) (Some v) (Some w) i j k a b = ap is_lt ((placed_total d).trans (u, i) (v, j) (w, k) (less_of _ a) (less_of _ b))

not_less : (a b : Ordering) (i j : ℕ) → b ≡ ordering_reverse a → (i ≡ j → ⊥) → is_lt (ordering_then a (nat_cmp i j)) ≡ false → is_lt (ordering_then b (nat_cmp j i)) ≡ true
not_less Less b i j e other is = cc
not_less Equal b i j e other is = rw e (grind (arith, nat_tests))
not_less Greater b i j e other is = rw e

pub rank-total : (d : Direction) (o p : Option Version) (i j : ℕ) → is_some o ≡ true → is_some p ≡ true → (i ≡ j → ⊥) → rank_cmp d o p i j ≡ false → rank_cmp d p o j i ≡ true
rank-total d None p i j a b other is = cc
rank-total d (Some v) None i j a b other is = cc
rank-total d (Some v) (Some w) i j a b other is = not_less (version_cmp d v w) (version_cmp d w v) i j ((version_total d).antisymm w v) other is

pub each-insert : (P : ℕ → Type 0) (xs : List ℕ) (p x : ℕ) → P x → AllByRecursion P xs → AllByRecursion P (insert xs p x)
each-insert P [] zero x here all = (here, tt)
each-insert P [] (suc p) x here all = (here, tt)
each-insert P (y ∷ ys) zero x here all = (here, all)
each-insert P (y ∷ ys) (suc p) x here all = (all.0, each-insert P ys p x here all.1)

pub any-insert : (i : ℕ) (xs : List ℕ) (p x : ℕ) → list_any (nat_eq i) (x ∷ xs) ≡ true → list_any (nat_eq i) (insert xs p x) ≡ true
any-insert i [] zero x is = is
any-insert i [] (suc p) x is = is
any-insert i (y ∷ ys) zero x is = is
any-insert i (y ∷ ys) (suc p) x is = one (nat_eq i x) (nat_eq i y) (list_any (nat_eq i) ys) (list_any (nat_eq i) (insert ys p x)) is (any-insert i ys p x)
  where
    one : (a b c e : Bool) → (a || (b || c)) ≡ true → ((a || c) ≡ true → e ≡ true) → (b || e) ≡ true
    one a true c e is so = refl
    one true false c e is so = so refl
    one false false c e is so = so is

module _ (d : Direction) (cs : List CursorState) (j : ℕ) where
  behind_all : (order : List ℕ) (p : ℕ) → IsRanked d cs order → (p < length order → precedes d cs j (get_or order p 0) ≡ true) → AllByRecursion (λ k. precedes d cs j k ≡ true) (drop p order)
  behind_all [] zero ranked here = tt
  behind_all [] (suc p) ranked here = tt
  behind_all (k ∷ ks) zero ranked here = (here (omega arith), after ks ranked.0)
    where
      after : (ms : List ℕ) → AllByRecursion (λ m. precedes d cs k m ≡ true) ms → AllByRecursion (λ m. precedes d cs j m ≡ true) ms
      after [] all = tt
      after (m ∷ ms) all = (rank-trans d (current_at cs j) (current_at cs k) (current_at cs m) j k m (here (omega arith)) all.0, after ms all.1)
  behind_all (k ∷ ks) (suc p) ranked here = behind_all ks p ranked.1 (λ lt. here (omega (arith, lt)))

  ranked-insert : (order : List ℕ) (p : ℕ) → is_some (current_at cs j) ≡ true → AllByRecursion (λ k. is_some (current_at cs k) ≡ true) order → AllByRecursion (λ k. nat_eq j k ≡ false) order → AllByRecursion (λ k. precedes d cs j k ≡ false) (take p order) → AllByRecursion (λ k. precedes d cs j k ≡ true) (drop p order) → IsRanked d cs order → IsRanked d cs (insert order p j)
  ranked-insert [] zero live all other before behind ranked = (tt, tt)
  ranked-insert [] (suc p) live all other before behind ranked = (tt, tt)
  ranked-insert (k ∷ ks) zero live all other before behind ranked = (behind, ranked)
  ranked-insert (k ∷ ks) (suc p) live all other before behind ranked = (
    each-insert (λ m. precedes d cs k m ≡ true) ks p j
        (rank-total d (current_at cs j) (current_at cs k) j k live all.0 (λ same. let e = other.0 in grind (arith, nat_tests)) before.0) ranked.0,
    ranked-insert ks p live all.1 other.1 before.1 behind ranked.1,
  )

  pub IsQueue-insert : (order : List ℕ) (p : ℕ) → is_some (current_at cs j) ≡ true → AllByRecursion (λ k. nat_eq j k ≡ false) order → AllByRecursion (λ k. precedes d cs j k ≡ false) (take p order) → (p < length order → precedes d cs j (get_or order p 0) ≡ true) → IsQueue d cs order → IsQueue d cs (insert order p j)
  IsQueue-insert order p live other before here queue = record {
    live = each-insert (λ k. is_some (current_at cs k) ≡ true) order p j live queue.live;
    ranked = ranked-insert order p live queue.live other before (behind_all order p queue.ranked here) queue.ranked;
  }

pub each-take_more : (P : ℕ → Type 0) (xs : List ℕ) (n : ℕ) → n < length xs → AllByRecursion P (take n xs) → P (get_or xs n 0) → AllByRecursion P (take (n + 1) xs)
each-take_more P [] n lt all here = absurd (omega arith)
each-take_more P (x ∷ xs) zero lt all here = (here, tt)
each-take_more P (x ∷ xs) (suc n) lt all here = let e : suc (n + 1) ≡ suc n + 1 = omega arith in subst (λ (m : ℕ). AllByRecursion P (take m (x ∷ xs))) e (all.0, each-take_more P xs n (omega arith) all.1 here)

pub each-get : (P : ℕ → Type 0) (xs : List ℕ) (n d : ℕ) → n < length xs → AllByRecursion P xs → P (get_or xs n d)
each-get P [] n d lt all = absurd (omega arith)
each-get P (x ∷ xs) zero d lt all = all.0
each-get P (x ∷ xs) (suc n) d lt all = each-get P xs n d (omega arith) all.1

pub put_each : (P : ℕ → Type 0) (cs : List CursorState) (j : ℕ) (old new : List ℕ) → IsPut cs j old new → P j → AllByRecursion P old → AllByRecursion P new
put_each P cs j old new put here all = elim (cases_Bool (is_some (current_at cs j))) [
  | inl live ↦ let at = put.live live in subst (AllByRecursion P) (sym at.1) (each-insert P old at.0 j here all)
  | inr end ↦ subst (AllByRecursion P) (sym (put.at_end end)) all
]

-- who was in the queue is in it, and j is if it isn't at its end
pub put_any : (cs : List CursorState) (j : ℕ) (old new : List ℕ) (i : ℕ) → IsPut cs j old new → list_any (nat_eq i) old ≡ true → list_any (nat_eq i) new ≡ true
put_any cs j old new i put is = elim (cases_Bool (is_some (current_at cs j))) [
  | inl live ↦ let at = put.live live in rw at.1 (any-insert i old at.0 j (or_right (nat_eq i j) (list_any (nat_eq i) old) is))
  | inr end ↦ rw (put.at_end end) is
]
  where
    or_right : (a b : Bool) → b ≡ true → (a || b) ≡ true
    or_right true b is = refl
    or_right false b is = is

pub put_here : (cs : List CursorState) (j : ℕ) (old new : List ℕ) → IsPut cs j old new → is_some (current_at cs j) ≡ true → list_any (nat_eq j) new ≡ true
put_here cs j old new put live = let at = put.live live in rw at.1 (any-insert j old at.0 j (let e : nat_eq j j ≡ true = grind (arith, nat_tests) in rw e))

pub put_all : (cs : List CursorState) (n : ℕ) (old new : List ℕ) → IsPut cs n old new → HasAll n cs old → HasAll (n + 1) cs new
put_all cs n old new put all i lt live = elim (cases_eq i n) [
  | inl same ↦ subst (λ (m : ℕ). list_any (nat_eq m) new ≡ true) (sym same) (put_here cs n old new put (subst (λ (m : ℕ). is_some (current_at cs m) ≡ true) same live))
  | inr other ↦ put_any cs n old new i put (all i (omega arith) live)
]

pub others_than : (n : ℕ) (ks : List ℕ) → AllByRecursion (λ k. k < n) ks → AllByRecursion (λ k. nat_eq n k ≡ false) ks
others_than n [] all = tt
others_than n (k ∷ ks) all = (let lt : k < n = all.0 in grind (arith, nat_tests), others_than n ks all.1)

pub below_next : (n : ℕ) (ks : List ℕ) → AllByRecursion (λ k. k < n) ks → AllByRecursion (λ k. k < n + 1) ks
below_next n [] all = tt
below_next n (k ∷ ks) all = (let lt : k < n = all.0 in omega arith, below_next n ks all.1)
