-- The newest version in a list in order.
use Rattle.std.proofs.Common.{◌≡◌, ◌&&◌, ℕ, ◌<◌, ◌≤◌, Bool, true, false, cond, not, nat_lt, List, [], ◌∷◌, ◌++◌, map, Option, Some, None, refl, sym, ◌∙◌, ap, subst, inl, inr, arith}
use Rattle.std.specs.List.{AllByRecursion}
use Rattle.std.specs.declared.cmp.Ordering.{Ordering}
use Rattle.std.specs.declared.cmp.Ordering.TheVariants.{Less, Equal, Greater}
use Rattle.std.specs.Cmp.Lexicographic.{slice_cmp}
use Rattle.std.specs.Ordering.{nat_cmp, is_eq, is_gt, ordering_then}
use Rattle.std.proofs.lemmas.Cmp.{nat_list_cmp_total, tied_itself}
use Rattle.std.proofs.lemmas.Bool.{cases_Bool}
use Rattle.std.proofs.lemmas.Bool.Decides.{nat_tests}
use Rattle.mr_base.specs.declared.stop.Direction.{Direction}
use Rattle.mr_iter.specs.Versions.{Version, key_cmp, version_cmp, IsInOrder, IsAtFront, place_in, in_order, joined, merged}
use Rattle.mr_iter.specs.Order.{key_total, version_total, IsInOrder-in_order, IsInOrder-place_in}
use Rattle.mr_iter.specs.Newest.{is_of, is_at, newest, later, latest, alone, NoneLater}
use Rattle.mr_iter.proofs.Placing.{in_order-itself}

pub eq_of : (o : Ordering) → is_eq o ≡ true → o ≡ Equal
eq_of Less is = cc
eq_of Equal is = refl
eq_of Greater is = cc

first_equal : (a b : Ordering) → ordering_then a b ≡ Equal → a ≡ Equal
first_equal Less b e = e
first_equal Equal b e = refl
first_equal Greater b e = e

then_equal : (a b : Ordering) → ordering_then a b ≡ Equal → b ≡ Equal
then_equal Less b e = cc
then_equal Equal b e = e
then_equal Greater b e = cc

same_number : (x y : ℕ) → nat_cmp x y ≡ Equal → x ≡ y
same_number x y e = grind (arith, nat_tests)

pub same_bytes : (a b : List ℕ) → slice_cmp nat_cmp a b ≡ Equal → a ≡ b
same_bytes [] [] e = refl
same_bytes [] (y ∷ b) e = cc
same_bytes (x ∷ a) [] e = cc
same_bytes (x ∷ a) (y ∷ b) e =
    let heads = same_number x y (first_equal (nat_cmp x y) (slice_cmp nat_cmp a b) e) in
    let tails = same_bytes a b (then_equal (nat_cmp x y) (slice_cmp nat_cmp a b) e) in
    cc

-- ---- the test of a key

pub key_is : (key : List ℕ) (v : Version) → is_of key v ≡ true → key ≡ v.key
key_is key v is = same_bytes key v.key (eq_of (slice_cmp nat_cmp key v.key) is)

pub of_itself : (v : Version) → is_of v.key v ≡ true
of_itself v = ap is_eq (tied_itself nat_list_cmp_total v.key)

and_parts : (a b : Bool) → (a && b) ≡ true → (a ≡ true) × (b ≡ true)
and_parts true b is = (refl, is)
and_parts false b is = cc

upto_of : (number n : ℕ) → not (nat_lt number n) ≡ true → n ≤ number
upto_of number n is = grind (arith, nat_tests)

of_upto : (number n : ℕ) → n ≤ number → not (nat_lt number n) ≡ true
of_upto number n le = grind (arith, nat_tests)

pub at_is : (number : ℕ) (key : List ℕ) (v : Version) → is_at number key v ≡ true → (v.sequence ≤ number) × (key ≡ v.key)
at_is number key v is = let both = and_parts (not (nat_lt number v.sequence)) (is_of key v) is in (upto_of number v.sequence both.0, key_is key v both.1)

pub at_itself : (number : ℕ) (v : Version) → v.sequence ≤ number → is_at number v.key v ≡ true
at_itself number v le = rw (of_upto number v.sequence le) (of_itself v)

-- ---- the later of two

not_later : (m n : ℕ) → n ≤ m → nat_lt m n ≡ false
not_later m n le = grind (arith, nat_tests)

is_later : (m n : ℕ) → m < n → nat_lt m n ≡ true
is_later m n lt = grind (arith, nat_tests)

pub later_none : (o : Option Version) → later o None ≡ o
later_none None = refl
later_none (Some v) = refl

lt_trans : (a b c : ℕ) → nat_lt a b ≡ true → nat_lt b c ≡ true → nat_lt a c ≡ true
lt_trans a b c p q = grind (arith, nat_tests)

ge_trans : (a b c : ℕ) → nat_lt a b ≡ false → nat_lt b c ≡ false → nat_lt a c ≡ false
ge_trans a b c p q = grind (arith, nat_tests)

pub later_assoc : (a b c : Option Version) → later (later a b) c ≡ later a (later b c)
later_assoc None b c = refl
later_assoc (Some v) None c = refl
later_assoc (Some v) (Some w) None = later_none (later (Some v) (Some w))
later_assoc (Some v) (Some w) (Some u) = elim (cases_Bool (nat_lt v.sequence w.sequence)) [
  | inl vw ↦ elim (cases_Bool (nat_lt w.sequence u.sequence)) [
    | inl wu ↦ let vu = lt_trans v.sequence w.sequence u.sequence vw wu in rw (vw, wu) (rw vu refl)
    | inr wu ↦ rw (vw, wu) (rw vw refl)
  ]
  | inr vw ↦ elim (cases_Bool (nat_lt w.sequence u.sequence)) [
    | inl wu ↦ rw (vw, wu) refl
    | inr wu ↦ let vu = ge_trans v.sequence w.sequence u.sequence vw wu in rw (vw, wu) (rw vu (rw vw refl))
  ]
]

-- ---- a version among others

second_gt : (a b : Ordering) → a ≡ Equal → is_gt (ordering_then a b) ≡ true → is_gt b ≡ true
second_gt Less b e is = cc
second_gt Equal b e is = is
second_gt Greater b e is = cc

second_le : (a b : Ordering) → a ≡ Equal → is_gt (ordering_then a b) ≡ false → is_gt b ≡ false
second_le Less b e is = cc
second_le Equal b e is = is
second_le Greater b e is = cc

gt_number : (m n : ℕ) → is_gt (nat_cmp m n) ≡ true → n < m
gt_number m n is = grind (arith, nat_tests)

le_number : (m n : ℕ) → is_gt (nat_cmp m n) ≡ false → m ≤ n
le_number m n is = grind (arith, nat_tests)

module _ (d : Direction) (number : ℕ) where
  tie : (v w : Version) → v.key ≡ w.key → key_cmp d v.key w.key ≡ Equal
  tie v w same = ap (key_cmp d v.key) (sym same) ∙ tied_itself (key_total d) v.key

  -- of one key the greater one is older
  pub older : (v w : Version) → v.key ≡ w.key → is_gt (version_cmp d v w) ≡ true → v.sequence < w.sequence
  older v w same gt = gt_number w.sequence v.sequence (second_gt (key_cmp d v.key w.key) (nat_cmp w.sequence v.sequence) (tie v w same) gt)

  pub upto_front : (v w : Version) → v.key ≡ w.key → is_gt (version_cmp d v w) ≡ false → w.sequence ≤ v.sequence
  upto_front v w same le = le_number w.sequence v.sequence (second_le (key_cmp d v.key w.key) (nat_cmp w.sequence v.sequence) (tie v w same) le)

  pub newest_behind : (key : List ℕ) (v : Version) (vs : List Version) → is_at number key v ≡ true → IsAtFront (version_cmp d) v vs → later (Some v) (newest number key vs) ≡ Some v
  newest_behind key v [] is front = refl
  newest_behind key v (w ∷ ws) is front = elim (cases_Bool (is_at number key w)) [
    | inl at ↦
        let same : v.key ≡ w.key = sym (at_is number key v is).1 ∙ (at_is number key w at).1 in
        let le = not_later v.sequence w.sequence (upto_front v w same front.0) in
        rw at (rw le refl)
    | inr other ↦ rw other (newest_behind key v ws is front.1)
  ]

  pub newest_others : (key : List ℕ) (v : Version) (vs : List Version) → is_at number key v ≡ false → newest number key (place_in (version_cmp d) v vs) ≡ newest number key vs
  newest_others key v [] other = rw other refl
  newest_others key v (w ∷ ws) other = elim (cases_Bool (is_gt (version_cmp d v w))) [
    | inl gt ↦ rw gt (ap (λ (o : Option Version). cond (is_at number key w) (Some w) o) (newest_others key v ws other))
    | inr le ↦ rw le (rw other refl)
  ]

  placed : (key : List ℕ) (v : Version) (vs : List Version) → is_at number key v ≡ true → IsInOrder (version_cmp d) vs → newest number key (place_in (version_cmp d) v vs) ≡ later (Some v) (newest number key vs)
  placed key v [] is all = rw is refl
  placed key v (w ∷ ws) is all = elim (cases_Bool (is_gt (version_cmp d v w))) [
    | inl gt ↦ elim (cases_Bool (is_at number key w)) [
      | inl at ↦
          let same : v.key ≡ w.key = sym (at_is number key v is).1 ∙ (at_is number key w at).1 in
          let lt = is_later v.sequence w.sequence (older v w same gt) in
          rw gt (rw at (rw lt refl))
      | inr other ↦ rw gt (rw other (placed key v ws is all.1))
    ]
    | inr le ↦
        let order = IsInOrder-place_in (version_cmp d) (version_total d) v (w ∷ ws) all in
        let front : IsAtFront (version_cmp d) v (w ∷ ws) = (subst (λ (zs : List Version). IsInOrder (version_cmp d) zs) (in_front le) order).0 in
        rw le (rw is (sym (newest_behind key v (w ∷ ws) is front)))
  ]
    where
      in_front : is_gt (version_cmp d v w) ≡ false → place_in (version_cmp d) v (w ∷ ws) ≡ v ∷ w ∷ ws
      in_front le = rw le refl

  pub newest_placed : (key : List ℕ) (v : Version) (vs : List Version) → IsInOrder (version_cmp d) vs → newest number key (place_in (version_cmp d) v vs) ≡ later (alone number key v) (newest number key vs)
  newest_placed key v vs all = elim (cases_Bool (is_at number key v)) [
    | inl is ↦ placed key v vs is all ∙ rw is refl
    | inr other ↦ newest_others key v vs other ∙ rw other refl
  ]

  -- none in the list is later
  none_later : (v : Version) (vs : List Version) → NoneLater number v vs → later (Some v) (newest number v.key vs) ≡ Some v
  none_later v [] all = refl
  none_later v (w ∷ ws) all = elim (cases_Bool (is_at number v.key w)) [
    | inl at ↦ let parts = at_is number v.key w at in let le = not_later v.sequence w.sequence (all.0 (sym parts.1) parts.0) in rw at (rw le refl)
    | inr other ↦ rw other (none_later v ws all.1)
  ]

  pub newest_found : (v : Version) (vs : List Version) → IsInOrder (version_cmp d) vs → v.sequence ≤ number → NoneLater number v vs → newest number v.key (place_in (version_cmp d) v vs) ≡ Some v
  newest_found v vs all le none = placed v.key v vs (at_itself number v le) all ∙ none_later v vs none

  -- ---- many lists

  newest_joined : (key : List ℕ) (xs ys : List Version) → newest number key (in_order (version_cmp d) (xs ++ ys)) ≡ later (newest number key (in_order (version_cmp d) xs)) (newest number key (in_order (version_cmp d) ys))
  newest_joined key [] ys = refl
  newest_joined key (x ∷ xs) ys =
      newest_placed key x (in_order (version_cmp d) (xs ++ ys)) (IsInOrder-in_order (version_cmp d) (version_total d) (xs ++ ys))
      ∙ ap (later (alone number key x)) (newest_joined key xs ys)
      ∙ sym (later_assoc (alone number key x) (newest number key (in_order (version_cmp d) xs)) (newest number key (in_order (version_cmp d) ys)))
      ∙ ap (λ (o : Option Version). later o (newest number key (in_order (version_cmp d) ys))) (sym (newest_placed key x (in_order (version_cmp d) xs) (IsInOrder-in_order (version_cmp d) (version_total d) xs)))

  pub newest_merged : (key : List ℕ) (vss : List (List Version)) → AllByRecursion (IsInOrder (version_cmp d)) vss → newest number key (merged (version_cmp d) vss) ≡ latest (map (newest number key) vss)
  newest_merged key [] all = refl
  newest_merged key (vs ∷ vss) all =
      newest_joined key vs (joined vss)
      ∙ ap (λ (ws : List Version). later (newest number key ws) (newest number key (merged (version_cmp d) vss))) (in_order-itself (version_cmp d) (version_total d) vs all.0)
      ∙ ap (later (newest number key vs)) (newest_merged key vss all.1)
