-- Where a walk from a seek stands.
use Rattle.std.specs.Prelude.{◌≡◌, ℕ, ◌+◌, ◌&&◌, Bool, true, false, not, List, [], ◌∷◌, ◌++◌, length, drop, filter, Option, Some, None, refl}
use Rattle.std.proofs.Common.{sym, ◌∙◌, ap, subst, inl, inr, suc, zero, add-one}
use Rattle.std.specs.List.{AllByRecursion, list_all}
use Rattle.std.specs.declared.cmp.Ordering.{Ordering}
use Rattle.std.specs.declared.cmp.Ordering.TheVariants.{Less, Equal, Greater}
use Rattle.std.specs.Ordering.{nat_cmp, is_lt, is_gt, ordering_then, ordering_reverse}
use Rattle.std.proofs.lemmas.Cmp.{tied_itself}
use Rattle.std.proofs.lemmas.Bool.{cases_Bool, true_from_ne_false}
use Rattle.mr_base.specs.Disk.{Image}
use Rattle.mr_base.specs.declared.stop.Direction.{Direction}
use Rattle.mr_iter.specs.Versions.{Version, key_cmp, version_cmp, IsAtFront, IsInOrder, place_in, in_order, joined, merged, from_key, first, is_strict, first_at}
use Rattle.mr_iter.specs.Order.{key_total, version_total, by_key, not_before}
use Rattle.mr_iter.specs.Cursors.{CursorState, SaysSame, IsInPlace, left, with_current}

pub first_left : (s : CursorState) (image : Image) → first (left s image) ≡ s.current
first_left s image = go s.current
  where
    go : (o : Option Version) → first (with_current o (s.rest image)) ≡ o
    go None = refl
    go (Some v) = refl

pub left_by : (s : CursorState) (i j : Image) → SaysSame s i j → left s i ≡ left s j
left_by s i j same = ap (with_current s.current) same.rest

-- it stands in its list by either image
pub in_place_by : (s : CursorState) (i j : Image) → SaysSame s i j → IsInPlace s i → IsInPlace s j
in_place_by s i j same place = record { passed = place.passed; rest = sym (left_by s i j same) ∙ place.rest ∙ ap (drop place.passed) same.versions }

-- ---- ends of a list

pub drop_all : (vs : List Version) → drop (length vs) vs ≡ []
drop_all [] = refl
drop_all (v ∷ vs) = drop_all vs

pub drop_tail : (n : ℕ) (vs : List Version) (v : Version) (rest : List Version) → drop n vs ≡ v ∷ rest → drop (n + 1) vs ≡ rest
drop_tail n vs v rest is = ap (λ (m : ℕ). drop m vs) (add-one n) ∙ go n vs is
  where
    go : (n : ℕ) (vs : List Version) → drop n vs ≡ v ∷ rest → drop (suc n) vs ≡ rest
    go zero [] is = cc
    go zero (w ∷ ws) is = cc
    go (suc n) [] is = cc
    go (suc n) (w ∷ ws) is = go n ws is

pub all_kept : (d : Direction) (key : List ℕ) (v : Version) (vs : List Version) → is_lt (key_cmp d v.key key) ≡ false → IsAtFront (version_cmp d) v vs → filter (λ w. not (is_lt (key_cmp d w.key key))) vs ≡ vs
all_kept d key v [] least front = refl
all_kept d key v (w ∷ ws) least front =
    let kept : is_lt (key_cmp d w.key key) ≡ false = not_before (key_cmp d) (key_total d) v.key w.key key (by_key (key_cmp d v.key w.key) (nat_cmp w.sequence v.sequence) front.0) least in
    rw kept (ap (λ us. w ∷ us) (all_kept d key v ws least front.1))

pub from_key-drop : (d : Direction) (key : List ℕ) (vs : List Version) → IsInOrder (version_cmp d) vs → (n : ℕ) × (from_key d key vs ≡ drop n vs)
from_key-drop d key [] all = (0, refl)
from_key-drop d key (v ∷ vs) all = elim (cases_Bool (is_lt (key_cmp d v.key key))) [
  | inl before ↦ let more = from_key-drop d key vs all.1 in (suc more.0, rw before more.1)
  | inr behind ↦ (0, rw behind (ap (λ us. v ∷ us) (all_kept d key v vs behind all.0)))
]

pub in_order-drop : (d : Direction) (vs : List Version) (n : ℕ) → IsInOrder (version_cmp d) vs → IsInOrder (version_cmp d) (drop n vs)
in_order-drop d vs zero all = all
in_order-drop d [] (suc n) all = tt
in_order-drop d (v ∷ vs) (suc n) all = in_order-drop d vs n all.1

-- ---- the first version at or behind one

less_key : (d : Direction) (v w key : List ℕ) → is_lt (key_cmp d w key) ≡ true → is_lt (key_cmp d v key) ≡ false → is_lt (key_cmp d w v) ≡ true
less_key d v w key below least = by_order (key_cmp d v w) (key_cmp d w v) ((key_total d).antisymm w v) (true_from_ne_false _ (λ le. let no : is_lt (key_cmp d w key) ≡ false = not_before (key_cmp d) (key_total d) v w key le least in cc))
  where
    by_order : (a b : Ordering) → b ≡ ordering_reverse a → is_gt a ≡ true → is_lt b ≡ true
    by_order Less b e gt = cc
    by_order Equal b e gt = cc
    by_order Greater b e gt = rw e

first_decides : (a b : Ordering) → is_lt a ≡ true → is_lt (ordering_then a b) ≡ true
first_decides Less b e = refl
first_decides Equal b e = cc
first_decides Greater b e = cc

-- after a seek, where v comes first of all
pub at_found : (d : Direction) (v : Version) (key : List ℕ) (vs : List Version) → is_lt (key_cmp d v.key key) ≡ false → AllByRecursion (λ w. is_lt (version_cmp d w v) ≡ false) (from_key d key vs) →
    filter (λ w. not (is_lt (version_cmp d w v))) vs ≡ from_key d key vs
at_found d v key [] least all = refl
at_found d v key (w ∷ ws) least all = elim (cases_Bool (is_lt (key_cmp d w.key key))) [
  | inl before ↦
      let gone : is_lt (version_cmp d w v) ≡ true = first_decides (key_cmp d w.key v.key) (nat_cmp v.sequence w.sequence) (less_key d v.key w.key key before least) in
      let rest : AllByRecursion (λ u. is_lt (version_cmp d u v) ≡ false) (from_key d key ws) = rw before at all in
      rw (before, gone) (at_found d v key ws least rest)
  | inr behind ↦
      let rest : AllByRecursion (λ u. is_lt (version_cmp d u v) ≡ false) (w ∷ from_key d key ws) = rw behind at all in
      rw (behind, rest.0) (ap (λ us. w ∷ us) (at_found d v key ws least rest.1))
]

-- v isn't behind the place
abbrev pub IsUpto : Direction → Version → Option Version → Type 0
IsUpto d v None = Unit {0}
IsUpto d v (Some w) = is_gt (version_cmp d v w) ≡ false

not_less : (d : Direction) (v w : Version) → is_gt (version_cmp d v w) ≡ false → is_lt (version_cmp d w v) ≡ false
not_less d v w le = by_order (version_cmp d v w) (version_cmp d w v) ((version_total d).antisymm w v) le
  where
    by_order : (a b : Ordering) → b ≡ ordering_reverse a → is_gt a ≡ false → is_lt b ≡ false
    by_order Less b e le = rw e
    by_order Equal b e le = rw e
    by_order Greater b e le = cc

less_then : (d : Direction) (u v w : Version) → is_lt (version_cmp d u v) ≡ true → is_gt (version_cmp d v w) ≡ false → is_lt (version_cmp d u w) ≡ true
less_then d u v w less upto = true_from_ne_false _ (λ below. let e : is_lt (version_cmp d u v) ≡ false = not_less d v u (reach below) in cc)
  where
    gt_or : (a b : Ordering) → b ≡ ordering_reverse a → is_lt a ≡ false → is_gt b ≡ false
    gt_or Less b e below = cc
    gt_or Equal b e below = rw e
    gt_or Greater b e below = rw e

    reach : is_lt (version_cmp d u w) ≡ false → is_gt (version_cmp d v u) ≡ false
    reach below = Rattle.std.proofs.lemmas.Cmp.upto (version_total d) v w u upto (gt_or (version_cmp d u w) (version_cmp d w u) ((version_total d).antisymm w u) below)

upto_less : (d : Direction) (u v w : Version) → is_gt (version_cmp d u v) ≡ false → is_lt (version_cmp d v w) ≡ true → is_lt (version_cmp d u w) ≡ true
upto_less d u v w upto less = true_from_ne_false _ (λ below. let e : is_lt (version_cmp d v w) ≡ false = not_less d w v (reach below) in cc)
  where
    gt_or : (a b : Ordering) → b ≡ ordering_reverse a → is_lt a ≡ false → is_gt b ≡ false
    gt_or Less b e below = cc
    gt_or Equal b e below = rw e
    gt_or Greater b e below = rw e

    reach : is_lt (version_cmp d u w) ≡ false → is_gt (version_cmp d w v) ≡ false
    reach below = Rattle.std.proofs.lemmas.Cmp.upto (version_total d) w u v (gt_or (version_cmp d u w) (version_cmp d w u) ((version_total d).antisymm w u) below) upto

-- where the first version goes on from v to u, and the place isn't before u
pub at_other : (d : Direction) (v u : Version) (vs : List Version) (o : Option Version) → first_at d (Some v) vs ≡ o → is_gt (version_cmp d v u) ≡ false → IsUpto d u o → first_at d (Some u) vs ≡ o
at_other d v u [] o is le upto = is
at_other d v u (w ∷ ws) o is le upto = elim (cases_Bool (is_lt (version_cmp d w v))) [
  | inl before ↦
      let gone : is_lt (version_cmp d w u) ≡ true = less_then d w v u before le in
      let rest : first_at d (Some v) ws ≡ o = rw before at is in
      rw gone (at_other d v u ws o rest le upto)
  | inr behind ↦
      let here : Some w ≡ o = rw behind at is in
      let kept : is_lt (version_cmp d w u) ≡ false = not_less d u w (subst (IsUpto d u) (sym here) upto) in
      rw kept here
]

front_upto : (d : Direction) (x v : Version) (n : ℕ) (vs rest : List Version) → IsAtFront (version_cmp d) x vs → drop n vs ≡ v ∷ rest → is_gt (version_cmp d x v) ≡ false
front_upto d x v zero [] rest all is = cc
front_upto d x v zero (w ∷ ws) rest all is = let e : w ≡ v = cc in subst (λ (u : Version). is_gt (version_cmp d x u) ≡ false) e all.0
front_upto d x v (suc n) [] rest all is = cc
front_upto d x v (suc n) (w ∷ ws) rest all is = front_upto d x v n ws rest all.1 is

kept_first : (d : Direction) (u : Version) (rest : List Version) → IsUpto d u (first rest) → first_at d (Some u) rest ≡ first rest
kept_first d u [] upto = refl
kept_first d u (w ∷ ws) upto = rw (not_less d u w upto) refl

-- the child that stood on v goes on
pub at_next : (d : Direction) (v u : Version) (n : ℕ) (vs rest : List Version) → IsInOrder (version_cmp d) vs → drop n vs ≡ v ∷ rest → is_lt (version_cmp d v u) ≡ true → IsUpto d u (first rest) → first_at d (Some u) vs ≡ first rest
at_next d v u zero [] rest all is less upto = cc
at_next d v u zero (w ∷ ws) rest all is less upto =
    let ew : w ≡ v = cc in
    let es : ws ≡ rest = cc in
    let gone : is_lt (version_cmp d w u) ≡ true = subst (λ (x : Version). is_lt (version_cmp d x u) ≡ true) (sym ew) less in
    rw gone (subst (λ (xs : List Version). first_at d (Some u) xs ≡ first rest) (sym es) (kept_first d u rest upto))
at_next d v u (suc n) [] rest all is less upto = cc
at_next d v u (suc n) (w ∷ ws) rest all is less upto =
    let gone : is_lt (version_cmp d w u) ≡ true = upto_less d w v u (front_upto d w v n ws rest all.0 is) less in
    rw gone (at_next d v u n ws rest all.1 is less upto)

-- two neighbours of a strict list
pub and_split : (a b : Bool) → (a && b) ≡ true → (a ≡ true) × (b ≡ true)
and_split true b e = (refl, e)
and_split false b e = cc

pub strict_next : (d : Direction) (n : ℕ) (vs : List Version) (v u : Version) (rest : List Version) → is_strict d vs ≡ true → drop n vs ≡ v ∷ u ∷ rest → is_lt (version_cmp d v u) ≡ true
strict_next d zero [] v u rest strict is = cc
strict_next d zero (x ∷ []) v u rest strict is = cc
strict_next d zero (x ∷ y ∷ ys) v u rest strict is =
    let ex : x ≡ v = cc in
    let ey : y ≡ u = cc in
    let parts = and_split (list_all (λ w. is_lt (version_cmp d x w)) (y ∷ ys)) (is_strict d (y ∷ ys)) strict in
    let less : is_lt (version_cmp d x y) ≡ true = (and_split (is_lt (version_cmp d x y)) (list_all (λ w. is_lt (version_cmp d x w)) ys) parts.0).0 in
    subst (λ (b : Version). is_lt (version_cmp d v b) ≡ true) ey (subst (λ (a : Version). is_lt (version_cmp d a y) ≡ true) ex less)
strict_next d (suc n) [] v u rest strict is = cc
strict_next d (suc n) (x ∷ xs) v u rest strict is = strict_next d n xs v u rest (and_split (list_all (λ w. is_lt (version_cmp d x w)) xs) (is_strict d xs) strict).1 is

-- ---- the first of many

module _ {X : Type 0} (cmp : X → X → Ordering) (P : X → Type 0) where
  of_place : (x : X) (xs : List X) → AllByRecursion P (place_in cmp x xs) → P x × AllByRecursion P xs
  of_place x [] all = (all.0, tt)
  of_place x (y ∷ ys) all = elim (cases_Bool (is_gt (cmp x y))) [
    | inl gt ↦ let here : AllByRecursion P (y ∷ place_in cmp x ys) = rw gt at all in let more = of_place x ys here.1 in (more.0, (here.0, more.1))
    | inr le ↦ let here : AllByRecursion P (x ∷ y ∷ ys) = rw le at all in (here.0, here.1)
  ]

  of_order : (xs : List X) → AllByRecursion P (in_order cmp xs) → AllByRecursion P xs
  of_order [] all = tt
  of_order (x ∷ xs) all = let both = of_place x (in_order cmp xs) all in (both.0, of_order xs both.1)

  of_append : (xs ys : List X) → AllByRecursion P (xs ++ ys) → AllByRecursion P xs × AllByRecursion P ys
  of_append [] ys all = (tt, all)
  of_append (x ∷ xs) ys all = let both = of_append xs ys all.1 in ((all.0, both.0), both.1)

  of_joined : (xss : List (List X)) → AllByRecursion P (joined xss) → AllByRecursion (AllByRecursion P) xss
  of_joined [] all = tt
  of_joined (xs ∷ xss) all = let both = of_append xs (joined xss) all in (both.0, of_joined xss both.1)

  -- what holds of the one list holds of each
  pub of_merged : (xss : List (List X)) → AllByRecursion P (merged cmp xss) → AllByRecursion (AllByRecursion P) xss
  of_merged xss all = of_joined xss (of_order (joined xss) all)

pub each_upto : (d : Direction) (v : Version) (vs rest : List Version) → IsInOrder (version_cmp d) vs → vs ≡ v ∷ rest → AllByRecursion (λ w. is_gt (version_cmp d v w) ≡ false) vs
each_upto d v vs rest all is = subst (AllByRecursion (λ w. is_gt (version_cmp d v w) ≡ false)) (sym is) (itself, (subst (IsInOrder (version_cmp d)) is all).0)
  where
    itself : is_gt (version_cmp d v v) ≡ false
    itself = rw (tied_itself (version_total d) v)

pub each_not_less : (d : Direction) (v : Version) (vs : List Version) → AllByRecursion (λ w. is_gt (version_cmp d v w) ≡ false) vs → AllByRecursion (λ w. is_lt (version_cmp d w v) ≡ false) vs
each_not_less d v [] all = tt
each_not_less d v (w ∷ ws) all = (not_less d v w all.0, each_not_less d v ws all.1)

pub upto_first : (d : Direction) (v : Version) (s : CursorState) (image : Image) → AllByRecursion (λ w. is_gt (version_cmp d v w) ≡ false) (left s image) → IsUpto d v s.current
upto_first d v s image all = go s.current all
  where
    go : (o : Option Version) → AllByRecursion (λ w. is_gt (version_cmp d v w) ≡ false) (with_current o (s.rest image)) → IsUpto d v o
    go None all = tt
    go (Some w) all = all.0

-- a key that was sought
pub key_reached : (d : Direction) (key : List ℕ) (vs : List Version) (v : Version) (rest : List Version) → from_key d key vs ≡ v ∷ rest → is_lt (key_cmp d v.key key) ≡ false
key_reached d key [] v rest is = cc
key_reached d key (w ∷ ws) v rest is = elim (cases_Bool (is_lt (key_cmp d w.key key))) [
  | inl before ↦ let more : from_key d key ws ≡ v ∷ rest = rw before at is in key_reached d key ws v rest more
  | inr behind ↦ let here : w ∷ from_key d key ws ≡ v ∷ rest = rw behind at is in let e : w ≡ v = cc in subst (λ (x : Version). is_lt (key_cmp d x.key key) ≡ false) e behind
]
