-- Slots in the order of their versions.
use Rattle.std.proofs.Common.{◌≡◌, ℕ, ◌+◌, ◌-◌, ◌^◌, ◌<◌, ◌≤◌, Bool, true, false, not, List, [], ◌∷◌, ◌++◌, length, get_or, take, drop, filter, suc, zero, refl, sym, ◌∙◌, ap, subst, inl, inr, arith, add-one, length-append}
use Rattle.std.specs.List.{AllByRecursion, insert}
use Rattle.std.specs.declared.cmp.Ordering.{Ordering}
use Rattle.std.specs.declared.cmp.Ordering.TheVariants.{Less, Equal, Greater}
use Rattle.std.specs.Ordering.{nat_cmp, is_lt, is_gt, ordering_then, ordering_reverse}
use Rattle.std.proofs.lemmas.Cmp.{upto}
use Rattle.std.proofs.lemmas.Bool.{true_from_ne_false}
use Rattle.std.proofs.lemmas.Bool.Decides.{nat_tests}
use Rattle.mr_base.specs.declared.stop.Direction.{Direction}
use Rattle.mr_iter.specs.Versions.{Version, as_version, key_cmp, version_cmp, IsAtFront, IsInOrder, place_in, from_key}
use Rattle.mr_iter.specs.Order.{version_total, key_total, by_key, not_before}
use Rattle.mr_memtable.specs.declared.piece.Piece.{Piece}
use Rattle.mr_memtable.specs.declared.slot.Slot.{Slot}
use Rattle.mr_memtable.specs.Slots.{version_at, versions_at, Fits, GoOn, goes_before, no_slot, IsPlace}
use Rattle.mr_memtable.proofs.Pieces.{version_on, fits_on}

-- slots of pieces that went on

pub versions_on : (old new : List Piece) (ss : List Slot) → GoOn old new → AllByRecursion (Fits old) ss → versions_at new ss ≡ versions_at old ss
versions_on old new [] on all = refl
versions_on old new (s ∷ ss) on all = let e = version_on old new s on all.0 in let es = versions_on old new ss on all.1 in cc

pub all_fit_on : (old new : List Piece) (ss : List Slot) → GoOn old new → AllByRecursion (Fits old) ss → AllByRecursion (Fits new) ss
all_fit_on old new [] on all = tt
all_fit_on old new (s ∷ ss) on all = (fits_on old new s on all.0, all_fit_on old new ss on all.1)

pub all_fit_insert : (pieces : List Piece) (ss : List Slot) (n : ℕ) (s : Slot) → n ≤ length ss → AllByRecursion (Fits pieces) ss → Fits pieces s → AllByRecursion (Fits pieces) (insert ss n s)
all_fit_insert pieces ss zero s le all fit = (fit, all)
all_fit_insert pieces [] (suc n) s le all fit = absurd (omega arith)
all_fit_insert pieces (t ∷ ss) (suc n) s le all fit = (all.0, all_fit_insert pieces ss n s (omega arith) all.1 fit)

pub versions_insert : (pieces : List Piece) (ss : List Slot) (n : ℕ) (s : Slot) → n ≤ length ss → versions_at pieces (insert ss n s) ≡ insert (versions_at pieces ss) n (version_at pieces s)
versions_insert pieces ss zero s le = refl
versions_insert pieces [] (suc n) s le = absurd (omega arith)
versions_insert pieces (t ∷ ss) (suc n) s le = ap (λ vs. version_at pieces t ∷ vs) (versions_insert pieces ss n s (omega arith))

front_at : (d : Direction) (pieces : List Piece) (v : Version) (ss : List Slot) (i : ℕ) → i < length ss → IsAtFront (version_cmp d) v (versions_at pieces ss) → is_gt (version_cmp d v (version_at pieces (get_or ss i no_slot))) ≡ false
front_at d pieces v [] i lt all = absurd (omega arith)
front_at d pieces v (s ∷ ss) zero lt all = all.0
front_at d pieces v (s ∷ ss) (suc i) lt all = front_at d pieces v ss i (omega arith) all.1

-- what is before x, and all in front of it
head_before : (d : Direction) (pieces : List Piece) (x : Version) (s : Slot) (ss : List Slot) (n : ℕ) → n ≤ length ss → IsAtFront (version_cmp d) (version_at pieces s) (versions_at pieces ss) → goes_before d pieces x (get_or (s ∷ ss) n no_slot) ≡ true → goes_before d pieces x s ≡ true
head_before d pieces x s ss zero le front gt = gt
head_before d pieces x s ss (suc n) le front gt = true_from_ne_false _ (λ less.
    let e : is_gt (version_cmp d x (version_at pieces (get_or ss n no_slot))) ≡ false = upto (version_total d) x (version_at pieces s) (version_at pieces (get_or ss n no_slot)) less (front_at d pieces (version_at pieces s) ss n (omega arith) front) in cc)

module _ (d : Direction) (pieces : List Piece) (x : Version) where
  at_head : (s : Slot) (ss : List Slot) (n : ℕ) → IsInOrder (version_cmp d) (versions_at pieces (s ∷ ss)) → IsPlace d pieces x (s ∷ ss) (suc n) → goes_before d pieces x s ≡ true
  at_head s ss n ordered place = head_before d pieces x s ss n (omega (arith, place.within)) ordered.0 (subst (λ (m : ℕ). goes_before d pieces x (get_or (s ∷ ss) m no_slot) ≡ true) (omega arith) (place.before (omega arith)))

  behind_head : (s : Slot) (ss : List Slot) (n : ℕ) → IsPlace d pieces x (s ∷ ss) (suc n) → IsPlace d pieces x ss n
  behind_head s ss n place = record {
    within = omega (arith, place.within);
    before = λ pos. inner n pos (subst (λ (m : ℕ). goes_before d pieces x (get_or (s ∷ ss) m no_slot) ≡ true) (omega arith) (place.before (omega arith)));
    behind = λ lt. place.behind (omega (arith, lt));
  }
    where
      inner : (n : ℕ) → 0 < n → goes_before d pieces x (get_or (s ∷ ss) n no_slot) ≡ true → goes_before d pieces x (get_or ss (n - 1) no_slot) ≡ true
      inner zero pos is = absurd (omega arith)
      inner (suc m) pos is = subst (λ (k : ℕ). goes_before d pieces x (get_or ss k no_slot) ≡ true) (omega arith) is

  -- x goes to its place
  pub insert_place : (ss : List Slot) (n : ℕ) → IsInOrder (version_cmp d) (versions_at pieces ss) → IsPlace d pieces x ss n → insert (versions_at pieces ss) n x ≡ place_in (version_cmp d) x (versions_at pieces ss)
  insert_place [] zero ordered place = refl
  insert_place [] (suc n) ordered place = absurd (omega (arith, place.within))
  insert_place (s ∷ ss) zero ordered place = rw (place.behind (omega arith)) refl
  insert_place (s ∷ ss) (suc n) ordered place = rw (at_head s ss n ordered place) (ap (λ vs. version_at pieces s ∷ vs) (insert_place ss n ordered.1 (behind_head s ss n place)))

-- the place of a key is that of its greatest sequence number

greater_key : (a : Ordering) (m : ℕ) → m < 2 ^ 64 → is_gt (ordering_then a (nat_cmp m (2 ^ 64 - 1))) ≡ true → is_lt (ordering_reverse a) ≡ true
greater_key Less m lt gt = cc
greater_key Equal m lt gt = absurd (grind (arith, nat_tests))
greater_key Greater m lt gt = refl

not_greater_key : (a b : Ordering) → b ≡ ordering_reverse a → (c : Ordering) → is_gt (ordering_then a c) ≡ false → is_lt b ≡ false
not_greater_key Less b e c le = rw e refl
not_greater_key Equal b e c le = rw e refl
not_greater_key Greater b e c le = cc

pub all_kept : (d : Direction) (key : List ℕ) (v : Version) (vs : List Version) → is_lt (key_cmp d v.key key) ≡ false → IsAtFront (version_cmp d) v vs → filter (λ w. not (is_lt (key_cmp d w.key key))) vs ≡ vs
all_kept d key v [] least front = refl
all_kept d key v (w ∷ ws) least front =
    let kept : is_lt (key_cmp d w.key key) ≡ false = not_before (key_cmp d) (key_total d) v.key w.key key (by_key (key_cmp d v.key w.key) (nat_cmp w.sequence v.sequence) front.0) least in
    rw kept (ap (λ us. w ∷ us) (all_kept d key v ws least front.1))

pub found_place : (d : Direction) (pieces : List Piece) (key : List ℕ) (ss : List Slot) (n : ℕ) → AllByRecursion (Fits pieces) ss → IsInOrder (version_cmp d) (versions_at pieces ss) → IsPlace d pieces (as_version key (2 ^ 64 - 1) Rattle.std.proofs.Common.None) ss n → drop n (versions_at pieces ss) ≡ from_key d key (versions_at pieces ss)
found_place d pieces key [] zero fit ordered place = refl
found_place d pieces key [] (suc n) fit ordered place = refl
found_place d pieces key (s ∷ ss) zero fit ordered place =
    let v = version_at pieces s in
    let kept : is_lt (key_cmp d (version_at pieces s).key key) ≡ false = not_greater_key (key_cmp d key (version_at pieces s).key) (key_cmp d (version_at pieces s).key key) ((key_total d).antisymm (version_at pieces s).key key) (nat_cmp s.sequence (2 ^ 64 - 1)) (place.behind (omega arith)) in
    rw kept (ap (λ us. version_at pieces s ∷ us) (sym (all_kept d key (version_at pieces s) (versions_at pieces ss) kept ordered.0)))
found_place d pieces key (s ∷ ss) (suc n) fit ordered place =
    let x = as_version key (2 ^ 64 - 1) Rattle.std.proofs.Common.None in
    let gone : is_lt (key_cmp d (version_at pieces s).key key) ≡ true = ap is_lt ((key_total d).antisymm (version_at pieces s).key key) ∙ greater_key (key_cmp d key (version_at pieces s).key) s.sequence fit.0.places.sequence (at_head d pieces x s ss n ordered place) in
    rw gone (found_place d pieces key ss n fit.1 ordered.1 (behind_head d pieces x s ss n place))
