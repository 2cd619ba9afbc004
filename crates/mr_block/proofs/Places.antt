-- Where a key's versions begin.
use Rattle.std.proofs.Common.{◌≡◌, ℕ, ◌-◌, ◌<◌, ◌≤◌, true, false, not, List, [], ◌∷◌, length, get_or, drop, filter, suc, zero, refl, sym, ap, subst, arith}
use Rattle.std.specs.Ordering.{nat_cmp, is_lt, is_gt}
use Rattle.std.proofs.lemmas.Bool.{true_from_ne_false}
use Rattle.mr_base.specs.declared.stop.Direction.{Direction}
use Rattle.mr_iter.specs.Versions.{Version, key_cmp, version_cmp, IsAtFront, IsInOrder, from_key}
use Rattle.mr_iter.specs.Order.{key_total, by_key, not_before}
use Rattle.mr_block.specs.Block.{no_version}

-- the versions before n have keys before this one, and the one at n hasn't
pub record IsBound (d : Direction) (key : List ℕ) (vs : List Version) (n : ℕ) : Type 0 where
  pub within : n ≤ length vs
  pub before : 0 < n → is_lt (key_cmp d (get_or vs (n - 1) no_version).key key) ≡ true
  pub behind : n < length vs → is_lt (key_cmp d (get_or vs n no_version).key key) ≡ false

front_at : (d : Direction) (v : Version) (vs : List Version) (i : ℕ) → i < length vs → IsAtFront (version_cmp d) v vs → is_gt (version_cmp d v (get_or vs i no_version)) ≡ false
front_at d v [] i lt all = absurd (omega arith)
front_at d v (w ∷ ws) zero lt all = all.0
front_at d v (w ∷ ws) (suc i) lt all = front_at d v ws i (omega arith) all.1

head_before : (d : Direction) (key : List ℕ) (v : Version) (vs : List Version) (n : ℕ) → n ≤ length vs → IsAtFront (version_cmp d) v vs → is_lt (key_cmp d (get_or (v ∷ vs) n no_version).key key) ≡ true → is_lt (key_cmp d v.key key) ≡ true
head_before d key v vs zero le front lt = lt
head_before d key v vs (suc n) le front lt = true_from_ne_false _ (λ no.
    let w = get_or vs n no_version in
    let e : is_lt (key_cmp d (get_or vs n no_version).key key) ≡ false = not_before (key_cmp d) (key_total d) v.key (get_or vs n no_version).key key (by_key (key_cmp d v.key (get_or vs n no_version).key) (nat_cmp (get_or vs n no_version).sequence v.sequence) (front_at d v vs n (omega arith) front)) no in cc)

all_kept : (d : Direction) (key : List ℕ) (v : Version) (vs : List Version) → is_lt (key_cmp d v.key key) ≡ false → IsAtFront (version_cmp d) v vs → filter (λ w. not (is_lt (key_cmp d w.key key))) vs ≡ vs
all_kept d key v [] least front = refl
all_kept d key v (w ∷ ws) least front =
    let kept : is_lt (key_cmp d w.key key) ≡ false = not_before (key_cmp d) (key_total d) v.key w.key key (by_key (key_cmp d v.key w.key) (nat_cmp w.sequence v.sequence) front.0) least in
    rw kept (ap (λ us. w ∷ us) (all_kept d key v ws least front.1))

pub found_at : (d : Direction) (key : List ℕ) (vs : List Version) (n : ℕ) → IsInOrder (version_cmp d) vs → IsBound d key vs n → drop n vs ≡ from_key d key vs
found_at d key [] zero ordered bound = refl
found_at d key [] (suc n) ordered bound = refl
found_at d key (v ∷ vs) zero ordered bound = let kept : is_lt (key_cmp d v.key key) ≡ false = bound.behind (omega arith) in rw kept (ap (λ us. v ∷ us) (sym (all_kept d key v vs kept ordered.0)))
found_at d key (v ∷ vs) (suc n) ordered bound =
    let gone : is_lt (key_cmp d v.key key) ≡ true = head_before d key v vs n (omega (arith, bound.within)) ordered.0 (subst (λ (m : ℕ). is_lt (key_cmp d (get_or (v ∷ vs) m no_version).key key) ≡ true) (omega arith) (bound.before (omega arith))) in
    rw gone (found_at d key vs n ordered.1 (record {
      within = omega (arith, bound.within);
      before = λ pos. inner n pos (subst (λ (m : ℕ). is_lt (key_cmp d (get_or (v ∷ vs) m no_version).key key) ≡ true) (omega arith) (bound.before (omega arith)));
      behind = λ lt. bound.behind (omega (arith, lt));
    }))
  where
    inner : (n : ℕ) → 0 < n → is_lt (key_cmp d (get_or (v ∷ vs) n no_version).key key) ≡ true → is_lt (key_cmp d (get_or vs (n - 1) no_version).key key) ≡ true
    inner zero pos is = absurd (omega arith)
    inner (suc m) pos is = subst (λ (k : ℕ). is_lt (key_cmp d (get_or vs k no_version).key key) ≡ true) (omega arith) is
