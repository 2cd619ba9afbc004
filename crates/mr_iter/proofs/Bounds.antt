-- The newest version by the place of its key and number.
use Rattle.std.proofs.Common.{◌≡◌, ℕ, ◌-◌, ◌<◌, ◌≤◌, true, false, List, [], ◌∷◌, length, get_or, drop, suc, zero, Some, None, refl, sym, ◌∙◌, subst, inl, inr, arith}
use Rattle.std.specs.Ordering.{nat_cmp, is_gt}
use Rattle.std.proofs.lemmas.Cmp.{upto}
use Rattle.std.proofs.lemmas.Bool.{cases_Bool, true_from_ne_false}
use Rattle.mr_base.specs.declared.stop.Direction.{Direction}
use Rattle.mr_iter.specs.Versions.{Version, as_version, key_cmp, version_cmp, IsAtFront, IsInOrder, first}
use Rattle.mr_iter.specs.Order.{version_total, by_key, front-trans}
use Rattle.mr_iter.specs.Newest.{is_of, is_at, newest, only_of, IsPlaceOf}
use Rattle.mr_iter.proofs.Placing.{clash}
use Rattle.mr_iter.proofs.Newer.{at_is, at_itself, key_is, older, upto_front}
use Rattle.mr_iter.proofs.Seeking.{newest_none, Behind}

module _ (d : Direction) (number : ℕ) (key : List ℕ) where
  abbrev sought : Version
  sought = as_version key number None

  at_front : (v w : Version) (vs : List Version) (i : ℕ) → i < length vs → IsAtFront (version_cmp d) v vs → is_gt (version_cmp d v (get_or vs i w)) ≡ false
  at_front v w [] i lt all = absurd (omega arith)
  at_front v w (x ∷ xs) zero lt all = all.0
  at_front v w (x ∷ xs) (suc i) lt all = at_front v w xs i (omega arith) all.1

  -- what comes before the place isn't of the key, or is past the number
  not_yet : (v : Version) → is_gt (version_cmp d sought v) ≡ true → is_at number key v ≡ false
  not_yet v gt = elim (cases_Bool (is_at number key v)) [
    | inl at ↦ let parts = at_is number key v at in let lt : number < v.sequence = older d number sought v parts.1 gt in absurd (omega (arith, parts.0, lt))
    | inr other ↦ other
  ]

  earlier : (v w : Version) → is_gt (version_cmp d v w) ≡ false → is_gt (version_cmp d sought w) ≡ true → is_gt (version_cmp d sought v) ≡ true
  earlier v w le gt = true_from_ne_false _ (λ no. absurd (clash (upto (version_total d) sought v w no le) gt))

  behind_all : (vs : List Version) → IsAtFront (version_cmp d) sought vs → Behind d key vs
  behind_all [] all = tt
  behind_all (v ∷ vs) all = (by_key (key_cmp d key v.key) (nat_cmp v.sequence number) all.0, behind_all vs all.1)

  -- it stands at the place, or there is none
  here : (vs : List Version) → IsInOrder (version_cmp d) vs → ((v : Version) → 0 < length vs → is_gt (version_cmp d sought (get_or vs 0 v)) ≡ false) → newest number key vs ≡ only_of key (first vs)
  here [] all least = refl
  here (v ∷ vs) all least = elim (cases_Bool (is_of key v)) [
    | inl is ↦
        let le : v.sequence ≤ number = upto_front d number sought v (key_is key v is) (least v (omega arith)) in
        let same : key ≡ v.key = key_is key v is in
        let at : is_at number key v ≡ true = subst (λ (k : List ℕ). is_at number k v ≡ true) (sym same) (at_itself number v le) in
        rw (at, is)
    | inr other ↦
        let front : IsAtFront (version_cmp d) sought (v ∷ vs) = (least v (omega arith), front-trans (version_cmp d) (version_total d) sought v vs (least v (omega arith)) all.0) in
        newest_none d number key v vs all (behind_all (v ∷ vs) front) other ∙ none other
  ]
    where
      none : is_of key v ≡ false → None ≡ only_of key (Some v)
      none other = rw other refl

  pub newest_at : (vs : List Version) (n : ℕ) → IsInOrder (version_cmp d) vs → IsPlaceOf d number key vs n → newest number key vs ≡ only_of key (first (drop n vs))
  newest_at vs zero all place = here vs all place.behind
  newest_at [] (suc n) all place = refl
  newest_at (v ∷ vs) (suc n) all place =
      let gone = not_yet v (ahead n place.within (subst (λ (m : ℕ). is_gt (version_cmp d sought (get_or (v ∷ vs) m v)) ≡ true) (omega arith) (place.before v (omega arith)))) in
      rw gone (newest_at vs n all.1 (record {
        within = omega (arith, place.within);
        before = λ w pos. inner w n pos (subst (λ (m : ℕ). is_gt (version_cmp d sought (get_or (v ∷ vs) m w)) ≡ true) (omega arith) (place.before w (omega arith)));
        behind = λ w lt. place.behind w (omega (arith, lt));
      }))
    where
      ahead : (n : ℕ) → suc n ≤ length (v ∷ vs) → is_gt (version_cmp d sought (get_or (v ∷ vs) n v)) ≡ true → is_gt (version_cmp d sought v) ≡ true
      ahead zero le gt = gt
      ahead (suc m) le gt = earlier v (get_or vs m v) (at_front v v vs m (omega (arith, le)) all.0) gt

      inner : (w : Version) (n : ℕ) → 0 < n → is_gt (version_cmp d sought (get_or (v ∷ vs) n w)) ≡ true → is_gt (version_cmp d sought (get_or vs (n - 1) w)) ≡ true
      inner w zero pos gt = absurd (omega arith)
      inner w (suc m) pos gt = subst (λ (k : ℕ). is_gt (version_cmp d sought (get_or vs k w)) ≡ true) (omega arith) gt
