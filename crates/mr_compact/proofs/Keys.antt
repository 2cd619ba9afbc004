-- Keys in a list in order.
use Rattle.std.proofs.Common.{◌≡◌, ℕ, Bool, true, false, List, [], ◌∷◌, refl, sym, ap, subst, inl, inr}
use Rattle.std.specs.List.{AllByRecursion}
use Rattle.std.specs.declared.cmp.Ordering.{Ordering}
use Rattle.std.specs.declared.cmp.Ordering.TheVariants.{Less, Equal, Greater}
use Rattle.std.specs.Ordering.{nat_cmp, is_gt, ordering_reverse}
use Rattle.std.proofs.lemmas.Bool.{cases_Bool}
use Rattle.mr_base.specs.declared.stop.Direction.{Direction}
use Rattle.mr_base.specs.declared.stop.Direction.TheVariants.{Forward, Reverse}
use Rattle.mr_iter.specs.Versions.{Version, key_cmp, version_cmp, IsAtFront}
use Rattle.mr_iter.specs.Order.{key_total, by_key}
use Rattle.mr_iter.specs.Newest.{is_of}
use Rattle.mr_iter.proofs.Newer.{same_bytes, key_is, of_itself}

pub clash : {b : Bool} → b ≡ false → b ≡ true → ⊥
clash low high = cc

turned : (a b : Ordering) → b ≡ ordering_reverse a → is_gt a ≡ false → is_gt b ≡ false → a ≡ Equal
turned Less b e low high = let g : is_gt b ≡ true = ap is_gt e in absurd (clash high g)
turned Equal b e low high = refl
turned Greater b e low high = cc

tied_key : (d : Direction) (a b : List ℕ) → key_cmp d a b ≡ Equal → a ≡ b
tied_key Forward a b is = same_bytes a b is
tied_key Reverse a b is = sym (same_bytes b a is)

module _ (d : Direction) (key : List ℕ) where
  -- behind a version of a later key none is of the key
  pub later_key : (v w : Version) → is_gt (key_cmp d key v.key) ≡ false → is_of key v ≡ false → is_gt (key_cmp d v.key w.key) ≡ false → is_of key w ≡ false
  later_key v w low other front = elim (cases_Bool (is_of key w)) [
    | inl is ↦
        let same : key ≡ w.key = key_is key w is in
        let back : is_gt (key_cmp d v.key key) ≡ false = subst (λ (k : List ℕ). is_gt (key_cmp d v.key k) ≡ false) (sym same) front in
        let equal : key ≡ v.key = tied_key d key v.key (turned (key_cmp d key v.key) (key_cmp d v.key key) ((key_total d).antisymm v.key key) low back) in
        absurd (clash other (subst (λ (k : List ℕ). is_of k v ≡ true) (sym equal) (of_itself v)))
    | inr no_w ↦ no_w
  ]

  pub later_keys : (v : Version) (ws : List Version) → is_gt (key_cmp d key v.key) ≡ false → is_of key v ≡ false → IsAtFront (version_cmp d) v ws → AllByRecursion (λ (w : Version). is_of key w ≡ false) ws
  later_keys v [] low other front = tt
  later_keys v (w ∷ ws) low other front = (later_key v w low other (by_key (key_cmp d v.key w.key) (nat_cmp w.sequence v.sequence) front.0), later_keys v ws low other front.1)

  abbrev pub NotBehind : List Version → Type 0
  NotBehind vs = AllByRecursion (λ (w : Version). is_gt (key_cmp d key w.key) ≡ false) vs

  pub behind : (v : Version) (vs : List Version) → key ≡ v.key → IsAtFront (version_cmp d) v vs → NotBehind vs
  behind v [] same front = tt
  behind v (w ∷ ws) same front = (subst (λ (k : List ℕ). is_gt (key_cmp d k w.key) ≡ false) (sym same) (by_key (key_cmp d v.key w.key) (nat_cmp w.sequence v.sequence) front.0), behind v ws same front.1)
