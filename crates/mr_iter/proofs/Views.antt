-- The view at a number has of each key the newest version.
use Rattle.std.proofs.Common.{◌≡◌, ◌||◌, ℕ, ◌<◌, ◌≤◌, Bool, true, false, cond, nat_lt, List, [], ◌∷◌, filter, length, Option, Some, None, is_some, refl, sym, ap, subst, inl, inr, arith}
use Rattle.std.specs.List.{AllByRecursion}
use Rattle.std.specs.declared.cmp.Ordering.{Ordering}
use Rattle.std.specs.declared.cmp.Ordering.TheVariants.{Less, Equal, Greater}
use Rattle.std.specs.Cmp.Lexicographic.{slice_cmp}
use Rattle.std.specs.Ordering.{nat_cmp, is_gt, ordering_reverse}
use Rattle.std.proofs.lemmas.Bool.{cases_Bool}
use Rattle.std.proofs.lemmas.Bool.Decides.{nat_tests}
use Rattle.mr_base.specs.declared.stop.Direction.{Direction}
use Rattle.mr_iter.specs.Versions.{Version, key_cmp, version_cmp, IsInOrder, IsAtFront, place_in}
use Rattle.mr_iter.specs.Snapshots.{shown, is_hidden, is_skipped, each-shown}
use Rattle.mr_iter.specs.Newest.{is_of, newest, shown_one}
use Rattle.mr_iter.proofs.Placing.{clash}
use Rattle.mr_iter.proofs.Newer.{eq_of, same_bytes, key_is, of_itself}
use Rattle.mr_iter.specs.Order.{key_total, by_key}
use Rattle.mr_base.specs.declared.stop.Direction.TheVariants.{Forward, Reverse}

past : (number n : ℕ) → number < n → nat_lt number n ≡ true
past number n lt = grind (arith, nat_tests)

-- a later version isn't seen
pub shown_without : (d : Direction) (number : ℕ) (skip : Option (List ℕ)) (v : Version) (vs : List Version) → number < v.sequence → shown number skip (place_in (version_cmp d) v vs) ≡ shown number skip vs
shown_without d number skip v [] lt = let p = past number v.sequence lt in rw p refl
shown_without d number skip v (w ∷ ws) lt = elim (cases_Bool (is_gt (version_cmp d v w))) [
  | inl gt ↦ rw gt (let none = shown_without d number skip v ws lt in let some = shown_without d number (Some w.key) v ws lt in cc)
  | inr le ↦ let p = past number v.sequence lt in rw le (rw p refl)
]

pub turned : (a b : Ordering) → b ≡ ordering_reverse a → is_gt a ≡ false → is_gt b ≡ false → a ≡ Equal
turned Less b e low high = let g : is_gt b ≡ true = ap is_gt e in absurd (clash high g)
turned Equal b e low high = refl
turned Greater b e low high = cc

tied_key : (d : Direction) (a b : List ℕ) → key_cmp d a b ≡ Equal → a ≡ b
tied_key Forward a b is = same_bytes a b is
tied_key Reverse a b is = sym (same_bytes b a is)

or_second : (a b : Bool) → (a || b) ≡ false → b ≡ false
or_second true b is = cc
or_second false b is = is

module _ (d : Direction) (number : ℕ) (key : List ℕ) where
  none_kept : (vs : List Version) → AllByRecursion (λ w. is_of key w ≡ false) vs → filter (is_of key) vs ≡ []
  none_kept [] all = refl
  none_kept (w ∷ ws) all = rw all.0 (none_kept ws all.1)

  none_shown : (skip : Option (List ℕ)) (vs : List Version) → AllByRecursion (λ w. is_of key w ≡ false) vs → filter (is_of key) (shown number skip vs) ≡ []
  none_shown skip vs all = none_kept (shown number skip vs) (each-shown (λ w. is_of key w ≡ false) number skip vs all)

  -- behind a version of a later key no version is of the key
  later_key : (v w : Version) → is_gt (key_cmp d key v.key) ≡ false → is_of key v ≡ false → is_gt (key_cmp d v.key w.key) ≡ false → is_of key w ≡ false
  later_key v w low other front = elim (cases_Bool (is_of key w)) [
    | inl is ↦
        let same : key ≡ w.key = key_is key w is in
        let back : is_gt (key_cmp d v.key key) ≡ false = subst (λ (k : List ℕ). is_gt (key_cmp d v.key k) ≡ false) (sym same) front in
        let equal : key ≡ v.key = tied_key d key v.key (turned (key_cmp d key v.key) (key_cmp d v.key key) ((key_total d).antisymm v.key key) low back) in
        absurd (clash other (subst (λ (k : List ℕ). is_of k v ≡ true) (sym equal) (of_itself v)))
    | inr no_w ↦ no_w
  ]

  pub later_keys : (v : Version) (ws : List Version) → is_gt (key_cmp d key v.key) ≡ false → is_of key v ≡ false → IsAtFront (version_cmp d) v ws → AllByRecursion (λ w. is_of key w ≡ false) ws
  later_keys v [] low other front = tt
  later_keys v (w ∷ ws) low other front = (later_key v w low other (by_key (key_cmp d v.key w.key) (nat_cmp w.sequence v.sequence) front.0), later_keys v ws low other front.1)

  abbrev NotBehind : List Version → Type 0
  NotBehind vs = AllByRecursion (λ (w : Version). is_gt (key_cmp d key w.key) ≡ false) vs

  -- a key that was passed doesn't come again
  passed : (vs : List Version) → IsInOrder (version_cmp d) vs → NotBehind vs → filter (is_of key) (shown number (Some key) vs) ≡ []
  passed [] all low = refl
  passed (v ∷ vs) all low = elim (cases_Bool (is_hidden number (Some key) v)) [
    | inl hidden ↦ rw hidden (passed vs all.1 low.1)
    | inr seen ↦
        let other : is_of key v ≡ false = or_second (nat_lt number v.sequence) (is_of key v) seen in
        let rest = none_shown (Some v.key) vs (later_keys v vs low.0 other all.0) in
        elim (cases_Bool (is_some v.put)) [
          | inl put ↦ rw (seen, put) (rw other rest)
          | inr gone ↦ rw (seen, gone) rest
        ]
  ]

  behind : (v : Version) (vs : List Version) → key ≡ v.key → IsAtFront (version_cmp d) v vs → NotBehind vs
  behind v [] same front = tt
  behind v (w ∷ ws) same front = (subst (λ (k : List ℕ). is_gt (key_cmp d k w.key) ≡ false) (sym same) (by_key (key_cmp d v.key w.key) (nat_cmp w.sequence v.sequence) front.0), behind v ws same front.1)

  unlike : (v : Version) → is_of key v ≡ false → is_skipped (Some v.key) key ≡ false
  unlike v other = elim (cases_Bool (is_skipped (Some v.key) key)) [
    | inl is ↦
        let same : v.key ≡ key = same_bytes v.key key (eq_of (slice_cmp nat_cmp v.key key) is) in
        absurd (clash other (subst (λ (k : List ℕ). is_of k v ≡ true) same (of_itself v)))
    | inr none ↦ none
  ]

  pub view_of : (skip : Option (List ℕ)) (vs : List Version) → is_skipped skip key ≡ false → IsInOrder (version_cmp d) vs → filter (is_of key) (shown number skip vs) ≡ shown_one (newest number key vs)
  view_of skip [] other all = refl
  view_of skip (v ∷ vs) other all = elim (cases_Bool (nat_lt number v.sequence)) [
    | inl late ↦ rw late (view_of skip vs other all.1)
    | inr now ↦ elim (cases_Bool (is_of key v)) [
      | inl is ↦
          let same : key ≡ v.key = key_is key v is in
          let seen : is_skipped skip v.key ≡ false = subst (λ (k : List ℕ). is_skipped skip k ≡ false) same other in
          let rest : filter (is_of key) (shown number (Some v.key) vs) ≡ [] = subst (λ (k : List ℕ). filter (is_of key) (shown number (Some k) vs) ≡ []) same (passed vs all.1 (behind v vs same all.0)) in
          elim (cases_Bool (is_some v.put)) [
            | inl put ↦ rw (now, is, seen, put) (rw is (ap (λ (ws : List Version). v ∷ ws) rest))
            | inr gone ↦ rw (now, is, seen, gone) rest
          ]
      | inr no_v ↦ elim (cases_Bool (is_skipped skip v.key)) [
        | inl skipped ↦ rw (now, no_v, skipped) (view_of skip vs other all.1)
        | inr seen ↦ elim (cases_Bool (is_some v.put)) [
          | inl put ↦ rw (now, no_v, seen, put) (rw no_v (view_of (Some v.key) vs (unlike v no_v) all.1))
          | inr gone ↦ rw (now, no_v, seen, gone) (view_of (Some v.key) vs (unlike v no_v) all.1)
        ]
      ]
    ]
  ]

shown_once : (o : Option Version) → length (shown_one o) ≤ 1
shown_once None = omega arith
shown_once (Some v) = elim (is_some v.put) as (λ b. length (cond b (v ∷ []) []) ≤ 1) [
  | true ↦ omega arith
  | false ↦ omega arith
]

-- each key once
pub view_once : (d : Direction) (number : ℕ) (key : List ℕ) (vs : List Version) → IsInOrder (version_cmp d) vs → length (filter (is_of key) (shown number None vs)) ≤ 1
view_once d number key vs all = subst (λ (ws : List Version). length ws ≤ 1) (sym (view_of d number key None vs refl all)) (shown_once (newest number key vs))
