-- What a batch does to the versions of a family.
use Rattle.std.proofs.Common.{◌≡◌, ◌==◌, ◌&&◌, ℕ, ◌<◌, ◌≤◌, if◌then◌else◌, Bool, true, false, nat_lt, not, List, [], ◌∷◌, Some, refl, ◌∙◌, ap, subst, inl, inr, arith}
use Rattle.std.specs.List.{AllByRecursion, IsDistinct}
use Rattle.std.specs.Str.{bytes_eq}
use Rattle.std.proofs.lemmas.Bool.{cases_Bool}
use Rattle.std.proofs.lemmas.Bool.Decides.{nat_tests}
use Rattle.mr_base.specs.declared.stop.Direction.{Direction}
use Rattle.mr_wal.specs.declared.operation.Operation.{Operation}
use Rattle.mr_wal.specs.Distinct.{HaveDistinctKeys, same_key}
use Rattle.mr_iter.specs.Versions.{Version, version_cmp, place_in, IsInOrder}
use Rattle.mr_iter.specs.Order.{version_total, each-place_in, IsInOrder-place_in}
use Rattle.mr_iter.specs.Children.{AnyOf}
use Rattle.mr_iter.specs.Snapshots.{at_snapshot}
use Rattle.mr_iter.specs.Newest.{newest, is_of, is_at, NoneLater}
use Rattle.mr_iter.proofs.Newer.{key_is, newest_others, newest_found}
use Rattle.mr_families.specs.Batches.{version_of, with_operations, AreUpTo, is_on, NoneOn}

clash : {b : Bool} → b ≡ false → b ≡ true → ⊥
clash low high = cc

and_false : (a b : Bool) → a ≡ true → (a && b) ≡ false → b ≡ false
and_false true b is e = e
and_false false b is e = cc

and_other : (a b : Bool) → b ≡ false → (a && b) ≡ false
and_other true b e = e
and_other false b e = refl

same_number : (n : ℕ) → (n == n) ≡ true
same_number n = grind (arith, nat_tests)

same_bytes : (bs : List ℕ) → bytes_eq bs bs ≡ true
same_bytes [] = refl
same_bytes (b ∷ bs) = let e : (b == b) ≡ true = same_number b in rw e (same_bytes bs)

-- ---- one operation

-- the family's versions with one operation
abbrev pub with_one : Direction → ℕ → ℕ → Operation → List Version → List Version
with_one d family sequence o vs = if o.family == family then place_in (version_cmp d) (version_of sequence o) vs else vs

module _ (d : Direction) (family sequence : ℕ) where
  one_keeps : (P : List Version → Type 0) (o : Operation) (vs : List Version) → (P vs → P (place_in (version_cmp d) (version_of sequence o) vs)) → P vs → P (with_one d family sequence o vs)
  one_keeps P o vs law holds = elim (o.family == family) as (λ b. P (if b then place_in (version_cmp d) (version_of sequence o) vs else vs)) [
    | true ↦ law holds
    | false ↦ holds
  ]

  -- what each operation keeps, a batch keeps
  all_keep : (P : List Version → Type 0) → ((o : Operation) (vs : List Version) → P vs → P (place_in (version_cmp d) (version_of sequence o) vs)) → (os : List Operation) (vs : List Version) → P vs → P (with_operations d family sequence os vs)
  all_keep P law [] vs holds = holds
  all_keep P law (o ∷ os) vs holds = all_keep P law os (with_one d family sequence o vs) (one_keeps P o vs (law o vs) holds)

  pub still_ordered : (os : List Operation) (vs : List Version) → IsInOrder (version_cmp d) vs → IsInOrder (version_cmp d) (with_operations d family sequence os vs)
  still_ordered = all_keep (IsInOrder (version_cmp d)) (λ o vs. IsInOrder-place_in (version_cmp d) (version_total d) (version_of sequence o) vs)

  one_up_to : (o : Operation) (vs : List Version) → AreUpTo sequence vs → AreUpTo sequence (place_in (version_cmp d) (version_of sequence o) vs)
  one_up_to o vs all = each-place_in (version_cmp d) (version_total d) (λ (v : Version). v.sequence ≤ sequence) (version_of sequence o) vs (omega arith) all

  pub still_up_to : (os : List Operation) (vs : List Version) → AreUpTo sequence vs → AreUpTo sequence (with_operations d family sequence os vs)
  still_up_to = all_keep (AreUpTo sequence) one_up_to

  -- ---- other keys and smaller numbers

  pub others_stay : (number : ℕ) (key : List ℕ) (os : List Operation) (vs : List Version) → NoneOn family key os → newest number key (with_operations d family sequence os vs) ≡ newest number key vs
  others_stay number key [] vs none = refl
  others_stay number key (o ∷ os) vs none = others_stay number key os (with_one d family sequence o vs) none.1 ∙ one
    where
      one : newest number key (with_one d family sequence o vs) ≡ newest number key vs
      one = elim (cases_Bool (o.family == family)) [
        | inl is ↦
            let of_other : is_of key (version_of 0 o) ≡ false = and_false (o.family == family) (is_of key (version_of 0 o)) is none.0 in
            rw is (newest_others d number key (version_of sequence o) vs (and_other (not (nat_lt number sequence)) (is_of key (version_of sequence o)) of_other))
        | inr other ↦ rw other refl
      ]

  pub earlier_stay : (number : ℕ) (key : List ℕ) (os : List Operation) (vs : List Version) → number < sequence → newest number key (with_operations d family sequence os vs) ≡ newest number key vs
  earlier_stay number key [] vs lt = refl
  earlier_stay number key (o ∷ os) vs lt = earlier_stay number key os (with_one d family sequence o vs) lt ∙ one
    where
      late : nat_lt number sequence ≡ true
      late = grind (arith, nat_tests, lt)

      past : is_at number key (version_of sequence o) ≡ false
      past = rw late refl

      one : newest number key (with_one d family sequence o vs) ≡ newest number key vs
      one = elim (cases_Bool (o.family == family)) [
        | inl is ↦ rw is (newest_others d number key (version_of sequence o) vs past)
        | inr other ↦ rw other refl
      ]

  pub views_stay : ((number : ℕ) (v : Version) (vs : List Version) → number < v.sequence → at_snapshot number (place_in (version_cmp d) v vs) ≡ at_snapshot number vs) →
      (number : ℕ) (os : List Operation) (vs : List Version) → number < sequence → at_snapshot number (with_operations d family sequence os vs) ≡ at_snapshot number vs
  views_stay law number [] vs lt = refl
  views_stay law number (o ∷ os) vs lt = views_stay law number os (with_one d family sequence o vs) lt ∙ one_keeps (λ (ws : List Version). at_snapshot number ws ≡ at_snapshot number vs) o vs (λ e. law number (version_of sequence o) vs lt) refl

  -- ---- the keys that it names

  none_later : (number : ℕ) (o : Operation) (vs : List Version) → AreUpTo sequence vs → NoneLater number (version_of sequence o) vs
  none_later number o [] all = tt
  none_later number o (v ∷ vs) all = ((λ key upto. all.0), none_later number o vs all.1)

  apart : (o : Operation) (os : List Operation) → o.family ≡ family → AllByRecursion (λ (p : Operation). same_key o p ≡ false) os → NoneOn family o.key os
  apart o [] is all = tt
  apart o (p ∷ ps) is all = (here, apart o ps is all.1)
    where
      tested : (family_test key_test : Bool) → (family_test ≡ true → key_test ≡ true → ⊥) → (family_test && key_test) ≡ false
      tested true true law = absurd (law refl refl)
      tested true false law = refl
      tested false key_test law = refl

      both : (p.family == family) ≡ true → is_of o.key (version_of 0 p) ≡ true → same_key o p ≡ true
      both on same =
          let keys : o.key ≡ p.key = key_is o.key (version_of 0 p) same in
          let first : (o.family == p.family) ≡ true = grind (arith, nat_tests, on, is) in
          let second : bytes_eq o.key p.key ≡ true = subst (λ (k : List ℕ). bytes_eq o.key k ≡ true) keys (same_bytes o.key) in
          rw (first, second) refl

      here : is_on family o.key p ≡ false
      here = tested (p.family == family) (is_of o.key (version_of 0 p)) (λ on same. clash all.0 (both on same))

  pub named_is_newest : (number : ℕ) (os : List Operation) (o : Operation) (vs : List Version) → IsInOrder (version_cmp d) vs → AreUpTo sequence vs → HaveDistinctKeys os → AnyOf (λ p. p ≡ o) os → o.family ≡ family → sequence ≤ number →
      newest number o.key (with_operations d family sequence os vs) ≡ Some (version_of sequence o)
  unfolding IsDistinct
  named_is_newest number [] o vs order upto distinct any is le = absurd any
  named_is_newest number (p ∷ ps) o vs order upto distinct (inl here) is le =
      let e : p ≡ o = here in
      let on : (p.family == family) ≡ true = grind (arith, nat_tests, is, ap (λ (q : Operation). q.family) e) in
      let none : NoneOn family o.key ps = subst (λ (q : Operation). NoneOn family q.key ps) e (apart p ps (ap (λ (q : Operation). q.family) e ∙ is) distinct.0) in
      others_stay number o.key ps (with_one d family sequence p vs) none
      ∙ ap (λ (b : Bool). newest number o.key (if b then place_in (version_cmp d) (version_of sequence p) vs else vs)) on
      ∙ ap (λ (q : Operation). newest number o.key (place_in (version_cmp d) (version_of sequence q) vs)) e
      ∙ newest_found d number (version_of sequence o) vs order le (none_later number o vs upto)
  named_is_newest number (p ∷ ps) o vs order upto distinct (inr later) is le =
      named_is_newest number ps o (with_one d family sequence p vs) (one_keeps (IsInOrder (version_cmp d)) p vs (IsInOrder-place_in (version_cmp d) (version_total d) (version_of sequence p) vs) order) (one_keeps (AreUpTo sequence) p vs (one_up_to p vs) upto) distinct.1 later is le
