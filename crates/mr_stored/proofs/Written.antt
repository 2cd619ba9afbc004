-- The newest version of a key after a batch.
use Rattle.std.proofs.Common.{◌≡◌, ◌&&◌, ◌==◌, ℕ, ◌≤◌, Bool, true, false, cond, nat_lt, List, [], ◌∷◌, Option, Some, None, refl, sym, ◌∙◌, ap, subst, inl, inr, arith}
use Rattle.std.specs.List.{AllByRecursion}
use Rattle.std.proofs.lemmas.Bool.{cases_Bool}
use Rattle.std.proofs.lemmas.Bool.Decides.{nat_tests}
use Rattle.std.specs.Cmp.Lexicographic.{slice_cmp}
use Rattle.std.specs.Ordering.{nat_cmp, is_eq}
use Rattle.mr_base.specs.declared.stop.Direction.{Direction}
use Rattle.mr_wal.specs.declared.operation.Operation.{Operation}
use Rattle.mr_iter.specs.Versions.{Version, as_version, version_cmp, place_in, IsInOrder}
use Rattle.mr_iter.specs.Order.{IsInOrder-place_in, version_total}
use Rattle.mr_iter.specs.Newest.{newest, is_at, later}
use Rattle.mr_iter.proofs.Newer.{same_bytes, eq_of, newest_placed, newest_others}
use Rattle.mr_families.specs.Batches.{with_operations, version_of, is_on}
use Rattle.mr_stored.specs.Names.{or_else, last_on}

-- the version that the last operation on a key leaves, or else the one before
abbrev pub with_last : ℕ → List ℕ → Option Operation → Option Version → Option Version
with_last sequence key None before = before
with_last sequence key (Some o) before = Some (as_version key sequence o.put)

-- it isn't past this number
abbrev pub IsUpto : ℕ → Option Version → Type 0
IsUpto number None = Unit {0}
IsUpto number (Some v) = v.sequence ≤ number

not_later : (m n : ℕ) → n ≤ m → nat_lt m n ≡ false
not_later m n le = grind (arith, nat_tests)

later_than : (v : Version) (before : Option Version) → IsUpto v.sequence before → later (Some v) before ≡ Some v
later_than v None upto = refl
later_than v (Some w) upto = rw (not_later v.sequence w.sequence upto) refl

upto_of : (number n : ℕ) → n ≤ number → nat_lt number n ≡ false
upto_of number n le = not_later number n le

with_other : (sequence : ℕ) (key : List ℕ) (o : Operation) (last : Option Operation) (before : Option Version) → with_last sequence key last (Some (as_version key sequence o.put)) ≡ with_last sequence key (or_else last (Some o)) before
with_other sequence key o None before = refl
with_other sequence key o (Some p) before = refl

or_nothing : (last : Option Operation) → or_else last None ≡ last
or_nothing None = refl
or_nothing (Some o) = refl

module _ (d : Direction) (number family sequence : ℕ) (key : List ℕ) (le : sequence ≤ number) where
  at_of : (o : Operation) → is_at number key (version_of sequence o) ≡ is_eq (slice_cmp nat_cmp key o.key)
  at_of o = rw (upto_of number sequence le) refl

  -- where the batch has an operation on the key, the version before isn't past its number
  abbrev pub UptoWhereOn : List Operation → Option Version → Type 0
  UptoWhereOn os before = AllByRecursion (λ (o : Operation). is_on family key o ≡ true → IsUpto sequence before) os

  upto_same : (os : List Operation) (a b : Option Version) → a ≡ b → UptoWhereOn os a → UptoWhereOn os b
  upto_same os a b same upto = subst (UptoWhereOn os) same upto

  upto_new : (os : List Operation) (o : Operation) (a : Option Version) → a ≡ Some (as_version key sequence o.put) → UptoWhereOn os a
  upto_new [] o a is = tt
  upto_new (p ∷ os) o a is = ((λ on. subst (IsUpto sequence) (sym is) le_itself), upto_new os o a is)
    where
      le_itself : sequence ≤ sequence
      le_itself = omega arith

  pub newest_after : (os : List Operation) (vs : List Version) → IsInOrder (version_cmp d) vs → UptoWhereOn os (newest number key vs) → newest number key (with_operations d family sequence os vs) ≡ with_last sequence key (last_on family key os) (newest number key vs)
  newest_after [] vs order upto = refl
  newest_after (o ∷ os) vs order upto = elim (cases_Bool (o.family == family)) [
    | inr other ↦ rw (other, or_nothing (last_on family key os)) (newest_after os vs order upto.1)
    | inl own ↦
        let placed = place_in (version_cmp d) (version_of sequence o) vs in
        let order' = IsInOrder-place_in (version_cmp d) (version_total d) (version_of sequence o) vs order in
        elim (cases_Bool (is_eq (slice_cmp nat_cmp key o.key))) [
          | inr not_of ↦
              let same = newest_others d number key (version_of sequence o) vs (at_of o ∙ not_of) in
              rw (own, not_of, or_nothing (last_on family key os))
              (newest_after os placed order' (upto_same os (newest number key vs) (newest number key placed) (sym same) upto.1) ∙ ap (with_last sequence key (last_on family key os)) same)
          | inl of ↦
              let key_of : key ≡ o.key = same_bytes key o.key (eq_of (slice_cmp nat_cmp key o.key) of) in
              let before : IsUpto sequence (newest number key vs) = upto.0 (ap (λ (b : Bool). b && is_eq (slice_cmp nat_cmp key o.key)) own ∙ of) in
              let found : newest number key placed ≡ Some (as_version key sequence o.put) =
              newest_placed d number key (version_of sequence o) vs order
              ∙ ap (λ (b : Bool). later (cond b (Some (version_of sequence o)) None) (newest number key vs)) (at_of o ∙ of)
              ∙ later_than (version_of sequence o) (newest number key vs) before
              ∙ ap (λ (k : List ℕ). Some (as_version k sequence o.put)) (sym key_of) in
              rw (own, of)
              (newest_after os placed order' (upto_new os o (newest number key placed) found)
              ∙ ap (with_last sequence key (last_on family key os)) found
              ∙ with_other sequence key o (last_on family key os) (newest number key vs))
        ]
  ]
