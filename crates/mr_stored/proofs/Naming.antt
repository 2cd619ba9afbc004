-- Directions of families after a batch.
use Rattle.std.proofs.Common.{◌≡◌, ◌&&◌, ◌||◌, ◌==◌, ℕ, ◌≤◌, ◌<◌, ◌^◌, Bool, true, false, if◌then◌else◌, nat_lt, nat_eq, is_some, List, [], ◌∷◌, ◌++◌, take, Option, Some, None, refl, sym, ◌∙◌, ap, subst, inl, inr, arith}
use Rattle.std.specs.List.{AllByRecursion}
use Rattle.std.proofs.lemmas.Bool.{cases_Bool}
use Rattle.std.specs.Cmp.Lexicographic.{slice_cmp, pointwise}
use Rattle.std.specs.Ordering.{nat_cmp, is_eq}
use Rattle.mr_base.specs.declared.stop.Direction.TheVariants.{Forward}
use Rattle.mr_wal.specs.declared.operation.Operation.{Operation}
use Rattle.mr_iter.specs.Versions.{Version, as_version, version_cmp, IsInOrder}
use Rattle.mr_iter.specs.Newest.{newest}
use Rattle.mr_iter.proofs.Newer.{same_bytes, eq_of}
use Rattle.mr_families.specs.Batches.{with_operations, is_on}
use Rattle.mr_stored.specs.Names.{family_kind, family_key, record_of, is_name, is_named, direction_in, record_direction, put_direction, last_on, names, is_naming, named_direction, operation_direction, is_on_name, IsNaming}
use Rattle.mr_stored.proofs.Written.{with_last, IsUpto, newest_after}

-- the family's own record is a record of that kind
pub on_name : (family : ℕ) (o : Operation) → is_on 0 (family_key family) o ≡ true → is_on_name o ≡ true
on_name family o is = elim (cases_Bool (o.family == 0)) [
  | inr other ↦ absurd (Rattle.std.proofs.Common.true≢false (sym is ∙ ap (λ (b : Bool). b && is_eq (slice_cmp nat_cmp (family_key family) o.key)) other))
  | inl own ↦
      let of : is_eq (slice_cmp nat_cmp (family_key family) o.key) ≡ true = sym (ap (λ (b : Bool). b && is_eq (slice_cmp nat_cmp (family_key family) o.key)) own) ∙ is in
      let key : family_key family ≡ o.key = same_bytes (family_key family) o.key (eq_of (slice_cmp nat_cmp (family_key family) o.key) of) in
      ap (λ (b : Bool). b && pointwise nat_eq (take 4 o.key) family_kind) own ∙ ap (λ (k : List ℕ). pointwise nat_eq (take 4 k) family_kind) (sym key)
]

pub on_key : (family : ℕ) (o : Operation) → is_on 0 (family_key family) o ≡ true → o.key ≡ family_key family
on_key family o is = elim (cases_Bool (o.family == 0)) [
  | inr other ↦ absurd (Rattle.std.proofs.Common.true≢false (sym is ∙ ap (λ (b : Bool). b && is_eq (slice_cmp nat_cmp (family_key family) o.key)) other))
  | inl own ↦
      let of : is_eq (slice_cmp nat_cmp (family_key family) o.key) ≡ true = sym (ap (λ (b : Bool). b && is_eq (slice_cmp nat_cmp (family_key family) o.key)) own) ∙ is in
      sym (same_bytes (family_key family) o.key (eq_of (slice_cmp nat_cmp (family_key family) o.key) of))
]

module _ (sequence : ℕ) (below : sequence < 2 ^ 63) (system : List Version) (order : IsInOrder (version_cmp Forward) system) (batch : List Operation) (kept : AllByRecursion (λ (o : Operation). is_on_name o ≡ true → newest (2 ^ 63) o.key system ≡ None) batch) where
  abbrev after : List Version
  after = with_operations Forward 0 sequence batch system

  -- a batch with an operation on the family's record has no record before it
  none_before : (family : ℕ) (os : List Operation) → AllByRecursion (λ (o : Operation). is_on_name o ≡ true → newest (2 ^ 63) o.key system ≡ None) os → AllByRecursion (λ (o : Operation). is_on 0 (family_key family) o ≡ true → record_of family system ≡ None) os
  none_before family [] all = tt
  none_before family (o ∷ os) all = ((λ on. subst (λ (k : List ℕ). newest (2 ^ 63) k system ≡ None) (on_key family o on) (all.0 (on_name family o on))), none_before family os all.1)

  upto : (family : ℕ) (os : List Operation) → AllByRecursion (λ (o : Operation). is_on 0 (family_key family) o ≡ true → record_of family system ≡ None) os → AllByRecursion (λ (o : Operation). is_on 0 (family_key family) o ≡ true → IsUpto sequence (record_of family system)) os
  upto family [] all = tt
  upto family (o ∷ os) all = ((λ on. subst (IsUpto sequence) (sym (all.0 on)) tt), upto family os all.1)

  pub record_after : (family : ℕ) → record_of family after ≡ with_last sequence (family_key family) (last_on 0 (family_key family) batch) (record_of family system)
  record_after family = newest_after Forward (2 ^ 63) 0 sequence (family_key family) (omega (arith, below)) batch system order (upto family batch (none_before family batch kept))

  -- where the batch has one, there was none before
  last_none : (family : ℕ) (os : List Operation) (o : Operation) → AllByRecursion (λ (o : Operation). is_on 0 (family_key family) o ≡ true → record_of family system ≡ None) os → last_on 0 (family_key family) os ≡ Some o → record_of family system ≡ None
  last_none family [] o all is = cc
  last_none family (p ∷ os) o all is = elim (cases_Bool (is_on 0 (family_key family) p)) [
    | inl on ↦ all.0 on
    | inr not_on ↦ last_none family os o all.1 (behind (last_on 0 (family_key family) os) (sym (ap (λ (b : Bool). Rattle.mr_stored.specs.Names.or_else (last_on 0 (family_key family) os) (if b then Some p else None)) not_on) ∙ is))
  ]
    where
      behind : (last : Option Operation) → Rattle.mr_stored.specs.Names.or_else last None ≡ Some o → last ≡ Some o
      behind None is = cc
      behind (Some q) is = is

  -- ---- families that are named stay so, in their direction

  pub still_named : (family : ℕ) → is_name (record_of family system) ≡ true → record_of family after ≡ record_of family system
  still_named family is = still (last_on 0 (family_key family) batch) refl
    where
      still : (last : Option Operation) → last_on 0 (family_key family) batch ≡ last → record_of family after ≡ record_of family system
      still None e = record_after family ∙ ap (λ (l : Option Operation). with_last sequence (family_key family) l (record_of family system)) e
      still (Some o) e = absurd (Rattle.std.proofs.Common.true≢false (sym is ∙ ap is_name (last_none family batch o (none_before family batch kept) e)))

  -- what a batch names, it names in its direction
  pub named_after : (family : ℕ) → names family batch ≡ true → (is_name (record_of family after) ≡ true) × (record_direction (record_of family after) ≡ named_direction family batch)
  named_after family is = by (last_on 0 (family_key family) batch) refl
    where
      by : (last : Option Operation) → last_on 0 (family_key family) batch ≡ last → (is_name (record_of family after) ≡ true) × (record_direction (record_of family after) ≡ named_direction family batch)
      by None e = absurd (Rattle.std.proofs.Common.true≢false (sym is ∙ ap is_naming e))
      by (Some o) e =
          let new : record_of family after ≡ Some (as_version (family_key family) sequence o.put) = record_after family ∙ ap (λ (l : Option Operation). with_last sequence (family_key family) l (record_of family system)) e in
          (ap is_name new ∙ sym (ap is_naming e) ∙ is, ap record_direction new ∙ sym (ap operation_direction e))
