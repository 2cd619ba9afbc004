-- The direction that a batch gives a family.
use Rattle.std.proofs.Common.{◌≡◌, ℕ, Bool, true, false, if◌then◌else◌, is_some, List, [], ◌∷◌, ◌++◌, Option, Some, None, refl, sym, ◌∙◌, ap, subst, inl, inr}
use Rattle.std.proofs.lemmas.Bool.{cases_Bool}
use Rattle.mr_base.specs.declared.stop.Direction.{Direction}
use Rattle.mr_wal.specs.declared.operation.Operation.{Operation}
use Rattle.mr_families.specs.Batches.{is_on}
use Rattle.mr_stored.specs.Names.{family_key, or_else, last_on, names, is_naming, put_direction, operation_direction, named_direction}
use Rattle.mr_store_memory.specs.Held.{turned_by, turned}

-- by the last operation on the family's record
abbrev turned_last : Option Operation → Direction → Direction → Direction
turned_last None d e = d
turned_last (Some o) d e = if is_some o.put then put_direction o.put else e

some_none : {o : Operation} → ◌≡◌ {A = Option Operation} (Some o) None → ⊥
some_none e = cc

none_some : {o : Operation} → ◌≡◌ {A = Option Operation} None (Some o) → ⊥
none_some e = cc

-- the last operation, where this one is the first of them
abbrev on_step : Bool → Operation → Option Operation
on_step b o = if b then Some o else None

abbrev by_step : Bool → Operation → Direction → Direction
by_step b o d = if b then (if is_some o.put then put_direction o.put else d) else d

module _ (family : ℕ) where
  no_first : (p : Operation) (last : Option Operation) → or_else last (on_step (is_on 0 (family_key family) p) p) ≡ None → (last ≡ None) × (is_on 0 (family_key family) p ≡ false)
  no_first p (Some q) is = absurd (some_none is)
  no_first p None is = elim (cases_Bool (is_on 0 (family_key family) p)) [
    | inl on ↦ absurd (some_none (sym (ap (λ (b : Bool). on_step b p) on) ∙ is))
    | inr not_on ↦ (refl, not_on)
  ]

  -- where there is none, it stays
  pub turned_none : (os : List Operation) (d : Direction) → last_on 0 (family_key family) os ≡ None → turned family os d ≡ d
  turned_none [] d is = refl
  turned_none (p ∷ os) d is =
      let parts = no_first p (last_on 0 (family_key family) os) is in
      turned_none os (turned_by family p d) parts.0 ∙ ap (λ (b : Bool). by_step b p d) parts.1

  -- where the last one is a put, it tells the direction
  put_by : (p o : Operation) (os : List Operation) (d : Direction) (last : Option Operation) → last_on 0 (family_key family) os ≡ last → or_else last (on_step (is_on 0 (family_key family) p) p) ≡ Some o → is_some o.put ≡ true →
      (last ≡ Some o → turned family os (turned_by family p d) ≡ put_direction o.put) → turned family os (turned_by family p d) ≡ put_direction o.put
  put_by p o os d (Some q) e is put later = later is
  put_by p o os d None e is put later = elim (cases_Bool (is_on 0 (family_key family) p)) [
    | inl on ↦
        let same : Some p ≡ Some o = sym (ap (λ (b : Bool). on_step b p) on) ∙ is in
        turned_none os (turned_by family p d) e
        ∙ ap (λ (b : Bool). by_step b p d) on
        ∙ ap (λ (q : Option Operation). turned_last q d d) same
        ∙ ap (λ (b : Bool). if b then put_direction o.put else d) put
    | inr not_on ↦ absurd (none_some (sym (ap (λ (b : Bool). on_step b p) not_on) ∙ is))
  ]

  pub turned_put : (os : List Operation) (o : Operation) (d : Direction) → last_on 0 (family_key family) os ≡ Some o → is_some o.put ≡ true → turned family os d ≡ put_direction o.put
  turned_put [] o d is put = cc
  turned_put (p ∷ os) o d is put = put_by p o os d (last_on 0 (family_key family) os) refl is put (λ later. turned_put os o (turned_by family p d) later put)

  pub turned_named : (os : List Operation) (d : Direction) → names family os ≡ true → turned family os d ≡ named_direction family os
  turned_named os d is = by (last_on 0 (family_key family) os) refl
    where
      by : (last : Option Operation) → last_on 0 (family_key family) os ≡ last → turned family os d ≡ named_direction family os
      by None e = absurd (Rattle.std.proofs.Common.true≢false (sym is ∙ ap is_naming e))
      by (Some o) e = turned_put os o d e (sym (ap is_naming e) ∙ is) ∙ sym (ap operation_direction e)
