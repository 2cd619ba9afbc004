-- The loop over given values.
use Rattle.std.proofs.Common.{◌≡◌, ℕ, zero, suc, ◌<◌, List, [], ◌∷◌, Some, refl, sym, subst, arith, drop, length, get_or}
use Rattle.std.specs.Prelude.{slice_get, slice_index_or}
use Rattle.mr_types.specs.declared.definition.ColumnDef.{ColumnDef}
use Rattle.mr_types.specs.declared.value.Value.{Value}
use Rattle.mr_memcmp.specs.Fitting.{FitsPart}
use Rattle.mr_memcmp.specs.Parts.{given_parts, AllGiven}

pub given_fits : (columns : List ColumnDef) (places : List ℕ) (values : List Value) (i : ℕ) (value : Value) → AllGiven columns places values → i < length places → i < length values → value ≡ get_or values i value → FitsPart (slice_get columns (slice_index_or places i 0)) (Some value)
given_fits columns [] values i value h p q e = absurd (omega arith)
given_fits columns (x ∷ places) [] i value h p q e = absurd (omega arith)
given_fits columns (x ∷ places) (v ∷ values) zero value h p q e = subst (λ (w : Value). FitsPart (slice_get columns x) (Some w)) (sym e) h.0
given_fits columns (x ∷ places) (v ∷ values) (suc i) value h p q e = given_fits columns places values i value h.1 (omega arith) (omega arith) e

no_values : (columns : List ColumnDef) (places : List ℕ) → given_parts columns places [] ≡ []
no_values columns [] = refl
no_values columns (q ∷ places) = refl

pub given_end : (columns : List ColumnDef) (places : List ℕ) (values : List Value) (i : ℕ) → (i < length places → i < length values → ⊥) → given_parts columns (drop i places) (drop i values) ≡ []
given_end columns [] values zero h = refl
given_end columns [] values (suc i) h = refl
given_end columns (q ∷ places) [] zero h = refl
given_end columns (q ∷ places) [] (suc i) h = no_values columns (drop i places)
given_end columns (q ∷ places) (v ∷ values) zero h = absurd (h (omega arith) (omega arith))
given_end columns (q ∷ places) (v ∷ values) (suc i) h = given_end columns places values i (λ p w. h (omega arith) (omega arith))
