-- A table's hidden number replaced in its entry is the number put in front of all.
use Rattle.std.proofs.Common.{◌≡◌, ◌<◌, ◌+◌, ℕ, suc, Bool, true, false, List, [], ◌∷◌, length, slice_set, if◌then◌else◌, refl, sym, ap, subst, ◌∙◌, arith}
use Rattle.std.proofs.Math.Path.{fun_ext}
use Rattle.std.proofs.lemmas.Slice.Eq.{bytes_eq-Decides}
use Rattle.mr_types.specs.Values.{same_bytes}
use Rattle.mr_spec.specs.World.{at_name}
use Rattle.mr_model_engine.specs.declared.engine.NextNumber.{NextNumber}
use Rattle.mr_model_engine.specs.Worlds.{numbers_in, place_among}

-- what stands before is hidden by what stands in front at the same name
hidden : (name old : List ℕ) (n m : ℕ) (f : List ℕ → ℕ) → same_bytes name old ≡ true → (other : List ℕ) → at_name name n f other ≡ at_name name n (at_name old m f) other
hidden name old n m f e other = by_name (same_bytes other name) refl
  where
    by_name : (b : Bool) → same_bytes other name ≡ b → (if b then n else f other) ≡ (if b then n else at_name old m f other)
    by_name true h = refl
    by_name false h = sym (ap (λ b. if b then m else f other) (subst (λ k. same_bytes other k ≡ false) ((bytes_eq-Decides name old).0 e) h))

-- entries of two names may change places
apart : (name old : List ℕ) (n m : ℕ) (f : List ℕ → ℕ) → same_bytes name old ≡ false → (other : List ℕ) → at_name old m (at_name name n f) other ≡ at_name name n (at_name old m f) other
apart name old n m f e other = by_name (same_bytes other name) refl
  where
    by_name : (b : Bool) → same_bytes other name ≡ b → at_name old m (at_name name n f) other ≡ (if b then n else at_name old m f other)
    by_name true h =
        let is : other ≡ name = (bytes_eq-Decides other name).0 h in
        ap (λ b. if b then m else at_name name n f other) (subst (λ k. same_bytes k old ≡ false) (sym is) e) ∙ ap (λ b. if b then n else f other) h
    by_name false h = ap (λ k. if same_bytes other old then m else k) (ap (λ b. if b then n else f other) h)

pub replaced : (name : List ℕ) (n : ℕ) (es : List NextNumber) → place_among name es < length es
    → numbers_in (slice_set es (place_among name es) (record { table = name; number = n })) ≡ at_name name n (numbers_in es)
replaced name n [] l = absurd (omega arith)
replaced name n (e ∷ es) l = by_name (λ k. replaced name n es k) (same_bytes name e.table) refl l
  where
    by_name : (place_among name es < length es → numbers_in (slice_set es (place_among name es) (record { table = name; number = n })) ≡ at_name name n (numbers_in es))
        → (b : Bool) → same_bytes name e.table ≡ b → (if b then 0 else suc (place_among name es)) < length (e ∷ es)
        → numbers_in (slice_set (e ∷ es) (if b then 0 else suc (place_among name es)) (record { table = name; number = n })) ≡ at_name name n (numbers_in (e ∷ es))
    by_name f true h k = fun_ext (hidden name e.table n e.number (numbers_in es) h)
    by_name f false h k = ap (at_name e.table e.number) (f (omega (arith, k))) ∙ fun_ext (apart name e.table n e.number (numbers_in es) h)
