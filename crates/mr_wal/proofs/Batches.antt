-- Operations, one after another.
use Rattle.std.proofs.Common.{◌≡◌, ℕ, ◌+◌, ◌-◌, ◌<◌, suc, List, [], ◌∷◌, ◌++◌, refl, sym, ◌∙◌, ap, arith, append_assoc, Ok, Err}
use Rattle.mr_wal.specs.declared.operation.Operation.{Operation}
use Rattle.mr_wal.specs.Fields.{Read, ◌>>=◌}
use Rattle.mr_wal.specs.Operations.{operation_in}
use Rattle.mr_wal.specs.EngineLog.{operations_in}
use Rattle.mr_wal.specs.Given.{with_front}

one_left : (n i : ℕ) → i < n → n - i ≡ suc (n - (i + 1))
one_left n i lt = omega arith

pub in_front : (os : List Operation) (o : Operation) (r : Read (List Operation)) → with_front os (r >>= (λ more. Ok (o ∷ more.0, more.1))) ≡ with_front (os ++ o ∷ []) r
in_front os o (Ok r) = ap (λ (ps : List Operation). Ok (ps, r.1)) (sym (append_assoc os (o ∷ []) r.0))
in_front os o (Err left) = refl

module _ (os : List Operation) (n i : ℕ) (rest : List ℕ) (lt : i < n) where
  pub one_more : (o : Operation) (behind : List ℕ) → Ok (o, behind) ≡ operation_in rest → with_front os (operations_in (n - i) rest) ≡ with_front (os ++ o ∷ []) (operations_in (n - (i + 1)) behind)
  one_more o behind is =
      ap (λ (m : ℕ). with_front os (operations_in m rest)) (one_left n i lt)
      ∙ ap (λ (r : Read Operation). with_front os (r >>= (λ one. operations_in (n - (i + 1)) one.1 >>= (λ more. Ok (one.0 ∷ more.0, more.1))))) (sym is)
      ∙ in_front os o (operations_in (n - (i + 1)) behind)

  pub broken : (left : ℕ) → Err left ≡ operation_in rest → with_front os (operations_in (n - i) rest) ≡ Err left
  broken left is =
      ap (λ (m : ℕ). with_front os (operations_in m rest)) (one_left n i lt)
      ∙ ap (λ (r : Read Operation). with_front os (r >>= (λ one. operations_in (n - (i + 1)) one.1 >>= (λ more. Ok (one.0 ∷ more.0, more.1))))) (sym is)
