-- Answers of a read that stops.
use Rattle.std.proofs.Common.{◌≡◌, ◌⊎◌, ◌≤◌, ◌+◌, ◌-◌, ℕ, List, length, Result, Ok, Err, Some, IsErrAnd, IfErr, sym, subst, inl, inr, arith}
use Rattle.mr_fields.specs.Fields.{placed, whole_in}
use Rattle.mr_base.specs.declared.stop.Stop.{Stop}
use Rattle.mr_base.specs.declared.stop.Stop.TheVariants as stop
use Rattle.mr_gate.specs.Gate.{IsNext}
use Rattle.mr_binlog.specs.CommitForm.{commit_in, reads_commit}
use Rattle.mr_binlog.specs.Commits.{IsOffence, SaysOffence, IsNoCommit}

-- an error is the error that it is made of
pub err_is : {A : Type 0} (r : Result A Stop) (e : Stop) (P : Stop → Type 0) → IsErrAnd r (λ x. x ≡ e) → P e → IfErr r P
err_is (Ok x) e P is holds = tt
err_is (Err x) e P is holds = subst P (sym is) holds

-- a place that is told lies among the bytes, or behind the last one
within : {X : Type 0} (bytes : List ℕ) (r : Result X ℕ) (place : ℕ) → placed bytes r ≡ Err place → place ≤ length bytes
within bytes (Ok x) place is = cc
within bytes (Err left) place is = let e : length bytes - left ≡ place = cc in omega (arith, e)

pub offence_within : (body : List ℕ) (place : ℕ) → reads_commit body ≡ Err place → place ≤ length body
offence_within body place is = within body (whole_in commit_in body) place is

-- why it stopped, on any disk
pub read_answers : (at end next : ℕ) (body : List ℕ) (e : Stop) → (e ≡ stop.Memory) ⊎ IsOffence at body e → next ≡ at + (5 + length body) → next ≤ end →
    (e ≡ stop.Disk) ⊎ ((e ≡ stop.Memory) ⊎ ((e ≡ stop.Damaged 1 at) ⊎ SaysOffence at end e))
read_answers at end next body e why is inside = elim why [
  | inl memory ↦ inr (inl memory)
  | inr offence ↦ let fits : at + 5 + length body ≤ end = omega (arith, is, inside) in inr (inr (inr (body, fits, offence)))
]

-- why it stopped
pub read_stops : (at : ℕ) (file body : List ℕ) (next : ℕ) (e : Stop) → (e ≡ stop.Memory) ⊎ IsOffence at body e → IsNext at file (Some (body, next)) →
    (e ≡ stop.Disk) ⊎ ((e ≡ stop.Memory) ⊎ IsNoCommit at file e)
read_stops at file body next e why is = elim why [
  | inl memory ↦ inr (inl memory)
  | inr offence ↦ inr (inr (body, next, is.0, offence))
]
