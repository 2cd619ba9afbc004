use Rattle.std.proofs.Common.{◌≡◌, ℕ, List, None}
use Rattle.mr_claims.specs.Claims.{state}
use Rattle.mr_claims_bench.proofs.hold_many.Given as goal

abbrev pub invariant-holding : goal.invariant-holding
invariant-holding l = record {
  before : (state l.claims).before ≡ 0;
  changed : (c : List ℕ) → (state l.claims).changed c ≡ None;
}
