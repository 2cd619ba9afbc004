use Rattle.std.proofs.Common.{ap}
use Rattle.std.specs.Map.{lookup}
use Rattle.std.specs.BTreeMap.{is_at}
use Rattle.std.specs.Ordering.{nat_cmp}
use Rattle.std.specs.Cmp.Lexicographic.{slice_cmp}
use Rattle.mr_claims.specs.Kept.{items_of}
use Rattle.mr_claims.proofs.Keeping.{none_kept}
use Rattle.mr_claims.proofs.claims.Claims.new.Goals as goal

pub invariant_of-result : goal.invariant_of-result
invariant_of-result c = record {
  kept = none_kept _ _ _ (λ s. ap (λ es. items_of (lookup (is_at (nat_cmp s)) es)) c.new.ensures.empty) (λ d. ap (λ es. lookup (is_at (λ k. slice_cmp nat_cmp d k.items)) es) c.new-2.ensures.empty) c.new-3.ensures.items c.new-3.ensures.len;
}
