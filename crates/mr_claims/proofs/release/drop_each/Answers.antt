use Rattle.std.proofs.Common.{◌≡◌, ℕ, List, take, get_or, sym, subst}
use Rattle.std.specs.Str.{bytes_eq}
use Rattle.mr_claims.specs.Lists.{has}
use Rattle.mr_claims.specs.Kept.{entry_in}
use Rattle.mr_claims.proofs.Counts.{has_take}
use Rattle.mr_claims.proofs.Forgetting.{drop_step}
use Rattle.mr_claims.proofs.release.drop_each.Goals as goal

pub dropping-preserved : goal.dropping-preserved
dropping-preserved c = λ d.
    let x = c.as_slice.result.now in
    let i = c.dropping.claim-index in
    let claims = c.args.claims.now in
    let is : x ≡ get_or claims i x = subst (λ (z : List ℕ). z ≡ get_or claims i z) (sym c.as_slice.ensures) c.claim-item.is in
    drop_step c.args.before (has d (take i claims)) (bytes_eq x d) _ (entry_in c.args.entries.now d) _ _ (c.dropping.invariant d) (c.drop_unneeded.ensures d) (has_take d claims i x c.dropping-test.true is)
