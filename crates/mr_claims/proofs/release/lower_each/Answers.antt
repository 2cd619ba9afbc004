use Rattle.std.proofs.Common.{◌≡◌, ◌<◌, ◌-◌, ◌==◌, ℕ, List, cond, take, get_or, sym, ap, ◌∙◌, subst}
use Rattle.std.specs.Str.{bytes_eq}
use Rattle.mr_claims.specs.Lists.{has, times}
use Rattle.mr_claims.specs.Kept.{entry_in, count_of}
use Rattle.mr_claims.proofs.Counts.{still_there, times_take, has_take, count_step, note_step, others_step, number_itself}
use Rattle.mr_claims.proofs.release.lower_each.Goals as goal

pub lower-requires : goal.lower-requires
lower-requires c =
    let x = c.as_slice.result.now in
    let i = c.lowering.claim-index in
    let claims = c.args.claims.now in
    let old = count_of c.args.session (entry_in c.args.entries.now x) in
    let is : x ≡ get_or claims i x = subst (λ (z : List ℕ). z ≡ get_or claims i z) (sym c.as_slice.ensures) c.claim-item.is in
    let some : 0 < old - times x (take i claims) = still_there claims i x old c.lowering-test.true is (c.requires x) in
    let now : count_of c.args.session (entry_in c.lowering.entries x) ≡ old - times x (take i claims) = c.lowering.invariant.counts c.args.session x ∙ ap (λ b. old - cond b (times x (take i claims)) 0) (number_itself c.args.session) in
    record { held = subst (λ (n : ℕ). 0 < n) (sym now) some }

pub lowering-preserved : goal.lowering-preserved
lowering-preserved c =
    let x = c.as_slice.result.now in
    let i = c.lowering.claim-index in
    let claims = c.args.claims.now in
    let is : x ≡ get_or claims i x = subst (λ (z : List ℕ). z ≡ get_or claims i z) (sym c.as_slice.ensures) c.claim-item.is in
    record {
      counts = λ s d. count_step (s == c.args.session) (bytes_eq x d) _ _ _ (times d (take i claims)) _ (c.lowering.invariant.counts s d) (c.lower.ensures.counts s d) (times_take d claims i x c.lowering-test.true is);
      noted = λ d. note_step (has d (take i claims)) (bytes_eq x d) _ c.args.change _ _ _ (c.lowering.invariant.noted d) (c.lower.ensures.noted d) (has_take d claims i x c.lowering-test.true is);
      others = λ d. others_step (has d (take i claims)) (bytes_eq x d) _ _ _ _ (c.lowering.invariant.others d) (c.lower.ensures.others d) (has_take d claims i x c.lowering-test.true is);
    }
