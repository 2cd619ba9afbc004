use Rattle.std.proofs.Common.{refl, sym, ◌∙◌, ap, subst}
use Rattle.mr_claims.specs.Kept.{entry_in, judged}
use Rattle.mr_claims.specs.Claims.{state, IsClaimed}
use Rattle.mr_claims.proofs.Judging.{judged_right, judged_held}
use Rattle.mr_claims.proofs.claims.Claims.test.Goals as goal

pub returns-clause-is : goal.returns-clause-is
returns-clause-is c =
    let claim = c.args.claim.now in
    let m = state c.args.self.now in
    let o = entry_in c.args.self.now.entries claim in
    subst (IsClaimed m c.args.session c.args.since claim) (sym (c.judge.ensures ∙ ap (λ o. judged o c.args.session c.args.since) c.entry_of.ensures))
    (judged_right m c.args.session c.args.since claim c.requires o (λ s. c.args.self.now.kept.counted s claim) refl)

pub returns-clause-held : goal.returns-clause-held
returns-clause-held c = λ s apart h.
    let claim = c.args.claim.now in
    c.judge.ensures ∙ ap (λ o. judged o c.args.session c.args.since) c.entry_of.ensures
    ∙ judged_held (state c.args.self.now) c.args.session c.args.since claim c.requires (entry_in c.args.self.now.entries claim) (λ s. c.args.self.now.kept.counted s claim) s apart h
