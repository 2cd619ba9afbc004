use Rattle.std.proofs.Common.{◌≡◌, ◌∙◌, ap}
use Rattle.mr_memhost.specs.declared.journal.Journal.{Journal}
use Rattle.mr_memhost.specs.declared.step.Step.TheVariants.{Cut}
use Rattle.mr_memhost.specs.Story.{with_step}
use Rattle.mr_memhost.specs.Told.{story}
use Rattle.mr_memhost.proofs.Calls.{shortens, cuts}
use Rattle.mr_memhost.proofs.disk.MemHostDisk.cut.Goals as goal

pub returns-in-Ok-clause-cut : goal.returns-in-Ok-clause-cut
returns-in-Ok-clause-cut c tells =
    let pushed : story c.cut.new.self ≡ with_step (Cut c.args.file c.args.to) (story c.args.self.now.journal) = c.in-Ok.ensures.ok ∙ ap (λ (j : Journal). with_step (Cut c.args.file c.args.to) (story j)) c.refuses.ensures.journal in
    shortens (story c.args.self.now.journal) (story c.cut.new.self) c.args.self.now.counts c.refuses.new.self.counts c.args.file c.args.to pushed

pub returns-in-Ok-clause-changes : goal.returns-in-Ok-clause-changes
returns-in-Ok-clause-changes c tells =
    let pushed : story c.cut.new.self ≡ with_step (Cut c.args.file c.args.to) (story c.args.self.now.journal) = c.in-Ok.ensures.ok ∙ ap (λ (j : Journal). with_step (Cut c.args.file c.args.to) (story j)) c.refuses.ensures.journal in
    cuts (story c.args.self.now.journal) (story c.cut.new.self) c.args.self.now.counts c.refuses.new.self.counts c.args.file c.args.to pushed
