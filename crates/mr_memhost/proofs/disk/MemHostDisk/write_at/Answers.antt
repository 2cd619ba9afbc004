use Rattle.std.proofs.Common.{◌≡◌, ◌∙◌, ap}
use Rattle.mr_memhost.specs.declared.journal.Journal.{Journal}
use Rattle.mr_memhost.specs.declared.step.Step.TheVariants.{Write}
use Rattle.mr_memhost.specs.Story.{with_step}
use Rattle.mr_memhost.specs.Told.{story}
use Rattle.mr_memhost.proofs.Calls.{overwrites, writes}
use Rattle.mr_memhost.proofs.disk.MemHostDisk.write_at.Goals as goal

pub returns-in-Ok-clause-written : goal.returns-in-Ok-clause-written
returns-in-Ok-clause-written c tells =
    let pushed : story c.write.new.self ≡ with_step (Write c.args.file c.args.at c.args.bytes.now) (story c.args.self.now.journal) = c.in-Ok.ensures.ok ∙ ap (λ (j : Journal). with_step (Write c.args.file c.args.at c.args.bytes.now) (story j)) c.refuses.ensures.journal in
    overwrites (story c.args.self.now.journal) (story c.write.new.self) c.args.self.now.counts c.refuses.new.self.counts c.args.file c.args.at c.args.bytes.now pushed

pub returns-in-Ok-clause-changes : goal.returns-in-Ok-clause-changes
returns-in-Ok-clause-changes c tells =
    let pushed : story c.write.new.self ≡ with_step (Write c.args.file c.args.at c.args.bytes.now) (story c.args.self.now.journal) = c.in-Ok.ensures.ok ∙ ap (λ (j : Journal). with_step (Write c.args.file c.args.at c.args.bytes.now) (story j)) c.refuses.ensures.journal in
    writes (story c.args.self.now.journal) (story c.write.new.self) c.args.self.now.counts c.refuses.new.self.counts c.args.file c.args.at c.args.bytes.now pushed
