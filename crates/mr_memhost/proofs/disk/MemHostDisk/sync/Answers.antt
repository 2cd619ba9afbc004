use Rattle.std.proofs.Common.{◌≡◌, ◌∙◌, ap}
use Rattle.mr_memhost.specs.declared.journal.Journal.{Journal}
use Rattle.mr_memhost.specs.declared.step.Step.TheVariants.{Sync}
use Rattle.mr_memhost.specs.Story.{with_step}
use Rattle.mr_memhost.specs.Told.{story}
use Rattle.mr_memhost.proofs.Calls.{seen_on, is_durable, settles}
use Rattle.mr_memhost.proofs.disk.MemHostDisk.sync.Goals as goal

pub returns-in-Ok-clause-seen : goal.returns-in-Ok-clause-seen
returns-in-Ok-clause-seen c tells =
    let pushed : story c.sync.new.self ≡ with_step (Sync c.args.file) (story c.args.self.now.journal) = c.in-Ok.ensures.ok ∙ ap (λ (j : Journal). with_step (Sync c.args.file) (story j)) c.refuses.ensures.journal in
    seen_on (story c.args.self.now.journal) (story c.sync.new.self) c.args.self.now.counts c.refuses.new.self.counts c.args.file pushed

pub returns-in-Ok-clause-durable : goal.returns-in-Ok-clause-durable
returns-in-Ok-clause-durable c tells =
    let pushed : story c.sync.new.self ≡ with_step (Sync c.args.file) (story c.args.self.now.journal) = c.in-Ok.ensures.ok ∙ ap (λ (j : Journal). with_step (Sync c.args.file) (story j)) c.refuses.ensures.journal in
    is_durable (story c.args.self.now.journal) (story c.sync.new.self) c.args.self.now.counts c.refuses.new.self.counts c.args.file pushed

pub returns-in-Ok-clause-settles : goal.returns-in-Ok-clause-settles
returns-in-Ok-clause-settles c tells =
    let pushed : story c.sync.new.self ≡ with_step (Sync c.args.file) (story c.args.self.now.journal) = c.in-Ok.ensures.ok ∙ ap (λ (j : Journal). with_step (Sync c.args.file) (story j)) c.refuses.ensures.journal in
    settles (story c.args.self.now.journal) (story c.sync.new.self) c.args.self.now.counts c.refuses.new.self.counts c.args.file pushed (c.args.self.now.journal.kept.files c.args.file).read_left
