use Rattle.mr_base.specs.Disk.{seen}
use Rattle.mr_run_get.specs.Get.{between}
use Rattle.mr_run_get.proofs.Fronts.{not_warm, reads_held}
use Rattle.mr_run_get.proofs.fetch.gather.Goals as goal

pub returns-then-first_lacking-behind-clause-warm : goal.returns-then-first_lacking-behind-clause-warm
returns-then-first_lacking-behind-clause-warm g c = λ warm. absurd (not_warm c.args.run.now c.args.cache.now c.args.first c.first_lacking.result c.args.behind c.first_lacking.ensures.low c.if-first_lacking-behind.true c.requires.within (c.first_lacking.ensures.lacks c.if-first_lacking-behind.true) warm)

pub returns-in-Ok-clause-read : goal.returns-in-Ok-clause-read
returns-in-Ok-clause-read g c = λ tells gapless agrees.
    reads_held c.args.run.now (seen (g.D.Disk.disk c.args.disk.now) c.args.run.now.file) (between c.args.first c.args.behind c.args.run.now.index.blocks) c.in-Ok.blocks.items c.args.cache.now agrees c.in-Ok.ensures
