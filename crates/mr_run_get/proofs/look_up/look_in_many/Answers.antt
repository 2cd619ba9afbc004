use Rattle.std.proofs.Common.{sym, ◌∙◌}
use Rattle.std.specs.Option.{option_map}
use Rattle.mr_base.specs.Disk.{seen}
use Rattle.mr_block.specs.Held.{version_held}
use Rattle.mr_run_get.specs.Get.{between}
use Rattle.mr_run_get.proofs.Finding.{reads_same, found_many}
use Rattle.mr_run_get.proofs.look_up.look_in_many.Goals as goal

pub returns-in-Ok-newest_of-clause-found : goal.returns-in-Ok-newest_of-clause-found
returns-in-Ok-newest_of-clause-found g c = λ tells gapless agrees vss are ordered.
    found_many c.args.run.now.direction c.direction.result c.args.number c.args.key.now vss c.deref.result.now (option_map version_held c.in-Ok-newest_of.found)
    (reads_same (seen (g.D.Disk.disk c.args.disk.now) c.args.run.now.file) (between c.args.first c.args.behind c.args.run.now.index.blocks) vss c.in-Ok.blocks.items are (c.in-Ok.ensures.read tells gapless agrees) ∙ sym c.deref.ensures.value)
    c.direction.ensures ordered c.in-Ok-newest_of.ensures
