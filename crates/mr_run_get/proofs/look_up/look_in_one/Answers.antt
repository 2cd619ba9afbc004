use Rattle.std.proofs.Common.{◌+◌, get_or}
use Rattle.std.specs.Option.{option_map}
use Rattle.mr_base.specs.Disk.{seen}
use Rattle.mr_block.specs.Held.{version_held}
use Rattle.mr_run_open.specs.Runs.{no_block}
use Rattle.mr_run_get.specs.Get.{between}
use Rattle.mr_run_get.proofs.Fronts.{one_at, warm_one}
use Rattle.mr_run_get.proofs.Finding.{one_read, found_one}
use Rattle.mr_run_get.proofs.look_up.look_in_one.Goals as goal

pub returns-in-Ok-newest_in-clause-found : goal.returns-in-Ok-newest_in-clause-found
returns-in-Ok-newest_in-clause-found g c = λ tells gapless agrees vss are ordered.
    found_one c.args.run.now.direction c.direction.result c.args.number c.args.key.now vss c.in-Ok.block (option_map version_held c.in-Ok-newest_in.found)
    (one_read (seen (g.D.Disk.disk c.args.disk.now) c.args.run.now.file) (between c.args.first (c.args.first + 1) c.args.run.now.index.blocks) (get_or c.args.run.now.index.blocks c.args.first no_block) vss c.in-Ok.block
    (one_at c.args.first c.args.run.now.index.blocks c.requires) are (c.in-Ok.ensures.read tells agrees))
    c.direction.ensures ordered c.in-Ok-newest_in.ensures

pub returns-in-Ok-newest_in-clause-warm : goal.returns-in-Ok-newest_in-clause-warm
returns-in-Ok-newest_in-clause-warm g c = λ warm. c.in-Ok.ensures.warm (warm_one c.args.run.now c.args.cache.now c.args.first c.requires warm)

pub returns-clause-warm : goal.returns-clause-warm
returns-clause-warm g c = λ warm. c.in-Ok.ensures.warm (warm_one c.args.run.now c.args.cache.now c.args.first c.requires warm)
