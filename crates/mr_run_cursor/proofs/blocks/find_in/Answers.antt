use Rattle.std.proofs.Common.{◌≡◌, ◌∙◌, ◌≤◌, List, ap, sym, arith, length}
use Rattle.mr_base.specs.Disk.{seen}
use Rattle.mr_block.specs.Block.{list_of}
use Rattle.mr_run_open.specs.Runs.{no_block}
use Rattle.mr_run_open.specs.Blocks.{list_at}
use Rattle.mr_run_cursor.proofs.Moving.{found_by, none_by}
use Rattle.mr_run_cursor.proofs.blocks.find_in.Goals as goal

pub returns-then-at-count-clause-found : goal.returns-then-at-count-clause-found
returns-then-at-count-clause-found g c tells = (
  c.in-Ok.ensures.read tells,
  found_by c.args.run.now.direction c.direction.result c.view.result c.in-Ok.block c.lower_bound-at.result c.args.key.now c.direction.ensures c.view.ensures c.lower_bound-at.ensures.found,
)

pub returns-else-at-count-clause-found : goal.returns-else-at-count-clause-found
returns-else-at-count-clause-found g c tells =
    let long : length c.view.result ≤ c.lower_bound-at.result = omega (arith, c.if-at-count.false, c.count.ensures, ap length c.view-2.ensures, ap length c.view.ensures) in
    none_by c.args.run.now.direction c.direction.result c.view.result c.in-Ok.block _ c.lower_bound-at.result c.args.key.now c.direction.ensures c.view.ensures c.lower_bound-at.ensures.found long (ap list_of (c.in-Ok.ensures.read tells))
