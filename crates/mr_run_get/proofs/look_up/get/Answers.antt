use Rattle.std.proofs.Common.{◌+◌, ◌≡◌, ◌∙◌, arith}
use Rattle.mr_base.specs.Disk.{seen}
use Rattle.mr_iter.specs.Cursors.{MayStop}
use Rattle.mr_run_get.specs.Get.{between, IsOffenceIn}
use Rattle.mr_run_get.proofs.Gapless.{gapless_index}
use Rattle.mr_run_get.proofs.Spans.{if_err}
use Rattle.mr_run_get.proofs.Finding.{stand, in_order_by, between_empty, found_none, found_there, counts_all, stops_all}
use Rattle.mr_run_get.proofs.look_up.get.Goals as goal

pub returns-then-first-behind-clause-found : goal.returns-then-first-behind-clause-found
returns-then-first-behind-clause-found g c = λ tells has agrees vs run.
    let image = seen (g.D.Disk.disk c.args.disk.now) in
    let ordered = in_order_by c.args.run.now image vs has run in
    let there = stand c.args.run.now image c.args.key.now c.args.number c.first_block-first.result c.behind_block-behind.result vs has run (c.first_block-first.ensures.found ordered) (c.behind_block-behind.ensures.found ordered) in
    found_none c.args.run.now.direction (seen (g.D.Disk.disk c.args.disk.now) c.args.run.now.file) (between c.first_block-first.result c.behind_block-behind.result c.args.run.now.index.blocks) c.args.number c.args.key.now vs there
    (between_empty c.first_block-first.result c.behind_block-behind.result c.args.run.now.index.blocks c.if-first-behind.true)

pub returns-then-behind-first-eq1-clause-found : goal.returns-then-behind-first-eq1-clause-found
returns-then-behind-first-eq1-clause-found g c = λ tells has agrees vs run.
    let image = seen (g.D.Disk.disk c.args.disk.now) in
    let ordered = in_order_by c.args.run.now image vs has run in
    let one : c.first_block-first.result + 1 ≡ c.behind_block-behind.result = omega (arith, c.if-behind-first-eq1.true, c.if-first-behind.false) in
    let there = stand c.args.run.now image c.args.key.now c.args.number c.first_block-first.result (c.first_block-first.result + 1) vs has run (c.first_block-first.ensures.found ordered) (one ∙ c.behind_block-behind.ensures.found ordered) in
    found_there c.args.run.now.direction (seen (g.D.Disk.disk c.args.disk.now) c.args.run.now.file) (between c.first_block-first.result (c.first_block-first.result + 1) c.args.run.now.index.blocks) c.args.number c.args.key.now vs c.look_in_one.result there
    (c.look_in_one.ensures.found tells (gapless_index c.args.run.now image has) agrees there.lists there.read there.ordered)

pub returns-then-behind-first-eq1-clause-counts : goal.returns-then-behind-first-eq1-clause-counts
returns-then-behind-first-eq1-clause-counts g c = counts_all c.first_block-first.result (c.first_block-first.result + 1) c.args.run.now.index.blocks (g.D.Disk.disk c.args.disk.now) (g.D.Disk.disk c.look_in_one.new.disk) c.look_in_one.ensures.counts

pub returns-then-behind-first-eq1-clause-stops : goal.returns-then-behind-first-eq1-clause-stops
returns-then-behind-first-eq1-clause-stops g c =
    if_err c.look_in_one.result (MayStop (IsOffenceIn c.args.run.now (between c.first_block-first.result (c.first_block-first.result + 1) c.args.run.now.index.blocks)) (g.D.Disk.disk c.args.disk.now) (g.D.Disk.disk c.look_in_one.new.disk))
    (MayStop (IsOffenceIn c.args.run.now c.args.run.now.index.blocks) (g.D.Disk.disk c.args.disk.now) (g.D.Disk.disk c.look_in_one.new.disk))
    (λ stop is. stops_all c.args.run.now c.first_block-first.result (c.first_block-first.result + 1) (g.D.Disk.disk c.args.disk.now) (g.D.Disk.disk c.look_in_one.new.disk) stop (omega (arith, c.first_block-first.ensures.within)) is)
    c.look_in_one.ensures.stops

pub returns-clause-found : goal.returns-clause-found
returns-clause-found g c = λ tells has agrees vs run.
    let image = seen (g.D.Disk.disk c.args.disk.now) in
    let ordered = in_order_by c.args.run.now image vs has run in
    let there = stand c.args.run.now image c.args.key.now c.args.number c.first_block-first.result c.behind_block-behind.result vs has run (c.first_block-first.ensures.found ordered) (c.behind_block-behind.ensures.found ordered) in
    found_there c.args.run.now.direction (seen (g.D.Disk.disk c.args.disk.now) c.args.run.now.file) (between c.first_block-first.result c.behind_block-behind.result c.args.run.now.index.blocks) c.args.number c.args.key.now vs c.look_in_many.result there
    (c.look_in_many.ensures.found tells (gapless_index c.args.run.now image has) agrees there.lists there.read there.ordered)

pub returns-clause-counts : goal.returns-clause-counts
returns-clause-counts g c = counts_all c.first_block-first.result c.behind_block-behind.result c.args.run.now.index.blocks (g.D.Disk.disk c.args.disk.now) (g.D.Disk.disk c.look_in_many.new.disk) c.look_in_many.ensures.counts

pub returns-clause-stops : goal.returns-clause-stops
returns-clause-stops g c =
    if_err c.look_in_many.result (MayStop (IsOffenceIn c.args.run.now (between c.first_block-first.result c.behind_block-behind.result c.args.run.now.index.blocks)) (g.D.Disk.disk c.args.disk.now) (g.D.Disk.disk c.look_in_many.new.disk))
    (MayStop (IsOffenceIn c.args.run.now c.args.run.now.index.blocks) (g.D.Disk.disk c.args.disk.now) (g.D.Disk.disk c.look_in_many.new.disk))
    (λ stop is. stops_all c.args.run.now c.first_block-first.result c.behind_block-behind.result (g.D.Disk.disk c.args.disk.now) (g.D.Disk.disk c.look_in_many.new.disk) stop c.behind_block-behind.ensures.within is)
    c.look_in_many.ensures.stops
