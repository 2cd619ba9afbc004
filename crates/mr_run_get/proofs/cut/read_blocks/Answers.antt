use Rattle.std.proofs.Common.{◌≡◌, get_or, map, Ok, length, ap, arith}
use Rattle.mr_base.specs.Disk.{seen}
use Rattle.mr_iter.specs.Cursors.{MayStop}
use Rattle.mr_run_open.specs.Runs.{no_block}
use Rattle.mr_run_get.specs.Get.{between, sizes, all_cut, AreCutStops, AreRead, IsOffenceIn}
use Rattle.mr_run_get.proofs.Between.{adjacent_between}
use Rattle.mr_run_get.proofs.Spans.{all_read, stops_of, bytes_told, if_ok, if_err}
use Rattle.mr_run_get.proofs.cut.read_blocks.Goals as goal

pub returns-clause-stops : goal.returns-clause-stops
returns-clause-stops g c =
    if_err c.cut_blocks.result (AreCutStops c.args.run.now.file c.deref.result.now (between c.args.low c.args.high c.args.run.now.index.blocks))
    (MayStop (IsOffenceIn c.args.run.now (between c.args.low c.args.high c.args.run.now.index.blocks)) (g.D.Disk.disk c.args.disk.now) (g.D.Disk.disk c.read_span.new.disk))
    (λ stop is. stops_of c.args.run.now (between c.args.low c.args.high c.args.run.now.index.blocks) (g.D.Disk.disk c.args.disk.now) (g.D.Disk.disk c.read_span.new.disk) c.deref.result.now (get_or c.args.run.now.index.blocks c.args.low no_block).place stop
    (λ gapless. adjacent_between c.args.low c.args.high c.args.run.now.index.blocks (omega (arith, c.requires.order, c.requires.within)) gapless)
    (omega (arith, ap length c.deref.ensures.value, c.in-Ok.ensures.few, c.in-Some.ensures))
    (λ tells. bytes_told (g.D.Disk.disk c.args.disk.now) c.args.run.now.file c.info.result.file c.in-Some.size (sizes (between c.args.low c.args.high c.args.run.now.index.blocks)) c.place_of_block.result.place (get_or c.args.run.now.index.blocks c.args.low no_block).place
    c.in-Ok.bytes.items c.deref.result.now c.info.ensures.file c.in-Some.ensures c.place_of_block.ensures.place c.deref.ensures.value (c.in-Ok.ensures.bytes tells))
    is)
    c.cut_blocks.ensures.err

pub returns-clause-read : goal.returns-clause-read
returns-clause-read g c = λ tells gapless.
    if_ok c.cut_blocks.result (λ b. all_cut c.deref.result.now 0 (between c.args.low c.args.high c.args.run.now.index.blocks) ≡ map Ok b.items)
    (λ b. AreRead (seen (g.D.Disk.disk c.args.disk.now) c.args.run.now.file) (between c.args.low c.args.high c.args.run.now.index.blocks) b.items)
    (λ b is. all_read (seen (g.D.Disk.disk c.args.disk.now) c.args.run.now.file) c.deref.result.now (get_or c.args.run.now.index.blocks c.args.low no_block).place (between c.args.low c.args.high c.args.run.now.index.blocks) b.items
    (adjacent_between c.args.low c.args.high c.args.run.now.index.blocks (omega (arith, c.requires.order, c.requires.within)) gapless)
    (bytes_told (g.D.Disk.disk c.args.disk.now) c.args.run.now.file c.info.result.file c.in-Some.size (sizes (between c.args.low c.args.high c.args.run.now.index.blocks)) c.place_of_block.result.place (get_or c.args.run.now.index.blocks c.args.low no_block).place
    c.in-Ok.bytes.items c.deref.result.now c.info.ensures.file c.in-Some.ensures c.place_of_block.ensures.place c.deref.ensures.value (c.in-Ok.ensures.bytes tells))
    is)
    c.cut_blocks.ensures.ok
