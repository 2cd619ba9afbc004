use Rattle.mr_model.proofs.CutSteps.{holds_more, whole_read}
use Rattle.mr_model.proofs.cutting.statements_of.Goals as goal

pub loop-byte-preserved : goal.loop-byte-preserved
loop-byte-preserved c = holds_more _ _ _ c.loop-byte-test.true (c.in_ok-feed.ensures _ c.loop-byte.invariant)

pub returns : goal.returns
returns c = whole_read c.loop-byte.cutter c.args.script.now c.loop-byte.byte-index c.loop-byte-test.false c.loop-byte.invariant c.pieces_cut_alike.ensures c.finish.result c.finish.ensures
