use Rattle.std.proofs.Common.{arith, length}
use Rattle.mr_pieces.specs.Pieces.{bytes_from}
use Rattle.mr_pieces.proofs.Cutting.{bytes_step, bytes_end, cut_more, cut_last}
use Rattle.mr_pieces.proofs.writer.push_bytes.Goals as goal

pub loop-rest-preserved : goal.loop-rest-preserved
loop-rest-preserved c =
    cut_more (bytes_from 8) 9 c.loop-rest.rest.now _ _ c.loop-rest.out.items _ _ _ (bytes_step c.loop-rest.rest.now (omega arith)) c.split_at.ensures.front c.split_at.ensures.back
    c.in_ok-extend_from_slice.ensures.items c.in_ok-push.ensures.items c.loop-rest.invariant

pub returns : goal.returns
returns c =
    cut_last (bytes_from 8) 0 (length c.loop-rest.rest.now) c.loop-rest.rest.now c.loop-rest.out.items _ _ _ _ (bytes_end c.loop-rest.rest.now (omega arith))
    c.in_ok-extend_from_slice-2.ensures.items c.in_ok-push_many.ensures c.in_ok-push-2.ensures.items c.loop-rest.invariant
