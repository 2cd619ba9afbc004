use Rattle.std.proofs.Common.{sym}
use Rattle.mr_rowval.proofs.PartsAre.{parts_lie}
use Rattle.mr_rowval.proofs.row_ref.parts_of.Goals as goal

pub returns : goal.returns
returns c =
    let w = c.walked.inside in
    parts_lie c.args.walked.now w.def.now w.hidden w.stamp c.args.key.now c.args.value.now w.key.now w.nulls.now w.unpack.now w.plain.now c.saturating_sub.result c.plain_spots.result c.as_slice-columns.result.now c.as_slice-places.result.now (sym c.walked.view_is) c.walked.invariant c.saturating_sub.ensures c.as_slice-columns.ensures c.as_slice-places.ensures c.plain_spots.ensures
