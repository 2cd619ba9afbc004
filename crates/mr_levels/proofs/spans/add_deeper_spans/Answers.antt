use Rattle.std.proofs.Common.{arith}
use Rattle.mr_levels.proofs.Filling.{next_spans}
use Rattle.mr_levels.proofs.spans.add_deeper_spans.Goals as goal

pub listing-preserved : goal.listing-preserved
listing-preserved c = record {
  level = omega (arith, c.listing.invariant.level);
  spans = next_spans c.args.levels.now c.listing.i c.listing.level c.index-levels-i.result c.deref.result.now c.args.spans.now c.listing.spans c.add_spans.new.spans c.listing-test.true c.index-levels-i.is c.listing.invariant.level c.deref.ensures.value c.listing.invariant.spans c.in_ok-add_spans.ensures;
}
