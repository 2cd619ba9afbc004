use Rattle.std.proofs.Common.{rules}
use Rattle.mr_ranges.proofs.Sweeping.{joined-more, joined-next, joined-apart, joined-end}
use Rattle.mr_ranges.proofs.joining.swept.Goals as goal

pub sweeping-preserved-then-reaches : goal.sweeping-preserved-then-reaches
sweeping-preserved-then-reaches c =
    joined-more c.args.ranges.now c.sweeping.left.now c.sweeping.out c.sweeping.low.now c.sweeping.high.now c.farther-high.result.now c.in-Some-split_first.next.now c.in-Some-split_first.rest.now
    c.sweeping.invariant c.in-Some-split_first.ensures.cases.0 (search rules) (search rules)

pub sweeping-preserved : goal.sweeping-preserved
sweeping-preserved c =
    joined-next c.args.ranges.now c.sweeping.left.now c.sweeping.out c.push_between.new.out c.sweeping.low.now c.sweeping.high.now c.in-Some-split_first.next.now c.in-Some-split_first.rest.now
    c.sweeping.invariant c.in-Some-split_first.ensures.cases.0 (search rules) c.in_ok-push_between.ensures

pub returns-clause-apart : goal.returns-clause-apart
returns-clause-apart c = joined-apart c.args.ranges.now c.sweeping.left.now c.sweeping.out c.push_between-2.new.out c.sweeping.low.now c.sweeping.high.now c.sweeping.invariant c.in_ok-push_between-2.ensures

pub returns-clause-same : goal.returns-clause-same
returns-clause-same c = joined-end c.args.ranges.now c.sweeping.left.now c.sweeping.out c.push_between-2.new.out c.sweeping.low.now c.sweeping.high.now c.sweeping.invariant c.in_default-split_first.ensures.cases c.in_ok-push_between-2.ensures
