use Rattle.std.proofs.Common.{sym, ◌∙◌}
use Rattle.mr_ranges.proofs.Crossing.{met_left, met_right, met_apart, met_end, none_left, none_right}
use Rattle.mr_ranges.proofs.meeting.meet.Goals as goal
use Rattle.mr_ranges.proofs.meeting.meet.Goals.{in-Some+in_default-split_first, in_default}

pub meeting-preserved-then-ends_first : goal.meeting-preserved-then-ends_first
meeting-preserved-then-ends_first c =
    met_left c.args.first.now c.args.second.now c.meeting.left.now c.meeting.right.now c.meeting.out c.push_common.new.out c.in-Some.x.now c.in-Some-split_first.y.now c.in-Some.xs.now c.in-Some-split_first.ys.now
    c.meeting.invariant c.in-Some.ensures.cases.0 c.in-Some-split_first.ensures.cases.0 (sym c.ends_first.ensures ∙ c.if-ends_first.true) c.in_ok-push_common.ensures

pub meeting-preserved : goal.meeting-preserved
meeting-preserved c =
    met_right c.args.first.now c.args.second.now c.meeting.left.now c.meeting.right.now c.meeting.out c.push_common.new.out c.in-Some.x.now c.in-Some-split_first.y.now c.in-Some.xs.now c.in-Some-split_first.ys.now
    c.meeting.invariant c.in-Some.ensures.cases.0 c.in-Some-split_first.ensures.cases.0 (sym c.ends_first.ensures ∙ c.if-ends_first.false) c.in_ok-push_common.ensures

pub returns-clause-apart : goal.returns-clause-apart
returns-clause-apart c = met_apart c.args.first.now c.args.second.now c.meeting.left.now c.meeting.right.now c.meeting.out c.meeting.invariant

pub returns-clause-both : goal.returns-clause-both
returns-clause-both c =
    met_end c.args.first.now c.args.second.now c.meeting.left.now c.meeting.right.now c.meeting.out c.meeting.invariant
    (elim c.match-split_first.branch [
      | in-Some+in_default-split_first w ↦ none_right c.meeting.left.now c.meeting.right.now w.in_default-split_first.ensures.cases
      | in_default w ↦ none_left c.meeting.left.now c.meeting.right.now w.in_default.ensures.cases
    ])
