use Rattle.std.proofs.Common.{◌≡◌, ◌++◌, take}
use Rattle.mr_levels.specs.Spans.{spans_at}
use Rattle.mr_levels.proofs.spans.add_spans.Given as goal

abbrev pub invariant-listing : goal.invariant-listing
invariant-listing l = l.spans ≡ l.fn.spans ++ spans_at l.level (take l.i l.runs)
