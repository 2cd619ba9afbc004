use Rattle.std.proofs.Common.{◌≡◌, ◌++◌, ◌+◌, take, map}
use Rattle.mr_levels.specs.Spans.{spans_from}
use Rattle.mr_levels.proofs.spans.add_deeper_spans.Given as goal

abbrev pub invariant-listing : goal.invariant-listing
invariant-listing l = record {
  level : l.level ≡ l.i + 1;
  spans : l.spans ≡ l.fn.spans ++ spans_from 1 (map (λ rs. rs.items) (take l.i l.levels));
}
