use Rattle.std.proofs.Common.{◌≤◌}
use Rattle.mr_lex_bench.proofs.counts.Given as goal

abbrev pub invariant-loop-at : goal.invariant-loop-at
invariant-loop-at l = l.from ≤ l.at
