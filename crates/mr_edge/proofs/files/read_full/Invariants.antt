use Rattle.std.proofs.Common.{length, ◌-◌, ◌≤◌}
use Rattle.mr_edge.proofs.files.read_full.Given as goal

-- no more is read than there is room for
abbrev pub invariant-loop-got : goal.invariant-loop-got
invariant-loop-got g l = l.got ≤ length l.initial.out

abbrev pub decreases-loop-got : goal.decreases-loop-got
decreases-loop-got g l = length l.initial.out - l.got
