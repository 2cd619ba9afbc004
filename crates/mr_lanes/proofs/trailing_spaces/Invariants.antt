use Rattle.std.proofs.Common.{◌≡◌, ◌+◌, ◌≤◌, length, take}
use Rattle.std.specs.List.{suffix_len}
use Rattle.mr_lanes.specs.Kernels.{is_space}
use Rattle.mr_lanes.proofs.trailing_spaces.Given as goal

abbrev pub invariant-loop-end : goal.invariant-loop-end
invariant-loop-end l = record {
  within : l.end ≤ length l.a;
  rest : l.end + suffix_len is_space l.a ≡ length l.a + suffix_len is_space (take l.end l.a);
}

abbrev pub decreases-loop-end : goal.decreases-loop-end
decreases-loop-end l = l.end
