use Rattle.std.proofs.Common.{◌≡◌, ◌++◌, map, take, drop}
use Rattle.mr_lanes.specs.Kernels.{upper}
use Rattle.mr_lanes.proofs.fold_upper.Given as goal

abbrev pub invariant-loop-b : goal.invariant-loop-b
invariant-loop-b l = l.a ≡ map upper (take l.b-index l.initial.a) ++ drop l.b-index l.initial.a
