use Rattle.std.proofs.Common.{◌≡◌, map, nat_eq, drop, length}
use Rattle.std.specs.Cmp.Lexicographic.{pointwise}
use Rattle.mr_lanes.specs.Kernels.{upper}
use Rattle.mr_schema.proofs.names.is_same_name.Given as goal

abbrev pub invariant-loop-i : goal.invariant-loop-i
invariant-loop-i l = record {
  long : length l.b ≡ length l.a;
  same : pointwise nat_eq (map upper (drop l.i l.a)) (map upper (drop l.i l.b)) ≡ pointwise nat_eq (map upper l.a) (map upper l.b);
}
