use Rattle.std.proofs.Common.{◌≡◌, ◌+◌, drop, nat_eq}
use Rattle.std.specs.List.{position_or_len}
use Rattle.mr_model_changes.proofs.tuples.position_of.Given as goal

abbrev pub invariant-loop-i : goal.invariant-loop-i
invariant-loop-i l = position_or_len (nat_eq l.column) l.at ≡ l.i + position_or_len (nat_eq l.column) (drop l.i l.at)
