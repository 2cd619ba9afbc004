use Rattle.std.proofs.Common.{◌≡◌, ◌++◌, drop}
use Rattle.mr_rowval.specs.NullBits.{null_flags, null_bits}
use Rattle.mr_rowval.specs.Packing.{pending, IsPack}
use Rattle.mr_rowval.proofs.packing.push_nulls.Given as goal

abbrev pub invariant-loop-at : goal.invariant-loop-at
invariant-loop-at l = IsPack l.pack × (l.out.items ++ pending l.pack.used l.pack.byte (null_flags (drop l.at l.columns) (drop l.at l.values)) ≡ l.fn.out.items ++ null_bits (null_flags l.columns l.values))
