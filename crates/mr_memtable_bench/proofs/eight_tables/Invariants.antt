use Rattle.std.proofs.Common.{◌≡◌}
use Rattle.std.specs.List.{AllByRecursion}
use Rattle.mr_base.specs.declared.stop.Direction.TheVariants.{Forward}
use Rattle.mr_memtable.specs.Tables.{MemState}
use Rattle.mr_memtable_bench.proofs.eight_tables.Given as goal

abbrev pub invariant-making : goal.invariant-making
invariant-making l = AllByRecursion (λ (t : MemState). t.direction ≡ Forward) l.tables.items
