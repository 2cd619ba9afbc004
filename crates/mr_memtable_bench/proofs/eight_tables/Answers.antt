use Rattle.std.proofs.Common.{◌≡◌}
use Rattle.mr_base.specs.declared.stop.Direction.TheVariants.{Forward}
use Rattle.mr_memtable.specs.Tables.{MemState}
use Rattle.mr_memtable_bench.proofs.Forwards.{all_more}
use Rattle.mr_memtable_bench.proofs.eight_tables.Goals as goal

pub making-preserved : goal.making-preserved
making-preserved c = all_more (λ (t : MemState). t.direction ≡ Forward) c.making.tables.items c.push.new.self.items c.in_ok-table.table c.in-Ok.ensures.items c.making.invariant c.in_ok-table.ensures
