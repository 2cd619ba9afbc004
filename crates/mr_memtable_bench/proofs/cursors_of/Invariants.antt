use Rattle.std.proofs.Common.{map}
use Rattle.mr_base.specs.declared.stop.Direction.TheVariants.{Forward}
use Rattle.mr_iter.specs.Merging.{IsOneDirection}
use Rattle.mr_memtable.specs.contracts.cursor.MemCursorListed.TheImpl.{cursor-value}
use Rattle.mr_memtable_bench.proofs.cursors_of.Given as goal

abbrev pub invariant-opening : goal.invariant-opening
invariant-opening l = IsOneDirection Forward (map (cursor-value).it l.cursors.items)
