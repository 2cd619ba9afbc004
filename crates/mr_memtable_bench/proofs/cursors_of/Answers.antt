use Rattle.std.proofs.Common.{◌≡◌, ◌∙◌, ap}
use Rattle.mr_base.specs.declared.stop.Direction.TheVariants.{Forward}
use Rattle.mr_iter.specs.Cursors.{CursorState}
use Rattle.mr_memtable.specs.Tables.{MemState}
use Rattle.mr_memtable.specs.contracts.cursor.MemCursorListed.TheImpl.{cursor-value}
use Rattle.mr_memtable_bench.proofs.Forwards.{all_at, cursor_more}
use Rattle.mr_memtable_bench.proofs.cursors_of.Goals as goal

pub opening-preserved : goal.opening-preserved
opening-preserved c =
    let forward : c.table-item.result.direction ≡ Forward = all_at (λ (t : MemState). t.direction ≡ Forward) c.args.tables.now c.opening.table-index c.table-item.result c.requires c.opening-test.true c.table-item.is in
    cursor_more (cursor-value).it Forward c.opening.cursors.items c.push.new.self.items c.cursor-cursor.result c.in-Ok.ensures.items c.opening.invariant (ap (λ (s : CursorState). s.direction) c.cursor-cursor.ensures.state ∙ forward)
