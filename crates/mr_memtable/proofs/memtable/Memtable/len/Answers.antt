use Rattle.std.proofs.Common.{◌∙◌, length, sym, ap}
use Rattle.mr_memtable.specs.Chunks.{listed}
use Rattle.mr_memtable.specs.Tables.{MemState}
use Rattle.mr_memtable.proofs.Places.{length-listed}
use Rattle.mr_memtable.proofs.Stands.{length-versions}
use Rattle.mr_memtable.proofs.memtable.Memtable.len.Goals as goal

pub returns : goal.returns
returns c =
    let t = c.self.inside.table in
    c.self.inside.table.kept.counted ∙ sym (length-listed c.self.inside.table.chunks.items) ∙ sym (length-versions c.self.inside.table.bytes.items (listed c.self.inside.table.chunks.items))
    ∙ ap (λ (m : MemState). length m.versions) c.self.view_is
