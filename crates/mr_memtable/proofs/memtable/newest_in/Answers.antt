use Rattle.std.proofs.Common.{◌∙◌}
use Rattle.std.specs.Prelude.{drop}
use Rattle.mr_iter.specs.Versions.{first}
use Rattle.mr_memtable.specs.Chunks.{sizes}
use Rattle.mr_memtable.specs.Tables.{flat, versions_in}
use Rattle.mr_memtable.proofs.Newest.{found_one}
use Rattle.mr_memtable.proofs.memtable.newest_in.Goals as goal

pub returns : goal.returns
returns c =
    let k = c.at-cursor.result in
    found_one c.args.key.now (first (drop (flat (sizes k.table.now.chunks.items) k.chunk k.at) (versions_in k.table.now.bytes.items k.table.now.chunks.items))) c.version.result c.is_on.result c.at_end.result c.version.ensures c.is_on.ensures c.if-not-is_on.false c.at_end.ensures c.if-at_end.false ∙ c.at-cursor.ensures.newest
