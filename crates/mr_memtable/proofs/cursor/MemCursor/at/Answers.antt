use Rattle.std.proofs.Common.{◌+◌, ℕ, List, None, ◌∙◌, sym, ap, subst, drop, take}
use Rattle.mr_iter.specs.Versions.{as_version, first}
use Rattle.mr_iter.specs.Newest.{only_of}
use Rattle.mr_memtable.specs.declared.piece.Piece.{Piece}
use Rattle.mr_memtable.specs.declared.chunk.Chunk.{Chunk}
use Rattle.mr_memtable.specs.Slots.{IsPlace}
use Rattle.mr_memtable.specs.Chunks.{listed, sizes, sum_of}
use Rattle.mr_memtable.specs.Tables.{flat, versions_in}
use Rattle.mr_memtable.proofs.Newest.{newest_by}
use Rattle.mr_memtable.proofs.cursor.MemCursor.at.Goals as goal

pub returns : goal.returns
returns c =
    let d = c.args.table.now.direction in
    let bytes = c.args.table.now.bytes.items in
    let cs = c.args.table.now.chunks.items in
    let n = flat (sizes c.args.table.now.chunks.items) c.find-found.result.chunk c.find-found.result.at in
    let place : IsPlace d bytes (as_version c.args.key.now c.args.number None) (listed cs) n =
    subst (λ (bs : List Piece). IsPlace d bs (as_version c.args.key.now c.args.number None) (listed cs) n) c.deref.ensures.value
    (subst (λ (ks : List Chunk). IsPlace d c.deref.result.now (as_version c.args.key.now c.args.number None) (listed ks) (sum_of (take c.find-found.result.chunk (sizes ks)) + c.find-found.result.at)) c.deref-2.ensures.value c.find-found.ensures.place) in
    record {
      newest = ap (λ (m : ℕ). only_of c.args.key.now (first (drop m (versions_in bytes cs)))) c.stand-place.ensures.flat
          ∙ sym (newest_by d bytes c.args.key.now c.args.number (listed cs) n c.args.table.now.kept.ordered place);
    }
