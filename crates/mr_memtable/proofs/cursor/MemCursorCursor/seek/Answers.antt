use Rattle.std.proofs.Common.{◌+◌, ◌-◌, ◌^◌, ℕ, List, None, ◌∙◌, ap, subst, drop, take}
use Rattle.mr_iter.specs.Versions.{as_version}
use Rattle.mr_memtable.specs.declared.piece.Piece.{Piece}
use Rattle.mr_memtable.specs.declared.chunk.Chunk.{Chunk}
use Rattle.mr_memtable.specs.Slots.{IsPlace}
use Rattle.mr_memtable.specs.Chunks.{listed, sizes, sum_of}
use Rattle.mr_memtable.specs.Tables.{flat, versions_in}
use Rattle.mr_memtable.specs.Standing.{left_list}
use Rattle.mr_memtable.proofs.Inserting.{fit_listed}
use Rattle.mr_memtable.proofs.Ordered.{found_place}
use Rattle.mr_memtable.proofs.cursor.MemCursorCursor.seek.Goals as goal

pub returns-clause-found : goal.returns-clause-found
returns-clause-found g c = λ _ _.
    let d = c.args.self.now.table.now.direction in
    let bytes = c.args.self.now.table.now.bytes.items in
    let cs = c.args.self.now.table.now.chunks.items in
    let n = flat (sizes c.args.self.now.table.now.chunks.items) c.find-found.result.chunk c.find-found.result.at in
    let place : IsPlace d bytes (as_version c.args.key.now (2 ^ 64 - 1) None) (listed cs) n =
    subst (λ (bs : List Piece). IsPlace d bs (as_version c.args.key.now (2 ^ 64 - 1) None) (listed cs) n) c.deref.ensures.value
    (subst (λ (ks : List Chunk). IsPlace d c.deref.result.now (as_version c.args.key.now (2 ^ 64 - 1) None) (listed ks) (sum_of (take c.find-found.result.chunk (sizes ks)) + c.find-found.result.at)) c.deref-2.ensures.value c.find-found.ensures.place) in
    left_list (versions_in bytes cs) (flat (sizes cs) c.stand-place.result.chunk c.stand-place.result.at)
    ∙ ap (λ (m : ℕ). drop m (versions_in bytes cs)) c.stand-place.ensures.flat
    ∙ found_place d bytes c.args.key.now (listed cs) n (fit_listed bytes cs c.args.self.now.table.now.kept.fit) c.args.self.now.table.now.kept.ordered place
