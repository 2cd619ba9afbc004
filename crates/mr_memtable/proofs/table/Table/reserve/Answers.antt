use Rattle.std.proofs.Common.{◌∙◌, List, ap, subst, sym, arith}
use Rattle.mr_memtable.specs.declared.chunk.Chunk.{Chunk}
use Rattle.mr_iter.specs.Versions.{version_cmp, IsInOrder}
use Rattle.mr_memtable.specs.Chunks.{sizes, sum_of, AllFit, AreFilled, HaveRoom}
use Rattle.mr_memtable.specs.Tables.{versions_in}
use Rattle.mr_memtable.proofs.Inserting.{same_versions, same_order, same_fit}
use Rattle.mr_memtable.proofs.table.Table.reserve.Goals as goal

pub returns-clause-versions : goal.returns-clause-versions
returns-clause-versions c =
    ap (versions_in c.make_room.new.pieces.items) c.add_spares.ensures.chunks
    ∙ same_versions c.args.self.now.direction c.args.self.now.bytes.items c.make_room.new.pieces.items c.args.self.now.chunks.items c.make_room.ensures.pieces c.args.self.now.kept.fit

pub invariant_of-self-2 : goal.invariant_of-self-2
invariant_of-self-2 c =
    let d = c.args.self.now.direction in
    let pieces = c.args.self.now.bytes.items in
    let new = c.make_room.new.pieces.items in
    let cs = c.args.self.now.chunks.items in
    let k = c.args.self.now.kept in
    let on = c.make_room.ensures.pieces in
    let e = c.add_spares.ensures.chunks in
    record {
      kept = record {
        fit = subst (AllFit c.make_room.new.pieces.items) (sym e) (same_fit d pieces new cs on k.fit);
        ordered = subst (λ (cs : List Chunk). IsInOrder (version_cmp c.args.self.now.direction) (versions_in c.make_room.new.pieces.items cs)) (sym e) (same_order d pieces new cs on k.fit k.ordered);
        filled = subst (λ (cs : List Chunk). AreFilled (sizes cs)) (sym e) k.filled;
        rooms = subst HaveRoom (sym e) k.rooms;
        spare = c.add_spares.ensures.spare;
        counted = k.counted ∙ ap (λ (cs : List Chunk). sum_of (sizes cs)) (sym e);
        counts = omega (arith, c.in-Some.ensures);
        entries = omega (arith, c.in-Some.ensures, c.in_ok-add_spares.ensures.enough, c.add_spares.new.chunks.ok.0, c.add_spares.new.spares.ok.0);
        few = omega (arith, c.add_spares.ensures.few, c.add_spares.new.chunks.ok.0, c.add_spares.new.spares.ok.0);
        some = λ _. omega (arith, c.in_ok-make_room.ensures.some, c.make_room.new.pieces.ok.0);
        room = c.in_ok-make_room.ensures.room;
      };
    }
