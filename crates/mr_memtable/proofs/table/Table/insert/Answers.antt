use Rattle.std.proofs.Common.{◌+◌, List, None, take, subst, arith}
use Rattle.std.specs.Option.{option_map}
use Rattle.mr_iter.specs.Versions.{as_version}
use Rattle.mr_memtable.specs.declared.piece.Piece.{Piece}
use Rattle.mr_memtable.specs.declared.chunk.Chunk.{Chunk}
use Rattle.mr_memtable.specs.Slots.{IsPlace}
use Rattle.mr_memtable.specs.Chunks.{listed, sizes, sum_of}
use Rattle.mr_memtable.proofs.Inserting.{inserted, still_ordered, still_fit, one_more}
use Rattle.mr_memtable.proofs.table.Table.insert.Goals as goal

pub overflow_add-self : goal.overflow_add-self
overflow_add-self c = omega (arith, c.args.self.now.kept.counts, c.requires.entries)

pub invariant_of-self : goal.invariant_of-self
invariant_of-self c =
    let d = c.args.self.now.direction in
    let bytes = c.args.self.now.bytes.items in
    let cs = c.args.self.now.chunks.items in
    let put = option_map (λ v. v.now) c.args.put in
    let n = sum_of (take c.find-place.result.chunk (sizes c.args.self.now.chunks.items)) + c.find-place.result.at in
    let place : IsPlace c.args.self.now.direction c.args.self.now.bytes.items (as_version c.args.key.now c.args.sequence None) (listed c.args.self.now.chunks.items) (sum_of (take c.find-place.result.chunk (sizes c.args.self.now.chunks.items)) + c.find-place.result.at) =
    subst (λ (bs : List Piece). IsPlace d bs (as_version c.args.key.now c.args.sequence None) (listed c.args.self.now.chunks.items) (sum_of (take c.find-place.result.chunk (sizes c.args.self.now.chunks.items)) + c.find-place.result.at)) c.deref.ensures.value
    (subst (λ (ks : List Chunk). IsPlace d c.deref.result.now (as_version c.args.key.now c.args.sequence None) (listed ks) (sum_of (take c.find-place.result.chunk (sizes ks)) + c.find-place.result.at)) c.deref-2.ensures.value c.find-place.ensures.place) in
    let k = c.args.self.now.kept in
    record {
      kept = record {
        fit = still_fit d bytes c.store-slot.new.pieces.items cs c.put_slot.new.chunks.items c.args.key.now c.args.sequence n put c.store-slot.result c.store-slot.ensures.pieces k.fit k.ordered place c.store-slot.ensures.fits c.store-slot.ensures.version c.put_slot.ensures.list;
        ordered = still_ordered d bytes c.store-slot.new.pieces.items cs c.put_slot.new.chunks.items c.args.key.now c.args.sequence n put c.store-slot.result c.store-slot.ensures.pieces k.fit k.ordered place c.store-slot.ensures.fits c.store-slot.ensures.version c.put_slot.ensures.list;
        filled = c.put_slot.ensures.filled;
        rooms = c.put_slot.ensures.rooms;
        spare = c.put_slot.ensures.spare;
        counted = let e = one_more d bytes c.store-slot.new.pieces.items cs c.put_slot.new.chunks.items c.args.key.now c.args.sequence n put c.store-slot.result c.store-slot.ensures.pieces k.fit k.ordered place c.store-slot.ensures.fits c.store-slot.ensures.version c.put_slot.ensures.list in omega (arith, e, k.counted);
        counts = omega (arith, k.counts, c.requires.entries);
        entries = omega (arith, k.entries, c.requires.entries, c.put_slot.ensures.count, c.args.self.now.chunks.ok.0, c.args.self.now.spares.ok.0, c.put_slot.new.chunks.ok.0, c.put_slot.new.spares.ok.0);
        few = omega (arith, k.few, c.put_slot.ensures.count, c.put_slot.ensures.capacity, c.args.self.now.chunks.ok.0, c.args.self.now.spares.ok.0, c.put_slot.new.chunks.ok.0, c.put_slot.new.spares.ok.0);
        some = λ _. omega (arith, k.some c.requires.entries, c.store-slot.ensures.count, c.args.self.now.bytes.ok.0, c.store-slot.new.pieces.ok.0);
        room = omega (arith, k.room, c.requires.free, c.store-slot.ensures.size, c.store-slot.ensures.room);
      };
    }

pub returns-clause-versions : goal.returns-clause-versions
returns-clause-versions c =
    let d = c.args.self.now.direction in
    let bytes = c.args.self.now.bytes.items in
    let cs = c.args.self.now.chunks.items in
    let put = option_map (λ v. v.now) c.args.put in
    let n = sum_of (take c.find-place.result.chunk (sizes c.args.self.now.chunks.items)) + c.find-place.result.at in
    let place : IsPlace c.args.self.now.direction c.args.self.now.bytes.items (as_version c.args.key.now c.args.sequence None) (listed c.args.self.now.chunks.items) (sum_of (take c.find-place.result.chunk (sizes c.args.self.now.chunks.items)) + c.find-place.result.at) =
    subst (λ (bs : List Piece). IsPlace d bs (as_version c.args.key.now c.args.sequence None) (listed c.args.self.now.chunks.items) (sum_of (take c.find-place.result.chunk (sizes c.args.self.now.chunks.items)) + c.find-place.result.at)) c.deref.ensures.value
    (subst (λ (ks : List Chunk). IsPlace d c.deref.result.now (as_version c.args.key.now c.args.sequence None) (listed ks) (sum_of (take c.find-place.result.chunk (sizes ks)) + c.find-place.result.at)) c.deref-2.ensures.value c.find-place.ensures.place) in
    let k = c.args.self.now.kept in
    inserted d bytes c.store-slot.new.pieces.items cs c.put_slot.new.chunks.items c.args.key.now c.args.sequence n put c.store-slot.result c.store-slot.ensures.pieces k.fit k.ordered place c.store-slot.ensures.fits c.store-slot.ensures.version c.put_slot.ensures.list
