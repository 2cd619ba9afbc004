use Rattle.std.proofs.Common.{◌∙◌, ℕ, List, length, sym, ap, arith}
use Rattle.std.specs.List.{insert}
use Rattle.mr_memtable.specs.Slots.{fronts_of}
use Rattle.mr_memtable.proofs.Fronts.{fronts-length, fronts-insert, first-dropped}
use Rattle.mr_memtable.proofs.chunk.Chunk.insert.Goals as goal

pub insert_within-requires-clause-place : goal.insert_within-requires-clause-place
insert_within-requires-clause-place c =
    let n = ap length c.args.self.now.fronted.same ∙ fronts-length c.args.self.now.slots.items in
    omega (arith, n, c.requires.place, c.args.self.now.fronts.ok.0, c.args.self.now.slots.ok.0)

pub insert_within-requires-clause-room : goal.insert_within-requires-clause-room
insert_within-requires-clause-room c =
    let n = ap length c.args.self.now.fronted.same ∙ fronts-length c.args.self.now.slots.items in
    omega (arith, n, c.requires.few, c.args.self.now.fronted.room, c.args.self.now.fronts.ok.0, c.args.self.now.slots.ok.0)

pub invariant_of-self : goal.invariant_of-self
invariant_of-self c = record {
  fronted = record {
    same = c.insert_within.ensures.items
        ∙ ap (λ (fs : List ℕ). insert fs c.args.place c.args.slot.front) c.args.self.now.fronted.same
        ∙ sym (fronts-insert c.args.self.now.slots.items c.args.place c.args.slot)
        ∙ ap fronts_of (sym c.insert_within-2.ensures.items);
    first = first-dropped 0 c.insert_within.new.list.items c.index.result.now c.index.ensures;
    room = omega (arith, c.args.self.now.fronted.room, c.insert_within.ensures.capacity);
  };
}
