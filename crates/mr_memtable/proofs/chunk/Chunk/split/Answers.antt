use Rattle.std.proofs.Common.{◌∙◌, length, take, drop, sym, ap, subst, arith}
use Rattle.mr_memtable.specs.Slots.{fronts_of, IsFirst}
use Rattle.mr_memtable.proofs.Fronts.{fronts-length, fronts-take, fronts-drop, first-taken, first-dropped}
use Rattle.mr_memtable.proofs.chunk.Chunk.split.Goals as goal

pub index-requires : goal.index-requires
index-requires c =
    let n = ap length c.args.self.now.fronted.same ∙ fronts-length c.args.self.now.slots.items in
    omega (arith, n, c.requires.full, c.args.self.now.fronts.ok.0, c.args.self.now.slots.ok.0)

pub move_fronts-requires-clause-full : goal.move_fronts-requires-clause-full
move_fronts-requires-clause-full c =
    let n = ap length c.args.self.now.fronted.same ∙ fronts-length c.args.self.now.slots.items in
    omega (arith, n, c.requires.full, c.args.self.now.fronts.ok.0, c.args.self.now.slots.ok.0)

pub move_fronts-requires-clause-empty : goal.move_fronts-requires-clause-empty
move_fronts-requires-clause-empty c = c.args.spare.fronted.same ∙ ap fronts_of c.requires.empty

pub invariant_of-self : goal.invariant_of-self
invariant_of-self c = record {
  fronted = record {
    same = c.move_fronts.ensures.low
        ∙ ap (take 128) c.args.self.now.fronted.same
        ∙ sym (fronts-take 128 c.args.self.now.slots.items)
        ∙ ap fronts_of (sym c.move_slots.ensures.low);
    first = subst (IsFirst c.args.self.now.front) (sym c.move_fronts.ensures.low) (first-taken 127 c.args.self.now.fronts.items c.args.self.now.front c.args.self.now.fronted.first);
    room = omega (arith, c.args.self.now.fronted.room, c.move_fronts.ensures.capacity);
  };
}

pub invariant_of-spare : goal.invariant_of-spare
invariant_of-spare c = record {
  fronted = record {
    same = c.move_fronts.ensures.high
        ∙ ap (drop 128) c.args.self.now.fronted.same
        ∙ sym (fronts-drop 128 c.args.self.now.slots.items)
        ∙ ap fronts_of (sym c.move_slots.ensures.high);
    first = subst (IsFirst c.index.result.now) (sym c.move_fronts.ensures.high) (first-dropped 128 c.args.self.now.fronts.items c.index.result.now c.index.ensures);
    room = omega (arith, c.args.spare.fronted.room, c.move_fronts.ensures.fits);
  };
}
