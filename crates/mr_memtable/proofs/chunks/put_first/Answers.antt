use Rattle.std.proofs.Common.{◌≡◌, ◌<◌, ◌∙◌, ◌++◌, ◌∷◌, [], List, length, refl, sym, ap, subst, arith}
use Rattle.std.specs.List.{insert}
use Rattle.mr_memtable.specs.declared.slot.Slot.{Slot}
use Rattle.mr_memtable.specs.declared.chunk.Chunk.{Chunk}
use Rattle.mr_memtable.specs.Chunks.{listed, sizes, HaveRoom, AreSpare, AreFilled}
use Rattle.mr_memtable.proofs.ChunkLaws.{last_spare, first_listed, first_sizes, first_rooms}
use Rattle.mr_memtable.proofs.Filling.{filled-one}
use Rattle.mr_memtable.proofs.chunks.put_first.Goals as goal

-- a slot at the front of none
first_slot_in : (ss : List Slot) (slot : Slot) → length ss < 1 → insert ss 0 slot ≡ ss ++ slot ∷ []
first_slot_in [] slot lt = refl
first_slot_in (s ∷ ss) slot lt = absurd (omega (arith, lt))

pub returns-clause-list : goal.returns-clause-list
returns-clause-list c =
    let chunk : Chunk = c.insert.new.self in
    let spare = last_spare c.pop.new.self.items c.in-Some.spare (subst AreSpare c.in-Some.ensures.items c.requires.spare) in
    ap listed c.put_within.ensures.list ∙ first_listed chunk c.args.chunks.now.items c.in-Some.spare.slots.items c.args.slot c.requires.empty spare.1 (c.insert.ensures.items ∙ first_slot_in c.in-Some.spare.slots.items c.args.slot spare.1)

pub returns-clause-filled : goal.returns-clause-filled
returns-clause-filled c =
    let chunk : Chunk = c.insert.new.self in
    let spare = last_spare c.pop.new.self.items c.in-Some.spare (subst AreSpare c.in-Some.ensures.items c.requires.spare) in
    subst AreFilled (sym (ap sizes c.put_within.ensures.list ∙ first_sizes chunk c.args.chunks.now.items c.in-Some.spare.slots.items c.args.slot c.requires.empty spare.1 (c.insert.ensures.items ∙ first_slot_in c.in-Some.spare.slots.items c.args.slot spare.1))) filled-one

pub returns-clause-rooms : goal.returns-clause-rooms
returns-clause-rooms c =
    let chunk : Chunk = c.insert.new.self in
    let spare = last_spare c.pop.new.self.items c.in-Some.spare (subst AreSpare c.in-Some.ensures.items c.requires.spare) in
    subst HaveRoom (sym c.put_within.ensures.list) (first_rooms chunk c.args.chunks.now.items c.requires.empty (omega (arith, spare.0, c.insert.ensures.capacity)))
