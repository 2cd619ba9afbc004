use Rattle.std.proofs.Common.{◌≡◌, ◌<◌, List, length, subst, arith}
use Rattle.mr_families.specs.declared.numbered.Numbered.{Numbered}
use Rattle.mr_families.specs.Known.{one_at}
use Rattle.mr_families.specs.Rooms.{AreNeeds, HasRoom}
use Rattle.mr_families.proofs.Batched.{known_stay}
use Rattle.mr_families.proofs.Needing.{as_many_by, rooms_then, need_read, rooms_more, awaited_in}
use Rattle.mr_families.proofs.reserving.reserve_in.Goals as goal

pub reserving-preserved : goal.reserving-preserved
reserving-preserved c =
    let ns = c.args.list.now.items in
    let i = c.reserving.i in
    let lt : i < length ns = omega (arith, c.reserving-test.true, c.len-i-end.ensures, c.args.list.now.ok.0) in
    let needs : AreNeeds ns c.args.batch.now c.in_ok-needs.needs.items = subst (λ (ms : List Numbered). AreNeeds ms c.args.batch.now c.in_ok-needs.needs.items) c.deref.ensures.value c.in_ok-needs.ensures in
    let room : HasRoom c.args.batch.now (one_at c.reserve_at.new.list.items i) =
    c.in_ok-reserve_at.ensures.room c.args.batch.now (need_read ns c.args.batch.now c.in_ok-needs.needs.items i c.index.result.now c.reserving.list.items c.reserving.invariant.same.listed lt c.index.ensures needs) in
    record {
      kept = c.in_ok-reserve_at.ensures.kept;
      same = rooms_then ns c.reserving.list.items c.reserve_at.new.list.items c.reserving.invariant.same c.in_ok-reserve_at.ensures.same;
      room = rooms_more c.args.batch.now c.reserving.list.items c.reserve_at.new.list.items i c.in_ok-reserve_at.ensures.others c.reserving.invariant.room room;
    }

pub returns-clause-awaited : goal.returns-clause-awaited
returns-clause-awaited c =
    let ns = c.args.list.now.items in
    let same = c.reserving.invariant.same.listed in
    let size : length c.reserving.list.items ≡ length ns = as_many_by ns c.reserving.list.items same in
    awaited_in c.args.batch.now c.reserving.list.items (known_stay ns c.reserving.list.items c.args.batch.now same c.requires.known)
    (λ j lt. c.reserving.invariant.room j (omega (arith, lt, size, c.reserving-test.false, c.len-i-end.ensures, c.args.list.now.ok.0)))
