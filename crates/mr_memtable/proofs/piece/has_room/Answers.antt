use Rattle.std.proofs.Common.{◌≡◌, ◌+◌, ◌-◌, ◌<◌, ◌≤◌, length, arith}
use Rattle.std.proofs.lemmas.Bool.Decides.{nat_tests}
use Rattle.mr_memtable.proofs.Pieces.{room_is, some_piece}
use Rattle.mr_memtable.proofs.piece.has_room.Goals as goal

pub returns-clause-room : goal.returns-clause-room
returns-clause-room c = λ is.
    let last : (length c.args.pieces.now - 1) + 1 ≡ length c.args.pieces.now = omega (arith, some_piece c.args.pieces.now c.if-is_empty.ensures) in
    let room = room_is c.args.pieces.now (length c.args.pieces.now - 1) c.index-pieces-pieces.result last c.index-pieces-pieces.is in
    let fits : c.args.bytes ≤ c.capacity.result - c.len.result = grind (arith, nat_tests) in
    omega (arith, room, fits, c.capacity.ensures, c.len.ensures, c.index-pieces-pieces.result.bytes.ok.0)

pub returns-clause-none : goal.returns-clause-none
returns-clause-none c = λ no some.
    let last : (length c.args.pieces.now - 1) + 1 ≡ length c.args.pieces.now = omega (arith, some) in
    let room = room_is c.args.pieces.now (length c.args.pieces.now - 1) c.index-pieces-pieces.result last c.index-pieces-pieces.is in
    let less : c.capacity.result - c.len.result < c.args.bytes = grind (arith, nat_tests) in
    omega (arith, room, less, c.capacity.ensures, c.len.ensures, c.index-pieces-pieces.result.bytes.ok.0)
