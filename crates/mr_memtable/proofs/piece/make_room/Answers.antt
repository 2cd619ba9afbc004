use Rattle.std.proofs.Common.{◌∙◌, ◌≤◌, [], ◌∷◌, sym, subst, ap, arith, length}
use Rattle.mr_memtable.specs.Slots.{GoOn, room_in}
use Rattle.mr_memtable.proofs.Pieces.{same_pieces, more_pieces, room_push}
use Rattle.mr_memtable.proofs.piece.make_room.Goals.{in-Ok, in-Err}
use Rattle.mr_memtable.proofs.piece.make_room.Goals as goal

pub returns-then-has_room-clause-pieces : goal.returns-then-has_room-clause-pieces
returns-then-has_room-clause-pieces c = same_pieces c.args.pieces.now.items

pub returns-in_err-piece-clause-pieces : goal.returns-in_err-piece-clause-pieces
returns-in_err-piece-clause-pieces c = same_pieces c.args.pieces.now.items

pub returns-clause-pieces : goal.returns-clause-pieces
returns-clause-pieces c = elim c.match-push.branch [
  | in-Ok w ↦ subst (GoOn c.args.pieces.now.items) (sym w.in-Ok.ensures.items) (more_pieces c.args.pieces.now.items (c.in_ok-piece.piece ∷ []))
  | in-Err w ↦ subst (GoOn c.args.pieces.now.items) (sym w.in-Err.ensures.items) (same_pieces c.args.pieces.now.items)
]

pub returns-clause-room : goal.returns-clause-room
returns-clause-room c = elim c.match-push.branch [
  | in-Ok w ↦
      let empty = ap length c.in_ok-piece.ensures.empty in
      let room = ap room_in w.in-Ok.ensures.items ∙ room_push c.args.pieces.now.items c.in_ok-piece.piece in
      let enough : c.args.bytes ≤ room_in c.push.new.self.items = omega (arith, c.max.ensures, c.in_ok-piece.ensures.room, room, empty) in
      rw w.result-is enough
  | in-Err w ↦ rw w.result-is tt
]

pub returns-clause-most : goal.returns-clause-most
returns-clause-most c = elim c.match-push.branch [
  | in-Ok w ↦
      let room = ap room_in w.in-Ok.ensures.items ∙ room_push c.args.pieces.now.items c.in_ok-piece.piece in
      omega (arith, c.max.ensures, c.in_ok-piece.ensures.room, room)
  | in-Err w ↦ let room = ap room_in w.in-Err.ensures.items in omega (arith, room)
]
