use Rattle.std.proofs.Common.{arith}
use Rattle.mr_pieces.specs.Reading.{bytes_in}
use Rattle.mr_pieces.proofs.Lengths.{bytes_count, bytes_room}
use Rattle.mr_pieces.proofs.places.bytes_length.Goals as goal

pub overflow_sub-result : goal.overflow_sub-result
overflow_sub-result c = omega (arith, bytes_room (bytes_in c.args.pieces.now) c.args.pieces.now c.requires)

pub overflow_sub-result-2 : goal.overflow_sub-result-2
overflow_sub-result-2 c = omega (arith, bytes_room (bytes_in c.args.pieces.now) c.args.pieces.now c.requires)

pub bounds-pieces-pieces : goal.bounds-pieces-pieces
bounds-pieces-pieces c = omega (arith, bytes_room (bytes_in c.args.pieces.now) c.args.pieces.now c.requires)

pub returns : goal.returns
returns c = bytes_count (bytes_in c.args.pieces.now) c.args.pieces.now c.requires
