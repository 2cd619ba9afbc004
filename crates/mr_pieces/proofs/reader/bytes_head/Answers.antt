use Rattle.std.proofs.Common.{arith, sym, ◌∙◌}
use Rattle.mr_pieces.specs.Reading.{rest_of}
use Rattle.mr_pieces.proofs.Reading.{bytes_short, bytes_goes_on, bytes_ends, bytes_offends}
use Rattle.std.proofs.Common.{ap}
use Rattle.mr_pieces.proofs.reader.bytes_head.Goals as goal

pub returns-then-rest-lt9 : goal.returns-then-rest-lt9
returns-then-rest-lt9 c = (ap rest_of (bytes_short c.args.first c.args.rest.now (omega arith)), omega arith)

pub returns-then-count-eq9 : goal.returns-then-count-eq9
returns-then-count-eq9 c = (omega arith, bytes_goes_on c.args.first c.args.rest.now (omega arith) c.if-count-eq9.true)

pub returns-then-is_last_piece : goal.returns-then-is_last_piece
returns-then-is_last_piece c =
    (omega arith, bytes_ends c.args.first c.args.rest.now (omega arith) c.if-count-eq9.false (sym c.is_last_piece.ensures ∙ c.if-is_last_piece.true))

pub returns : goal.returns
returns c = (bytes_offends c.args.first c.args.rest.now (omega arith) c.if-count-eq9.false (sym c.is_last_piece.ensures ∙ c.if-is_last_piece.false), omega arith)
