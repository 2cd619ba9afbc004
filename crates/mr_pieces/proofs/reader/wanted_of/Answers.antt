use Rattle.std.proofs.Common.{arith, sym, ap, ◌∙◌, refl, Some}
use Rattle.mr_pieces.proofs.Reading.{wanted_short, wanted_whole}
use Rattle.mr_pieces.proofs.reader.wanted_of.Goals as goal

pub returns-then-rest-lt9 : goal.returns-then-rest-lt9
returns-then-rest-lt9 c = sym (wanted_short c.args.collation c.args.rest.now (omega arith))

pub returns-then-not-is_piece : goal.returns-then-not-is_piece
returns-then-not-is_piece c =
    rw (wanted_whole c.args.collation c.args.rest.now (omega arith), sym c.is_piece.ensures ∙ c.if-not-is_piece.true) refl

pub returns-then-is_blank : goal.returns-then-is_blank
returns-then-is_blank c =
    rw (wanted_whole c.args.collation c.args.rest.now (omega arith), sym c.is_piece.ensures ∙ c.if-not-is_piece.false, sym c.is_blank.ensures ∙ c.if-is_blank.true) refl

pub returns : goal.returns
returns c =
    rw (wanted_whole c.args.collation c.args.rest.now (omega arith), sym c.is_piece.ensures ∙ c.if-not-is_piece.false, sym c.is_blank.ensures ∙ c.if-is_blank.false) (ap Some c.mark_of.ensures)
