use Rattle.std.proofs.Common.{arith, sym, ap, ◌∙◌, ◌≡◌, ◌-◌, ℕ, List, Option, take, drop, length}
use Rattle.std.proofs.lemmas.List.{take_rest}
use Rattle.mr_pieces.specs.declared.collation.Collation.{Collation}
use Rattle.mr_pieces.specs.Reading.{rest_of, wanted_mark}
use Rattle.mr_pieces.proofs.Reading.{text_short, text_offends, text_ends, text_goes_on, text_agrees, text_differs}
use Rattle.mr_pieces.proofs.reader.text_head.Goals as goal

wanted_is : (rest : List ℕ) (collation : Collation) {r : Option ℕ} → r ≡ wanted_mark collation (take (length rest - 9) (drop 9 rest)) → wanted_mark collation (drop 9 rest) ≡ r
wanted_is rest collation e = sym (rw (take_rest rest 9) at e)

pub returns-then-rest-lt9 : goal.returns-then-rest-lt9
returns-then-rest-lt9 c = (ap rest_of (text_short c.args.collation c.args.rest.now (omega arith)), omega arith)

pub returns-then-not-is_piece : goal.returns-then-not-is_piece
returns-then-not-is_piece c = (text_offends c.args.collation c.args.rest.now (omega arith) (sym c.is_piece.ensures ∙ c.if-not-is_piece.true), omega arith)

pub returns-then-mark-eq2 : goal.returns-then-mark-eq2
returns-then-mark-eq2 c = (omega arith, text_ends c.args.collation c.args.rest.now (omega arith) (sym c.is_piece.ensures ∙ c.if-not-is_piece.false) c.if-mark-eq2.true)

pub returns-in-None : goal.returns-in-None
returns-in-None c = (omega arith, text_goes_on c.args.collation c.args.rest.now (omega arith) (sym c.is_piece.ensures ∙ c.if-not-is_piece.false) c.if-mark-eq2.false (wanted_is c.args.rest.now c.args.collation c.wanted_of.ensures ∙ c.in-None.is))

pub returns-then-mark-wanted : goal.returns-then-mark-wanted
returns-then-mark-wanted c = (omega arith, text_agrees c.args.collation c.args.rest.now _ (omega arith) (sym c.is_piece.ensures ∙ c.if-not-is_piece.false) c.if-mark-eq2.false (wanted_is c.args.rest.now c.args.collation c.wanted_of.ensures ∙ c.in-Some.is) c.if-mark-wanted.true)

pub returns-else-mark-wanted : goal.returns-else-mark-wanted
returns-else-mark-wanted c = (text_differs c.args.collation c.args.rest.now _ (omega arith) (sym c.is_piece.ensures ∙ c.if-not-is_piece.false) c.if-mark-eq2.false (wanted_is c.args.rest.now c.args.collation c.wanted_of.ensures ∙ c.in-Some.is) c.if-mark-wanted.false, omega arith)
