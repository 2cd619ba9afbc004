use Rattle.std.proofs.Common.{◌≤◌, ◌⊎◌, ◌-◌, ◌*◌, ◌∙◌, sym, arith, inl, inr, length}
use Rattle.std.proofs.lemmas.Bool.{cases_lt}
use Rattle.mr_pieces.proofs.CaseBits.{piece_of, case_no, case_yes, case_ends}
use Rattle.mr_pieces.proofs.unpack_reader.are_case_bits.Goals as goal

pub returns-then-not-are_bits : goal.returns-then-not-are_bits
returns-then-not-are_bits c = λ text is size.
    let k = c.loop-number.number in
    let most : (8 ≤ c.min-size.result) ⊎ (length text - 8 * k ≤ c.min-size.result) = elim (cases_lt (length text - 8 * k) 8) [ inl h ↦ inr (omega arith) | inr h ↦ inl (omega arith) ] in
    case_no text c.args.bits.now _ k c.are_bits.result (omega arith) (omega (arith, c.requires.room))
    (piece_of text c.args.pieces.now k c.min-size.result is (omega arith) (omega arith) most) c.are_bits.ensures c.if-not-are_bits.true (c.loop-number.invariant text is size)

pub loop-number-preserved : goal.loop-number-preserved
loop-number-preserved c = λ text is size.
    let k = c.loop-number.number in
    let most : (8 ≤ c.min-size.result) ⊎ (length text - 8 * k ≤ c.min-size.result) = elim (cases_lt (length text - 8 * k) 8) [ inl h ↦ inr (omega arith) | inr h ↦ inl (omega arith) ] in
    case_yes text c.args.bits.now _ k c.are_bits.result (omega arith) (omega (arith, c.requires.room))
    (piece_of text c.args.pieces.now k c.min-size.result is (omega arith) (omega arith) most) c.are_bits.ensures c.if-not-are_bits.false (c.loop-number.invariant text is size)

pub returns : goal.returns
returns c = λ text is size.
    sym (case_ends text c.args.bits.now c.loop-number.number (omega arith) (omega (arith, c.requires.room))) ∙ c.loop-number.invariant text is size
