use Rattle.std.proofs.Common.{sym, ◌∙◌, arith, ap, ◌&&◌, ◌+◌, get_or}
use Rattle.mr_lex.specs.Bytes.{is_hex_digit}
use Rattle.mr_lex.proofs.Lists.{and_no}
use Rattle.mr_lex.proofs.Steps.{pairs-two, pairs-no, pairs-last}
use Rattle.mr_lex.proofs.quoted.pairs_len.Goals as goal
use Rattle.mr_lex.proofs.quoted.pairs_len.Goals.{else-at-bytes-via-then-at-bytes+then-is_hex_digit+else-is_hex_digit-2, else-at-bytes-via-then-at-bytes+else-is_hex_digit, else-at-bytes-via-else-at-bytes}

pub loop-at-preserved : goal.loop-at-preserved
loop-at-preserved c = record {
  within = omega arith;
  same = sym (pairs-two c.args.bytes.now c.loop-at.at c.if-at-bytes.true c.if-bytes-at-eq39.false (sym c.is_hex_digit.ensures ∙ c.if-is_hex_digit.true) (sym c.is_hex_digit-then-is_hex_digit.ensures ∙ c.if-is_hex_digit-2.true)) ∙ c.loop-at.invariant.same;
}

pub returns-else-at-bytes-clause-len : goal.returns-else-at-bytes-clause-len
returns-else-at-bytes-clause-len c = elim c.else-at-bytes.branch [
  | else-at-bytes-via-then-at-bytes+then-is_hex_digit+else-is_hex_digit-2 w ↦ pairs-no c.args.bytes.now c.loop-at.at w.if-at-bytes.true c.if-bytes-at-eq39.false (and_no _ _ (sym w.is_hex_digit-then-is_hex_digit.ensures ∙ w.if-is_hex_digit-2.false)) ∙ c.loop-at.invariant.same
  | else-at-bytes-via-then-at-bytes+else-is_hex_digit w ↦ pairs-no c.args.bytes.now c.loop-at.at w.if-at-bytes.true c.if-bytes-at-eq39.false (ap (λ t. t && is_hex_digit (get_or c.args.bytes.now (c.loop-at.at + 1) 0)) (sym w.is_hex_digit.ensures ∙ w.if-is_hex_digit.false)) ∙ c.loop-at.invariant.same
  | else-at-bytes-via-else-at-bytes w ↦ pairs-last c.args.bytes.now c.loop-at.at c.loop-at-test.true w.if-at-bytes.false c.if-bytes-at-eq39.false ∙ c.loop-at.invariant.same
]
