use Rattle.std.proofs.Common.{sym, ◌∙◌, arith}
use Rattle.mr_lex.proofs.Lists.{same, not_same, both_yes, and_no, no_and}
use Rattle.mr_lex.proofs.Steps.{quoted-double, quoted-escape, quoted-byte, quoted-no_byte}
use Rattle.mr_lex.proofs.quoted.quoted_len.Goals as goal
use Rattle.mr_lex.proofs.quoted.quoted_len.Goals.{else-escapes-via-then-escapes+else-byte-eq92, else-escapes-via-else-escapes}

pub loop-at-preserved-then-bytes-at : goal.loop-at-preserved-then-bytes-at
loop-at-preserved-then-bytes-at c = record {
  past = omega arith;
  within = omega arith;
  same = sym (quoted-double c.args.quote c.args.escapes c.args.least c.args.most c.args.bytes.now c.loop-at.at c.if-is_pair.true c.if-byte-quote.true c.if-bytes-at.true) ∙ c.loop-at.invariant.same;
}

pub loop-at-preserved-then-byte-eq92 : goal.loop-at-preserved-then-byte-eq92
loop-at-preserved-then-byte-eq92 c = record {
  past = omega arith;
  within = omega arith;
  same = sym (quoted-escape c.args.quote c.args.escapes c.args.least c.args.most c.args.bytes.now c.loop-at.at c.if-is_pair-2.true c.if-byte-quote.false (both_yes _ _ c.if-escapes.true (same _ _ c.if-byte-eq92.true)) (sym c.is_within.ensures ∙ c.if-is_within.true)) ∙ c.loop-at.invariant.same;
}

pub loop-at-preserved : goal.loop-at-preserved
loop-at-preserved c = record {
  past = omega arith;
  within = omega arith;
  same = sym (quoted-byte c.args.quote c.args.escapes c.args.least c.args.most c.args.bytes.now c.loop-at.at c.loop-at-test.true c.if-byte-quote.false (elim c.else-escapes.branch [
    | else-escapes-via-then-escapes+else-byte-eq92 w ↦ and_no _ _ (not_same _ _ w.if-byte-eq92.false)
    | else-escapes-via-else-escapes w ↦ no_and _ _ w.if-escapes.false
  ]) (sym c.is_within-else-escapes.ensures ∙ c.if-is_within-2.true)) ∙ c.loop-at.invariant.same;
}

pub returns-else-is_within-2-clause-len : goal.returns-else-is_within-2-clause-len
returns-else-is_within-2-clause-len c = quoted-no_byte c.args.quote c.args.escapes c.args.least c.args.most c.args.bytes.now c.loop-at.at c.loop-at-test.true c.if-byte-quote.false (elim c.else-escapes.branch [
  | else-escapes-via-then-escapes+else-byte-eq92 w ↦ and_no _ _ (not_same _ _ w.if-byte-eq92.false)
  | else-escapes-via-else-escapes w ↦ no_and _ _ w.if-escapes.false
]) (sym c.is_within-else-escapes.ensures ∙ c.if-is_within-2.false) ∙ c.loop-at.invariant.same
