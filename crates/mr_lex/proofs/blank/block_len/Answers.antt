use Rattle.std.proofs.Common.{ℕ, ◌+◌, sym, ◌∙◌, arith, ap, inl, inr}
use Rattle.std.specs.Option.{option_map}
use Rattle.mr_lex.proofs.Steps.{block-next, block-end}
use Rattle.mr_lex.proofs.blank.block_len.Goals as goal
use Rattle.mr_lex.proofs.blank.block_len.Goals.{else-bytes-at-eq42-via-then-bytes-at-eq42+else-bytes-at-eq47, else-bytes-at-eq42-via-else-bytes-at-eq42}

pub loop-at-preserved : goal.loop-at-preserved
loop-at-preserved c = record {
  within = omega arith;
  same = block-next c.args.bytes.now c.loop-at.at c.loop-at-test.true (elim c.else-bytes-at-eq42.branch [
    | else-bytes-at-eq42-via-then-bytes-at-eq42+else-bytes-at-eq47 w ↦ inr w.if-bytes-at-eq47.false
    | else-bytes-at-eq42-via-else-bytes-at-eq42 w ↦ inl w.if-bytes-at-eq42.false
  ]) ∙ c.loop-at.invariant.same;
}

pub returns-clause-len : goal.returns-clause-len
returns-clause-len c = sym (ap (option_map (λ (n : ℕ). c.loop-at.at + n)) (block-end c.args.bytes.now c.loop-at.at c.loop-at-test.false)) ∙ c.loop-at.invariant.same
