use Rattle.std.proofs.Common.{arith}
use Rattle.mr_lex.proofs.Steps.{name_count-pair, name_count-one, name_count-end}
use Rattle.mr_lex.proofs.quoted.name_len.Goals as goal
use Rattle.mr_lex.proofs.quoted.name_len.Goals.{then-bytes-at-eq96, else-bytes-at-eq96}

pub loop-at-preserved : goal.loop-at-preserved
loop-at-preserved c = elim c.if-bytes-at-eq96.branch [
  | then-bytes-at-eq96 w ↦ rw w.at-is (let e = name_count-pair c.args.bytes.now c.loop-at.at c.loop-at-test.true w.if-bytes-at-eq96.true in
      record { within = omega arith; few = omega arith; same = omega (arith, e, c.loop-at.invariant.same) })
  | else-bytes-at-eq96 w ↦ rw w.at-is (let e = name_count-one c.args.bytes.now c.loop-at.at c.loop-at-test.true w.if-bytes-at-eq96.false in
      record { within = omega arith; few = omega arith; same = omega (arith, e, c.loop-at.invariant.same) })
]

pub returns-clause-count : goal.returns-clause-count
returns-clause-count c = let e = name_count-end c.args.bytes.now c.loop-at.at c.loop-at-test.false in omega (arith, c.loop-at.invariant.same, e)
