use Rattle.std.proofs.Common.{rules, arith}
use Rattle.std.proofs.lemmas.Grind.{common_steps}
use Rattle.mr_spec.specs.RowPhrases.{sum_from}
use Rattle.mr_tokens.proofs.Turns.{one_more, no_more}
use Rattle.mr_parse_rows.proofs.rows.sum.Goals as goal

pub returns-in_err-factors : goal.returns-in_err-factors
unfolding sum_from
returns-in_err-factors c =
    let e = one_more (λ n. sum_from n c.loop-turn.minus c.loop-turn.found c.loop-turn.tokens) _ c.loop-turn._turn c.loop-turn-test.true c.loop-turn.invariant in
    first_of (search rules, grind (arith, common_steps))

pub returns-in-None : goal.returns-in-None
unfolding sum_from
returns-in-None c =
    let e = one_more (λ n. sum_from n c.loop-turn.minus c.loop-turn.found c.loop-turn.tokens) _ c.loop-turn._turn c.loop-turn-test.true c.loop-turn.invariant in
    first_of (search rules, grind (arith, common_steps))

pub loop-turn-preserved : goal.loop-turn-preserved
unfolding sum_from
loop-turn-preserved c =
    let e = one_more (λ n. sum_from n c.loop-turn.minus c.loop-turn.found c.loop-turn.tokens) _ c.loop-turn._turn c.loop-turn-test.true c.loop-turn.invariant in
    first_of (search rules, grind (arith, common_steps))

pub returns : goal.returns
unfolding sum_from
returns c =
    let e = no_more (λ n. sum_from n c.loop-turn.minus c.loop-turn.found c.loop-turn.tokens) _ c.loop-turn._turn c.loop-turn-test.false c.loop-turn.invariant in
    first_of (search rules, grind (arith, common_steps))
