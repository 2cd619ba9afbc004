use Rattle.std.proofs.Common.{rules, arith}
use Rattle.std.proofs.lemmas.Grind.{common_steps}
use Rattle.mr_spec.specs.Phrases.{separated_from, comma}
use Rattle.mr_spec.specs.RowPhrases.{set_item}
use Rattle.mr_tokens.proofs.Turns.{one_more, no_more}
use Rattle.mr_parse_rows.proofs.rows.set_items.Goals as goal

pub returns-in_err-set_item : goal.returns-in_err-set_item
unfolding separated_from
returns-in_err-set_item c =
    let e = one_more (λ n. separated_from comma set_item n c.loop-turn.found c.loop-turn.tokens) _ c.loop-turn._turn c.loop-turn-test.true c.loop-turn.invariant in
    first_of (search rules, grind (arith, common_steps))

pub returns-then-not-eat_sign : goal.returns-then-not-eat_sign
unfolding separated_from
returns-then-not-eat_sign c =
    let e = one_more (λ n. separated_from comma set_item n c.loop-turn.found c.loop-turn.tokens) _ c.loop-turn._turn c.loop-turn-test.true c.loop-turn.invariant in
    first_of (search rules, grind (arith, common_steps))

pub loop-turn-preserved : goal.loop-turn-preserved
unfolding separated_from
loop-turn-preserved c =
    let e = one_more (λ n. separated_from comma set_item n c.loop-turn.found c.loop-turn.tokens) _ c.loop-turn._turn c.loop-turn-test.true c.loop-turn.invariant in
    first_of (search rules, grind (arith, common_steps))

pub returns : goal.returns
unfolding separated_from
returns c =
    let e = no_more (λ n. separated_from comma set_item n c.loop-turn.found c.loop-turn.tokens) _ c.loop-turn._turn c.loop-turn-test.false c.loop-turn.invariant in
    first_of (search rules, grind (arith, common_steps))
