use Rattle.std.proofs.Common.{rules, arith}
use Rattle.std.proofs.lemmas.Grind.{common_steps}
use Rattle.mr_spec.specs.TablePhrases.{items_from}
use Rattle.mr_tokens.proofs.Turns.{one_more, no_more}
use Rattle.mr_parse_tables.proofs.tables.items.Goals as goal

pub returns-in_err-draft : goal.returns-in_err-draft
unfolding items_from
returns-in_err-draft c =
    let e = one_more (λ n. items_from n c.loop-turn.draft c.loop-turn.tokens) _ c.loop-turn._turn c.loop-turn-test.true c.loop-turn.invariant in
    first_of (search rules, grind (arith, common_steps))

pub returns-then-not-eat_sign : goal.returns-then-not-eat_sign
unfolding items_from
returns-then-not-eat_sign c =
    let e = one_more (λ n. items_from n c.loop-turn.draft c.loop-turn.tokens) _ c.loop-turn._turn c.loop-turn-test.true c.loop-turn.invariant in
    first_of (search rules, grind (arith, common_steps))

pub loop-turn-preserved : goal.loop-turn-preserved
unfolding items_from
loop-turn-preserved c =
    let e = one_more (λ n. items_from n c.loop-turn.draft c.loop-turn.tokens) _ c.loop-turn._turn c.loop-turn-test.true c.loop-turn.invariant in
    first_of (search rules, grind (arith, common_steps))

pub returns : goal.returns
unfolding items_from
returns c =
    let e = no_more (λ n. items_from n c.loop-turn.draft c.loop-turn.tokens) _ c.loop-turn._turn c.loop-turn-test.false c.loop-turn.invariant in
    first_of (search rules, grind (arith, common_steps))
