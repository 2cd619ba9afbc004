use Rattle.std.proofs.Common.{rules, arith}
use Rattle.std.proofs.lemmas.Grind.{common_steps}
use Rattle.mr_spec.specs.TablePhrases.{attributes_from}
use Rattle.mr_tokens.proofs.Turns.{one_more, no_more}
use Rattle.mr_parse_tables.proofs.attributes.attributes.Goals as goal

pub returns-in_err-next : goal.returns-in_err-next
unfolding attributes_from
returns-in_err-next c =
    let e = one_more (λ n. attributes_from n c.loop-turn.found c.loop-turn.tokens) _ c.loop-turn._turn c.loop-turn-test.true c.loop-turn.invariant in
    first_of (search rules, grind (arith, common_steps))

pub returns-then-not-read : goal.returns-then-not-read
unfolding attributes_from
returns-then-not-read c =
    let e = one_more (λ n. attributes_from n c.loop-turn.found c.loop-turn.tokens) _ c.loop-turn._turn c.loop-turn-test.true c.loop-turn.invariant in
    first_of (search rules, grind (arith, common_steps))

pub loop-turn-preserved : goal.loop-turn-preserved
unfolding attributes_from
loop-turn-preserved c =
    let e = one_more (λ n. attributes_from n c.loop-turn.found c.loop-turn.tokens) _ c.loop-turn._turn c.loop-turn-test.true c.loop-turn.invariant in
    first_of (search rules, grind (arith, common_steps))

pub returns : goal.returns
unfolding attributes_from
returns c =
    let e = no_more (λ n. attributes_from n c.loop-turn.found c.loop-turn.tokens) _ c.loop-turn._turn c.loop-turn-test.false c.loop-turn.invariant in
    first_of (search rules, grind (arith, common_steps))
