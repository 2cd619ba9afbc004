use Rattle.std.proofs.Common.{rules, arith, codes}
use Rattle.std.proofs.lemmas.Grind.{common_steps}
use Rattle.mr_spec.specs.Phrases.{separated_from, eat}
use Rattle.mr_spec.specs.ConditionPhrases.{neg, conj_by}
use Rattle.mr_tokens.proofs.Turns.{one_more, no_more}
use Rattle.mr_parse_rows.proofs.conditions.Nest.cond_parts.Goals as goal

pub returns-in_err-conj : goal.returns-in_err-conj
unfolding separated_from
returns-in_err-conj g c =
    let e = one_more (λ n. separated_from (eat (codes "or")) (conj_by (neg c.args.self.now.depth)) n c.loop-turn.found c.loop-turn.tokens) _ c.loop-turn._turn c.loop-turn-test.true c.loop-turn.invariant in
    first_of (search rules, grind (arith, common_steps))

pub returns-then-not-eat : goal.returns-then-not-eat
unfolding separated_from
returns-then-not-eat g c =
    let e = one_more (λ n. separated_from (eat (codes "or")) (conj_by (neg c.args.self.now.depth)) n c.loop-turn.found c.loop-turn.tokens) _ c.loop-turn._turn c.loop-turn-test.true c.loop-turn.invariant in
    first_of (search rules, grind (arith, common_steps))

pub loop-turn-preserved : goal.loop-turn-preserved
unfolding separated_from
loop-turn-preserved g c =
    let e = one_more (λ n. separated_from (eat (codes "or")) (conj_by (neg c.args.self.now.depth)) n c.loop-turn.found c.loop-turn.tokens) _ c.loop-turn._turn c.loop-turn-test.true c.loop-turn.invariant in
    first_of (search rules, grind (arith, common_steps))

pub returns : goal.returns
unfolding separated_from
returns g c =
    let e = no_more (λ n. separated_from (eat (codes "or")) (conj_by (neg c.args.self.now.depth)) n c.loop-turn.found c.loop-turn.tokens) _ c.loop-turn._turn c.loop-turn-test.false c.loop-turn.invariant in
    first_of (search rules, grind (arith, common_steps))
