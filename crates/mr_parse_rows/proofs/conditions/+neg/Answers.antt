use Rattle.std.proofs.Common.{◌≡◌, ap, arith}
use Rattle.mr_spec.specs.ConditionPhrases.{neg}
use Rattle.mr_tokens.proofs.Turns.{deeper}
use Rattle.mr_parse_rows.proofs.conditions.+neg.Goals as goal

pub returns-then-depth-eq0 : goal.returns-then-depth-eq0
unfolding neg
returns-then-depth-eq0 t c = let none : c.args.depth ≡ 0 = omega arith in rw (ap (λ n. neg n c.args.tokens.now) none) c.test.ensures

pub returns : goal.returns
unfolding neg
returns t c = rw (deeper (λ n. neg n c.args.tokens.now) c.args.depth (omega arith)) c.nested.ensures
