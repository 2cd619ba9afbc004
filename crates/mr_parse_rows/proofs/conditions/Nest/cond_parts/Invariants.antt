use Rattle.std.proofs.Common.{◌≡◌, ◌-◌, codes}
use Rattle.mr_spec.specs.Phrases.{separated, separated_from, eat}
use Rattle.mr_spec.specs.ConditionPhrases.{neg, conj_by}
use Rattle.mr_parse_rows.proofs.conditions.Nest.cond_parts.Given as goal

abbrev pub invariant-loop-turn : goal.invariant-loop-turn
invariant-loop-turn g l = separated (eat (codes "or")) (conj_by (neg l.self.depth)) l.initial.tokens ≡ separated_from (eat (codes "or")) (conj_by (neg l.self.depth)) (l._turn-end - l._turn) l.found l.tokens
