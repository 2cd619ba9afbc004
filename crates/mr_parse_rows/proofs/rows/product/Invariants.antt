use Rattle.std.proofs.Common.{◌≡◌, ◌-◌, codes}
use Rattle.mr_spec.specs.Phrases.{separated, separated_from, eat_sign}
use Rattle.mr_spec.specs.RowPhrases.{factor}
use Rattle.mr_parse_rows.proofs.rows.product.Given as goal

abbrev pub invariant-loop-turn : goal.invariant-loop-turn
invariant-loop-turn l = separated (eat_sign (codes "*")) factor l.initial.tokens ≡ separated_from (eat_sign (codes "*")) factor (l._turn-end - l._turn) l.found l.tokens
