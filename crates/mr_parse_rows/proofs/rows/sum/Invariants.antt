use Rattle.std.proofs.Common.{◌≡◌, ◌-◌}
use Rattle.mr_spec.specs.RowPhrases.{sum, sum_from}
use Rattle.mr_parse_rows.proofs.rows.sum.Given as goal

abbrev pub invariant-loop-turn : goal.invariant-loop-turn
invariant-loop-turn l = sum l.initial.tokens ≡ sum_from (l._turn-end - l._turn) l.minus l.found l.tokens
