use Rattle.std.proofs.Common.{◌≡◌, ◌-◌}
use Rattle.mr_spec.specs.Phrases.{separated, separated_from, comma}
use Rattle.mr_spec.specs.RowPhrases.{tuple}
use Rattle.mr_parse_rows.proofs.rows.tuples.Given as goal

abbrev pub invariant-loop-turn : goal.invariant-loop-turn
invariant-loop-turn l = separated comma tuple l.initial.tokens ≡ separated_from comma tuple (l._turn-end - l._turn) l.found l.tokens
