use Rattle.std.proofs.Common.{◌≡◌, ◌-◌}
use Rattle.mr_spec.specs.Phrases.{separated, separated_from, comma}
use Rattle.mr_spec.specs.RowPhrases.{item_value}
use Rattle.mr_parse_rows.proofs.rows.item_values.Given as goal

abbrev pub invariant-loop-turn : goal.invariant-loop-turn
invariant-loop-turn l = separated comma item_value l.initial.tokens ≡ separated_from comma item_value (l._turn-end - l._turn) l.found l.tokens
