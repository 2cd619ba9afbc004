use Rattle.std.proofs.Common.{◌≡◌, ◌-◌}
use Rattle.mr_spec.specs.Phrases.{separated, separated_from, comma}
use Rattle.mr_spec.specs.RowPhrases.{set_item}
use Rattle.mr_parse_rows.proofs.rows.set_items.Given as goal

abbrev pub invariant-loop-turn : goal.invariant-loop-turn
invariant-loop-turn l = separated comma set_item l.initial.tokens ≡ separated_from comma set_item (l._turn-end - l._turn) l.found l.tokens
