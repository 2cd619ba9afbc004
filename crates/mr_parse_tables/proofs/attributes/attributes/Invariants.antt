use Rattle.std.proofs.Common.{◌≡◌, ◌-◌}
use Rattle.mr_spec.specs.TablePhrases.{attributes, attributes_from}
use Rattle.mr_parse_tables.proofs.attributes.attributes.Given as goal

abbrev pub invariant-loop-turn : goal.invariant-loop-turn
invariant-loop-turn l = attributes l.initial.tokens ≡ attributes_from (l._turn-end - l._turn) l.found l.tokens
