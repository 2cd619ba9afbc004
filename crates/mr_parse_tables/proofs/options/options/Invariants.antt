use Rattle.std.proofs.Common.{◌≡◌, ◌-◌}
use Rattle.mr_spec.specs.TablePhrases.{options, options_from}
use Rattle.mr_parse_tables.proofs.options.options.Given as goal

abbrev pub invariant-loop-turn : goal.invariant-loop-turn
invariant-loop-turn l = options l.initial.tokens ≡ options_from (l._turn-end - l._turn) l.found l.tokens
