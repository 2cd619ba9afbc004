use Rattle.std.proofs.Common.{◌≡◌, ◌-◌}
use Rattle.mr_spec.specs.TablePhrases.{items, items_from}
use Rattle.mr_parse_tables.proofs.tables.items.Given as goal

abbrev pub invariant-loop-turn : goal.invariant-loop-turn
invariant-loop-turn l = items l.initial.tokens ≡ items_from (l._turn-end - l._turn) l.draft l.tokens
