use Rattle.std.proofs.Common.{◌≡◌, ◌-◌}
use Rattle.mr_spec.specs.Phrases.{separated, separated_from, comma}
use Rattle.mr_spec.specs.SessionPhrases.{locked_table}
use Rattle.mr_parse.proofs.sessions.locked_tables.Given as goal

abbrev pub invariant-loop-turn : goal.invariant-loop-turn
invariant-loop-turn l = separated comma locked_table l.initial.tokens ≡ separated_from comma locked_table (l._turn-end - l._turn) l.found l.tokens
