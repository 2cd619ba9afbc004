use Rattle.std.proofs.Common.{◌≡◌, ◌-◌}
use Rattle.mr_spec.specs.Phrases.{separated, separated_from, comma}
use Rattle.mr_spec.specs.Phrases.{name}
use Rattle.mr_tokens.proofs.name_list.names.Given as goal

abbrev pub invariant-loop-turn : goal.invariant-loop-turn
invariant-loop-turn l = separated comma name l.initial.tokens ≡ separated_from comma name (l._turn-end - l._turn) l.found l.tokens
