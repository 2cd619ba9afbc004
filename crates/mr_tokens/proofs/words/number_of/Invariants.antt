use Rattle.std.proofs.Common.{◌≡◌, drop}
use Rattle.mr_types.specs.Values.{number_from}
use Rattle.mr_tokens.proofs.words.number_of.Given as goal

abbrev pub invariant-loop-digit : goal.invariant-loop-digit
invariant-loop-digit l = number_from l.value (drop l.digit-index l.digits) ≡ number_from 0 l.digits
