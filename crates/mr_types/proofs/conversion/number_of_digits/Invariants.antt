use Rattle.std.proofs.Common.{◌≡◌, take}
use Rattle.mr_types.specs.Values.{number_from}
use Rattle.mr_types.proofs.conversion.number_of_digits.Given as goal

abbrev pub invariant-loop-digit : goal.invariant-loop-digit
invariant-loop-digit l = l.number ≡ number_from 0 (take l.digit-index l.digits)
