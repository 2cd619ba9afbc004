use Rattle.std.proofs.Common.{◌≡◌, ◌++◌, length}
use Rattle.mr_spec.specs.Words.{undoubled}
use Rattle.mr_tokens.proofs.quoted.undoubled.Given as goal

abbrev pub invariant-loop-rest : goal.invariant-loop-rest
invariant-loop-rest l = l.found.items ++ undoubled l.quote l.rest ≡ undoubled l.quote l.bytes

abbrev pub decreases-loop-rest : goal.decreases-loop-rest
decreases-loop-rest l = length l.rest
