use Rattle.std.proofs.Common.{◌≡◌, ◌++◌, length}
use Rattle.mr_spec.specs.Words.{unescaped}
use Rattle.mr_tokens.proofs.quoted.unescaped.Given as goal

abbrev pub invariant-loop-rest : goal.invariant-loop-rest
invariant-loop-rest l = l.found.items ++ unescaped l.quote l.rest ≡ unescaped l.quote l.bytes

abbrev pub decreases-loop-rest : goal.decreases-loop-rest
decreases-loop-rest l = length l.rest
