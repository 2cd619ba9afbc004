use Rattle.std.proofs.Common.{◌≡◌, ◌++◌, length}
use Rattle.mr_spec.specs.Words.{pairs_bytes}
use Rattle.mr_tokens.proofs.quoted.add_pairs.Given as goal

abbrev pub invariant-loop-rest : goal.invariant-loop-rest
invariant-loop-rest l = l.found.items ++ pairs_bytes l.rest ≡ l.initial.found.items ++ pairs_bytes l.digits

abbrev pub decreases-loop-rest : goal.decreases-loop-rest
decreases-loop-rest l = length l.rest
