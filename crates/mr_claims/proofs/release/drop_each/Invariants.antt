use Rattle.std.proofs.Common.{◌≡◌, ℕ, List, cond, take}
use Rattle.mr_claims.specs.Lists.{has}
use Rattle.mr_claims.specs.Kept.{entry_in, needed_only}
use Rattle.mr_claims.proofs.release.drop_each.Given as goal

abbrev pub invariant-dropping : goal.invariant-dropping
invariant-dropping l = (c : List ℕ) → entry_in l.entries c ≡ cond (has c (take l.claim-index l.claims)) (needed_only l.before (entry_in l.fn.entries c)) (entry_in l.fn.entries c)
