use Rattle.std.proofs.Common.{◌≡◌, true}
use Rattle.mr_dict.specs.Dictionary.{are_ordered}
use Rattle.mr_dict.proofs.Scanning.{NoneBefore}
use Rattle.mr_dict.proofs.scan.first_wanted.Given as goal

abbrev pub invariant-looking : goal.invariant-looking
invariant-looking l = are_ordered l.entries ≡ true → NoneBefore l.wanted l.entries l.at
