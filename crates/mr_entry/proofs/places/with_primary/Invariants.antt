use Rattle.std.proofs.Common.{◌≡◌, ◌++◌, drop}
use Rattle.mr_entry.specs.Entry.{not_among}
use Rattle.mr_entry.proofs.places.with_primary.Given as goal

abbrev pub invariant-loop-place : goal.invariant-loop-place
invariant-loop-place l = l.out.items ++ not_among l.own (drop l.place-index l.primary) ≡ l.own ++ not_among l.own l.primary
