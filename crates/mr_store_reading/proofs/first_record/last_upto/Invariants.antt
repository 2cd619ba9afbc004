use Rattle.std.proofs.Common.{◌≡◌, drop}
use Rattle.mr_stored.specs.Said.{last_upto}
use Rattle.mr_store_reading.proofs.first_record.last_upto.Given as goal

abbrev pub invariant-looking : goal.invariant-looking
invariant-looking l = last_upto l.at l.last (drop l.place-index l.places) ≡ last_upto l.at 0 l.places
