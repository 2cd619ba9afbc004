use Rattle.std.proofs.Common.{◌≡◌, ◌-◌}
use Rattle.mr_fields.specs.Fields.{listed_in}
use Rattle.mr_fields.specs.Given.{with_front}
use Rattle.mr_fields.specs.Fields.{byte_in}
use Rattle.mr_schema.proofs.definition_read.each_place_at.Given as goal

abbrev pub invariant-reading : goal.invariant-reading
invariant-reading l = listed_in (byte_in l.limit) l.count l.bytes ≡ with_front l.places.items (listed_in (byte_in l.limit) (l.count - l.i) l.rest)
