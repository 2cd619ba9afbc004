use Rattle.std.proofs.Common.{◌≡◌, ◌-◌}
use Rattle.mr_fields.specs.Fields.{listed_in}
use Rattle.mr_fields.specs.Rows.{value_in}
use Rattle.mr_fields.specs.Given.{with_front}
use Rattle.mr_fields.proofs.rows.values_at.Given as goal

abbrev pub invariant-reading : goal.invariant-reading
invariant-reading l = listed_in value_in l.count l.bytes ≡ with_front l.values (listed_in value_in (l.count - l.i) l.rest)
