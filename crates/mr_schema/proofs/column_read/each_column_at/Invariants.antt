use Rattle.std.proofs.Common.{◌≡◌, ◌-◌, length}
use Rattle.mr_fields.specs.Fields.{listed_in}
use Rattle.mr_fields.specs.Given.{with_front}
use Rattle.mr_schema.specs.DefinitionForm.{column_in}
use Rattle.mr_schema.proofs.column_read.each_column_at.Given as goal

abbrev pub invariant-reading : goal.invariant-reading
invariant-reading l = record { so_far : listed_in column_in l.count l.bytes ≡ with_front l.columns (listed_in column_in (l.count - l.i) l.rest); count : length l.columns ≡ l.i }
