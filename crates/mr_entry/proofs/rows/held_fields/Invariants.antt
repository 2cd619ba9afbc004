use Rattle.std.proofs.Common.{◌≡◌, ◌++◌, drop}
use Rattle.mr_rowval.specs.Decoded.{held_in}
use Rattle.mr_entry.specs.Entry.{fields_held}
use Rattle.mr_entry.proofs.rows.held_fields.Given as goal

abbrev pub invariant-loop-place : goal.invariant-loop-place
invariant-loop-place l = l.fields ++ fields_held (held_in l.columns l.places l.key l.unpack) l.place (drop l.place l.columns) ≡ fields_held (held_in l.columns l.places l.key l.unpack) 0 l.columns
