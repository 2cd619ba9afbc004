use Rattle.std.proofs.Common.{◌≡◌, take}
use Rattle.mr_entry.proofs.rows.fields_of.Given as goal

abbrev pub invariant-loop-place : goal.invariant-loop-place
invariant-loop-place l = l.fields ≡ take l.place l.row.row.fields
