use Rattle.std.proofs.Common.{◌≡◌, map, take}
use Rattle.mr_spec.specs.Select.{listed}
use Rattle.mr_exec.proofs.listing.lines.Given as goal

abbrev pub invariant-loop-row : goal.invariant-loop-row
invariant-loop-row l = l.table ≡ map (listed l.places) (take l.row-index l.rows)
