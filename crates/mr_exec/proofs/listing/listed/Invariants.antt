use Rattle.std.proofs.Common.{◌≡◌, take}
use Rattle.mr_spec.specs.Select.{listed}
use Rattle.mr_exec.proofs.listing.listed.Given as goal

abbrev pub invariant-loop-place : goal.invariant-loop-place
invariant-loop-place l = l.values ≡ listed (take l.place-index l.places) l.row
