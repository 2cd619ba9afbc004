use Rattle.std.proofs.Common.{◌≡◌, ◌≤◌, drop, length}
use Rattle.mr_rowval.specs.KeyParts.{parts_kept}
use Rattle.mr_rowval.proofs.key.parts_kept.Given as goal

abbrev pub invariant-loop-place : goal.invariant-loop-place
invariant-loop-place l = (parts_kept l.columns l.places l.key ≡ parts_kept l.columns (drop l.place-index l.places) l.rest) × (length l.rest ≤ length l.key)
