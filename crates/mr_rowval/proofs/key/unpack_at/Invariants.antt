use Rattle.std.proofs.Common.{◌≡◌, ◌≤◌, drop, length}
use Rattle.mr_rowval.specs.KeyParts.{parts_full}
use Rattle.mr_rowval.specs.Walking.{behind_of}
use Rattle.mr_rowval.proofs.key.unpack_at.Given as goal

abbrev pub invariant-loop-place : goal.invariant-loop-place
invariant-loop-place l = (behind_of (parts_full l.columns l.places l.key l.unpack) ≡ behind_of (parts_full l.columns (drop l.place-index l.places) l.key_left l.left)) × (length l.left ≤ length l.unpack)
