-- Snapshots since an opening.
use Rattle.std.specs.Prelude.{◌≡◌, ◌≤◌, ℕ, ◌∷◌, length, Some}
use Rattle.mr_spec.specs.declared.world.Session.{Session}
use Rattle.mr_spec.specs.declared.world.Txn.{Txn}
use Rattle.mr_spec.specs.World.{World}
use Rattle.mr_sound.specs.Sound.{IsIn}

-- the snapshot is of n commits at least, and of those that there are at most
abbrev pub LiesSince : ℕ → World → Session → Type 0
LiesSince n w s = (t : Txn) (k : ℕ) → s.txn ≡ Some t → t.snapshot ≡ Some k → (n ≤ k) × (k ≤ length w.commits)

-- that of each open session, where it is fixed
abbrev pub LieSince : ℕ → World → Type 0
LieSince n w = (s : Session) → IsIn s (w.here ∷ w.others) → LiesSince n w s
