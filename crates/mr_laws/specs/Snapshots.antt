-- Snapshots and the commits that they are of.
use Rattle.std.specs.Prelude.{◌≡◌, ◌≤◌, ℕ, ◌∷◌, length, Contains, Some, Result, Ok, Err, ⊤}
use Rattle.mr_types.specs.declared.statement.Statement.{Statement}
use Rattle.mr_types.specs.declared.statement.Statement.TheVariants as statement
use Rattle.mr_spec.specs.declared.world.Session.{Session}
use Rattle.mr_spec.specs.declared.world.Txn.{Txn}
use Rattle.mr_spec.specs.World.{World}

-- the statement leaves the session and doesn't begin a transaction
abbrev pub StaysInPlace : Result Statement ℕ → Type 0
StaysInPlace (Ok (statement.Begin snapshot)) = ⊥
StaysInPlace (Ok (statement.Session name)) = ⊥
StaysInPlace (Ok statement.Disconnect) = ⊥
StaysInPlace (Ok _) = ⊤
StaysInPlace (Err code) = ⊤

-- the snapshot of each open transaction, where it is fixed, is of the first so many commits
abbrev pub AreWithin : World → Type 0
AreWithin w = (x : Session) (t : Txn) (n : ℕ) → Contains (w.here ∷ w.others) x → x.txn ≡ Some t → t.snapshot ≡ Some n → n ≤ length w.commits
