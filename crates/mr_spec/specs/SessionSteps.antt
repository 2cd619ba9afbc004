-- Statements on transactions and sessions.
use Rattle.std.specs.Prelude.{ℕ, Bool, not, ◌&&◌, nat_le, if◌then◌else◌, List, [], ◌∷◌, ◌++◌, length, take, filter, find, Option, Some, None, Result, Ok, Err}
use Rattle.std.specs.List.{list_any}
use Rattle.mr_spec.specs.declared.world.Savepoint.{Savepoint}
use Rattle.mr_spec.specs.declared.world.Txn.{Txn}
use Rattle.mr_types.specs.Refusals.{◌>>=◌, ◌>>◌, refuse_where, some_or}
use Rattle.mr_types.specs.Values.{same_name}
use Rattle.mr_spec.specs.World.{World, with_txn, is_session, turned_to}
use Rattle.mr_spec.specs.Outcome.{Outcome, done}

-- a transaction that begins; WITH CONSISTENT SNAPSHOT fixes its snapshot at once
abbrev pub new_txn : Bool → World → Txn
new_txn snapshot w = record { snapshot = if snapshot then Some (length w.commits) else None; changes = []; savepoints = []; used = [] }

-- ---- savepoints

-- the savepoint's name, without regard to case
abbrev pub is_savepoint : List ℕ → Savepoint → Bool
is_savepoint name s = same_name s.name name

-- SAVEPOINT: the new one is the last, and one of the same name goes
abbrev pub with_savepoint : List ℕ → Txn → Txn
with_savepoint name t = record t { savepoints = filter (λ s. not (is_savepoint name s)) t.savepoints ++ record { name = name; kept = length t.changes } ∷ [] }

-- the savepoints in front of the one of this name
abbrev pub savepoints_before : List ℕ → List Savepoint → List Savepoint
savepoints_before name [] = []
savepoints_before name (s ∷ ss) = if is_savepoint name s then [] else s ∷ savepoints_before name ss

-- the current transaction and its savepoint of this name, else 1305
abbrev pub savepoint_in : Option Txn → List ℕ → Result (Txn × Savepoint) ℕ
savepoint_in None name = Err 1305
savepoint_in (Some t) name = do
  s ← some_or 1305 (find (is_savepoint name) t.savepoints)
  Ok (t, s)

-- ROLLBACK TO: 1305; later changes and later savepoints go
abbrev pub rolled_back_to : World → List ℕ → Result Outcome ℕ
rolled_back_to w name = do
  (t, s) ← savepoint_in w.here.txn name
  Ok (done (with_txn (Some (record t { changes = take s.kept t.changes; savepoints = savepoints_before name t.savepoints ++ s ∷ [] })) w) 0)

-- RELEASE SAVEPOINT: 1305; the savepoint and later ones go
abbrev pub released : World → List ℕ → Result Outcome ℕ
released w name = do
  (t, s) ← savepoint_in w.here.txn name
  Ok (done (with_txn (Some (record t { savepoints = savepoints_before name t.savepoints })) w) 0)

-- ---- sessions

-- SESSION: 1040 where it would be the 65th open one, else it is the current one
abbrev pub session_outcome : World → List ℕ → Result Outcome ℕ
session_outcome w name = do
  let open_ones = w.here ∷ w.others
  refuse_where 1040 (nat_le 64 (length open_ones) && not (list_any (is_session name) open_ones))
  Ok (done (turned_to name open_ones w) 0)
