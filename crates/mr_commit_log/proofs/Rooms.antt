-- The length of the log, and its room.
use Rattle.std.proofs.Common.{◌≡◌, ℕ, ◌+◌, ◌≤◌, List, [], ◌∷◌, ◌++◌, Some, ap, subst, arith, length}
use Rattle.mr_commit_log.specs.LogCommits.{read_commits}
use Rattle.mr_types.specs.declared.row.Commit.{Commit}
use Rattle.mr_commit_log.proofs.LogCommits.{read_only, commits_cons}
use Rattle.mr_gate.specs.Log.{span}
use Rattle.mr_commit_log.specs.Room.{record_size, log_length, HasRoom}

-- more commits
pub log_on : (a b : List Commit) → log_length (a ++ b) + 1 ≡ log_length a + log_length b
log_on [] b = omega arith
log_on (c ∷ a) b = omega (arith, log_on a b)

-- where the log has room for some commits, and behind them for more, it has room for all
pub room_on : (most at : ℕ) (a b : List Commit) (behind : ℕ) → HasRoom most at a → behind + 1 ≡ at + log_length a → HasRoom most behind b → HasRoom most at (a ++ b)
room_on most at [] b behind first is second = let same : behind ≡ at = omega (arith, is) in subst (λ n. HasRoom most n b) same second
room_on most at (c ∷ a) b behind first is second = (first.0, room_on most (at + record_size c) a b behind first.1 (omega (arith, is)) second)

-- it has room for each of them
pub room_at : (most at : ℕ) (a : List Commit) (c : Commit) (b : List Commit) (behind : ℕ) → HasRoom most at (a ++ c ∷ b) → behind + 1 ≡ at + log_length a → behind + record_size c ≤ most
room_at most at [] c b behind room is = omega (arith, room.0, is)
room_at most at (d ∷ a) c b behind room is = room_at most (at + record_size d) a c b behind room.1 (omega (arith, is))

-- the records of a log are as long as the commits say
pub span_is : (bodies : List (List ℕ)) (commits : List Commit) → read_commits bodies ≡ Some commits → span bodies + 1 ≡ log_length commits
span_is [] commits read = let none : [] ≡ commits = cc in omega (arith, ap log_length none)
span_is (body ∷ bodies) commits read =
    let x = commits_cons body bodies commits read in
    omega (arith, span_is bodies x.1 x.3, ap log_length x.4, ap length (read_only body x.0 x.2))
