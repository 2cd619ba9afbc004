use Rattle.std.proofs.Common.{◌≡◌, ◌≤◌, ◌||◌, ℕ, List, true, is_some, length}
use Rattle.std.specs.VecDeque.{deque_len, deque_capacity}
use Rattle.mr_claims.specs.Kept.{entry_in, count_of, noted, is_needed, unless_forgotten}
use Rattle.mr_claims.specs.Commits.{Rise, RisesFrom, last_of}
use Rattle.mr_claims.proofs.release.forget_commits.Given as goal

abbrev pub invariant-forgetting : goal.invariant-forgetting
invariant-forgetting l = record {
  counts : (s : ℕ) (c : List ℕ) → count_of s (entry_in l.entries c) ≡ count_of s (entry_in l.fn.entries c);
  noted : (c : List ℕ) → unless_forgotten l.before (noted (entry_in l.entries c)) ≡ unless_forgotten l.before (noted (entry_in l.fn.entries c));
  last : (c : List ℕ) → unless_forgotten l.before (last_of l.commits.items c) ≡ unless_forgotten l.before (last_of l.fn.commits.items c);
  needed : (c : List ℕ) → (is_needed l.before (entry_in l.entries c) || is_some (last_of l.commits.items c)) ≡ true;
  rise : (n : ℕ) → Rise n l.fn.commits.items → RisesFrom l.commits.items;
  len : deque_len l.commits ≤ deque_len l.fn.commits;
  capacity : deque_capacity l.commits ≡ deque_capacity l.fn.commits;
}

abbrev pub decreases-forgetting : goal.decreases-forgetting
decreases-forgetting l = length l.commits.items
