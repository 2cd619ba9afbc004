-- The commits whose claims are kept.
use Rattle.std.specs.Prelude.{◌≡◌, ℕ, ◌+◌, ◌<◌, ◌≤◌, Bool, cond, List, [], ◌∷◌, ◌++◌, length, Option, Some, None}
use Rattle.std.proofs.Props.{props}
use Rattle.std.specs.VecDeque.{deque_len, deque_capacity}
use Rattle.std.specs.declared.alloc.Global.{Global}
use Rattle.std.specs.declared.collections.VecDeque.{VecDeque}
use Rattle.mr_claims.specs.declared.commit.Commit.{Commit}
use Rattle.mr_claims.specs.Lists.{has}
use Rattle.mr_claims.specs.Kept.{Lists, Entries, entry_in, noted, unless_forgotten, holding, Counted, AreNeeded}

abbrev pub Commits : Type 0
Commits = VecDeque Commit Global

-- the later number where there is one, else this one where it has the claim
abbrev pub or_earlier : Option ℕ → Bool → ℕ → Option ℕ
or_earlier None here k = cond here (Some k) None
or_earlier (Some j) here k = Some j

-- the last of these commits that has the claim
abbrev pub last_of : List Commit → List ℕ → Option ℕ
last_of [] claim = None
last_of (m ∷ ms) claim = or_earlier (last_of ms claim) (has claim m.claims.items) m.number

-- each of these commits has claims, and their numbers rise, all behind this one
abbrev pub Rise : ℕ → List Commit → Type 0
Rise before [] = Unit {0}
Rise before (m ∷ ms) = (before < m.number) × (0 < length m.claims.items) × Rise m.number ms

pub Rise-prop : (before : ℕ) (ms : List Commit) → IsProp (Rise before ms)
Rise-prop before [] = hlevel props
Rise-prop before (m ∷ ms) = let rest = Rise-prop m.number ms in hlevel (props, rest)

-- they rise behind some number
abbrev pub RisesFrom : List Commit → Type 0
RisesFrom ms = (n : ℕ) × Rise n ms

-- they are the earlier ones, with one of this number behind them that has these claims, where there are claims
abbrev pub IsWith : ℕ → List (List ℕ) → List Commit → List Commit → Type 0
IsWith k [] old new = new ≡ old
IsWith k (c ∷ cs) old new = (m : Commit) × (m.number ≡ k) × (m.claims.items ≡ c ∷ cs) × (new ≡ old ++ m ∷ [])

-- the first of these commits is behind this number
abbrev pub BeginBehind : ℕ → List Commit → Type 0
BeginBehind before [] = Unit {0}
BeginBehind before (m ∷ ms) = before < m.number

-- the entries note the last commit that has the claim, but for forgotten ones
abbrev pub AreNoted : ℕ → Entries → List Commit → Type 0
AreNoted before entries commits = (claim : List ℕ) → unless_forgotten before (noted (entry_in entries claim)) ≡ last_of commits claim

-- there is room for a commit of each session that holds claims
abbrev pub HasRoom : Lists → Commits → Type 0
HasRoom lists commits = holding 256 lists + deque_len commits ≤ deque_capacity commits

-- what is kept of claims: the entries count what the lists have and note what the commits have, nothing stays that isn't needed, and
-- there is room for commits
pub record IsKept (lists : Lists) (entries : Entries) (commits : Commits) (before : ℕ) : Type 0 where
  pub counted : Counted lists entries
  pub noted : AreNoted before entries commits.items
  pub needed : AreNeeded before entries
  pub rising : Rise before commits.items
  pub room : HasRoom lists commits

pub IsKept-prop : (lists : Lists) (entries : Entries) (commits : Commits) (before : ℕ) → IsProp (IsKept lists entries commits before)
IsKept-prop lists entries commits before = let rises = Rise-prop before commits.items in hlevel (props, rises)
