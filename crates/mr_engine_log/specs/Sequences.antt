-- The sequence numbers of an engine log whose records have them in turn.
use Rattle.std.specs.Prelude.{ℕ, ◌<◌, ◌≤◌, List, [], ◌∷◌, IfSome}
use Rattle.std.specs.List.{AllByRecursion}
use Rattle.mr_engine_log.specs.Logged.{Logged}
use Rattle.mr_engine_log.specs.declared.batched.Batched.{Batched}

-- a batch's number is above one and not above another, and below that of a later one
abbrev pub IsNumbered : ℕ → ℕ → Batched → Type 0
IsNumbered low high b = (low < b.sequence) × (b.sequence ≤ high)

abbrev pub IsBefore : Batched → Batched → Type 0
IsBefore b later = b.sequence < later.sequence

-- each batch is before all that come later in the list
abbrev pub AreRising : List Batched → Type 0
AreRising [] = Unit {0}
AreRising (b ∷ bs) = AllByRecursion (IsBefore b) bs × AreRising bs

-- The batches that count have numbers above the one before the log's first record, which rise and are not above the last one used; a pending
-- one is above all that count.
pub record SequencesGoOn (base : ℕ) (l : Logged) : Type 0 where
  pub each : AllByRecursion (IsNumbered base l.last) l.batches
  pub rising : AreRising l.batches
  pub last : base ≤ l.last
  pub pending : IfSome l.pending (λ p. (base < p.sequence) × (p.sequence ≤ l.last) × AllByRecursion (λ b. b.sequence < p.sequence) l.batches)
