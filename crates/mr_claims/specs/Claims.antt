-- What claims mean.
use Rattle.std.specs.Prelude.{◌≡◌, ◌≢◌, ℕ, ◌<◌, ◌≤◌, true, false, List, Option, Some}
use Rattle.std.specs.Option.{IfSome}
use Rattle.mr_claims.specs.declared.claimed.Claimed.{Claimed}
use Rattle.mr_claims.specs.declared.claimed.Claimed.TheVariants.{Free, Held, Changed}
use Rattle.mr_claims.specs.declared.claims.Claims.{Claims}
use Rattle.mr_claims.specs.Kept.{held_in, entry_in, noted, unless_forgotten}
use Rattle.mr_claims.specs.Lists.{has}

-- Each session's claims in the order in which it came to hold them; for each claim the last commit that has it; and the number up to
-- which commits are forgotten.
pub record ClaimState : Type 0 where
  pub held : ℕ → List (List ℕ)
  pub changed : List ℕ → Option ℕ
  pub before : ℕ

abbrev pub state : Claims → ClaimState
state c = record { held = held_in c.lists; changed = λ claim. unless_forgotten c.before (noted (entry_in c.entries claim)); before = c.before }

-- no other session than this one holds the claim
abbrev pub IsNotHeldByOthers : ClaimState → ℕ → List ℕ → Type 0
IsNotHeldByOthers m session claim = (other : ℕ) → other ≢ session → has claim (m.held other) ≡ false

-- what a claim is to a session whose snapshot is the number `since`: held by another one, else changed by a commit behind it, else free
abbrev pub IsClaimed : ClaimState → ℕ → ℕ → List ℕ → Claimed → Type 0
IsClaimed m session since claim Free = IsNotHeldByOthers m session claim × IfSome (m.changed claim) (λ k. k ≤ since)
IsClaimed m session since claim (Held other) = (other ≢ session) × (has claim (m.held other) ≡ true)
IsClaimed m session since claim (Changed k) = IsNotHeldByOthers m session claim × (m.changed claim ≡ Some k) × (since < k)
