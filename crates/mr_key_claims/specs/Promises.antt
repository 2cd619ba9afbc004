-- What claims as values say of the tests that judge 1205 and 1213.
use Rattle.std.specs.Prelude.{◌≡◌, ◌<◌, ◌↔◌, ℕ, true, List, drop}
use Rattle.mr_types.specs.declared.definition.TableDef.{TableDef}
use Rattle.mr_types.specs.declared.kind.Kind.{Kind}
use Rattle.mr_types.specs.declared.row.Change.{Change}
use Rattle.mr_types.specs.declared.row.Commit.{Commit}
use Rattle.mr_types.specs.declared.row.Row.{Row}
use Rattle.mr_types.specs.declared.value.Value.{Value}
use Rattle.mr_types.specs.Order.{IsSame}
use Rattle.mr_spec.specs.Claims.{share_claim, has_claim_in}
use Rattle.mr_spec.specs.Database.{changes_of, on_table}
use Rattle.mr_spec.specs.Rows.{same_primary, clashes}
use Rattle.mr_key_claims.specs.Claim.{in_one_form, Claim, primary_claim, row_claims, claims_of, claims_of_all, last_commit, IsClaimOf, HaveCommon}

-- values are the same exactly where their forms are one
abbrev pub FormsAreOne : Kind → Value → Value → Type 0
FormsAreOne kind a b = IsSame kind a b ↔ (in_one_form kind a ≡ in_one_form kind b)

-- rows have the same primary key exactly where they have one claim on it
abbrev pub PrimaryByClaim : TableDef → Row → Row → Type 0
PrimaryByClaim def r s = (same_primary def r s ≡ true) ↔ (primary_claim def r ≡ primary_claim def s)

-- rows clash exactly where they have a claim in common
abbrev pub ClashByClaims : TableDef → Row → Row → Type 0
ClashByClaims def r s = (clashes def r s ≡ true) ↔ HaveCommon (row_claims def r) (row_claims def s)

-- changes share a claim exactly where their lists have one in common
abbrev pub ShareByClaims : TableDef → Change → Change → Type 0
ShareByClaims def c d = (share_claim def c d ≡ true) ↔ HaveCommon (claims_of def c) (claims_of def d)

-- a change shares one with these exactly where its list and all of theirs have one in common
abbrev pub HeldByClaims : TableDef → List Change → Change → Type 0
HeldByClaims def others c = (has_claim_in def others c ≡ true) ↔ HaveCommon (claims_of def c) (claims_of_all def others)

-- some claim of the change has its last commit behind the first n
pub record IsChangedSince (def : TableDef) (name : List ℕ) (commits : List Commit) (n : ℕ) (c : Change) : Type 0 where
  pub claim : Claim
  pub of_change : IsClaimOf claim (claims_of def c)
  pub later : n < last_commit def name commits claim

-- a commit behind the first n has had a claim of the change exactly there
abbrev pub ChangedByLastCommits : TableDef → List ℕ → List Commit → ℕ → Change → Type 0
ChangedByLastCommits def name commits n c = (has_claim_in def (on_table name (changes_of (drop n commits))) c ≡ true) ↔ IsChangedSince def name commits n c
