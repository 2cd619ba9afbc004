-- Claims of changes, as values.
use Rattle.std.specs.Prelude.{◌≡◌, ◌⊎◌, ℕ, suc, Bool, not, ◌&&◌, ◌==◌, nat_eq, if◌then◌else◌, List, [], ◌∷◌, ◌++◌, map, true, false, Option, Some, None, unwrap_or}
use Rattle.std.specs.List.{list_any, flat_map}
use Rattle.std.specs.Option.{option_eq}
use Rattle.mr_pieces.specs.Pieces.{shortened}
use Rattle.mr_types.specs.declared.definition.IndexDef.{IndexDef}
use Rattle.mr_types.specs.declared.definition.TableDef.{TableDef}
use Rattle.mr_types.specs.declared.kind.Kind.{Kind}
use Rattle.mr_types.specs.declared.row.Change.{Change}
use Rattle.mr_types.specs.declared.row.Change.TheVariants.{Insert, Update, Delete}
use Rattle.mr_types.specs.declared.row.Commit.{Commit}
use Rattle.mr_types.specs.declared.row.Row.{Row}
use Rattle.mr_types.specs.declared.value.Value.{Value}
use Rattle.mr_types.specs.declared.value.Value.TheVariants.{Null, Number, Text, Bytes}
use Rattle.mr_types.specs.Order.{collation_of}
use Rattle.mr_types.specs.Values.{is_equal}
use Rattle.mr_spec.specs.Database.{changes_in, on_table}
use Rattle.mr_spec.specs.Rows.{kind_at, value_at, has_null}

-- ---- values in one form

-- the one form of all values that are the same in a column: a text is folded, and the spaces at its end are gone
abbrev pub in_one_form : Kind → Value → Value
in_one_form kind Null = Null
in_one_form kind (Number n) = Number n
in_one_form kind (Text text) = Text (shortened (collation_of kind) text)
in_one_form kind (Bytes bytes) = Bytes bytes

-- the values of a row in these columns, in their one form
abbrev pub key_values : TableDef → List ℕ → Row → List Value
key_values def places row = map (λ i. in_one_form (kind_at def i) (value_at row i)) places

-- ---- claims

-- a key, which is the primary one or the secondary one at a place; the values there; and the hidden number, 0 where there is none
pub record Claim : Type 0 where
  pub key : Option ℕ
  pub values : List Value
  pub hidden : ℕ

-- a row's claim on its primary key
abbrev pub primary_claim : TableDef → Row → Claim
primary_claim def row = record { key = None; values = key_values def def.primary.columns row; hidden = unwrap_or row.hidden 0 }

-- a row's claim on the secondary key at this place
abbrev pub claim_at : TableDef → Row → ℕ → IndexDef → Claim
claim_at def row at key = record { key = Some at; values = key_values def key.columns row; hidden = 0 }

-- a row has a claim on a key that is unique and in whose columns it has no NULL
abbrev pub has_claim_on : Row → IndexDef → Bool
has_claim_on row key = key.unique && not (has_null row key.columns)

-- its claims on these keys, the first of which stands at a place
abbrev pub unique_claims : TableDef → Row → ℕ → List IndexDef → List Claim
unique_claims def row at [] = []
unique_claims def row at (key ∷ keys) = (if has_claim_on row key then claim_at def row at key ∷ [] else []) ++ unique_claims def row (suc at) keys

-- all claims of a row
abbrev pub row_claims : TableDef → Row → List Claim
row_claims def row = primary_claim def row ∷ unique_claims def row 0 def.secondary

-- the claims of a change: those of its old and of its new row
abbrev pub claims_of : TableDef → Change → List Claim
claims_of def (Insert table new) = row_claims def new
claims_of def (Update table old new) = row_claims def old ++ row_claims def new
claims_of def (Delete table old) = row_claims def old

-- those of several changes
abbrev pub claims_of_all : TableDef → List Change → List Claim
claims_of_all def changes = flat_map (claims_of def) changes

-- ---- the last commit with a claim

abbrev pub same_values : List Value → List Value → Bool
same_values [] [] = true
same_values (v ∷ vs) (w ∷ ws) = is_equal v w && same_values vs ws
same_values _ _ = false

abbrev pub same_claim : Claim → Claim → Bool
same_claim k l = option_eq nat_eq k.key l.key && (same_values k.values l.values && k.hidden == l.hidden)

-- a commit has the claim, by a change of the table
abbrev pub commit_has : TableDef → List ℕ → Claim → Commit → Bool
commit_has def name k c = list_any (same_claim k) (claims_of_all def (on_table name (changes_in c.body)))

-- the number of the last of these commits that has the claim, where the first is the next behind `before`; what was found so
-- far where none has it
abbrev pub last_from : TableDef → List ℕ → Claim → ℕ → ℕ → List Commit → ℕ
last_from def name k found before [] = found
last_from def name k found before (c ∷ cs) = last_from def name k (if commit_has def name k c then suc before else found) (suc before) cs

-- the number of the last commit that has the claim, counted from 1; 0 where none has it
abbrev pub last_commit : TableDef → List ℕ → List Commit → Claim → ℕ
last_commit def name commits k = last_from def name k 0 0 commits

-- ---- lists of claims

-- the claim is one of these
abbrev pub IsClaimOf : Claim → List Claim → Type 0
IsClaimOf k [] = ⊥
IsClaimOf k (l ∷ ls) = (k ≡ l) ⊎ IsClaimOf k ls

-- the lists have a claim in common
pub record HaveCommon (ks ls : List Claim) : Type 0 where
  pub claim : Claim
  pub of_one : IsClaimOf claim ks
  pub of_other : IsClaimOf claim ls
