-- The next hidden number of a table, by the rows that were inserted since it was made.
use Rattle.std.specs.Prelude.{◌≡◌, ◌<◌, ◌+◌, ◌⊎◌, ℕ, Bool, false, true, List, [], ◌∷◌, ◌++◌, Option, Some, None}
use Rattle.std.specs.List.{list_any, flat_map}
use Rattle.mr_types.specs.declared.row.Change.{Change}
use Rattle.mr_types.specs.declared.row.Change.TheVariants.{Insert, Update, Delete}
use Rattle.mr_types.specs.declared.row.Commit.{Commit}
use Rattle.mr_types.specs.declared.row.CommitBody.{CommitBody}
use Rattle.mr_types.specs.declared.row.CommitBody.TheVariants as body
use Rattle.mr_types.specs.declared.row.Schema.TheVariants.{CreateTable, DropTable, CreateIndex, DropIndex}
use Rattle.mr_types.specs.Values.{same_bytes}
use Rattle.mr_spec.specs.Database.{changes_of, on_table}

-- a commit makes the table or drops it
abbrev pub makes_by : List ℕ → CommitBody → Bool
makes_by name (body.Rows changes) = false
makes_by name (body.Schema (CreateTable def)) = same_bytes def.name name
makes_by name (body.Schema (DropTable n)) = same_bytes n name
makes_by name (body.Schema (CreateIndex n key)) = false
makes_by name (body.Schema (DropIndex n key)) = false

abbrev pub makes : List ℕ → Commit → Bool
makes name c = makes_by name c.body

-- the last of the commits made or dropped the table, or there are none
abbrev pub EndsInMaking : List ℕ → List Commit → Type 0
EndsInMaking name commits = (commits ≡ []) ⊎ ((front : List Commit) × (c : Commit) × (commits ≡ front ++ c ∷ []) × (makes name c ≡ true))

-- these are the commits since the table was last made or dropped
pub record AreSinceMade (name : List ℕ) (commits since : List Commit) : Type 0 where
  pub before : List Commit
  pub whole : commits ≡ before ++ since
  pub ends : EndsInMaking name before
  pub none : list_any (makes name) since ≡ false

-- the hidden number of an inserted row
abbrev pub number_given : Option ℕ → List ℕ
number_given None = []
number_given (Some h) = h ∷ []

abbrev pub inserted_number : Change → List ℕ
inserted_number (Insert table new) = number_given new.hidden
inserted_number (Update table old new) = []
inserted_number (Delete table old) = []

-- the hidden numbers of all rows that these commits inserted in the table
abbrev pub inserted_numbers : List ℕ → List Commit → List ℕ
inserted_numbers name commits = flat_map inserted_number (on_table name (changes_of commits))

-- the number is one of these
abbrev pub IsNumberOf : ℕ → List ℕ → Type 0
IsNumberOf h [] = ⊥
IsNumberOf h (n ∷ ns) = (h ≡ n) ⊎ IsNumberOf h ns

-- a number is one above the greatest of these, 1 where there is none
pub record IsOneAbove (numbers : List ℕ) (next : ℕ) : Type 0 where
  pub above : (h : ℕ) → IsNumberOf h numbers → h < next
  pub least : (next ≡ 1) ⊎ ((h : ℕ) × IsNumberOf h numbers × (next ≡ h + 1))
