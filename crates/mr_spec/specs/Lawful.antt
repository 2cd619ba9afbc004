-- Lawful commits: what a binary log may hold.
use Rattle.std.specs.Prelude.{◌≡◌, ◌≤◌, ℕ, Bool, true, false, not, ◌&&◌, ◌||◌, ◌==◌, nat_eq, nat_lt, List, [], ◌∷◌, length, Option, Some, None, is_some, Result, Ok, Err, ⊤}
use Rattle.std.specs.List.{list_any, list_all, zip}
use Rattle.std.specs.Option.{option_map_or, option_eq}
use Rattle.mr_lanes.specs.Kernels.{is_low}
use Rattle.mr_spec.specs.declared.world.Table.{Table}
use Rattle.mr_types.specs.declared.value.Value.{Value}
use Rattle.mr_types.specs.declared.value.Value.TheVariants.{Null, Number, Text, Bytes}
use Rattle.mr_types.specs.declared.definition.ColumnDef.{ColumnDef}
use Rattle.mr_types.specs.declared.definition.IndexDef.{IndexDef}
use Rattle.mr_types.specs.declared.text.KeyText.{KeyText}
use Rattle.mr_types.specs.declared.text.TableText.{TableText}
use Rattle.mr_types.specs.declared.definition.TableDef.{TableDef}
use Rattle.mr_types.specs.declared.row.Row.{Row}
use Rattle.mr_types.specs.declared.row.Change.{Change}
use Rattle.mr_types.specs.declared.row.Change.TheVariants.{Insert, Update, Delete}
use Rattle.mr_types.specs.declared.row.Schema.{Schema}
use Rattle.mr_types.specs.declared.row.Schema.TheVariants.{CreateTable, DropTable, CreateIndex, DropIndex}
use Rattle.mr_types.specs.declared.row.CommitBody.{CommitBody}
use Rattle.mr_types.specs.declared.row.CommitBody.TheVariants as body
use Rattle.mr_types.specs.declared.row.Commit.{Commit}
use Rattle.mr_types.specs.Grammatical.{is_table_text, is_secondary_text}
use Rattle.mr_types.specs.Values.{assign_to, is_equal}
use Rattle.mr_spec.specs.Rows.{same_primary, is_visible, visible, table_name}
use Rattle.mr_spec.specs.Checks.{check, check_key}
use Rattle.mr_spec.specs.Database.{table_of, changed, with_body}
use Rattle.mr_spec.specs.NewRows.{has_hidden_key, stamp_for}
use Rattle.mr_spec.specs.KeyChecks.{is_named}
use Rattle.mr_spec.specs.Weight.{total_weight}
use Rattle.mr_spec.specs.SchemaSteps.{has_duplicate}

-- ---- rows

-- texts are ASCII, and bytes are bytes
abbrev pub is_value : Value → Bool
is_value Null = true
is_value (Number n) = true
is_value (Text text) = list_all is_low text
is_value (Bytes bytes) = list_all (λ b. nat_lt b 256) bytes

-- this value is what was assigned
abbrev pub is_assigned : Result Value ℕ → Value → Bool
is_assigned (Ok v) w = is_equal v w
is_assigned (Err code) w = false

-- a value that assignment to the column leaves as it is
abbrev pub fits_column : ColumnDef × Value → Bool
fits_column p = is_value p.1 && is_assigned (assign_to p.0.ty p.1) p.1

-- the same number, or both times none
abbrev pub same_number : Option ℕ → Option ℕ → Bool
same_number m n = option_eq nat_eq m n

-- the two tests say the same
abbrev pub same_test : Bool → Bool → Bool
same_test true b = b
same_test false b = not b

-- a row of the table: a value for each column, a hidden number where the key is hidden, and the stamp of its TTL
abbrev pub is_row_of : TableDef → Row → Bool
is_row_of def r =
    length r.fields == length def.columns && (list_all fits_column (zip def.columns r.fields)
    && (same_test (is_some r.hidden) (has_hidden_key def) && same_number r.stamp (stamp_for def.ttl (option_map_or (λ s. s) r.stamp 0) r.fields)))

-- the same row, byte for byte
abbrev pub is_equal_row : Row → Row → Bool
is_equal_row r s = same_number r.hidden s.hidden && (same_number r.stamp s.stamp && (length r.fields == length s.fields && list_all (λ p. is_equal p.0 p.1) (zip r.fields s.fields)))

-- the row is among these
abbrev pub is_there : Row → List Row → Bool
is_there r rows = list_any (is_equal_row r) rows

-- each row with the key of `new`, but for those with the key of a row named, is expired
abbrev pub only_expired_go : Table → ℕ → Row → (Row → Bool) → Bool
only_expired_go t moment new is_named_row = list_all (λ r. not (same_primary t.def new r) || (is_named_row r || not (is_visible t.def moment r))) t.rows

-- the old row is there, the new one is a row of the table with the old one's hidden number, and only expired rows go unnamed
abbrev pub is_lawful_in : ℕ → Table → Change → Bool
is_lawful_in moment t (Insert table new) = is_row_of t.def new && only_expired_go t moment new (λ r. false)
is_lawful_in moment t (Update table old new) =
    is_there old t.rows && (is_row_of t.def new && (same_number old.hidden new.hidden && only_expired_go t moment new (λ r. same_primary t.def old r)))
is_lawful_in moment t (Delete table old) = is_there old t.rows

-- a change of a table that is there
abbrev pub is_lawful_change : ℕ → List Table → Change → Bool
is_lawful_change moment tables c = option_map_or (λ t. is_lawful_in moment t c) (table_of (table_name c) tables) false

-- one change after the other
abbrev pub are_lawful : ℕ → List Table → List Change → Bool
are_lawful moment tables [] = true
are_lawful moment tables (c ∷ cs) = is_lawful_change moment tables c && are_lawful moment (changed tables c) cs

-- ---- definitions

-- a definition that `check` gives for a text that a statement may have
abbrev pub IsChecked : TableDef → Type 0
IsChecked def = (text : TableText) × (is_table_text text ≡ true) × (check text ≡ Ok def)

-- a key that `check_key` gives for a text that a statement may have
abbrev pub IsCheckedKey : TableDef → IndexDef → Type 0
IsCheckedKey def key = (text : KeyText) × (is_secondary_text text ≡ true) × (check_key def [] text ≡ Ok key)

-- the table is there, and P holds of it
abbrev pub IfTable : List ℕ → List Table → (Table → Type 0) → Type 0
IfTable name tables P = (t : Table) × (table_of name tables ≡ Some t) × P t

-- what the change uses is there, the name that it makes is free, its definition or key passes the checks, and a unique key
-- that is made has no two visible rows with the same values
abbrev pub LawfulSchema : ℕ → List Table → Schema → Type 0
LawfulSchema moment tables (CreateTable def) = (table_of def.name tables ≡ None) × IsChecked def
LawfulSchema moment tables (DropTable name) = IfTable name tables (λ t. ⊤)
LawfulSchema moment tables (CreateIndex name key) = IfTable name tables (λ t. IsCheckedKey t.def key × (has_duplicate t.def key (visible t.def moment t.rows) ≡ false))
LawfulSchema moment tables (DropIndex name key) = IfTable name tables (λ t. list_any (is_named key) t.def.secondary ≡ true)

-- ---- commits

-- at least one change, lawful one after the other and not too heavy; or a lawful change of the schema
abbrev pub LawfulBody : ℕ → List Table → CommitBody → Type 0
LawfulBody moment tables (body.Rows changes) = (1 ≤ length changes) × (are_lawful moment tables changes ≡ true) × (total_weight tables changes ≤ 67108864)
LawfulBody moment tables (body.Schema s) = LawfulSchema moment tables s

-- commits that are lawful one after the other, on these tables, and whose moments don't fall, from this one on
abbrev pub LawfulFrom : ℕ → List Table → List Commit → Type 0
LawfulFrom moment tables [] = ⊤
LawfulFrom moment tables (c ∷ cs) = (moment ≤ c.moment) × LawfulBody c.moment tables c.body × LawfulFrom c.moment (with_body tables c.body) cs

-- commits that are lawful from the first on
abbrev pub IsLawful : List Commit → Type 0
IsLawful commits = LawfulFrom 0 [] commits
