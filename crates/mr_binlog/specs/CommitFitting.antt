-- Commits that have a form as bytes: numbers and lengths are in their fields, and rows are changed by one change at least. And what
-- each commit that is held as a value has of that: its numbers are of 64 bits.
use Rattle.std.specs.Prelude.{ℕ, ◌<◌, ◌^◌, List, length}
use Rattle.std.specs.List.{AllByRecursion}
use Rattle.mr_types.specs.declared.row.Row.{Row}
use Rattle.mr_types.specs.declared.row.Change.{Change}
use Rattle.mr_types.specs.declared.row.Change.TheVariants.{Insert, Update, Delete}
use Rattle.mr_types.specs.declared.row.Schema.{Schema as SchemaChange}
use Rattle.mr_types.specs.declared.row.Schema.TheVariants.{CreateTable, DropTable, CreateIndex, DropIndex}
use Rattle.mr_types.specs.declared.row.CommitBody.{CommitBody}
use Rattle.mr_types.specs.declared.row.CommitBody.TheVariants.{Rows, Schema}
use Rattle.mr_types.specs.declared.row.Commit.{Commit}
use Rattle.mr_spec.specs.Rows.{rows_of}
use Rattle.mr_spec.specs.Database.{changes_in}
use Rattle.mr_fields.specs.Fitting.{GivenFits, NameFits, RowFits, RowHasPlace}
use Rattle.mr_schema.specs.DefinitionFitting.{KeyFits, DefinitionFits, KeyHasPlace, DefinitionHasPlace}

abbrev pub ChangeFits : Change → Type 0
ChangeFits (Insert table new) = NameFits table × RowFits new
ChangeFits (Update table old new) = NameFits table × RowFits old × RowFits new
ChangeFits (Delete table old) = NameFits table × RowFits old

abbrev pub SchemaFits : SchemaChange → Type 0
SchemaFits (CreateTable def) = DefinitionFits def
SchemaFits (DropTable table) = NameFits table
SchemaFits (CreateIndex table key) = NameFits table × KeyFits 256 key
SchemaFits (DropIndex table key) = NameFits table × NameFits key

abbrev pub BodyFits : CommitBody → Type 0
BodyFits (Rows changes) = (0 < length changes) × (length changes < 2 ^ 32) × AllByRecursion ChangeFits changes
BodyFits (Schema change) = SchemaFits change

pub record CommitFits (c : Commit) : Type 0 where
  pub moment : c.moment < 2 ^ 64
  pub body : BodyFits c.body

-- ---- commits whose numbers and lengths are in their fields

abbrev pub NameHasPlace : List ℕ → Type 0
NameHasPlace name = length name < 2 ^ 8

abbrev pub ChangeHasPlace : Change → Type 0
ChangeHasPlace (Insert table new) = NameHasPlace table × RowHasPlace new
ChangeHasPlace (Update table old new) = NameHasPlace table × RowHasPlace old × RowHasPlace new
ChangeHasPlace (Delete table old) = NameHasPlace table × RowHasPlace old

abbrev pub SchemaHasPlace : SchemaChange → Type 0
SchemaHasPlace (CreateTable def) = DefinitionHasPlace def
SchemaHasPlace (DropTable table) = NameHasPlace table
SchemaHasPlace (CreateIndex table key) = NameHasPlace table × KeyHasPlace key
SchemaHasPlace (DropIndex table key) = NameHasPlace table × NameHasPlace key

abbrev pub BodyHasPlace : CommitBody → Type 0
BodyHasPlace (Rows changes) = (length changes < 2 ^ 32) × AllByRecursion ChangeHasPlace changes
BodyHasPlace (Schema change) = SchemaHasPlace change

-- a row's hidden number and stamp are below 2^64
pub record HasSmallNumbers (r : Row) : Type 0 where
  pub hidden : GivenFits r.hidden
  pub stamp : GivenFits r.stamp

-- and so are those of all rows in a commit's changes, and its moment
pub record NumbersFit (c : Commit) : Type 0 where
  pub moment : c.moment < 2 ^ 64
  pub rows : AllByRecursion (λ change. AllByRecursion HasSmallNumbers (rows_of change)) (changes_in c.body)
