-- Definitions that have a form as bytes: numbers and lengths are in their fields, names and texts are ASCII, places are below the
-- count of columns, and what isn't written is what the rest says.
use Rattle.std.specs.Prelude.{◌≡◌, ℕ, ◌<◌, ◌^◌, [], true, List, length, Option, Some, None, Ok, ⊤}
use Rattle.std.specs.List.{AllByRecursion}
use Rattle.mr_types.specs.declared.value.Value.{Value}
use Rattle.mr_types.specs.declared.kind.Kind.{Kind}
use Rattle.mr_types.specs.declared.kind.Kind.TheVariants.{VarChar, VarBinary}
use Rattle.mr_types.specs.declared.definition.ColumnDef.{ColumnDef}
use Rattle.mr_types.specs.declared.definition.IndexDef.{IndexDef}
use Rattle.mr_types.specs.declared.definition.TableDef.{TableDef}
use Rattle.mr_fields.specs.Fitting.{NameFits, TextFits, ValueFits, ValueHasPlace}
use Rattle.mr_schema.specs.DefinitionForm.{ttl_said}

abbrev pub KindFits : Kind → Type 0
KindFits (VarChar n collation) = n < 2 ^ 16
KindFits (VarBinary n) = n < 2 ^ 16
KindFits _ = ⊤

abbrev pub DefaultFits : Option Value → Type 0
DefaultFits None = ⊤
DefaultFits (Some v) = ValueFits v

pub record ColumnFits (c : ColumnDef) : Type 0 where
  pub name : NameFits c.name
  pub kind : KindFits c.ty.kind
  pub default : DefaultFits c.default

-- fewer than 256, each below `limit`
pub record PlacesFit (limit : ℕ) (places : List ℕ) : Type 0 where
  pub count : length places < 2 ^ 8
  pub each : AllByRecursion (λ place. place < limit) places

-- without a name, and unique
pub record PrimaryFits (limit : ℕ) (key : IndexDef) : Type 0 where
  pub no_name : key.name ≡ []
  pub is_unique : key.unique ≡ true
  pub columns : PlacesFit limit key.columns
  pub comment : TextFits key.comment

pub record KeyFits (limit : ℕ) (key : IndexDef) : Type 0 where
  pub name : NameFits key.name
  pub columns : PlacesFit limit key.columns
  pub comment : TextFits key.comment

pub record DefinitionFits (def : TableDef) : Type 0 where
  pub name : NameFits def.name
  pub column_count : length def.columns < 2 ^ 8
  pub columns : AllByRecursion ColumnFits def.columns
  pub primary : PrimaryFits (length def.columns) def.primary
  pub key_count : length def.secondary < 2 ^ 8
  pub secondary : AllByRecursion (KeyFits (length def.columns)) def.secondary
  pub comment : TextFits def.comment
  pub ttl : ttl_said def.columns def.comment ≡ Ok def.ttl

-- ---- definitions whose numbers and lengths are in their fields

abbrev pub DefaultHasPlace : Option Value → Type 0
DefaultHasPlace None = ⊤
DefaultHasPlace (Some v) = ValueHasPlace v

pub record ColumnHasPlace (c : ColumnDef) : Type 0 where
  pub name : length c.name < 2 ^ 8
  pub default : DefaultHasPlace c.default

-- a primary key is written without its name
pub record PrimaryHasPlace (key : IndexDef) : Type 0 where
  pub columns : length key.columns < 2 ^ 8
  pub comment : length key.comment < 2 ^ 16

pub record KeyHasPlace (key : IndexDef) : Type 0 where
  pub name : length key.name < 2 ^ 8
  pub columns : length key.columns < 2 ^ 8
  pub comment : length key.comment < 2 ^ 16

pub record DefinitionHasPlace (def : TableDef) : Type 0 where
  pub name : length def.name < 2 ^ 8
  pub column_count : length def.columns < 2 ^ 8
  pub columns : AllByRecursion ColumnHasPlace def.columns
  pub primary : PrimaryHasPlace def.primary
  pub key_count : length def.secondary < 2 ^ 8
  pub secondary : AllByRecursion KeyHasPlace def.secondary
  pub comment : length def.comment < 2 ^ 16
