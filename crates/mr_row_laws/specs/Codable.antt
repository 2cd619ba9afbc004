-- What the codecs of rows and of entries ask of a definition.
use Rattle.std.specs.Prelude.{ℕ}
use Rattle.mr_types.specs.declared.definition.TableDef.{TableDef}
use Rattle.mr_rowval.specs.Promises.{HasKinds, HasKey}
use Rattle.mr_entry.specs.Promises.{HasColumns}

-- lengths of columns are numbers of two bytes, the columns of the primary key are NOT NULL, and no column stands twice in
-- an entry's key
pub record IsCodable (def : TableDef) : Type 0 where
  pub kinds : HasKinds def.columns
  pub key : HasKey def
  pub columns : (index : ℕ) → HasColumns def index
