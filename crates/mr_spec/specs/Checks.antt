-- The definition that a CREATE TABLE or a further key gives, or its first refusal.
use Rattle.std.specs.Prelude.{true, ℕ, List, [], None, Result, Ok}
use Rattle.std.specs.Option.{option_map_or}
use Rattle.mr_types.specs.declared.definition.IndexDef.{IndexDef}
use Rattle.mr_types.specs.declared.definition.TableDef.{TableDef}
use Rattle.mr_types.specs.declared.text.KeyText.{KeyText}
use Rattle.mr_types.specs.declared.text.TableText.{TableText}
use Rattle.mr_types.specs.Refusals.{◌>>=◌, in_turn}
use Rattle.mr_spec.specs.ColumnChecks.{checked_columns}
use Rattle.mr_spec.specs.KeyChecks.{checked_key, with_key, hidden_key}
use Rattle.mr_spec.specs.TtlOptions.{ttl_of}

-- the definition of a table: first its columns are checked, then its keys, then its comment
abbrev pub check : TableText → Result TableDef ℕ
check text = do
  columns ← checked_columns text
  keys ← in_turn (with_key columns) (record { primary = None; secondary = [] }) text.keys
  ttl ← ttl_of columns text.comment
  Ok (record {
    name = text.name;
    columns = columns;
    primary = option_map_or (λ k. k) keys.primary hidden_key;
    secondary = keys.secondary;
    comment = text.comment;
    ttl = ttl;
  })

-- a further key of a table, where these names are taken too
abbrev pub check_key : TableDef → List (List ℕ) → KeyText → Result IndexDef ℕ
check_key def taken k = checked_key def.columns true def.secondary taken k
