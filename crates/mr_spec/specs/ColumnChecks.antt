-- The columns of a definition, or the first refusal of a CREATE TABLE's columns.
use Rattle.std.specs.Prelude.{ℕ, Bool, not, ◌&&◌, nat_lt, if◌then◌else◌, List, [], ◌∷◌, ◌++◌, length, Option, Some, None, is_some, Result, Ok}
use Rattle.std.specs.List.{list_any}
use Rattle.mr_types.specs.declared.value.Value.{Value}
use Rattle.mr_types.specs.declared.value.Value.TheVariants.{Null}
use Rattle.mr_types.specs.declared.kind.Kind.{Kind}
use Rattle.mr_types.specs.declared.kind.Kind.TheVariants.{Int, IntUnsigned, BigInt, BigIntUnsigned, VarChar, VarBinary}
use Rattle.mr_types.specs.declared.kind.KindText.{KindText}
use Rattle.mr_types.specs.declared.kind.KindText.TheVariants as written
use Rattle.mr_types.specs.declared.kind.ColumnType.{ColumnType}
use Rattle.mr_types.specs.declared.definition.ColumnDef.{ColumnDef}
use Rattle.mr_types.specs.declared.text.ColumnText.{ColumnText}
use Rattle.mr_types.specs.declared.text.KeyText.{KeyText}
use Rattle.mr_types.specs.declared.text.TableText.{TableText}
use Rattle.mr_types.specs.Refusals.{◌>>=◌, ◌>>◌, refuse_where, some_or, in_turn, refused_as}
use Rattle.mr_types.specs.Values.{same_name, assign_to}
use Rattle.mr_spec.specs.Rows.{place_from}

-- the kind that is written, None where its length is above 65,535
abbrev pub kind_of : KindText → Option Kind
kind_of written.Int = Some Int
kind_of written.IntUnsigned = Some IntUnsigned
kind_of written.BigInt = Some BigInt
kind_of written.BigIntUnsigned = Some BigIntUnsigned
kind_of (written.VarChar n c) = if nat_lt 65535 n then None else Some (VarChar n c)
kind_of (written.VarBinary n) = if nat_lt 65535 n then None else Some (VarBinary n)

-- some primary key in the text names this column, which therefore is NOT NULL
abbrev pub is_primary_column : List KeyText → List ℕ → Bool
is_primary_column keys name = list_any (λ k. k.primary && list_any (same_name name) k.columns) keys

-- the default as assignment gives it, or 1067; NULL where a nullable column has none
abbrev pub default_kept : ColumnType → Option Value → Result (Option Value) ℕ
default_kept ty None = Ok (if ty.nullable then Some Null else None)
default_kept ty (Some v) = do
  d ← refused_as 1067 (assign_to ty v)
  Ok (Some d)

-- a column behind others: 1060 where its name is used, 1074 where it is too long, 1067 where its default doesn't fit
abbrev pub checked_column : List KeyText → List ColumnDef → ColumnText → Result ColumnDef ℕ
checked_column keys before c = do
  refuse_where 1060 (is_some (place_from 0 c.name before))
  kind ← some_or 1074 (kind_of c.kind)
  let ty : ColumnType = record { kind = kind; nullable = c.nullable && not (is_primary_column keys c.name) }
  default ← default_kept ty c.default
  Ok (record { name = c.name; ty = ty; default = default })

-- these columns, and one more
abbrev pub with_column : List KeyText → List ColumnDef → ColumnText → Result (List ColumnDef) ℕ
with_column keys before c = do
  d ← checked_column keys before c
  Ok (before ++ d ∷ [])

-- the columns in the order of the text; 1117 where they are more than 64
abbrev pub checked_columns : TableText → Result (List ColumnDef) ℕ
checked_columns text = do
  refuse_where 1117 (nat_lt 64 (length text.columns))
  in_turn (with_column text.keys) [] text.columns
