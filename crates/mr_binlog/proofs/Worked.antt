-- Worked commits.
use Rattle.std.proofs.Common.{◌≡◌, pos, [], ◌∷◌, refl, true, false, Some, None}
use Rattle.mr_types.specs.declared.value.Value.TheVariants.{Null, Number}
use Rattle.mr_types.specs.declared.kind.Kind.TheVariants.{BigInt}
use Rattle.mr_types.specs.declared.definition.ColumnDef.{ColumnDef}
use Rattle.mr_types.specs.declared.definition.TableDef.{TableDef}
use Rattle.mr_types.specs.declared.row.Row.{Row}
use Rattle.mr_types.specs.declared.row.Change.TheVariants.{Insert}
use Rattle.mr_types.specs.declared.row.Schema.TheVariants.{CreateTable}
use Rattle.mr_types.specs.declared.row.CommitBody.TheVariants.{Rows, Schema}
use Rattle.mr_binlog.specs.CommitForm.{commit_bytes}

abbrev id : ColumnDef
id = record { name = 105 ∷ 100 ∷ []; ty = record { kind = BigInt; nullable = false }; default = None }

abbrev v : ColumnDef
v = record { name = 118 ∷ []; ty = record { kind = BigInt; nullable = true }; default = Some Null }

abbrev table : TableDef
table = record { name = 116 ∷ []; columns = id ∷ v ∷ []; primary = record { name = []; columns = 0 ∷ []; unique = true; comment = [] }; secondary = []; comment = []; ttl = None }

abbrev row : Row
row = record { hidden = None; stamp = None; fields = Number (pos 1) ∷ Number (pos 2) ∷ [] }

create_table : commit_bytes (record { moment = 7; body = Schema (CreateTable table) })
    ≡ 0 ∷ 0 ∷ 0 ∷ 0 ∷ 0 ∷ 0 ∷ 0 ∷ 7 ∷ 1 ∷ 1 ∷ 116 ∷ 2 ∷ 2 ∷ 105 ∷ 100 ∷ 3 ∷ 0 ∷ 0 ∷ 0 ∷ 0 ∷ 0 ∷ 1 ∷ 118 ∷ 3 ∷ 0 ∷ 0 ∷ 0 ∷ 1 ∷ 1 ∷ 0 ∷ 1 ∷ 0 ∷ 0 ∷ 0 ∷ 0 ∷ 0 ∷ 0 ∷ []
create_table = refl

one_row : commit_bytes (record { moment = 7; body = Rows (Insert (116 ∷ []) row ∷ []) })
    ≡ 0 ∷ 0 ∷ 0 ∷ 0 ∷ 0 ∷ 0 ∷ 0 ∷ 7 ∷ 0 ∷ 0 ∷ 0 ∷ 0 ∷ 1 ∷ 1 ∷ 1 ∷ 116 ∷ 0 ∷ 2 ∷ 1 ∷ 0 ∷ 0 ∷ 0 ∷ 0 ∷ 0 ∷ 0 ∷ 0 ∷ 1 ∷ 1 ∷ 0 ∷ 0 ∷ 0 ∷ 0 ∷ 0 ∷ 0 ∷ 0 ∷ 2 ∷ []
one_row = refl
