-- Where a row stands, by its primary key, among rows that ascend by it.
use Rattle.std.specs.Prelude.{◌≡◌, ℕ, suc, ◌<◌, true, false, if◌then◌else◌, List, [], ◌∷◌, length, get_or}
use Rattle.std.specs.Ordering.{is_gt}
use Rattle.mr_types.specs.declared.definition.TableDef.{TableDef}
use Rattle.mr_types.specs.declared.row.Row.{Row}
use Rattle.mr_spec.specs.Rows.{primary_cmp, same_primary}

-- how many rows in front come before the key of this one
abbrev pub lower : TableDef → Row → List Row → ℕ
lower def key [] = 0
lower def key (r ∷ rs) = if is_gt (primary_cmp def key r) then suc (lower def key rs) else 0

-- the row with the key stands there
pub record IsThere (def : TableDef) (key : Row) (rows : List Row) (at : ℕ) : Type 0 where
  pub place : at ≡ lower def key rows
  pub within : at < length rows
  pub same : same_primary def key (get_or rows at key) ≡ true

-- no row has the key, and there it would belong
pub record IsAbsent (def : TableDef) (key : Row) (rows : List Row) (at : ℕ) : Type 0 where
  pub place : at ≡ lower def key rows
  pub apart : at < length rows → same_primary def key (get_or rows at key) ≡ false
