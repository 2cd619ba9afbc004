-- When two rows collide in a key.
use Rattle.std.specs.Prelude.{◌≡◌, true, false, ◌↔◌}
use Rattle.mr_types.specs.declared.definition.IndexDef.{IndexDef}
use Rattle.mr_types.specs.declared.definition.TableDef.{TableDef}
use Rattle.mr_types.specs.declared.row.Row.{Row}
use Rattle.mr_spec.specs.Promises.{SameIn}
use Rattle.mr_spec.specs.Rows.{has_null, same_unique}

-- the key is unique, and the rows have the same values in it, which are no NULLs
pub record SameWithoutNull (def : TableDef) (r s : Row) (key : IndexDef) : Type 0 where
  pub unique : key.unique ≡ true
  pub same : SameIn def r s key.columns
  pub no_null : has_null r key.columns ≡ false
  pub nor_in_the_other : has_null s key.columns ≡ false

-- the rows collide exactly there
abbrev pub CollideByValues : TableDef → Row → Row → IndexDef → Type 0
CollideByValues def r s key = (same_unique def r s key ≡ true) ↔ SameWithoutNull def r s key
