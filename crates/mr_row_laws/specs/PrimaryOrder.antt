-- The order of primary keys.
use Rattle.std.specs.Prelude.{◌≡◌, ◌↔◌, ℕ, true}
use Rattle.mr_pieces.specs.Order.{bytes_cmp}
use Rattle.mr_types.specs.declared.definition.TableDef.{TableDef}
use Rattle.mr_types.specs.declared.row.Row.{Row}
use Rattle.mr_memcmp.specs.Keys.{key_bytes_of}
use Rattle.mr_spec.specs.Rows.{primary_cmp, same_primary}

-- as bytes and by their columns
pub record PrimaryKeysInOrder (index : ℕ) (def : TableDef) (x y : Row) : Type 0 where
  pub order : bytes_cmp (key_bytes_of index def def.primary.columns x) (key_bytes_of index def def.primary.columns y) ≡ primary_cmp def x y
  pub same : (key_bytes_of index def def.primary.columns x ≡ key_bytes_of index def def.primary.columns y) ↔ (same_primary def x y ≡ true)
