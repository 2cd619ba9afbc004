-- Rows in the order of the primary key, and what SELECT gives of rows that come in any order.
use Rattle.std.specs.Prelude.{◌≡◌, false, List, [], ◌∷◌, ⊤}
use Rattle.std.specs.List.{AllByRecursion}
use Rattle.std.specs.List.Sorted.{IsPermutation, IsStable}
use Rattle.std.specs.Ordering.{is_gt, ordering_then}
use Rattle.std.specs.declared.cmp.Ordering.{Ordering}
use Rattle.std.specs.declared.cmp.Ordering.TheVariants.{Less}
use Rattle.mr_types.specs.declared.definition.TableDef.{TableDef}
use Rattle.mr_types.specs.declared.row.Row.{Row}
use Rattle.mr_types.specs.declared.statement.OrderItem.{OrderItem}
use Rattle.mr_types.specs.declared.statement.Select.{Select}
use Rattle.mr_types.specs.declared.value.Value.{Value}
use Rattle.mr_spec.specs.declared.world.Table.{Table}
use Rattle.mr_spec.specs.Rows.{primary_cmp, same_primary}
use Rattle.mr_spec.specs.Select.{order_cmp, selected, sorted}
use Rattle.mr_spec.specs.Truth.{Where}

-- each row comes before all behind it by its primary key, or its hidden number
abbrev pub IsAscending : TableDef → List Row → Type 0
IsAscending def [] = ⊤
IsAscending def (r ∷ rs) = AllByRecursion (λ s. primary_cmp def r s ≡ Less) rs × IsAscending def rs

-- the rows of each table ascend
abbrev pub AreAscending : List Table → Type 0
AreAscending tables = AllByRecursion (λ t. IsAscending t.def t.rows) tables

-- no two of the rows have the same primary key
abbrev pub HasKeysOnce : TableDef → List Row → Type 0
HasKeysOnce def [] = ⊤
HasKeysOnce def (r ∷ rs) = AllByRecursion (λ s. same_primary def r s ≡ false) rs × HasKeysOnce def rs

-- no row comes before one in front of it
abbrev pub IsInOrder : (Row → Row → Ordering) → List Row → Type 0
IsInOrder cmp [] = ⊤
IsInOrder cmp (r ∷ rs) = AllByRecursion (λ s. is_gt (cmp r s) ≡ false) rs × IsInOrder cmp rs

-- the same rows in order, those that tie as they stood
pub record IsSorted (cmp : Row → Row → Ordering) (rows found : List Row) : Type 0 where
  pub same : IsPermutation rows found
  pub in_order : IsInOrder cmp found
  pub stable : IsStable cmp rows found

-- the rows in the order of their primary keys
abbrev pub by_key : TableDef → List Row → List Row
by_key def rows = sorted (primary_cmp def) rows

-- what SELECT gives of rows that come in any order
abbrev pub selected_of : TableDef → Select → Where → List Row → List (List Value)
selected_of def s c rows = selected def s c (by_key def rows)

-- the order of a reply: by ORDER BY, and by the primary key where that ties
abbrev pub reply_cmp : TableDef → List OrderItem → Row → Row → Ordering
reply_cmp def order r s = ordering_then (order_cmp def order r s) (primary_cmp def r s)
