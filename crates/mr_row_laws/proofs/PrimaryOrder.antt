-- Keys are in the order of the definitions.
use Rattle.std.proofs.Common.{◌≡◌, ℕ, zero, suc, List, [], ◌∷◌, Option, Some, None, refl, sym, ap, ◌∙◌, Bool, true, false}
use Rattle.std.specs.Prelude.{slice_get}
use Rattle.std.specs.Option.{option_map_or, unwrap_or}
use Rattle.std.specs.declared.cmp.Ordering.{Ordering}
use Rattle.std.specs.declared.cmp.Ordering.TheVariants.{Less, Equal, Greater}
use Rattle.std.specs.Ordering.{is_eq, nat_cmp, ordering_then}
use Rattle.mr_pieces.specs.Order.{bytes_cmp}
use Rattle.mr_pieces.proofs.Compare.{bytes_equal, equal_bytes}
use Rattle.mr_types.specs.declared.kind.Kind.TheVariants.{Int}
use Rattle.mr_types.specs.declared.definition.ColumnDef.{ColumnDef}
use Rattle.mr_types.specs.declared.definition.TableDef.{TableDef}
use Rattle.mr_types.specs.declared.row.Row.{Row}
use Rattle.mr_types.specs.declared.value.Value.{Value}
use Rattle.mr_types.specs.declared.value.Value.TheVariants.{Null}
use Rattle.mr_types.specs.Order.{value_cmp}
use Rattle.mr_types.specs.Rows.{AreFields, IsWanted, IsRowOf, is_hidden}
use Rattle.mr_memcmp.specs.Keys.{key_bytes_of}
use Rattle.mr_memcmp.specs.KeyOrder.{part_cmp, columns_cmp, hidden_cmp, row_cmp}
use Rattle.mr_memcmp.proofs.Keys.{keys_in_order}
use Rattle.mr_spec.specs.Rows.{columns_cmp as columns_order, primary_cmp}
use Rattle.mr_row_laws.specs.PrimaryOrder.{PrimaryKeysInOrder}

abbrev IsPart : Option ColumnDef → Option Value → Type 0
IsPart None None = Unit {0}
IsPart None (Some value) = ⊥
IsPart (Some column) None = ⊥
IsPart (Some column) (Some value) = Unit {0}

is_part : (columns : List ColumnDef) (fields : List Value) (p : ℕ) → AreFields columns fields → IsPart (slice_get columns p) (slice_get fields p)
is_part [] [] p h = tt
is_part [] (field ∷ fields) p h = absurd h
is_part (column ∷ columns) [] p h = absurd h
is_part (column ∷ columns) (field ∷ fields) zero h = tt
is_part (column ∷ columns) (field ∷ fields) (suc p) h = is_part columns fields p h.1

part_order : (column : Option ColumnDef) (x y : Option Value) → IsPart column x → IsPart column y → part_cmp column x y ≡ value_cmp (option_map_or (λ c. c.ty.kind) column Int) (unwrap_or x Null) (unwrap_or y Null)
part_order None None None p q = refl
part_order None None (Some y) p q = absurd q
part_order None (Some x) y p q = absurd p
part_order (Some column) None y p q = absurd p
part_order (Some column) (Some x) None p q = absurd q
part_order (Some column) (Some x) (Some y) p q = refl

columns_in_order : (def : TableDef) (places : List ℕ) (x y : Row) → AreFields def.columns x.fields → AreFields def.columns y.fields → columns_cmp def.columns places x.fields y.fields ≡ columns_order def places x y
columns_in_order def [] x y p q = refl
columns_in_order def (i ∷ places) x y p q =
    let first = part_order (slice_get def.columns i) (slice_get x.fields i) (slice_get y.fields i) (is_part def.columns x.fields i p) (is_part def.columns y.fields i q) in
    ap (λ (o : Ordering). ordering_then o (columns_cmp def.columns places x.fields y.fields)) first
    ∙ ap (ordering_then (value_cmp (option_map_or (λ c. c.ty.kind) (slice_get def.columns i) Int) (unwrap_or (slice_get x.fields i) Null) (unwrap_or (slice_get y.fields i) Null))) (columns_in_order def places x y p q)

hidden_in_order : (wanted : Bool) (x y : Option ℕ) → IsWanted wanted x → IsWanted wanted y → hidden_cmp x y ≡ nat_cmp (unwrap_or x 0) (unwrap_or y 0)
hidden_in_order true (Some x) (Some y) p q = refl
hidden_in_order true (Some x) None p q = absurd q
hidden_in_order true None y p q = absurd p
hidden_in_order false (Some x) y p q = absurd p
hidden_in_order false None (Some y) p q = absurd q
hidden_in_order false None None p q = refl

rows_in_order : (def : TableDef) (x y : Row) → IsRowOf def x → IsRowOf def y → row_cmp def def.primary.columns x y ≡ primary_cmp def x y
rows_in_order def x y p q =
    ap (λ (o : Ordering). ordering_then o (hidden_cmp x.hidden y.hidden)) (columns_in_order def def.primary.columns x y p.fields q.fields)
    ∙ ap (ordering_then (columns_order def def.primary.columns x y)) (hidden_in_order (is_hidden def) x.hidden y.hidden p.hidden_number q.hidden_number)

equal_is : (o : Ordering) → is_eq o ≡ true → o ≡ Equal
equal_is Less e = absurd cc
equal_is Equal e = refl
equal_is Greater e = absurd cc

pub primary_keys_in_order : (index : ℕ) (def : TableDef) (x y : Row) → IsRowOf def x → IsRowOf def y → PrimaryKeysInOrder index def x y
primary_keys_in_order index def x y p q =
    let kx = key_bytes_of index def def.primary.columns x in
    let ky = key_bytes_of index def def.primary.columns y in
    let order : bytes_cmp kx ky ≡ primary_cmp def x y = (keys_in_order index def def.primary.columns x y p q).order ∙ rows_in_order def x y p q in
    record {
      order = order;
      same = (λ e. ap is_eq (sym order ∙ ap (λ (l : List ℕ). bytes_cmp l ky) e ∙ bytes_equal ky), λ e. equal_bytes kx ky (order ∙ equal_is (primary_cmp def x y) e));
    }
