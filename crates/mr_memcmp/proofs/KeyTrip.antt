-- A key is read again, column by column.
use Rattle.std.proofs.Common.{◌≡◌, ℕ, zero, suc, List, [], ◌∷◌, ◌++◌, ap, subst, ◌∙◌, Option, Some, Ok}
use Rattle.std.specs.Prelude.{slice_get}
use Rattle.std.specs.Int.{w32, to_be_bytes}
use Rattle.std.proofs.lemmas.List.{append_assoc}
use Rattle.mr_types.specs.declared.definition.ColumnDef.{ColumnDef}
use Rattle.mr_types.specs.declared.definition.TableDef.{TableDef}
use Rattle.mr_types.specs.declared.row.Row.{Row}
use Rattle.mr_types.specs.declared.value.Value.{Value}
use Rattle.mr_types.specs.Rows.{AreFields, IsRowOf}
use Rattle.mr_memcmp.specs.Keys.{column_bytes, part_bytes, parts_bytes}
use Rattle.mr_memcmp.specs.Reading.{ReadColumn, number_read, field_read}
use Rattle.mr_memcmp.specs.ComeBack.{unpack_bytes, IsTaken, part_unpack, parts_unpack, KeyComesBack}
use Rattle.mr_memcmp.proofs.ColumnTrip.{four_again, field_again}

abbrev some_column : ColumnDef → Option ColumnDef
some_column column = Some column

abbrev some_value : Value → Option Value
some_value value = Some value

-- the value of a row in a column
pub field_of : (columns : List ColumnDef) (values : List Value) (p : ℕ) (column : ColumnDef) (value : Value) → AreFields columns values → slice_get columns p ≡ Some column → slice_get values p ≡ Some value → IsTaken column.ty value
field_of [] values p column value are c v = absurd cc
field_of (x ∷ columns) [] p column value are c v = absurd are
field_of (x ∷ columns) (y ∷ values) zero column value are c v =
    let taken : IsTaken x.ty y = record { is_value = are.0.is_value; as_it_is = are.0.as_it_is } in
    let same : x ≡ column = cc in
    let here : y ≡ value = cc in
    subst (λ (z : ColumnDef). IsTaken z.ty value) same (subst (IsTaken x.ty) here taken)
field_of (x ∷ columns) (y ∷ values) (suc p) column value are c v = field_of columns values p column value are.1 c v

abbrev column_ok : Value → List ℕ → List ℕ → ReadColumn
column_ok value key unpack = Ok (value, key, unpack)

pub key_again : (index : ℕ) (def : TableDef) (row : Row) → IsRowOf def row → KeyComesBack index def row
key_again index def row is = record {
  index_first = λ small places rest. ap (number_read w32) (append_assoc (to_be_bytes w32 index) (parts_bytes def.columns row.fields places) rest) ∙ four_again index (parts_bytes def.columns row.fields places ++ rest) small;
  then_columns = λ p places rest more column value c v real.
      let taken = field_of def.columns row.fields p column value is.fields c v in
      let key_rest = parts_bytes def.columns row.fields places in
      let unpack_rest = parts_unpack def.columns row.fields places in
      let key : parts_bytes def.columns row.fields (p ∷ places) ++ rest ≡ column_bytes column.ty value ++ (key_rest ++ rest) = ap (λ (o : Option ColumnDef). (part_bytes o (slice_get row.fields p) ++ key_rest) ++ rest) c ∙ ap (λ (o : Option Value). (part_bytes (some_column column) o ++ key_rest) ++ rest) v ∙ append_assoc (column_bytes column.ty value) key_rest rest in
      let unpack : parts_unpack def.columns row.fields (p ∷ places) ++ more ≡ unpack_bytes column.ty.kind value ++ (unpack_rest ++ more) = ap (λ (o : Option ColumnDef). (part_unpack o (slice_get row.fields p) ++ unpack_rest) ++ more) c ∙ ap (λ (o : Option Value). (part_unpack (some_column column) o ++ unpack_rest) ++ more) v ∙ append_assoc (unpack_bytes column.ty.kind value) unpack_rest more in
      ap (λ (l : List ℕ). field_read column.ty l (parts_unpack def.columns row.fields (p ∷ places) ++ more)) key ∙ ap (field_read column.ty (column_bytes column.ty value ++ (key_rest ++ rest))) unpack
      ∙ field_again column.ty value real taken (key_rest ++ rest) (unpack_rest ++ more);
}
