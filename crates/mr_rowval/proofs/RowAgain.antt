-- A row's entry is read again, whole.
use Rattle.std.proofs.Common.{◌≡◌, ℕ, ◌<◌, ◌^◌, List, [], ◌++◌, length, refl, sym, ap, ◌∙◌, arith, append_assoc, Bool, Option, Some, Result, Ok}
use Rattle.std.specs.Prelude.{slice_get}
use Rattle.std.proofs.lemmas.List.{append-nil}
use Rattle.mr_types.specs.declared.definition.ColumnDef.{ColumnDef}
use Rattle.mr_types.specs.declared.definition.TableDef.{TableDef}
use Rattle.mr_types.specs.declared.row.Row.{Row}
use Rattle.mr_types.specs.declared.value.Value.{Value}
use Rattle.mr_types.specs.Refusals.{◌>>=◌}
use Rattle.mr_types.specs.Rows.{AreFields, IsRowOf, is_hidden, has_ttl}
use Rattle.mr_memcmp.specs.Keys.{parts_bytes, hidden_bytes, key_bytes_of}
use Rattle.mr_memcmp.specs.Reading.{ReadNumber}
use Rattle.mr_memcmp.specs.ComeBack.{parts_unpack}
use Rattle.mr_memcmp.proofs.KeyTrip.{key_again}
use Rattle.mr_rowval.specs.NullBits.{null_flags, null_bits}
use Rattle.mr_rowval.specs.KeyParts.{Held, parts_kept, wanted_read, ended, key_read, parts_full}
use Rattle.mr_rowval.specs.RowValue.{fields_bytes, row_value_bytes, ReadFields, fields_read, fields_from, value_read, stamped}
use Rattle.mr_rowval.specs.Promises.{HasKinds, RowComesBack}
use Rattle.mr_rowval.proofs.Decoding.{ReadRow, key_is_read, then_stamped}
use Rattle.mr_rowval.proofs.RowTrip.{nulls_again, wanted_again, parts_again, held_of_row, full_again_all, Agrees, fields_again, column_at, found_again, stamp_again}

abbrev ReadRest : Type 0
ReadRest = Result (List ℕ) ℕ

abbrev ReadWanted : Type 0
ReadWanted = Result (Option ℕ × List ℕ) ℕ

-- the key of some columns, with or without a hidden number
pub key_back : (index : ℕ) (def : TableDef) (places : List ℕ) (row : Row) → index < 2 ^ 32 → IsRowOf def row → key_read (is_hidden def) def.columns places (key_bytes_of index def places row) ≡ Ok (parts_bytes def.columns row.fields places ++ hidden_bytes row.hidden, row.hidden)
key_back index def places row small is =
    let hidden = is_hidden def in
    let end = hidden_bytes row.hidden in
    let body = parts_bytes def.columns row.fields places ++ end in
    let last : wanted_read hidden end ≡ Ok (row.hidden, []) = ap (wanted_read hidden) (sym (append-nil end)) ∙ wanted_again hidden row.hidden [] is.hidden_number in
    ap (λ (r : ReadNumber). r >>= (λ index. parts_kept def.columns places index.1 >>= (λ rest. wanted_read hidden rest >>= (λ number. ended (index.1, number.0) number.1)))) ((key_again index def row is).index_first small places end)
    ∙ ap (λ (r : ReadRest). r >>= (λ rest. wanted_read hidden rest >>= (λ number. ended (body, number.0) number.1))) (parts_again def.columns row.fields places end is.fields)
    ∙ ap (λ (r : ReadWanted). r >>= (λ number. ended (body, number.0) number.1)) last

agrees : (columns : List ColumnDef) (values : List Value) (places : List ℕ) → AreFields columns values → Agrees places (held_of_row columns values places) 0 values
agrees columns values places h = λ p q v e s there.
    let same : p ≡ q = omega arith in
    let there_too : slice_get values q ≡ Some v = ap (slice_get values) (sym same) ∙ s in
    let column = column_at columns values q v h there_too in
    found_again columns values places q column.0 v column.1 there_too there

abbrev ReadFlags : Type 0
ReadFlags = Result (List Bool × List ℕ) ℕ

abbrev ReadHeld : Type 0
ReadHeld = Result (Held × List ℕ) ℕ

-- the columns from the null bits on
pub fields_back : (columns : List ColumnDef) (values : List Value) (places rest : List ℕ) → HasKinds columns → AreFields columns values
    → fields_from columns places (parts_bytes columns values places ++ rest) (null_bits (null_flags columns values) ++ (parts_unpack columns values places ++ fields_bytes places 0 columns values)) ≡ Ok values
fields_back columns values places rest real h =
    let key = parts_bytes columns values places ++ rest in
    let bytes = fields_bytes places 0 columns values in
    let forms = parts_unpack columns values places ++ bytes in
    let flags = null_flags columns values in
    let held = held_of_row columns values places in
    ap (λ (r : ReadFlags). r >>= (λ flags. parts_full columns places key flags.1 >>= (λ held. fields_read places held.0 0 columns flags.0 held.1 >>= (λ fields. ended fields.0 fields.1)))) (nulls_again columns values forms h)
    ∙ ap (λ (r : ReadHeld). r >>= (λ held. fields_read places held.0 0 columns flags held.1 >>= (λ fields. ended fields.0 fields.1))) (full_again_all columns values places rest bytes real h)
    ∙ ap (λ (r : ReadFields). r >>= (λ fields. ended fields.0 fields.1)) (fields_again places held 0 columns values real h (agrees columns values places h))

parts_right : (a b c d : List ℕ) → a ++ b ++ c ++ d ≡ a ++ (b ++ (c ++ d))
parts_right a b c d = append_assoc (a ++ b) c d ∙ append_assoc a b (c ++ d)

abbrev ReadValues : Type 0
ReadValues = Result (List Value) ℕ

value_back : (def : TableDef) (row : Row) (rest : List ℕ) → HasKinds def.columns → IsRowOf def row → value_read def (parts_bytes def.columns row.fields def.primary.columns ++ rest) row.hidden (row_value_bytes def row) ≡ Ok row
value_back def row rest real is =
    let columns = def.columns in
    let values = row.fields in
    let places = def.primary.columns in
    let key = parts_bytes columns values places ++ rest in
    let nulls = null_bits (null_flags columns values) in
    let forms = parts_unpack columns values places in
    let bytes = fields_bytes places 0 columns values in
    ap (value_read def key row.hidden) (parts_right (hidden_bytes row.stamp) nulls forms bytes)
    ∙ ap (λ (r : ReadWanted). r >>= (λ stamp. fields_from columns places key stamp.1 >>= (λ fields. Ok (record { hidden = row.hidden; stamp = stamp.0; fields = fields })))) (wanted_again (has_ttl def) row.stamp (nulls ++ (forms ++ bytes)) is.stamp)
    ∙ ap (λ (r : ReadValues). r >>= (λ fields. Ok (record { hidden = row.hidden; stamp = row.stamp; fields = fields }))) (fields_back columns values places rest real is.fields)

pub row_again : (index : ℕ) (def : TableDef) (row : Row) → index < 2 ^ 32 → HasKinds def.columns → IsRowOf def row → RowComesBack index def row
row_again index def row small real is =
    let value = row_value_bytes def row in
    let body = parts_bytes def.columns row.fields def.primary.columns ++ hidden_bytes row.hidden in
    let ok : ReadRow = Ok row in
    let test = stamp_again def.ttl row is.stamp is.stamp_column in
    let passes : stamped def (length value) row ≡ Ok row = rw test refl in
    key_is_read def (key_bytes_of index def def.primary.columns row) value body row.hidden (key_back index def def.primary.columns row small is)
    ∙ then_stamped def (length value) (value_read def body row.hidden value) ok (value_back def row (hidden_bytes row.hidden) real is) ∙ passes
