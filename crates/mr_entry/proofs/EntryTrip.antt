-- The entry of a row is read again.
use Rattle.std.proofs.Common.{◌≡◌, ℕ, zero, suc, ◌+◌, ◌<◌, ◌^◌, List, [], ◌∷◌, ◌++◌, length, refl, sym, ap, ◌∙◌, arith, Option, Some, Result, Ok}
use Rattle.std.specs.Prelude.{slice_get, slice_index_or}
use Rattle.std.proofs.lemmas.List.{append-nil}
use Rattle.mr_types.specs.declared.definition.ColumnDef.{ColumnDef}
use Rattle.mr_types.specs.declared.definition.TableDef.{TableDef}
use Rattle.mr_types.specs.declared.row.Row.{Row}
use Rattle.mr_types.specs.declared.value.Value.{Value}
use Rattle.mr_types.specs.Refusals.{◌>>=◌}
use Rattle.mr_types.specs.Rows.{IsRowOf, has_ttl}
use Rattle.mr_memcmp.specs.Keys.{parts_bytes, hidden_bytes, key_bytes_of}
use Rattle.mr_memcmp.specs.ComeBack.{parts_unpack}
use Rattle.mr_rowval.specs.KeyParts.{Held, found, ended, parts_full}
use Rattle.mr_rowval.specs.RowValue.{stamped}
use Rattle.mr_rowval.specs.Promises.{HasKinds}
use Rattle.mr_rowval.proofs.Decoding.{ReadRow, then_stamped}
use Rattle.mr_rowval.proofs.RowTrip.{wanted_again, held_of_row, full_again_all, column_at, found_again, stamp_again}
use Rattle.mr_rowval.proofs.RowAgain.{key_back, row_again}
use Rattle.mr_rowval.proofs.Written.{same_sizes}
use Rattle.mr_entry.specs.Entry.{entry_places, fields_held, forms_read, covering_read}
use Rattle.mr_entry.specs.Promises.{CoversAll, IsCovering, EntryComesBack}
use Rattle.mr_entry.proofs.Copying.{key_is_read}

-- the values that are held of each column
all_there : (held : Held) (at : ℕ) (columns : List ColumnDef) (values : List Value) → length columns ≡ length values → ((p q : ℕ) (v : Value) → q ≡ at + p → slice_get values p ≡ Some v → found held q ≡ v) → fields_held held at columns ≡ values
all_there held at [] [] size there = refl
all_there held at [] (value ∷ values) size there = absurd (omega arith)
all_there held at (column ∷ columns) [] size there = absurd (omega arith)
all_there held at (column ∷ columns) (value ∷ values) size there =
    ap (λ (v : Value). v ∷ fields_held held (suc at) columns) (there 0 at value (omega arith) refl)
    ∙ ap (λ (l : List Value). value ∷ l) (all_there held (suc at) columns values (omega arith) (λ p q v e s. there (suc p) q v (omega arith) s))

whole_row : (def : TableDef) (places : List ℕ) (row : Row) → IsRowOf def row → CoversAll def places → fields_held (held_of_row def.columns row.fields places) 0 def.columns ≡ row.fields
whole_row def places row is covers = all_there (held_of_row def.columns row.fields places) 0 def.columns row.fields (same_sizes def.columns row.fields is.fields) (λ p q v e s.
    let same : p ≡ q = omega arith in
    let there : slice_get row.fields q ≡ Some v = ap (slice_get row.fields) (sym same) ∙ s in
    let column = column_at def.columns row.fields q v is.fields there in
    found_again def.columns row.fields places q column.0 v column.1 there (covers q column.0 column.1))

abbrev ReadWanted : Type 0
ReadWanted = Result (Option ℕ × List ℕ) ℕ

abbrev ReadHeld : Type 0
ReadHeld = Result (Held × List ℕ) ℕ

abbrev row_ok : Row → ReadRow
row_ok row = Ok row

forms_back : (def : TableDef) (places : List ℕ) (row : Row) → HasKinds def.columns → IsRowOf def row → CoversAll def places → forms_read def places (parts_bytes def.columns row.fields places ++ hidden_bytes row.hidden) row.hidden (hidden_bytes row.stamp ++ parts_unpack def.columns row.fields places) ≡ Ok row
forms_back def places row real is covers =
    let key = parts_bytes def.columns row.fields places ++ hidden_bytes row.hidden in
    let forms = parts_unpack def.columns row.fields places in
    let held = held_of_row def.columns row.fields places in
    ap (λ (r : ReadWanted). r >>= (λ stamp. parts_full def.columns places key stamp.1 >>= (λ held. ended (record { hidden = row.hidden; stamp = stamp.0; fields = fields_held held.0 0 def.columns }) held.1))) (wanted_again (has_ttl def) row.stamp forms is.stamp)
    ∙ ap (λ (r : ReadHeld). r >>= (λ held. ended (record { hidden = row.hidden; stamp = row.stamp; fields = fields_held held.0 0 def.columns }) held.1)) (ap (parts_full def.columns places key) (sym (append-nil forms)) ∙ full_again_all def.columns row.fields places (hidden_bytes row.hidden) [] real is.fields)
    ∙ ap (λ (l : List Value). row_ok (record { hidden = row.hidden; stamp = row.stamp; fields = l })) (whole_row def places row is covers)

covering_back : (number : ℕ) (def : TableDef) (places : List ℕ) (row : Row) → number < 2 ^ 32 → HasKinds def.columns → IsRowOf def row → CoversAll def places → covering_read def places (key_bytes_of number def places row) (hidden_bytes row.stamp ++ parts_unpack def.columns row.fields places) ≡ Ok row
covering_back number def places row small real is covers =
    let value = hidden_bytes row.stamp ++ parts_unpack def.columns row.fields places in
    let body = parts_bytes def.columns row.fields places ++ hidden_bytes row.hidden in
    let test = stamp_again def.ttl row is.stamp is.stamp_column in
    let passes : stamped def (length value) row ≡ row_ok row = rw test refl in
    key_is_read def places (key_bytes_of number def places row) value body row.hidden (key_back number def places row small is)
    ∙ then_stamped def (length value) (forms_read def places body row.hidden value) (row_ok row) (forms_back def places row real is covers) ∙ passes

pub entry_again : (def : TableDef) (numbers : List ℕ) (row : Row) (index : ℕ) → slice_index_or numbers index 0 < 2 ^ 32 → HasKinds def.columns → IsRowOf def row → IsCovering def index → EntryComesBack def numbers row index
entry_again def numbers row zero small real is covers = row_again (slice_index_or numbers 0 0) def row small real is
entry_again def numbers row (suc i) small real is covers = covering_back (slice_index_or numbers (suc i) 0) def (entry_places def (suc i)) row small real is covers
