-- What the entry of a row holds.
use Rattle.std.proofs.Common.{◌≡◌, ℕ, suc, ◌+◌, ◌<◌, ◌^◌, List, [], ◌++◌, length, refl, sym, ap, ◌∙◌, Bool, true, false, Option, Some, None, Result, Ok, Err}
use Rattle.std.specs.Prelude.{slice_get, slice_index_or}
use Rattle.std.proofs.lemmas.List.{append-nil}
use Rattle.mr_types.specs.declared.definition.TableDef.{TableDef}
use Rattle.mr_types.specs.declared.definition.Ttl.{Ttl}
use Rattle.mr_types.specs.declared.row.Row.{Row}
use Rattle.mr_types.specs.declared.value.Value.{Value}
use Rattle.mr_types.specs.Refusals.{◌>>=◌}
use Rattle.mr_types.specs.Rows.{IsRowOf, has_ttl, is_hidden}
use Rattle.mr_memcmp.specs.Keys.{parts_bytes, hidden_bytes, key_bytes_of}
use Rattle.mr_memcmp.specs.ComeBack.{parts_unpack}
use Rattle.mr_rowval.specs.KeyParts.{Held, found, is_in, ended, parts_full, key_read}
use Rattle.mr_rowval.specs.RowValue.{is_stamp_at, is_column_stamp, is_stamp_of, further}
use Rattle.mr_rowval.specs.Promises.{HasKinds}
use Rattle.mr_rowval.proofs.RowTrip.{wanted_again, held_of_row, full_again_all, column_at, found_again, stamp_again}
use Rattle.mr_rowval.proofs.RowAgain.{key_back}
use Rattle.mr_entry.specs.Entry.{entry_places, entry_key, entry_value}
use Rattle.mr_entry.specs.Held.{HeldEntry, forms_held, is_place_stamp, is_ttl_stamp, stamped_entry, entry_held, HoldsRow}
use Rattle.mr_entry.proofs.Copying.{ReadKey}

pub key_offends : (def : TableDef) (places key value : List ℕ) (left : ℕ) → key_read (is_hidden def) def.columns places key ≡ Err left → entry_held def places key value ≡ Err (left + length value)
key_offends def places key value left e = ap (λ (r : ReadKey). further (length value) r >>= (λ front. forms_held def places front.0 front.1 value >>= stamped_entry (length value))) e

key_is_read : (def : TableDef) (places key value body : List ℕ) (hidden : Option ℕ) → key_read (is_hidden def) def.columns places key ≡ Ok (body, hidden) → entry_held def places key value ≡ (forms_held def places body hidden value >>= stamped_entry (length value))
key_is_read def places key value body hidden e = ap (λ (r : ReadKey). further (length value) r >>= (λ front. forms_held def places front.0 front.1 value >>= stamped_entry (length value))) e

abbrev ReadWanted : Type 0
ReadWanted = Result (Option ℕ × List ℕ) ℕ

abbrev ReadHeld : Type 0
ReadHeld = Result (Held × List ℕ) ℕ

abbrev ReadEntry : Type 0
ReadEntry = Result HeldEntry ℕ

abbrev entry_ok : HeldEntry → ReadEntry
entry_ok entry = Ok entry

-- what the entry of the row holds
abbrev pub entry_of_row : TableDef → List ℕ → Row → HeldEntry
entry_of_row def places row = record { def = def; places = places; hidden = row.hidden; stamp = row.stamp; held = held_of_row def.columns row.fields places }

forms_back : (def : TableDef) (places : List ℕ) (row : Row) → HasKinds def.columns → IsRowOf def row → forms_held def places (parts_bytes def.columns row.fields places ++ hidden_bytes row.hidden) row.hidden (hidden_bytes row.stamp ++ parts_unpack def.columns row.fields places) ≡ entry_ok (entry_of_row def places row)
forms_back def places row real is =
    let key = parts_bytes def.columns row.fields places ++ hidden_bytes row.hidden in
    let forms = parts_unpack def.columns row.fields places in
    ap (λ (r : ReadWanted). r >>= (λ stamp. parts_full def.columns places key stamp.1 >>= (λ held. ended (record { def = def; places = places; hidden = row.hidden; stamp = stamp.0; held = held.0 }) held.1))) (wanted_again (has_ttl def) row.stamp forms is.stamp)
    ∙ ap (λ (r : ReadHeld). r >>= (λ held. ended (record { def = def; places = places; hidden = row.hidden; stamp = row.stamp; held = held.0 }) held.1)) (ap (parts_full def.columns places key) (sym (append-nil forms)) ∙ full_again_all def.columns row.fields places (hidden_bytes row.hidden) [] real is.fields)

-- ---- the values, and the stamp among them

pub its_value : (def : TableDef) (places : List ℕ) (row : Row) (p : ℕ) (value : Value) → IsRowOf def row → is_in places p ≡ true → slice_get row.fields p ≡ Some value → found (held_of_row def.columns row.fields places) p ≡ value
its_value def places row p value is there e =
    let column = column_at def.columns row.fields p value is.fields e in
    found_again def.columns row.fields places p column.0 value column.1 e there

value_passes : (def : TableDef) (places : List ℕ) (row : Row) (p : ℕ) (o : Option Value) → IsRowOf def row → is_in places p ≡ true → slice_get row.fields p ≡ o → is_stamp_at o row.stamp ≡ true → is_stamp_at (Some (found (held_of_row def.columns row.fields places) p)) row.stamp ≡ true
value_passes def places row p None is there e test = absurd cc
value_passes def places row p (Some value) is there e test = ap (λ (v : Value). is_stamp_at (Some v) row.stamp) (its_value def places row p value is there e) ∙ test

by_place : (def : TableDef) (places : List ℕ) (row : Row) (p : ℕ) (inside : Bool) → IsRowOf def row → is_in places p ≡ inside → is_stamp_at (slice_get row.fields p) row.stamp ≡ true → is_place_stamp (entry_of_row def places row) (Some p) ≡ true
by_place def places row p false is there test = rw there refl
by_place def places row p true is there test = rw there (value_passes def places row p (slice_get row.fields p) is there refl test)

by_column : (def : TableDef) (places : List ℕ) (row : Row) (column : Option ℕ) → IsRowOf def row → is_column_stamp column row ≡ true → is_place_stamp (entry_of_row def places row) column ≡ true
by_column def places row None is test = refl
by_column def places row (Some p) is test = by_place def places row p (is_in places p) is refl test

stamp_passes : (def : TableDef) (places : List ℕ) (row : Row) (ttl : Option Ttl) → IsRowOf def row → is_stamp_of ttl row ≡ true → is_ttl_stamp (entry_of_row def places row) ttl ≡ true
stamp_passes def places row None is test = refl
stamp_passes def places row (Some ttl) is test = by_column def places row ttl.column is test

pub row_reads : (def : TableDef) (numbers : List ℕ) (row : Row) (i : ℕ) → slice_index_or numbers (suc i) 0 < 2 ^ 32 → HasKinds def.columns → IsRowOf def row → entry_held def (entry_places def (suc i)) (entry_key def numbers row (suc i)) (entry_value def row (suc i)) ≡ entry_ok (entry_of_row def (entry_places def (suc i)) row)
row_reads def numbers row i small real is =
    let number = slice_index_or numbers (suc i) 0 in
    let places = entry_places def (suc i) in
    let value = hidden_bytes row.stamp ++ parts_unpack def.columns row.fields places in
    let body = parts_bytes def.columns row.fields places ++ hidden_bytes row.hidden in
    let entry = entry_of_row def places row in
    let test = stamp_passes def places row def.ttl is (stamp_again def.ttl row is.stamp is.stamp_column) in
    let passes : stamped_entry (length value) entry ≡ entry_ok entry = rw test refl in
    key_is_read def places (key_bytes_of number def places row) value body row.hidden (key_back number def places row small is)
    ∙ ap (λ (r : ReadEntry). r >>= stamped_entry (length value)) (forms_back def places row real is) ∙ passes

pub entry_is_held : (def : TableDef) (numbers : List ℕ) (row : Row) (i : ℕ) → slice_index_or numbers (suc i) 0 < 2 ^ 32 → HasKinds def.columns → IsRowOf def row → HoldsRow def numbers row (suc i)
entry_is_held def numbers row i small real is =
    let places = entry_places def (suc i) in
    record {
      entry = entry_of_row def places row;
      reads = row_reads def numbers row i small real is;
      hidden = refl;
      stamp = refl;
      fields = λ p v there e. its_value def places row p v is there e;
    }
