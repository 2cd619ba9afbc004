-- Only a row's entry is read as a row.
use Rattle.std.proofs.Common.{◌≡◌, ℕ, zero, suc, ◌+◌, ◌<◌, ◌^◌, List, [], ◌∷◌, ◌++◌, length, refl, sym, ap, subst, ◌∙◌, arith, append_assoc, Option, Some, Ok}
use Rattle.std.specs.Prelude.{slice_get}
use Rattle.std.specs.List.{AllByRecursion}
use Rattle.std.specs.Int.{w32, to_be_bytes}
use Rattle.std.proofs.lemmas.List.{append-nil}
use Rattle.std.proofs.lemmas.Option.{slice_get_within}
use Rattle.mr_types.specs.declared.definition.ColumnDef.{ColumnDef}
use Rattle.mr_types.specs.declared.definition.TableDef.{TableDef}
use Rattle.mr_types.specs.declared.row.Row.{Row}
use Rattle.mr_types.specs.declared.value.Value.{Value}
use Rattle.mr_types.specs.Refusals.{◌>>=◌}
use Rattle.mr_types.specs.Rows.{IsWanted, AreFields, is_hidden, has_ttl}
use Rattle.mr_memcmp.specs.Keys.{parts_bytes, hidden_bytes, key_bytes_of}
use Rattle.mr_memcmp.specs.ComeBack.{AreBytes, IsTaken, parts_unpack}
use Rattle.mr_rowval.specs.KeyParts.{Held, found, wanted_read, ended, key_read, parts_full}
use Rattle.mr_rowval.specs.RowValue.{is_stamp_of, stamped, further}
use Rattle.mr_rowval.specs.Encoding.{TakesPart}
use Rattle.mr_rowval.specs.Promises.{AreDistinct}
use Rattle.mr_rowval.proofs.PartsTake.{bytes_behind, AreHeldIn, IsHeld, parts_take}
use Rattle.mr_rowval.proofs.RowTakes.{are_held}
use Rattle.mr_rowval.proofs.EntryTakes as rows
use Rattle.mr_entry.specs.Entry.{entry_places, fields_held, forms_read}
use Rattle.mr_entry.specs.Promises.{CoversAll, WasEntry, OnlyEntriesAreRead, IsCovering, HasColumns}

abbrev some_value : Value → Option Value
some_value v = Some v

-- ---- the columns as they are held

held_size : (held : Held) (at : ℕ) (columns : List ColumnDef) → length (fields_held held at columns) ≡ length columns
held_size held at [] = refl
held_size held at (column ∷ columns) = ap suc (held_size held (suc at) columns)

held_at : (held : Held) (at : ℕ) (columns : List ColumnDef) (p q : ℕ) → q ≡ at + p → p < length columns → slice_get (fields_held held at columns) p ≡ Some (found held q)
held_at held at [] p q e within = absurd (omega arith)
held_at held at (column ∷ columns) zero q e within = let same : at ≡ q = omega arith in ap (λ (n : ℕ). some_value (found held n)) same
held_at held at (column ∷ columns) (suc p) q e within = held_at held (suc at) columns p q (omega arith) (omega arith)

all_held : (columns : List ColumnDef) (places : List ℕ) (held some_held : Held) → AllByRecursion (IsHeld columns places held) some_held → AreHeldIn (fields_held held 0 columns) some_held
all_held columns places held [] h = tt
all_held columns places held (x ∷ xs) h =
    let within = slice_get_within columns x.0 h.0.column h.0.its_column in
    (held_at held 0 columns x.0 x.0 (omega arith) within ∙ ap (λ (v : Value). some_value v) h.0.first, all_held columns places held xs h.1)

all_fields : (columns : List ColumnDef) (values : List Value) → length columns ≡ length values → ((p : ℕ) (column : ColumnDef) (v : Value) → slice_get columns p ≡ Some column → slice_get values p ≡ Some v → IsTaken column.ty v) → AreFields columns values
all_fields [] [] size taken = tt
all_fields [] (value ∷ values) size taken = absurd (omega arith)
all_fields (column ∷ columns) [] size taken = absurd (omega arith)
all_fields (column ∷ columns) (value ∷ values) size taken =
    let first = taken 0 column value refl refl in
    (record { is_value = first.is_value; as_it_is = first.as_it_is }, all_fields columns values (omega arith) (λ p c v s w. taken (suc p) c v s w))

-- ---- an entry

pub record RowTaken (def : TableDef) (places key value : List ℕ) (row : Row) : Type 0 where
  pub its_key : (number : ℕ) × (number < 2 ^ 32) × (key ≡ key_bytes_of number def places row)
  pub its_value : value ≡ hidden_bytes row.stamp ++ parts_unpack def.columns row.fields places
  pub fields : AreFields def.columns row.fields
  pub hidden_number : IsWanted (is_hidden def) row.hidden
  pub stamp : IsWanted (has_ttl def) row.stamp

row_taken : (def : TableDef) (places key value body : List ℕ) (number : Option ℕ) (row : Row) → AreDistinct places → CoversAll def places → AreBytes key → AreBytes value → key_read (is_hidden def) def.columns places key ≡ Ok (body, number) → forms_read def places body number value ≡ Ok row → RowTaken def places key value row
row_taken def places key value body number row distinct covers are form front read =
    let columns = def.columns in
    let k = rows.key_takes (is_hidden def) columns places key body number are front in
    let s = rows.went (wanted_read (has_ttl def) value) (λ stamp. parts_full columns places body stamp.1 >>= (λ held. ended (record { hidden = number; stamp = stamp.0; fields = fields_held held.0 0 columns }) held.1)) row read in
    let h = rows.went (parts_full columns places body s.0.1) (λ held. ended (record { hidden = number; stamp = s.0.0; fields = fields_held held.0 0 columns }) held.1) row s.2 in
    let values = fields_held h.0.0 0 columns in
    let mine : Row = record { hidden = number; stamp = s.0.0; fields = values } in
    let e = rows.end_takes mine row h.0.1 h.2 in
    let stamp = rows.wanted_takes (has_ttl def) value s.0.0 s.0.1 form s.1 in
    let body_bytes = bytes_behind key (to_be_bytes w32 k.index) body are k.whole in
    let form_bytes = bytes_behind value (hidden_bytes s.0.0) s.0.1 form stamp.0 in
    let held = all_held columns places h.0.0 h.0.0 (are_held columns places body s.0.1 h.0.1 h.0.0 h.1 distinct) in
    let parts = parts_take columns values places body k.after s.0.1 h.0.1 h.0.0 body_bytes form_bytes k.columns_kept h.1 held in
    let last = rows.wanted_takes (is_hidden def) k.after number [] (bytes_behind body (parts_bytes columns values places) k.after body_bytes parts.of_key) k.last in
    let end : k.after ≡ hidden_bytes number = last.0 ∙ append-nil (hidden_bytes number) in
    let whole : RowTaken def places key value mine = record {
      its_key = (k.index, k.small, k.whole ∙ ap (λ (l : List ℕ). to_be_bytes w32 k.index ++ l) (parts.of_key ∙ ap (λ (l : List ℕ). parts_bytes columns values places ++ l) end) ∙ sym (append_assoc (to_be_bytes w32 k.index) (parts_bytes columns values places) (hidden_bytes number)));
      its_value = stamp.0 ∙ ap (λ (l : List ℕ). hidden_bytes s.0.0 ++ l) (parts.of_unpack ∙ ap (λ (l : List ℕ). parts_unpack columns values places ++ l) e.0 ∙ append-nil (parts_unpack columns values places));
      fields = all_fields columns values (sym (held_size h.0.0 0 columns)) (λ p c v s w. rows.taken_of (slice_get columns p) (slice_get values p) c v s w (rows.all_at (λ n. TakesPart (slice_get columns n) (slice_get values n)) places p parts.takes (covers p c s)));
      hidden_number = last.1;
      stamp = stamp.1;
    } in
    subst (RowTaken def places key value) e.1 whole

covering_takes : (def : TableDef) (i : ℕ) → AreDistinct (entry_places def (suc i)) → CoversAll def (entry_places def (suc i)) → OnlyEntriesAreRead def (suc i)
covering_takes def i distinct covers = λ key value row are form read.
    let places = entry_places def (suc i) in
    let k = rows.went (further (length value) (key_read (is_hidden def) def.columns places key)) (λ front. forms_read def places front.0 front.1 value >>= stamped def (length value)) row read in
    let r = rows.went (forms_read def places k.0.0 k.0.1 value) (stamped def (length value)) row k.2 in
    let test = rows.tried_stamp (is_stamp_of def.ttl r.0) (length value) r.0 row r.2 in
    let taken = row_taken def places key value k.0.0 k.0.1 r.0 distinct covers are form (rows.further_takes (length value) (key_read (is_hidden def) def.columns places key) k.0 k.1) r.1 in
    let whole : WasEntry def (suc i) key value r.0 = record {
      is_row = record { fields = taken.fields; hidden_number = taken.hidden_number; stamp = taken.stamp; stamp_column = rows.stamp_takes def.ttl r.0 test.0 };
      its_key = taken.its_key;
      its_value = taken.its_value;
    } in
    subst (WasEntry def (suc i) key value) test.1 whole

pub entry_takes : (def : TableDef) (index : ℕ) → HasColumns def index → IsCovering def index → OnlyEntriesAreRead def index
entry_takes def zero sound covers = λ key value row are form read.
    let was = rows.row_takes def sound key value row are form read in
    record { is_row = was.is_row; its_key = was.its_key; its_value = was.its_value }
entry_takes def (suc i) sound covers = covering_takes def i sound covers
