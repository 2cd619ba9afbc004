-- Rows that were decoded and copied.
use Rattle.std.proofs.Common.{◌≡◌, ℕ, ◌+◌, ◌<◌, List, [], ◌∷◌, ◌++◌, length, take, drop, sym, ap, ◌∙◌, add-one, Bool, Option, Result, Ok, Err}
use Rattle.std.proofs.lemmas.List.{take_more, drop_more}
use Rattle.std.proofs.lemmas.Option.{slice_get-get_or}
use Rattle.mr_types.specs.declared.definition.ColumnDef.{ColumnDef}
use Rattle.mr_types.specs.declared.definition.TableDef.{TableDef}
use Rattle.mr_types.specs.declared.row.Row.{Row}
use Rattle.mr_types.specs.declared.value.Value.{Value}
use Rattle.mr_types.specs.declared.value.Value.TheVariants.{Null}
use Rattle.mr_types.specs.Refusals.{◌>>=◌}
use Rattle.mr_types.specs.Rows.{is_hidden, has_ttl}
use Rattle.mr_rowval.specs.NullBits.{nullable_count}
use Rattle.mr_rowval.specs.KeyParts.{Held, found, wanted_read, ended, key_read, parts_full}
use Rattle.mr_rowval.specs.RowValue.{flags_at, fields_read, is_stamp_of, fields_from, value_read, stamped, further, row_read}
use Rattle.mr_rowval.specs.Walking.{value_or_null, value_at}
use Rattle.mr_rowval.proofs.Decoding.{sizes}
use Rattle.mr_rowval.proofs.EntryTakes.{went, end_takes, same_ok, tried_stamp}
use Rattle.mr_entry.specs.Entry.{fields_held, forms_read, covering_read}

-- a decoded row has a value for each column
from_size : (columns : List ColumnDef) (places key nulls : List ℕ) (values : List Value) → fields_from columns places key nulls ≡ Ok values → length values ≡ length columns
from_size columns places key nulls values read =
    let f = went (flags_at (nullable_count columns) nulls) (λ flags. parts_full columns places key flags.1 >>= (λ held. fields_read places held.0 0 columns flags.0 held.1 >>= (λ fields. ended fields.0 fields.1))) values read in
    let h = went (parts_full columns places key f.0.1) (λ held. fields_read places held.0 0 columns f.0.0 held.1 >>= (λ fields. ended fields.0 fields.1)) values f.2 in
    let v = went (fields_read places h.0.0 0 columns f.0.0 h.0.1) (λ fields. ended fields.0 fields.1) values h.2 in
    let e = end_takes v.0.0 values v.0.1 v.2 in
    ap (λ (l : List Value). length l) (sym e.1) ∙ sizes places h.0.0 0 columns f.0.0 h.0.1 v.0.0 v.0.1 v.1

value_size : (def : TableDef) (key : List ℕ) (hidden : Option ℕ) (value : List ℕ) (row : Row) → value_read def key hidden value ≡ Ok row → length row.fields ≡ length def.columns
value_size def key hidden value row read =
    let s = went (wanted_read (has_ttl def) value) (λ stamp. fields_from def.columns def.primary.columns key stamp.1 >>= (λ fields. Ok (record { hidden = hidden; stamp = stamp.0; fields = fields }))) row read in
    let f = went (fields_from def.columns def.primary.columns key s.0.1) (λ fields. Ok (record { hidden = hidden; stamp = s.0.0; fields = fields })) row s.2 in
    let mine : Row = record { hidden = hidden; stamp = s.0.0; fields = f.0 } in
    ap (λ (r : Row). length r.fields) (sym (same_ok mine row f.2)) ∙ from_size def.columns def.primary.columns key s.0.1 f.0 f.1

pub row_size : (def : TableDef) (key value : List ℕ) (row : Row) → row_read def key value ≡ Ok row → length row.fields ≡ length def.columns
unfolding row_read
row_size def key value row read =
    let k = went (further (length value) (key_read (is_hidden def) def.columns def.primary.columns key)) (λ front. value_read def front.0 front.1 value >>= stamped def (length value)) row read in
    let r = went (value_read def k.0.0 k.0.1 value) (stamped def (length value)) row k.2 in
    let test = tried_stamp (is_stamp_of def.ttl r.0) (length value) r.0 row r.2 in
    ap (λ (x : Row). length x.fields) (sym test.1) ∙ value_size def k.0.0 k.0.1 value r.0 r.1

pub copy_step : (values fields grown : List Value) (i : ℕ) (v : Value) → i < length values → fields ≡ take i values → grown ≡ fields ++ v ∷ [] → v ≡ value_at values i → grown ≡ take (i + 1) values
copy_step values fields grown i v within so_far grows is =
    let got = ap value_or_null (slice_get-get_or values i Null within) in
    grows ∙ ap (λ (l : List Value). l ++ v ∷ []) so_far ∙ ap (λ (x : Value). take i values ++ x ∷ []) (is ∙ got) ∙ sym (take_more values i Null within)

pub held_step : (held : Held) (at : ℕ) (columns : List ColumnDef) (column : ColumnDef) → at < length columns → fields_held held at (drop at columns) ≡ found held at ∷ fields_held held (at + 1) (drop (at + 1) columns)
held_step held at columns column within = ap (fields_held held at) (drop_more columns at column within) ∙ ap (λ (n : ℕ). found held at ∷ fields_held held n (drop (at + 1) columns)) (sym (add-one at))

-- ---- the entry of a secondary key

abbrev pub ReadKey : Type 0
ReadKey = Result (List ℕ × Option ℕ) ℕ

pub key_offends : (def : TableDef) (places key value : List ℕ) (left : ℕ) → key_read (is_hidden def) def.columns places key ≡ Err left → covering_read def places key value ≡ Err (left + length value)
key_offends def places key value left e = ap (λ (r : ReadKey). further (length value) r >>= (λ front. forms_read def places front.0 front.1 value >>= stamped def (length value))) e

pub key_is_read : (def : TableDef) (places key value body : List ℕ) (hidden : Option ℕ) → key_read (is_hidden def) def.columns places key ≡ Ok (body, hidden) → covering_read def places key value ≡ (forms_read def places body hidden value >>= stamped def (length value))
key_is_read def places key value body hidden e = ap (λ (r : ReadKey). further (length value) r >>= (λ front. forms_read def places front.0 front.1 value >>= stamped def (length value))) e

pub key_args : (def : TableDef) (hidden : Bool) (columns : List ColumnDef) (places key : List ℕ) (r : ReadKey) → hidden ≡ is_hidden def → columns ≡ def.columns → key_read hidden columns places key ≡ r → key_read (is_hidden def) def.columns places key ≡ r
key_args def hidden columns places key r h c e = ap (λ (b : Bool). key_read b def.columns places key) (sym h) ∙ ap (λ (l : List ColumnDef). key_read hidden l places key) (sym c) ∙ e
