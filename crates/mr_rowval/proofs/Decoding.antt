-- A row that was decoded part by part.
use Rattle.std.proofs.Common.{◌≡◌, ℕ, zero, suc, ◌+◌, ◌<◌, ◌≤◌, List, [], ◌∷◌, ◌++◌, length, refl, sym, ap, ◌∙◌, arith, Bool, true, false, Option, Some, None, Result, Ok, Err}
use Rattle.std.proofs.lemmas.List.{drop_all}
use Rattle.std.proofs.lemmas.Option.{slice_get_past}
use Rattle.mr_types.specs.declared.definition.ColumnDef.{ColumnDef}
use Rattle.mr_types.specs.declared.definition.TableDef.{TableDef}
use Rattle.mr_types.specs.declared.row.Row.{Row}
use Rattle.mr_types.specs.declared.value.Value.{Value}
use Rattle.mr_types.specs.declared.value.Value.TheVariants.{Null}
use Rattle.mr_types.specs.Refusals.{◌>>=◌}
use Rattle.mr_types.specs.Rows.{is_hidden}
use Rattle.mr_memcmp.specs.Reading.{ReadValue}
use Rattle.mr_rowval.specs.declared.nulls.Bits.{Bits}
use Rattle.mr_rowval.specs.NullBits.{Flags, nullable_count, flags_read}
use Rattle.mr_rowval.specs.KeyParts.{Held, is_in, found, ended, key_read, parts_full}
use Rattle.mr_rowval.specs.RowValue.{ReadFields, first_flag, later_flags, field_read, and_value, fields_read, flags_or, flags_at, fields_from, is_stamp_of, value_read, stamped, further, row_read}
use Rattle.mr_rowval.specs.Walking.{behind_of, flags_of, held_of, values_of, and_values, value_or_null, value_at}
use Rattle.mr_rowval.specs.Decoded.{flags_in, held_in, fields_in, IsDecoded}
use Rattle.mr_rowval.proofs.FieldWalk.{UpTo, value_parts, bound}

-- ---- the parts

abbrev rest_ok : List ℕ → Result (List ℕ) ℕ
rest_ok rest = Ok rest

same_rest : (a b : List ℕ) → rest_ok a ≡ rest_ok b → a ≡ b
same_rest a b e = cc

flags_were : (left : ℕ) (f : Flags) (rest : List ℕ) → behind_of (flags_or left f) ≡ rest_ok rest → f ≡ Some (flags_of f, rest)
flags_were left (Some x) rest e = ap (λ (l : List ℕ). let f : Flags = Some (x.0, l) in f) (same_rest x.1 rest e)
flags_were left None rest e = absurd cc

abbrev ReadHeld : Type 0
ReadHeld = Result (Held × List ℕ) ℕ

held_was : (r : ReadHeld) (rest : List ℕ) → behind_of r ≡ rest_ok rest → r ≡ Ok (held_of r, rest)
held_was (Ok x) rest e = ap (λ (l : List ℕ). let r : ReadHeld = Ok (x.0, l) in r) (same_rest x.1 rest e)
held_was (Err left) rest e = absurd cc

abbrev fields_ok : List Value → List ℕ → ReadFields
fields_ok values rest = Ok (values, rest)

values_were : (r : ReadFields) (values : List Value) (rest : List ℕ) → r ≡ fields_ok values rest → r ≡ fields_ok (values_of r) rest
values_were r values rest e = e ∙ ap (λ (l : List Value). fields_ok l rest) (sym (ap values_of e))

-- all columns were read
whole_fields : (columns : List ColumnDef) (places : List ℕ) (flags : List Bool) (bytes : List ℕ) (held : Held) (after : List ℕ) (bits : Bits) (rest : List ℕ) → UpTo columns places (length columns) flags bytes held after bits rest → fields_read places held 0 columns flags bytes ≡ fields_ok (values_of (fields_read places held 0 columns flags bytes)) rest
whole_fields columns places flags bytes held after bits rest up =
    let end = ap (λ (l : List ColumnDef). and_values up.0 (fields_read places held (length columns) l up.1 rest)) (drop_all (length columns) columns (omega arith)) in
    values_were (fields_read places held 0 columns flags bytes) (up.0 ++ []) rest (up.4 ∙ end)

-- what was found of each part
pub record Found (columns : List ColumnDef) (places key nulls unpack plain rest : List ℕ) : Type 0 where
  pub flags : flags_read (nullable_count columns) 0 0 nulls ≡ Some (flags_in columns nulls, unpack)
  pub held : parts_full columns places key unpack ≡ Ok (held_in columns places key unpack, plain)
  pub fields : fields_read places (held_in columns places key unpack) 0 columns (flags_in columns nulls) plain ≡ Ok (fields_in columns places key nulls unpack plain, rest)

pub found_all : (columns : List ColumnDef) (places key nulls unpack plain rest : List ℕ) (count : ℕ) (bits : Bits) → count ≡ nullable_count columns → behind_of (flags_at count nulls) ≡ Ok unpack → behind_of (parts_full columns places key unpack) ≡ Ok plain
    → ((held : Held) (flags : List Bool) (after : List ℕ) → flags_read (nullable_count columns) 0 0 nulls ≡ Some (flags, after) → UpTo columns places (length columns) flags plain held after bits rest) → Found columns places key nulls unpack plain rest
found_all columns places key nulls unpack plain rest count bits is f h r =
    let flags = flags_were (length nulls) (flags_read (nullable_count columns) 0 0 nulls) unpack (ap (λ (n : ℕ). behind_of (flags_at n nulls)) (sym is) ∙ f) in
    let held = held_was (parts_full columns places key unpack) plain h in
    record { flags = flags; held = held; fields = whole_fields columns places (flags_in columns nulls) plain (held_in columns places key unpack) unpack bits rest (r (held_in columns places key unpack) (flags_in columns nulls) unpack flags) }

pub from_parts : (columns : List ColumnDef) (places key nulls unpack plain : List ℕ) (r : ReadFields) → flags_read (nullable_count columns) 0 0 nulls ≡ Some (flags_in columns nulls, unpack) → parts_full columns places key unpack ≡ Ok (held_in columns places key unpack, plain)
    → fields_read places (held_in columns places key unpack) 0 columns (flags_in columns nulls) plain ≡ r → fields_from columns places key nulls ≡ (r >>= (λ x. ended x.0 x.1))
from_parts columns places key nulls unpack plain r f h e =
    ap (λ (x : Flags). flags_or (length nulls) x >>= (λ flags. parts_full columns places key flags.1 >>= (λ held. fields_read places held.0 0 columns flags.0 held.1 >>= (λ fields. ended fields.0 fields.1)))) f
    ∙ ap (λ (x : ReadHeld). x >>= (λ held. fields_read places held.0 0 columns (flags_in columns nulls) held.1 >>= (λ fields. ended fields.0 fields.1))) h
    ∙ ap (λ (x : ReadFields). x >>= (λ fields. ended fields.0 fields.1)) e

more_left : (values : List Value) (rest : List ℕ) → 0 < length rest → ended values rest ≡ Err (length rest)
more_left values [] some = absurd (omega arith)
more_left values (b ∷ rest) some = refl

pub found_more : (columns : List ColumnDef) (places key nulls unpack plain rest : List ℕ) → Found columns places key nulls unpack plain rest → 0 < length rest → fields_from columns places key nulls ≡ Err (length rest)
found_more columns places key nulls unpack plain rest all some = from_parts columns places key nulls unpack plain (fields_ok (fields_in columns places key nulls unpack plain) rest) all.flags all.held all.fields ∙ more_left (fields_in columns places key nulls unpack plain) rest some

none_left : (rest : List ℕ) → length rest ≤ 0 → rest ≡ []
none_left [] none = refl
none_left (b ∷ rest) none = absurd (omega arith)

pub found_end : (columns : List ColumnDef) (places key nulls unpack plain rest : List ℕ) → Found columns places key nulls unpack plain rest → length rest ≤ 0 → IsDecoded columns places key nulls unpack plain
found_end columns places key nulls unpack plain rest all none = record { flags = all.flags; held = all.held; fields = all.fields ∙ ap (λ (l : List ℕ). fields_ok (fields_in columns places key nulls unpack plain) l) (none_left rest none) }

-- ---- a field of the row

pub sizes : (places : List ℕ) (held : Held) (at : ℕ) (columns : List ColumnDef) (flags : List Bool) (bytes : List ℕ) (fields : List Value) (rest : List ℕ) → fields_read places held at columns flags bytes ≡ fields_ok fields rest → length fields ≡ length columns
sizes places held at [] flags bytes fields rest e = ap (λ (r : ReadFields). length (values_of r)) (sym e)
sizes places held at (column ∷ columns) flags bytes fields rest e =
    let here = bound (field_read (is_in places at) (first_flag column.ty.nullable flags) (found held at) column.ty.kind bytes) (λ x. and_value x.0 (fields_read places held (suc at) columns (later_flags column.ty.nullable flags) x.1)) fields rest e in
    let parts = value_parts here.0.0 (fields_read places held (suc at) columns (later_flags column.ty.nullable flags) here.0.1) fields rest here.2 in
    let more = sizes places held (suc at) columns (later_flags column.ty.nullable flags) here.0.1 parts.0 rest parts.1 in
    ap (λ (l : List Value). length l) (sym parts.2) ∙ ap suc more

pub past_end : (fields : List Value) (place : ℕ) → length fields ≤ place → Null ≡ value_at fields place
past_end fields place past = sym (ap value_or_null (slice_get_past fields place past))

same_value : (x y : Value × List ℕ) → let a : ReadValue = Ok x in let b : ReadValue = Ok y in a ≡ b → x ≡ y
same_value x y e = cc

held_here : (in_key is_null : Bool) (held : Value) (column : ColumnDef) (bytes : List ℕ) (x : Value × List ℕ) → in_key ≡ true → field_read in_key is_null held column.ty.kind bytes ≡ Ok x → x.0 ≡ held
held_here true is_null held column bytes x is e = sym (ap (λ (y : Value × List ℕ). y.0) (same_value (held, bytes) x e))
held_here false is_null held column bytes x is e = absurd cc

pub in_key : (places : List ℕ) (held : Held) (at : ℕ) (columns : List ColumnDef) (flags : List Bool) (bytes : List ℕ) (fields : List Value) (rest : List ℕ) (p q : ℕ) → fields_read places held at columns flags bytes ≡ fields_ok fields rest → p < length columns → q ≡ at + p → is_in places q ≡ true → value_at fields p ≡ found held q
in_key places held at [] flags bytes fields rest p q e within is there = absurd (omega arith)
in_key places held at (column ∷ columns) flags bytes fields rest zero q e within is there =
    let here = bound (field_read (is_in places at) (first_flag column.ty.nullable flags) (found held at) column.ty.kind bytes) (λ x. and_value x.0 (fields_read places held (suc at) columns (later_flags column.ty.nullable flags) x.1)) fields rest e in
    let parts = value_parts here.0.0 (fields_read places held (suc at) columns (later_flags column.ty.nullable flags) here.0.1) fields rest here.2 in
    let same : q ≡ at = omega arith in
    let out : is_in places at ≡ true = ap (is_in places) (sym same) ∙ there in
    ap (λ (l : List Value). value_at l 0) (sym parts.2) ∙ held_here (is_in places at) (first_flag column.ty.nullable flags) (found held at) column bytes here.0 out here.1 ∙ ap (found held) (sym same)
in_key places held at (column ∷ columns) flags bytes fields rest (suc p) q e within is there =
    let here = bound (field_read (is_in places at) (first_flag column.ty.nullable flags) (found held at) column.ty.kind bytes) (λ x. and_value x.0 (fields_read places held (suc at) columns (later_flags column.ty.nullable flags) x.1)) fields rest e in
    let parts = value_parts here.0.0 (fields_read places held (suc at) columns (later_flags column.ty.nullable flags) here.0.1) fields rest here.2 in
    ap (λ (l : List Value). value_at l (suc p)) (sym parts.2) ∙ in_key places held (suc at) columns (later_flags column.ty.nullable flags) here.0.1 parts.0 rest p q parts.1 (omega arith) (omega arith) there

-- ---- the whole entry

abbrev ReadKey : Type 0
ReadKey = Result (List ℕ × Option ℕ) ℕ

pub key_offends : (def : TableDef) (key value : List ℕ) (left : ℕ) → key_read (is_hidden def) def.columns def.primary.columns key ≡ Err left → row_read def key value ≡ Err (left + length value)
unfolding row_read
key_offends def key value left e = ap (λ (r : ReadKey). further (length value) r >>= (λ front. value_read def front.0 front.1 value >>= stamped def (length value))) e

pub key_is_read : (def : TableDef) (key value body : List ℕ) (hidden : Option ℕ) → key_read (is_hidden def) def.columns def.primary.columns key ≡ Ok (body, hidden) → row_read def key value ≡ (value_read def body hidden value >>= stamped def (length value))
unfolding row_read
key_is_read def key value body hidden e = ap (λ (r : ReadKey). further (length value) r >>= (λ front. value_read def front.0 front.1 value >>= stamped def (length value))) e

abbrev pub ReadRow : Type 0
ReadRow = Result Row ℕ

pub then_stamped : (def : TableDef) (left : ℕ) (r s : ReadRow) → r ≡ s → (r >>= stamped def left) ≡ (s >>= stamped def left)
then_stamped def left r s e = ap (λ (x : ReadRow). x >>= stamped def left) e

pub key_args : (def : TableDef) (hidden : Bool) (columns : List ColumnDef) (places key : List ℕ) (r : ReadKey) → hidden ≡ is_hidden def → columns ≡ def.columns → places ≡ def.primary.columns → key_read hidden columns places key ≡ r → key_read (is_hidden def) def.columns def.primary.columns key ≡ r
key_args def hidden columns places key r h c p e =
    ap (λ (b : Bool). key_read b def.columns def.primary.columns key) (sym h) ∙ ap (λ (l : List ColumnDef). key_read hidden l def.primary.columns key) (sym c) ∙ ap (λ (l : List ℕ). key_read hidden columns l key) (sym p) ∙ e

-- the stamp of a row that was read otherwise
pub stamp_passes : (def its : TableDef) (left : ℕ) (row : Row) (passes : Bool) → its ≡ def → passes ≡ is_stamp_of its.ttl row → passes ≡ true → stamped def left row ≡ Ok row
stamp_passes def its left row passes same is right =
    let test : is_stamp_of def.ttl row ≡ true = ap (λ (d : TableDef). is_stamp_of d.ttl row) (sym same) ∙ sym is ∙ right in
    rw test refl

pub stamp_offends : (def its : TableDef) (left : ℕ) (row : Row) (passes : Bool) → its ≡ def → passes ≡ is_stamp_of its.ttl row → passes ≡ false → stamped def left row ≡ Err left
stamp_offends def its left row passes same is wrong =
    let test : is_stamp_of def.ttl row ≡ false = ap (λ (d : TableDef). is_stamp_of d.ttl row) (sym same) ∙ sym is ∙ wrong in
    rw test refl
