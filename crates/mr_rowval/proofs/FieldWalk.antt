-- Going over the columns that stand behind the unpack data.
use Rattle.std.proofs.Common.{◌≡◌, ℕ, suc, ◌+◌, ◌<◌, List, [], ◌∷◌, ◌++◌, length, drop, get_or, refl, sym, ap, ◌∙◌, arith, add-one, Bool, true, false, Some, Result, Ok, Err}
use Rattle.std.proofs.lemmas.List.{drop_more, append_assoc, length-append}
use Rattle.std.proofs.lemmas.Option.{slice_get-get_or}
use Rattle.mr_types.specs.declared.kind.Kind.{Kind}
use Rattle.mr_types.specs.declared.definition.ColumnDef.{ColumnDef}
use Rattle.mr_types.specs.declared.value.Value.{Value}
use Rattle.mr_types.specs.declared.value.Value.TheVariants.{Null}
use Rattle.mr_types.specs.Refusals.{◌>>=◌}
use Rattle.mr_memcmp.specs.Reading.{ReadValue}
use Rattle.mr_rowval.specs.declared.nulls.Bits.{Bits}
use Rattle.mr_rowval.specs.NullBits.{nullable_count, one_more_if}
use Rattle.mr_rowval.specs.Plain.{plain_read}
use Rattle.mr_rowval.specs.KeyParts.{Held, is_in, found, behind}
use Rattle.mr_rowval.specs.RowValue.{ReadFields, first_flag, later_flags, field_read, and_value, fields_read}
use Rattle.mr_rowval.specs.Walking.{bits_read, kind_of_column, kind_at, value_at, and_values}
use Rattle.mr_rowval.proofs.Loops.{nullable_step}

-- the columns before a place were read
abbrev pub UpTo : List ColumnDef → List ℕ → ℕ → List Bool → List ℕ → Held → List ℕ → Bits → List ℕ → Type 0
UpTo columns places at flags bytes held after bits rest =
    (front : List Value) × (later : List Bool) × (length front ≡ at) × (bits_read (nullable_count (drop at columns)) bits ≡ Some (later, after))
    × (fields_read places held 0 columns flags bytes ≡ and_values front (fields_read places held at (drop at columns) later rest))

-- what a column's flag is, and the bits behind it
abbrev pub FlagOf : Bool → Bits → Bool → Bits → Type 0
FlagOf nullable bits is_null next = (n : ℕ) (flags : List Bool) (after : List ℕ) → bits_read (one_more_if nullable n) bits ≡ Some (flags, after) → (is_null ≡ first_flag nullable flags) × (bits_read n next ≡ Some (later_flags nullable flags, after))

abbrev value_ok : Value → List ℕ → ReadValue
value_ok value rest = Ok (value, rest)

abbrev pub fields_ok : List Value → List ℕ → ReadFields
fields_ok values rest = Ok (values, rest)

same_rest : (a b : List ℕ) → let x : Result (List ℕ) ℕ = Ok a in let y : Result (List ℕ) ℕ = Ok b in x ≡ y → a ≡ b
same_rest a b e = cc

same_left : (a b : ℕ) → let x : Result (List ℕ) ℕ = Err a in let y : Result (List ℕ) ℕ = Err b in x ≡ y → a ≡ b
same_left a b e = cc

behind_ok : (r : ReadValue) (rest : List ℕ) → behind r ≡ Ok rest → (w : Value) × (r ≡ value_ok w rest)
behind_ok (Ok x) rest e = (x.0, ap (value_ok x.0) (same_rest x.1 rest e))
behind_ok (Err left) rest e = absurd cc

behind_err : (r : ReadValue) (left : ℕ) → behind r ≡ Err left → r ≡ Err left
behind_err (Ok x) left e = absurd cc
behind_err (Err m) left e = let same = same_left m left e in ap (λ (n : ℕ). let r : ReadValue = Err n in r) same

and_more : (front : List Value) (w : Value) (r : ReadFields) → and_values front (and_value w r) ≡ and_values (front ++ w ∷ []) r
and_more front w (Ok x) = ap (λ (l : List Value). fields_ok l x.1) (sym (append_assoc front (w ∷ []) x.0))
and_more front w (Err left) = refl

-- what reading does at a column
at_column : (columns : List ColumnDef) (places : List ℕ) (held : Held) (at : ℕ) (later : List Bool) (rest : List ℕ) (column : ColumnDef) → at < length columns → column ≡ get_or columns at column
    → fields_read places held at (drop at columns) later rest ≡ (field_read (is_in places at) (first_flag column.ty.nullable later) (found held at) column.ty.kind rest >>= (λ x. and_value x.0 (fields_read places held (at + 1) (drop (at + 1) columns) (later_flags column.ty.nullable later) x.1)))
at_column columns places held at later rest column within is =
    ap (λ (l : List ColumnDef). fields_read places held at l later rest) (drop_more columns at column within)
    ∙ ap (λ (c : ColumnDef). field_read (is_in places at) (first_flag c.ty.nullable later) (found held at) c.ty.kind rest >>= (λ x. and_value x.0 (fields_read places held (suc at) (drop (at + 1) columns) (later_flags c.ty.nullable later) x.1))) (sym is)
    ∙ ap (λ (n : ℕ). field_read (is_in places at) (first_flag column.ty.nullable later) (found held at) column.ty.kind rest >>= (λ x. and_value x.0 (fields_read places held n (drop (at + 1) columns) (later_flags column.ty.nullable later) x.1))) (sym (add-one at))

-- the flag of the column that comes next
its_flag : (columns : List ColumnDef) (at : ℕ) (bits next : Bits) (later : List Bool) (after : List ℕ) (column : ColumnDef) (is_null : Bool) → at < length columns → column ≡ get_or columns at column → FlagOf column.ty.nullable bits is_null next → bits_read (nullable_count (drop at columns)) bits ≡ Some (later, after)
    → (is_null ≡ first_flag column.ty.nullable later) × (bits_read (nullable_count (drop (at + 1) columns)) next ≡ Some (later_flags column.ty.nullable later, after))
its_flag columns at bits next later after column is_null within is flag e =
    flag (nullable_count (drop (at + 1) columns)) later after (ap (λ (n : ℕ). bits_read n bits) (sym (nullable_step columns at column within is)) ∙ e)

pub walk_on : (columns : List ColumnDef) (places : List ℕ) (at : ℕ) (flags : List Bool) (bytes : List ℕ) (held : Held) (after : List ℕ) (bits next : Bits) (rest left : List ℕ) (column : ColumnDef) (is_null : Bool) → at < length columns → column ≡ get_or columns at column
    → UpTo columns places at flags bytes held after bits rest → FlagOf column.ty.nullable bits is_null next → behind (field_read (is_in places at) is_null (found held at) column.ty.kind rest) ≡ Ok left → UpTo columns places (at + 1) flags bytes held after next left
walk_on columns places at flags bytes held after bits next rest left column is_null within is up flag read =
    let front = up.0 in
    let later = up.1 in
    let its = its_flag columns at bits next later after column is_null within is flag up.3 in
    let there = behind_ok (field_read (is_in places at) (first_flag column.ty.nullable later) (found held at) column.ty.kind rest) left (ap (λ (b : Bool). behind (field_read (is_in places at) b (found held at) column.ty.kind rest)) (sym its.0) ∙ read) in
    let more = fields_read places held (at + 1) (drop (at + 1) columns) (later_flags column.ty.nullable later) left in
    let here : fields_read places held at (drop at columns) later rest ≡ and_value there.0 more = at_column columns places held at later rest column within is ∙ ap (λ (r : ReadValue). r >>= (λ x. and_value x.0 (fields_read places held (at + 1) (drop (at + 1) columns) (later_flags column.ty.nullable later) x.1))) there.1 in
    (front ++ there.0 ∷ [], later_flags column.ty.nullable later, omega (arith, length-append front (there.0 ∷ []), up.2), its.1, up.4 ∙ ap (and_values front) here ∙ and_more front there.0 more)

pub walk_stops : (columns : List ColumnDef) (places : List ℕ) (at : ℕ) (flags : List Bool) (bytes : List ℕ) (held : Held) (after : List ℕ) (bits next : Bits) (rest : List ℕ) (left : ℕ) (column : ColumnDef) (is_null : Bool) → at < length columns → column ≡ get_or columns at column
    → UpTo columns places at flags bytes held after bits rest → FlagOf column.ty.nullable bits is_null next → behind (field_read (is_in places at) is_null (found held at) column.ty.kind rest) ≡ Err left → fields_read places held 0 columns flags bytes ≡ Err left
walk_stops columns places at flags bytes held after bits next rest left column is_null within is up flag read =
    let later = up.1 in
    let its = its_flag columns at bits next later after column is_null within is flag up.3 in
    let there = behind_err (field_read (is_in places at) (first_flag column.ty.nullable later) (found held at) column.ty.kind rest) left (ap (λ (b : Bool). behind (field_read (is_in places at) b (found held at) column.ty.kind rest)) (sym its.0) ∙ read) in
    let here : fields_read places held at (drop at columns) later rest ≡ Err left = at_column columns places held at later rest column within is ∙ ap (λ (r : ReadValue). r >>= (λ x. and_value x.0 (fields_read places held (at + 1) (drop (at + 1) columns) (later_flags column.ty.nullable later) x.1))) there in
    up.4 ∙ ap (and_values up.0) here

-- ---- the value of a column

same_fields : (x y : List Value × List ℕ) → let a : ReadFields = Ok x in let b : ReadFields = Ok y in a ≡ b → x ≡ y
same_fields x y e = cc

values_parts : (front : List Value) (r : ReadFields) (fields : List Value) (rest : List ℕ) → and_values front r ≡ fields_ok fields rest → (more : List Value) × (r ≡ fields_ok more rest) × (front ++ more ≡ fields)
values_parts front (Ok x) fields rest e =
    let same = same_fields (front ++ x.0, x.1) (fields, rest) e in
    (x.0, ap (λ (y : List Value × List ℕ). fields_ok x.0 y.1) same, ap (λ (y : List Value × List ℕ). y.0) same)
values_parts front (Err left) fields rest e = absurd cc

pub value_parts : (w : Value) (r : ReadFields) (fields : List Value) (rest : List ℕ) → and_value w r ≡ fields_ok fields rest → (more : List Value) × (r ≡ fields_ok more rest) × (w ∷ more ≡ fields)
value_parts w (Ok x) fields rest e =
    let same = same_fields (w ∷ x.0, x.1) (fields, rest) e in
    (x.0, ap (λ (y : List Value × List ℕ). fields_ok x.0 y.1) same, ap (λ (y : List Value × List ℕ). y.0) same)
value_parts w (Err left) fields rest e = absurd cc

pub bound : (r : ReadValue) (f : Value × List ℕ → ReadFields) (fields : List Value) (rest : List ℕ) → (r >>= f) ≡ fields_ok fields rest → (x : Value × List ℕ) × (r ≡ Ok x) × (f x ≡ fields_ok fields rest)
bound (Ok x) f fields rest e = (x, refl, e)
bound (Err left) f fields rest e = absurd cc

value_behind : (front : List Value) (w : Value) (more : List Value) → value_at (front ++ w ∷ more) (length front) ≡ w
value_behind [] w more = refl
value_behind (v ∷ front) w more = value_behind front w more

-- what reading does at the column
pub value_read : (columns : List ColumnDef) (places : List ℕ) (at : ℕ) (flags : List Bool) (bytes : List ℕ) (held : Held) (after : List ℕ) (bits next : Bits) (rest : List ℕ) (column : ColumnDef) (is_null : Bool) (fields : List Value) (end : List ℕ) → at < length columns → column ≡ get_or columns at column
    → UpTo columns places at flags bytes held after bits rest → FlagOf column.ty.nullable bits is_null next → fields_read places held 0 columns flags bytes ≡ fields_ok fields end
    → (x : Value × List ℕ) × (field_read (is_in places at) is_null (found held at) column.ty.kind rest ≡ Ok x) × (x.0 ≡ value_at fields at)
value_read columns places at flags bytes held after bits next rest column is_null fields end within is up flag read =
    let front = up.0 in
    let later = up.1 in
    let its = its_flag columns at bits next later after column is_null within is flag up.3 in
    let parts = values_parts front (fields_read places held at (drop at columns) later rest) fields end (sym up.4 ∙ read) in
    let here = bound (field_read (is_in places at) (first_flag column.ty.nullable later) (found held at) column.ty.kind rest) (λ x. and_value x.0 (fields_read places held (at + 1) (drop (at + 1) columns) (later_flags column.ty.nullable later) x.1)) parts.0 end (sym (at_column columns places held at later rest column within is) ∙ parts.1) in
    let x = here.0 in
    let first = value_parts x.0 (fields_read places held (at + 1) (drop (at + 1) columns) (later_flags column.ty.nullable later) x.1) parts.0 end here.2 in
    let same : front ++ x.0 ∷ first.0 ≡ fields = ap (λ (l : List Value). front ++ l) first.2 ∙ parts.2 in (
      x,
      ap (λ (b : Bool). field_read (is_in places at) b (found held at) column.ty.kind rest) its.0 ∙ here.1,
      sym (value_behind front x.0 first.0) ∙ ap (λ (l : List Value). value_at l (length front)) same ∙ ap (value_at fields) up.2,
    )

-- the value that reading gives the column
pub value_there : (columns : List ColumnDef) (places : List ℕ) (at : ℕ) (flags : List Bool) (bytes : List ℕ) (held : Held) (after : List ℕ) (bits next : Bits) (rest : List ℕ) (column : ColumnDef) (is_null : Bool) (fields : List Value) (end : List ℕ) → at < length columns → column ≡ get_or columns at column
    → UpTo columns places at flags bytes held after bits rest → FlagOf column.ty.nullable bits is_null next → fields_read places held 0 columns flags bytes ≡ fields_ok fields end → is_in places at ≡ false
    → (x : Value × List ℕ) × (field_read false is_null (found held at) column.ty.kind rest ≡ Ok x) × (x.0 ≡ value_at fields at)
value_there columns places at flags bytes held after bits next rest column is_null fields end within is up flag read out =
    let there = value_read columns places at flags bytes held after bits next rest column is_null fields end within is up flag read in
    (there.0, ap (λ (b : Bool). field_read b is_null (found held at) column.ty.kind rest) (sym out) ∙ there.1, there.2)

pub its_kind : (columns : List ColumnDef) (at : ℕ) (column : ColumnDef) → at < length columns → column ≡ get_or columns at column → kind_at columns at ≡ column.ty.kind
its_kind columns at column within is = ap kind_of_column (slice_get-get_or columns at column within) ∙ ap (λ (c : ColumnDef). c.ty.kind) (sym is)

pub and_none : (r : ReadFields) → r ≡ and_values [] r
and_none (Ok x) = refl
and_none (Err left) = refl

same_value : (x y : Value × List ℕ) → let a : ReadValue = Ok x in let b : ReadValue = Ok y in a ≡ b → x ≡ y
same_value x y e = cc

pub null_there : (held : Value) (kind : Kind) (rest : List ℕ) (x : Value × List ℕ) (is_null : Bool) → is_null ≡ true → field_read false is_null held kind rest ≡ Ok x → Null ≡ x.0
null_there held kind rest x true is e = ap (λ (y : Value × List ℕ). y.0) (same_value (Null, rest) x e)
null_there held kind rest x false is e = absurd cc

pub plain_there : (held : Value) (kind : Kind) (rest : List ℕ) (v : Value) (after : List ℕ) (x : Value × List ℕ) (is_null : Bool) → is_null ≡ false → field_read false is_null held kind rest ≡ Ok x → plain_read kind rest ≡ Ok (v, after) → v ≡ x.0
plain_there held kind rest v after x true is e read = absurd cc
plain_there held kind rest v after x false is e read = ap (λ (y : Value × List ℕ). y.0) (same_value (v, after) x (sym read ∙ e))

pub err_there : (held : Value) (kind : Kind) (rest : List ℕ) (left : ℕ) (x : Value × List ℕ) (is_null : Bool) → is_null ≡ false → field_read false is_null held kind rest ≡ Ok x → plain_read kind rest ≡ Err left → ⊥
err_there held kind rest left x true is e read = absurd cc
err_there held kind rest left x false is e read = absurd cc
