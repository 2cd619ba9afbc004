-- Rows of a table have a form as bytes.
use Rattle.std.proofs.Common.{◌≡◌, ℕ, suc, subst, List, [], ◌∷◌, length, refl, ap, sym, ◌∙◌, arith, Bool, true, false, cond, Option, Some, None, Result, Ok, Err, IfOk}
use Rattle.std.specs.Prelude.{not, ⊤, ◌&&◌, nat_lt, ℤ, drop, take}
use Rattle.std.specs.List.{list_all, AllByRecursion}
use Rattle.std.proofs.lemmas.Bool.{lt-ltb}
use Rattle.mr_lanes.specs.Kernels.{is_low, is_space}
use Rattle.mr_pieces.specs.Order.{IsAscii}
use Rattle.mr_types.specs.declared.value.Value.{Value}
use Rattle.mr_types.specs.declared.value.Value.TheVariants.{Null, Number, Text, Bytes}
use Rattle.mr_types.specs.declared.kind.Kind.{Kind}
use Rattle.mr_types.specs.declared.definition.ColumnDef.{ColumnDef}
use Rattle.mr_types.specs.declared.definition.TableDef.{TableDef}
use Rattle.mr_types.specs.declared.row.Row.{Row}
use Rattle.mr_types.specs.Refusals.{◌>>=◌, ◌>>◌, refuse_where, some_or}
use Rattle.mr_types.specs.Rows.{IsValue, IsFieldOf, AreFields, IsWanted, IsRowOf}
use Rattle.mr_types.specs.Values.{Sort, Numbers, Texts, Binaries, sort_of, converted, convert_to, is_in_kind, length_of_kind, fitted, is_null, assign_to, whole_number}
use Rattle.mr_fields.specs.Fitting.{ValueFits, GivenFits, RowFits}
use Rattle.mr_schema.specs.DefinitionFitting.{KindFits, ColumnFits, DefinitionFits}
use Rattle.mr_schema.proofs.CheckedColumns.{then_if, after, IsOfSort, fitted_fits}

-- a value of the sort, whatever it says
abbrev IsSorted : Sort → Value → Type 0
IsSorted sort Null = ⊤
IsSorted Numbers (Number n) = ⊤
IsSorted Numbers (Text t) = ⊥
IsSorted Numbers (Bytes b) = ⊥
IsSorted Texts (Number n) = ⊥
IsSorted Texts (Text t) = ⊤
IsSorted Texts (Bytes b) = ⊥
IsSorted Binaries (Number n) = ⊥
IsSorted Binaries (Text t) = ⊥
IsSorted Binaries (Bytes b) = ⊤

number_sorted : (n : Option ℤ) → IfOk {E = ℕ} (some_or 1366 n >>= (λ n. Ok (Number n))) (IsSorted Numbers)
number_sorted None = tt
number_sorted (Some n) = tt

ascii_sorted : (b : List ℕ) (low : Bool) → IfOk {E = ℕ} (cond low (Ok (Text b)) (Err 1366)) (IsSorted Texts)
ascii_sorted b true = tt
ascii_sorted b false = tt

converted_sorted : (sort : Sort) (v : Value) → IfOk (converted sort v) (IsSorted sort)
converted_sorted Numbers Null = tt
converted_sorted Texts Null = tt
converted_sorted Binaries Null = tt
converted_sorted Numbers (Number n) = tt
converted_sorted Numbers (Text t) = number_sorted (whole_number t)
converted_sorted Numbers (Bytes b) = number_sorted (whole_number b)
converted_sorted Texts (Number n) = tt
converted_sorted Texts (Text t) = tt
converted_sorted Texts (Bytes b) = ascii_sorted b (list_all is_low b)
converted_sorted Binaries (Number n) = tt
converted_sorted Binaries (Text t) = tt
converted_sorted Binaries (Bytes b) = tt

other_text : (sort : Sort) (s t : List ℕ) → IsSorted sort (Text s) → IsSorted sort (Text t)
other_text Numbers s t is = is
other_text Texts s t is = is
other_text Binaries s t is = is

fitted_sorted : (kind : Kind) (v : Value) → IsSorted (sort_of kind) v → IfOk (fitted kind v) (IsSorted (sort_of kind))
fitted_sorted kind Null is = is
fitted_sorted kind (Number z) is = after (IsSorted (sort_of kind)) 1264 (not (is_in_kind kind z)) (Ok (Number z)) (λ e. is)
fitted_sorted kind (Text t) is = after (IsSorted (sort_of kind)) 1406 (not (list_all is_space (drop (length_of_kind kind) t))) (Ok (Text (take (length_of_kind kind) t))) (λ e. other_text (sort_of kind) t (take (length_of_kind kind) t) is)
fitted_sorted kind (Bytes b) is = after (IsSorted (sort_of kind)) 1406 (nat_lt (length_of_kind kind) (length b)) (Ok (Bytes b)) (λ e. is)

-- a value of its sort is converted to itself
unconverted : (sort : Sort) (v : Value) → IsSorted sort v → converted sort v ≡ Ok v
unconverted Numbers Null is = refl
unconverted Texts Null is = refl
unconverted Binaries Null is = refl
unconverted Numbers (Number n) is = refl
unconverted Numbers (Text t) is = absurd is
unconverted Numbers (Bytes b) is = absurd is
unconverted Texts (Number n) is = absurd is
unconverted Texts (Text t) is = refl
unconverted Texts (Bytes b) is = absurd is
unconverted Binaries (Number n) is = absurd is
unconverted Binaries (Text t) is = absurd is
unconverted Binaries (Bytes b) is = refl

ascii_low : (t : List ℕ) → IsAscii t → list_all is_low t ≡ true
ascii_low [] h = refl
ascii_low (b ∷ t) h = rw (lt-ltb b 128 h.0) (ascii_low t h.1)

sorted_well : (sort : Sort) (v : Value) → IsValue v → IsSorted sort v → IsOfSort sort v
sorted_well Numbers Null h is = tt
sorted_well Texts Null h is = tt
sorted_well Binaries Null h is = tt
sorted_well Numbers (Number n) h is = is
sorted_well Numbers (Text t) h is = is
sorted_well Numbers (Bytes b) h is = is
sorted_well Texts (Number n) h is = is
sorted_well Texts (Text t) h is = ascii_low t h
sorted_well Texts (Bytes b) h is = is
sorted_well Binaries (Number n) h is = is
sorted_well Binaries (Text t) h is = is
sorted_well Binaries (Bytes b) h is = is

of_answer : (P : Value → Type 0) (r : Result Value ℕ) (x : Value) → IfOk r P → r ≡ Ok x → P x
of_answer P r x h e = subst (λ (y : Result Value ℕ). IfOk y P) e h

field_fits : (column : ColumnDef) (v : Value) → KindFits column.ty.kind → IsFieldOf column v → ValueFits v
field_fits column v fits is =
    let kind = column.ty.kind in
    let refused = is_null v && not column.ty.nullable in
    let sorted = of_answer (IsSorted (sort_of kind)) (assign_to column.ty v) v
    (after (IsSorted (sort_of kind)) 1048 refused (convert_to kind v >>= fitted kind) (λ e.
    then_if (IsSorted (sort_of kind)) (IsSorted (sort_of kind)) (convert_to kind v) (fitted kind) (converted_sorted (sort_of kind) v) (λ c c_is. fitted_sorted kind c c_is))) is.as_it_is in
    let kept : refuse_where 1048 refused >> fitted kind v ≡ Ok v =
    sym (ap (λ (r : Result Value ℕ). refuse_where 1048 refused >> (r >>= fitted kind)) (unconverted (sort_of kind) v sorted)) ∙ is.as_it_is in
    of_answer ValueFits (refuse_where 1048 refused >> fitted kind v) v (after ValueFits 1048 refused (fitted kind v) (λ e. fitted_fits kind v fits (sorted_well (sort_of kind) v is.is_value sorted))) kept

fields_fit : (columns : List ColumnDef) (values : List Value) → AllByRecursion ColumnFits columns → AreFields columns values → AllByRecursion ValueFits values × (length values ≡ length columns)
fields_fit [] [] all are = (tt, refl)
fields_fit [] (v ∷ values) all are = absurd are
fields_fit (c ∷ columns) [] all are = absurd are
fields_fit (c ∷ columns) (v ∷ values) all are = let rest = fields_fit columns values all.1 are.1 in ((field_fits c v all.0.kind are.0, rest.0), ap (λ (n : ℕ). suc n) rest.1)

wanted_fits : (wanted : Bool) (n : Option ℕ) → IsWanted wanted n → GivenFits n
wanted_fits wanted None h = tt
wanted_fits true (Some n) h = h
wanted_fits false (Some n) h = absurd h

pub row_fits : (def : TableDef) (row : Row) → DefinitionFits def → IsRowOf def row → RowFits row
row_fits def row fits is =
    let fields = fields_fit def.columns row.fields fits.columns is.fields in
    record {
      hidden = wanted_fits _ row.hidden is.hidden_number;
      stamp = wanted_fits _ row.stamp is.stamp;
      count = omega (arith, fields.1, fits.column_count);
      fields = fields.0;
    }
