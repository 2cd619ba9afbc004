-- SET of an UPDATE: sums, assignments, and the refusals before the first row.
use Rattle.std.specs.Prelude.{ℕ, ℤ, pos, ◌^◌, ◌+ℤ◌, ◌*ℤ◌, neg_ℤ, Bool, true, false, not, ◌||◌, ◌&&◌, ◌==◌, if◌then◌else◌, List, [], ◌∷◌, length, map, is_none, unwrap_or, Result, Ok, ⊤, slice_get, slice_set}
use Rattle.std.specs.List.{list_any, list_all, zip}
use Rattle.std.specs.Option.{option_map_or, option_and_then}
use Rattle.mr_types.specs.declared.value.Value.{Value}
use Rattle.mr_types.specs.declared.value.Value.TheVariants.{Null, Number, Text, Bytes}
use Rattle.mr_types.specs.declared.definition.ColumnDef.{ColumnDef}
use Rattle.mr_types.specs.declared.definition.TableDef.{TableDef}
use Rattle.mr_types.specs.declared.row.Row.{Row}
use Rattle.mr_types.specs.declared.statement.Factor.{Factor}
use Rattle.mr_types.specs.declared.statement.Factor.TheVariants as factor
use Rattle.mr_types.specs.declared.statement.Term.{Term}
use Rattle.mr_types.specs.declared.statement.SetTo.{SetTo}
use Rattle.mr_types.specs.declared.statement.SetTo.TheVariants as to
use Rattle.mr_types.specs.declared.statement.SetItem.{SetItem}
use Rattle.mr_types.specs.Refusals.{◌>>=◌, ◌>>◌, refuse_where, some_or, in_turn}
use Rattle.mr_types.specs.Values.{assign_to, is_equal, in_range, is_numbers, sort_of, negated}
use Rattle.mr_spec.specs.Rows.{place_of, kind_at}
use Rattle.mr_spec.specs.NewRows.{stamp_for}
use Rattle.mr_spec.specs.Truth.{Where, known_columns, right_literals, is_unknown}

-- ---- sums

-- a result of arithmetic lies from -2^63 to 2^64 - 1, else 1690
abbrev pub ranged : ℤ → Result Value ℕ
ranged n = refuse_where 1690 (not (in_range (negated (2 ^ 63)) (pos (2 ^ 64)) n)) >> Ok (Number n)

-- two operands; NULL gives NULL
abbrev pub combined : (ℤ → ℤ → ℤ) → Value → Value → Result Value ℕ
combined f (Number m) (Number n) = ranged (f m n)
combined f _ _ = Ok Null

-- a column's value as assigned so far, or a literal
abbrev pub factor_in : TableDef → List Value → Factor → Value
factor_in def fields (factor.Column name) = unwrap_or (option_and_then (slice_get fields) (place_of def name)) Null
factor_in def fields (factor.Literal v) = v

-- the product of these factors, from left to right; a single one is as it is
abbrev pub product_of : TableDef → List Value → List Factor → Result Value ℕ
product_of def fields [] = Ok Null
product_of def fields (f ∷ fs) = in_turn (combined (λ m n. m *ℤ n)) (factor_in def fields f) (map (factor_in def fields) fs)

-- the sum so far, with one more product
abbrev pub with_term : TableDef → List Value → Value → Term → Result Value ℕ
with_term def fields sum t = do
  p ← product_of def fields t.factors
  combined (λ m n. if t.minus then m +ℤ neg_ℤ n else m +ℤ n) sum p

-- the sum of these products, from left to right; a single one is as it is
abbrev pub sum_of : TableDef → List Value → List Term → Result Value ℕ
sum_of def fields [] = Ok Null
sum_of def fields (t ∷ ts) = do
  first ← product_of def fields t.factors
  in_turn (with_term def fields) first ts

-- ---- assignments

-- what a column is set to: its default, or the sum
abbrev pub set_value : TableDef → ColumnDef → List Value → SetTo → Result Value ℕ
set_value def c fields to.Default = Ok (unwrap_or c.default Null)
set_value def c fields (to.Sum terms) = sum_of def fields terms

-- the fields with one more assignment, which sees those before it
abbrev pub with_item : TableDef → List Value → SetItem → Result (List Value) ℕ
with_item def fields s = do
  i ← some_or 1054 (place_of def s.column)
  c ← some_or 1054 (slice_get def.columns i)
  v ← set_value def c fields s.to
  a ← assign_to c.ty v
  Ok (slice_set fields i a)

-- the same fields, byte for byte
abbrev pub same_fields : List Value → List Value → Bool
same_fields old new = list_all (λ p. is_equal p.0 p.1) (zip old new)

-- the old row with new fields; without a TTL column it keeps its stamp
abbrev pub updated_row : TableDef → Row → List Value → Row
updated_row def old fields = record old { stamp = stamp_for def.ttl (unwrap_or old.stamp 0) fields; fields = fields }

-- ---- the refusals before the first row

-- one factor alone
abbrev pub is_single : List Term → Bool
is_single [] = true
is_single (t ∷ []) = length t.factors == 1
is_single (t ∷ u ∷ ts) = false

-- a literal of text or bytes
abbrev pub is_text : Value → Bool
is_text Null = false
is_text (Number n) = false
is_text (Text t) = true
is_text (Bytes b) = true

-- a column or literal of texts or bytes
abbrev pub is_text_factor : TableDef → Factor → Bool
is_text_factor def (factor.Column name) = option_map_or (λ i. not (is_numbers (sort_of (kind_at def i)))) (place_of def name) false
is_text_factor def (factor.Literal v) = is_text v

-- arithmetic on texts or bytes
abbrev pub is_wrong_sum : TableDef → SetTo → Bool
is_wrong_sum def to.Default = false
is_wrong_sum def (to.Sum terms) = not (is_single terms) && list_any (λ t. list_any (is_text_factor def) t.factors) terms

-- a column that isn't there
abbrev pub is_unknown_factor : TableDef → Factor → Bool
is_unknown_factor def (factor.Column name) = is_unknown def name
is_unknown_factor def (factor.Literal v) = false

-- a sum names a column that isn't there
abbrev pub has_unknown_to : TableDef → SetTo → Bool
has_unknown_to def to.Default = false
has_unknown_to def (to.Sum terms) = list_any (λ t. list_any (is_unknown_factor def) t.factors) terms

-- DEFAULT
abbrev pub is_default_to : SetTo → Bool
is_default_to to.Default = true
is_default_to (to.Sum terms) = false

-- the column has no default
abbrev pub lacks_default : TableDef → List ℕ → Bool
lacks_default def name = option_map_or (λ i. option_map_or (λ c. is_none c.default) (slice_get def.columns i) false) (place_of def name) false

-- 1054 for SET and WHERE, 1366 for arithmetic on texts and for a literal in WHERE, 1364 for DEFAULT where there is none
abbrev pub update_tests : TableDef → List SetItem → Where → Result ⊤ ℕ
update_tests def set c = do
  refuse_where 1054 (list_any (λ s. is_unknown def s.column || has_unknown_to def s.to) set)
  known_columns def c
  refuse_where 1366 (list_any (λ s. is_wrong_sum def s.to) set)
  right_literals def c
  refuse_where 1364 (list_any (λ s. is_default_to s.to && lacks_default def s.column) set)
