-- A row is lawful exactly where it has entries and its numbers have 64 bits.
use Rattle.std.proofs.Common.{◌≡◌, ℕ, zero, suc, ◌<◌, Bool, true, false, true≢false, List, [], ◌∷◌, length, Option, Some, None, Result, Ok, refl, ap, sym, subst, ◌∙◌, nat_eq, arith, slice_get, unwrap_or}
use Rattle.std.specs.Prelude.{◌==◌, not, ◌^◌, ℤ, pos, negsuc, is_some}
use Rattle.std.specs.List.{list_all, zip}
use Rattle.std.specs.Option.{option_map_or}
use Rattle.std.proofs.lemmas.Bool.Decides.{nat_tests}
use Rattle.mr_types.specs.declared.definition.ColumnDef.{ColumnDef}
use Rattle.mr_types.specs.declared.definition.TableDef.{TableDef}
use Rattle.mr_types.specs.declared.definition.Ttl.{Ttl}
use Rattle.mr_types.specs.declared.kind.ColumnType.{ColumnType}
use Rattle.mr_types.specs.declared.kind.Kind.{Kind}
use Rattle.mr_types.specs.declared.kind.Kind.TheVariants.{Int, IntUnsigned, BigInt, BigIntUnsigned, VarChar, VarBinary}
use Rattle.mr_types.specs.declared.row.Row.{Row}
use Rattle.mr_types.specs.declared.value.Value.{Value}
use Rattle.mr_types.specs.declared.value.Value.TheVariants.{Null, Number, Text, Bytes}
use Rattle.mr_types.specs.Refusals.{◌>>=◌, ◌>>◌, refuse_where, some_or}
use Rattle.mr_types.specs.Rows.{IsFieldOf, AreFields, IsWanted, is_none_of, is_hidden, has_ttl, IsStampOf, IsRowOf}
use Rattle.mr_types.specs.Values.{assign_to, whole_number, fitted, in_range}
use Rattle.mr_spec.specs.Lawful.{fits_column, is_row_of, same_number, same_test}
use Rattle.mr_spec.specs.NewRows.{number_in, stamp_for}
use Rattle.mr_spec.specs.TtlOptions.{may_hold_stamp}
use Rattle.mr_table_rows.specs.StampColumns.{HasStampColumn, HasNumbersOf64Bits, RowsAreOne}
use Rattle.mr_table_rows.proofs.Tests.{both, joined, number-is, is-number, below, assigned-is, is-assigned, value-of, of-value, same-is, wanted, is-wanted, has-64-bits}

-- ---- fields

abbrev field-fits : ColumnDef → Value → Bool
field-fits c v = fits_column (c, v)

are-fields : (cs : List ColumnDef) (vs : List Value) → length vs ≡ length cs → list_all fits_column (zip cs vs) ≡ true → AreFields cs vs
are-fields [] [] n e = tt
are-fields [] (v ∷ vs) n e = absurd (omega arith)
are-fields (c ∷ cs) [] n e = absurd (omega arith)
are-fields (c ∷ cs) (v ∷ vs) n e =
    let p = both (field-fits c v) (list_all fits_column (zip cs vs)) e in
    let q = both _ _ p.0 in
    let more : length vs ≡ length cs = omega arith in
    (record { is_value = value-of v q.0; as_it_is = assigned-is (assign_to c.ty v) v q.1 }, are-fields cs vs more p.1)

fields-are : (cs : List ColumnDef) (vs : List Value) → AreFields cs vs → list_all fits_column (zip cs vs) ≡ true
fields-are [] [] h = refl
fields-are [] (v ∷ vs) h = absurd h
fields-are (c ∷ cs) [] h = absurd h
fields-are (c ∷ cs) (v ∷ vs) h = joined (field-fits c v) (list_all fits_column (zip cs vs)) (joined _ _ (of-value v h.0.is_value) (is-assigned (assign_to c.ty v) v h.0.as_it_is)) (fields-are cs vs h.1)

as-many : (cs : List ColumnDef) (vs : List Value) → AreFields cs vs → length vs ≡ length cs
as-many [] [] h = refl
as-many [] (v ∷ vs) h = absurd h
as-many (c ∷ cs) [] h = absurd h
as-many (c ∷ cs) (v ∷ vs) h = ap (λ n. suc n) (as-many cs vs h.1)

field-at : (cs : List ColumnDef) (vs : List Value) (i : ℕ) (c : ColumnDef) → AreFields cs vs → slice_get cs i ≡ Some c → (v : Value) × (slice_get vs i ≡ Some v) × IsFieldOf c v
field-at [] [] i c h e = absurd cc
field-at [] (v ∷ vs) i c h e = absurd h
field-at (d ∷ cs) [] i c h e = absurd h
field-at (d ∷ cs) (v ∷ vs) zero c h e = let same : d ≡ c = cc in (v, refl, subst (λ x. IsFieldOf x v) same h.0)
field-at (d ∷ cs) (v ∷ vs) (suc i) c h e = field-at cs vs i c h.1 e

-- ---- a column that holds stamps

unsigned : (name : List ℕ) (kind : Kind) (nullable : Bool) (default : Option Value) → may_hold_stamp (record { name = name; ty = record { kind = kind; nullable = nullable }; default = default }) ≡ true → (kind ≡ BigIntUnsigned) × (nullable ≡ false)
unsigned name Int nullable default e = absurd (true≢false (sym e))
unsigned name IntUnsigned nullable default e = absurd (true≢false (sym e))
unsigned name BigInt nullable default e = absurd (true≢false (sym e))
unsigned name BigIntUnsigned true default e = absurd (true≢false (sym e))
unsigned name BigIntUnsigned false default e = (refl, refl)
unsigned name (VarChar n c) nullable default e = absurd (true≢false (sym e))
unsigned name (VarBinary n) nullable default e = absurd (true≢false (sym e))

-- a number from 0 on of 64 bits
abbrev IsUnsigned : Value → Type 0
IsUnsigned v = (n : ℕ) × (v ≡ Number (pos n)) × (n < 2 ^ 64)

ok-is : (v w : Value) → ◌≡◌ {A = Result Value ℕ} (Ok v) (Ok w) → v ≡ w
ok-is v w e = cc

kept : (code : ℕ) (b : Bool) (v w : Value) → (refuse_where code b >> Ok v) ≡ Ok w → (b ≡ false) × (v ≡ w)
kept code true v w e = absurd cc
kept code false v w e = (refl, ok-is v w e)

read-number : (o : Option ℤ) (w : Value) → ((some_or 1366 o >>= λ n. Ok (Number n)) >>= fitted BigIntUnsigned) ≡ Ok w → (z : ℤ) × (Number z ≡ w)
read-number None w e = absurd cc
read-number (Some z) w e = (z, (kept 1264 (not (in_range (pos 0) (pos (2 ^ 64)) z)) (Number z) w e).1)

text-no-number : (z : ℤ) (t : List ℕ) {A : Type 0} → Number z ≡ Text t → A
text-no-number z t e = absurd cc

bytes-no-number : (z : ℤ) (t : List ℕ) {A : Type 0} → Number z ≡ Bytes t → A
bytes-no-number z t e = absurd cc

not-false : (b : Bool) → not b ≡ false → b ≡ true
not-false true e = refl
not-false false e = absurd (true≢false e)

holds : (v : Value) → assign_to (record { kind = BigIntUnsigned; nullable = false }) v ≡ Ok v → IsUnsigned v
holds Null e = absurd cc
holds (Number (pos n)) e =
    let inside : in_range (pos 0) (pos (2 ^ 64)) (pos n) ≡ true = not-false (in_range (pos 0) (pos (2 ^ 64)) (pos n)) (kept 1264 (not (in_range (pos 0) (pos (2 ^ 64)) (pos n))) (Number (pos n)) (Number (pos n)) e).0 in
    (n, refl, below n (2 ^ 64) (both _ _ inside).1)
holds (Number (negsuc n)) e = absurd cc
holds (Text t) e = let z = read-number (whole_number t) (Text t) e in text-no-number z.0 t z.1
holds (Bytes t) e = let z = read-number (whole_number t) (Bytes t) e in bytes-no-number z.0 t z.1

held-by : (c : ColumnDef) (v : Value) → may_hold_stamp c ≡ true → IsFieldOf c v → IsUnsigned v
held-by c v e h =
    let p = unsigned c.name c.ty.kind c.ty.nullable c.default e in
    holds v (ap (λ (ty : ColumnType). assign_to ty v) (λ i. record { kind = sym p.0 i; nullable = sym p.1 i }) ∙ h.as_it_is)

-- ---- the row

hidden-key : (cs : List ℕ) → (length cs == 0) ≡ is_none_of cs
hidden-key [] = refl
hidden-key (c ∷ cs) = grind (arith, nat_tests)

parts : (def : TableDef) (row : Row) → is_row_of def row ≡ true → (length row.fields ≡ length def.columns) × (list_all fits_column (zip def.columns row.fields) ≡ true) × (same_test (is_some row.hidden) (is_hidden def) ≡ true) × (row.stamp ≡ stamp_for def.ttl (option_map_or (λ s. s) row.stamp 0) row.fields)
parts def row e =
    let p = both _ _ e in
    let q = both _ _ p.1 in
    let r = both _ _ q.1 in
    (number-is _ _ p.0, q.0, subst (λ b. same_test (is_some row.hidden) b ≡ true) (hidden-key def.primary.columns) r.0, same-is _ _ r.1)

some-is : (m n : ℕ) → ◌≡◌ {A = Option ℕ} (Some m) (Some n) → m ≡ n
some-is m n e = cc

no-number : (n : ℕ) {A : Type 0} → ◌≡◌ {A = Option ℕ} None (Some n) → A
no-number n e = absurd cc

-- a stamp that a column holds is its value
stamp-held : (t : Ttl) (stamp : Option ℕ) (fields : List Value) (place : ℕ) (v : Value) → stamp ≡ stamp_for (Some t) (option_map_or (λ s. s) stamp 0) fields → t.column ≡ Some place → slice_get fields place ≡ Some v → IsUnsigned v →
    (n : ℕ) × (stamp ≡ Some n) × (n < 2 ^ 64) × (slice_get fields place ≡ Some (Number (pos n)))
stamp-held t stamp fields place v is e at h =
    let by-place : stamp ≡ Some (number_in (unwrap_or (slice_get fields place) Null)) = is ∙ ap (λ (c : Option ℕ). Some (option_map_or (λ i. number_in (unwrap_or (slice_get fields i) Null)) c (option_map_or (λ s. s) stamp 0))) e in
    let by-value : stamp ≡ Some (number_in v) = by-place ∙ ap (λ (o : Option Value). Some (number_in (unwrap_or o Null))) at in
    (h.0, by-value ∙ ap (λ w. Some (number_in w)) h.1, h.2, at ∙ ap (λ w. Some w) h.1)

stamps : (o : Option Ttl) (row : Row) → row.stamp ≡ stamp_for o (option_map_or (λ s. s) row.stamp 0) row.fields →
    ((t : Ttl) (n : ℕ) → o ≡ Some t → t.column ≡ None → row.stamp ≡ Some n → n < 2 ^ 64) →
    ((t : Ttl) (place : ℕ) → o ≡ Some t → t.column ≡ Some place → (v : Value) × (slice_get row.fields place ≡ Some v) × IsUnsigned v) → IsWanted (is_some o) row.stamp × IsStampOf o row
stamps None row is free held = (subst (IsWanted false) (sym is) tt, tt)
stamps (Some t) row is free held = by-column t.column refl
  where
    by-column : (c : Option ℕ) → t.column ≡ c → IsWanted true row.stamp × IsStampOf (Some t) row
    by-column None e =
        let given : ℕ = option_map_or (λ s. s) row.stamp 0 in
        let there : row.stamp ≡ Some given = is ∙ ap (λ (c : Option ℕ). Some (option_map_or (λ i. number_in (unwrap_or (slice_get row.fields i) Null)) c given)) e in
        (subst (IsWanted true) (sym there) (free t given refl e there), λ place s f g. no-number place (sym e ∙ f))
    by-column (Some place) e =
        let h = held t place refl e in
        let k = stamp-held t row.stamp row.fields place h.0 is e h.1 h.2 in (
          subst (IsWanted true) (sym k.1) k.2,
          λ q s f g.
              let same_place : place ≡ q = some-is place q (sym e ∙ f) in
              let same_stamp : k.0 ≡ s = some-is k.0 s (sym k.1 ∙ g) in
              ap (λ p. slice_get row.fields p) (sym same_place) ∙ k.3 ∙ ap (λ n. Some (Number (pos n))) same_stamp,
        )

-- and back
stamps-back : (o : Option Ttl) (stamp : Option ℕ) (fields : List Value) → IsWanted (is_some o) stamp → ((t : Ttl) (place s : ℕ) → o ≡ Some t → t.column ≡ Some place → stamp ≡ Some s → slice_get fields place ≡ Some (Number (pos s))) →
    same_number stamp (stamp_for o (option_map_or (λ s. s) stamp 0) fields) ≡ true
stamps-back None None fields h held = refl
stamps-back None (Some s) fields h held = absurd h
stamps-back (Some t) None fields h held = absurd h
stamps-back (Some t) (Some s) fields h held = by-column t.column refl
  where
    by-column : (c : Option ℕ) → t.column ≡ c → same_number (Some s) (stamp_for (Some t) s fields) ≡ true
    by-column None e = ap (λ (c : Option ℕ). nat_eq s (option_map_or (λ i. number_in (unwrap_or (slice_get fields i) Null)) c s)) e ∙ is-number s
    by-column (Some place) e =
        ap (λ (c : Option ℕ). nat_eq s (option_map_or (λ i. number_in (unwrap_or (slice_get fields i) Null)) c s)) e
        ∙ ap (λ (o : Option Value). nat_eq s (number_in (unwrap_or o Null))) (held t place s refl e refl)
        ∙ is-number s

given-column : (o : Option Ttl) (row : Row) → IsStampOf o row → (t : Ttl) (place s : ℕ) → o ≡ Some t → t.column ≡ Some place → row.stamp ≡ Some s → slice_get row.fields place ≡ Some (Number (pos s))
given-column None row h t place s e f g = absurd cc
given-column (Some u) row h t place s e f g = let same : u ≡ t = cc in h place s (ap (λ (x : Ttl). x.column) same ∙ f) g

-- ---- both ways

pub row-lawful : (def : TableDef) (row : Row) → IsRowOf def row → is_row_of def row ≡ true
row-lawful def row h =
    joined _ _ (ap (nat_eq (length row.fields)) (sym (as-many def.columns row.fields h.fields)) ∙ is-number (length row.fields)) (joined _ _ (fields-are def.columns row.fields h.fields) (joined _ _
    (subst (λ b. same_test (is_some row.hidden) b ≡ true) (sym (hidden-key def.primary.columns)) (is-wanted (is_hidden def) row.hidden h.hidden_number))
    (stamps-back def.ttl row.stamp row.fields h.stamp (given-column def.ttl row h.stamp_column))))

-- the field of the column that the TTL names
held-field : (def : TableDef) (row : Row) → HasStampColumn def → AreFields def.columns row.fields → (t : Ttl) (place : ℕ) → def.ttl ≡ Some t → t.column ≡ Some place → (v : Value) × (slice_get row.fields place ≡ Some v) × IsUnsigned v
held-field def row has fields t place is f =
    let c = has t place is f in
    let v = field-at def.columns row.fields place c.0 fields c.1 in
    (v.0, v.1, held-by c.0 v.0 c.2 v.2)

pub lawful-row : (def : TableDef) (row : Row) → HasStampColumn def → is_row_of def row ≡ true → HasNumbersOf64Bits def row → IsRowOf def row
lawful-row def row has e bits =
    let p = parts def row e in
    let fields : AreFields def.columns row.fields = are-fields def.columns row.fields p.0 p.1 in
    let held : (t : Ttl) (place : ℕ) → def.ttl ≡ Some t → t.column ≡ Some place → (v : Value) × (slice_get row.fields place ≡ Some v) × IsUnsigned v = held-field def row has fields in
    let s = stamps def.ttl row p.3 bits.stamp held in
    record {
      fields = fields;
      hidden_number = wanted (is_hidden def) row.hidden p.2 bits.hidden;
      stamp = s.0;
      stamp_column = s.1;
    }

pub rows-are-one : (def : TableDef) (row : Row) → HasStampColumn def → RowsAreOne def row
rows-are-one def row has = (λ h. (row-lawful def row h, record { hidden = has-64-bits (is_hidden def) row.hidden h.hidden_number; stamp = λ t n e f g. has-64-bits (has_ttl def) row.stamp h.stamp n g }), λ h. lawful-row def row has h.0 h.1)
