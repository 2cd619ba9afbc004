-- The entry of a row in another key leads to the row's primary key.
use Rattle.std.proofs.Common.{◌≡◌, ◌≢◌, ℕ, zero, suc, ◌+◌, ◌<◌, ◌^◌, List, [], ◌∷◌, ◌++◌, refl, sym, ap, ◌∙◌, arith, Bool, true, false, cond, Option, Some, None, Ok, inl, inr}
use Rattle.std.specs.Prelude.{slice_get, slice_index_or}
use Rattle.std.proofs.lemmas.Bool.{cases_eq, eq-eqb, ne_eqb}
use Rattle.byteorder.specs.Endian.{big_bytes}
use Rattle.mr_types.specs.declared.definition.ColumnDef.{ColumnDef}
use Rattle.mr_types.specs.declared.definition.TableDef.{TableDef}
use Rattle.mr_types.specs.declared.row.Row.{Row}
use Rattle.mr_types.specs.declared.value.Value.{Value}
use Rattle.mr_types.specs.Rows.{AreFields, IsRowOf}
use Rattle.mr_memcmp.specs.Keys.{part_bytes, parts_bytes, hidden_bytes}
use Rattle.mr_rowval.specs.KeyParts.{found, is_in}
use Rattle.mr_rowval.specs.Promises.{HasKinds}
use Rattle.mr_rowval.proofs.RowTrip.{held_of_row}
use Rattle.mr_rowval.proofs.EntryTakes.{same_ok}
use Rattle.mr_entry.specs.Entry.{own_places, not_among, entry_places, fields_held}
use Rattle.mr_entry.specs.Held.{HeldEntry}
use Rattle.mr_entry.specs.Primary.{primary_key_held, LeadsToRow}
use Rattle.mr_entry.proofs.HeldEntries.{entry_of_row, its_value, row_reads}
use Rattle.mr_entry.proofs.PrimaryKeys.{field_there}

-- ---- the primary key's columns are among those of the entry

in_front : (a b : List ℕ) (p : ℕ) → is_in a p ≡ true → is_in (a ++ b) p ≡ true
in_front [] b p h = absurd cc
in_front (x ∷ a) b p h =
    elim (cases_eq x p) [
      | inl same ↦ rw (eq-eqb x p same) refl
      | inr other ↦ rw (ne_eqb x p other) (in_front a b p (rw (ne_eqb x p other) at h))
    ]

in_rest : (a b : List ℕ) (p : ℕ) → is_in b p ≡ true → is_in (a ++ b) p ≡ true
in_rest [] b p h = h
in_rest (x ∷ a) b p h =
    elim (cases_eq x p) [
      | inl same ↦ rw (eq-eqb x p same) refl
      | inr other ↦ rw (ne_eqb x p other) (in_rest a b p h)
    ]

in_later : (inside : Bool) (q : ℕ) (l : List ℕ) (p : ℕ) → is_in l p ≡ true → is_in (cond inside l (q ∷ l)) p ≡ true
in_later true q l p h = h
in_later false q l p h = in_rest (q ∷ []) l p h

in_first : (inside : Bool) (q : ℕ) (l : List ℕ) (p : ℕ) → inside ≡ false → q ≡ p → is_in (cond inside l (q ∷ l)) p ≡ true
in_first true q l p e same = absurd cc
in_first false q l p e same = rw (eq-eqb q p same) refl

among : (own primary : List ℕ) (p : ℕ) → is_in own p ≡ false → is_in primary p ≡ true → is_in (not_among own primary) p ≡ true
among own [] p out h = absurd cc
among own (q ∷ primary) p out h =
    elim (cases_eq q p) [
      | inl same ↦ in_first (is_in own q) q (not_among own primary) p (ap (is_in own) same ∙ out) same
      | inr other ↦ in_later (is_in own q) q (not_among own primary) p (among own primary p out (rw (ne_eqb q p other) at h))
    ]

reached_by : (own primary : List ℕ) (p : ℕ) (inside : Bool) → is_in own p ≡ inside → is_in primary p ≡ true → is_in (own ++ not_among own primary) p ≡ true
reached_by own primary p true e h = in_front own (not_among own primary) p e
reached_by own primary p false e h = in_rest own (not_among own primary) p (among own primary p e h)

-- ---- and have the row's values

is_none : (columns : List ColumnDef) (fields : List Value) (p : ℕ) (v : Value) → AreFields columns fields → slice_get fields p ≡ None → part_bytes (slice_get columns p) (Some v) ≡ part_bytes (slice_get columns p) None
is_none [] [] p v h e = refl
is_none [] (field ∷ fields) p v h e = absurd h
is_none (column ∷ columns) [] p v h e = absurd h
is_none (column ∷ columns) (field ∷ fields) zero v h e = absurd cc
is_none (column ∷ columns) (field ∷ fields) (suc p) v h e = is_none columns fields p v h.1 e

by_value : (def : TableDef) (places : List ℕ) (row : Row) (p : ℕ) (o : Option Value) → IsRowOf def row → is_in places p ≡ true → slice_get row.fields p ≡ o → part_bytes (slice_get def.columns p) (Some (found (held_of_row def.columns row.fields places) p)) ≡ part_bytes (slice_get def.columns p) o
by_value def places row p None is there e = is_none def.columns row.fields p (found (held_of_row def.columns row.fields places) p) is.fields e
by_value def places row p (Some v) is there e = ap (λ (w : Value). part_bytes (slice_get def.columns p) (Some w)) (its_value def places row p v is there e)

all_values : (def : TableDef) (places : List ℕ) (row : Row) (wanted : List ℕ) → IsRowOf def row → ((p : ℕ) → is_in wanted p ≡ true → is_in places p ≡ true) → parts_bytes def.columns (fields_held (held_of_row def.columns row.fields places) 0 def.columns) wanted ≡ parts_bytes def.columns row.fields wanted
all_values def places row [] is there = refl
all_values def places row (p ∷ wanted) is there =
    let held = held_of_row def.columns row.fields places in
    let fields = fields_held held 0 def.columns in
    let here : is_in (p ∷ wanted) p ≡ true = rw (eq-eqb p p refl) refl in
    ap (λ (l : List ℕ). l ++ parts_bytes def.columns fields wanted) (field_there held 0 def.columns p p (omega arith) ∙ by_value def places row p (slice_get row.fields p) is (there p here) refl)
    ∙ ap (λ (l : List ℕ). part_bytes (slice_get def.columns p) (slice_get row.fields p) ++ l) (all_values def places row wanted is (λ q h. there q (in_rest (p ∷ []) wanted q h)))

key_of_row : (number : ℕ) (def : TableDef) (i : ℕ) (row : Row) → IsRowOf def row → primary_key_held number (entry_of_row def (entry_places def (suc i)) row) ≡ big_bytes 4 number ++ parts_bytes def.columns row.fields def.primary.columns ++ hidden_bytes row.hidden
key_of_row number def i row is =
    let own = own_places def (suc i) in
    let all = all_values def (entry_places def (suc i)) row def.primary.columns is (λ p h. reached_by own def.primary.columns p (is_in own p) refl h) in
    ap (λ (l : List ℕ). big_bytes 4 number ++ l ++ hidden_bytes row.hidden) all

pub leads_to_row : (def : TableDef) (numbers : List ℕ) (row : Row) (i : ℕ) → slice_index_or numbers (suc i) 0 < 2 ^ 32 → HasKinds def.columns → IsRowOf def row → LeadsToRow def numbers row (suc i)
leads_to_row def numbers row i small real is = λ entry reads number.
    let same = same_ok (entry_of_row def (entry_places def (suc i)) row) entry (sym (row_reads def numbers row i small real is) ∙ reads) in
    ap (primary_key_held number) (sym same) ∙ key_of_row number def i row is
