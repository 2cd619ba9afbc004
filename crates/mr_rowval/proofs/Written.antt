-- Columns are written one after the other.
use Rattle.std.proofs.Common.{◌≡◌, ℕ, zero, suc, ◌+◌, ◌<◌, List, [], ◌∷◌, ◌++◌, length, drop, get_or, refl, sym, ap, ◌∙◌, subst, arith, add-one}
use Rattle.std.specs.Prelude.{slice_get}
use Rattle.std.proofs.lemmas.List.{drop_more}
use Rattle.mr_types.specs.declared.definition.ColumnDef.{ColumnDef}
use Rattle.mr_types.specs.declared.value.Value.{Value}
use Rattle.mr_types.specs.Rows.{AreFields}
use Rattle.mr_memcmp.specs.ComeBack.{IsTaken}
use Rattle.mr_rowval.specs.KeyParts.{is_in}
use Rattle.mr_rowval.specs.RowValue.{field_bytes, fields_bytes}
use Rattle.mr_rowval.specs.Encoding.{TakesPart}

pub same_sizes : (columns : List ColumnDef) (values : List Value) → AreFields columns values → length columns ≡ length values
same_sizes [] [] h = refl
same_sizes [] (value ∷ values) h = absurd h
same_sizes (column ∷ columns) [] h = absurd h
same_sizes (column ∷ columns) (value ∷ values) h = ap suc (same_sizes columns values h.1)

pub taken_at : (columns : List ColumnDef) (values : List Value) (at : ℕ) (column : ColumnDef) (value : Value) → AreFields columns values → at < length columns → column ≡ get_or columns at column → value ≡ get_or values at value → IsTaken column.ty value
taken_at [] values at column value h within c v = absurd (omega arith)
taken_at (x ∷ columns) [] at column value h within c v = absurd h
taken_at (x ∷ columns) (y ∷ values) zero column value h within c v =
    let taken : IsTaken x.ty y = record { is_value = h.0.is_value; as_it_is = h.0.as_it_is } in
    subst (λ (z : ColumnDef). IsTaken z.ty value) (sym c) (subst (IsTaken x.ty) (sym v) taken)
taken_at (x ∷ columns) (y ∷ values) (suc at) column value h within c v = taken_at columns values at column value h.1 (omega arith) c v

pub part_taken : (columns : List ColumnDef) (values : List Value) (p : ℕ) → AreFields columns values → TakesPart (slice_get columns p) (slice_get values p)
part_taken [] [] p h = tt
part_taken [] (value ∷ values) p h = absurd h
part_taken (column ∷ columns) [] p h = absurd h
part_taken (column ∷ columns) (value ∷ values) zero h = record { is_value = h.0.is_value; as_it_is = h.0.as_it_is }
part_taken (column ∷ columns) (value ∷ values) (suc p) h = part_taken columns values p h.1

pub fields_step : (places : List ℕ) (at : ℕ) (columns : List ColumnDef) (values : List Value) (column : ColumnDef) (value : Value) → at < length columns → at < length values → column ≡ get_or columns at column → value ≡ get_or values at value
    → fields_bytes places at (drop at columns) (drop at values) ≡ field_bytes (is_in places at) column.ty.kind value ++ fields_bytes places (at + 1) (drop (at + 1) columns) (drop (at + 1) values)
fields_step places at columns values column value within inside c v =
    ap (λ (l : List ColumnDef). fields_bytes places at l (drop at values)) (drop_more columns at column within)
    ∙ ap (λ (l : List Value). fields_bytes places at (get_or columns at column ∷ drop (at + 1) columns) l) (drop_more values at value inside)
    ∙ ap (λ (x : ColumnDef). field_bytes (is_in places at) x.ty.kind (get_or values at value) ++ fields_bytes places (suc at) (drop (at + 1) columns) (drop (at + 1) values)) (sym c)
    ∙ ap (λ (x : Value). field_bytes (is_in places at) column.ty.kind x ++ fields_bytes places (suc at) (drop (at + 1) columns) (drop (at + 1) values)) (sym v)
    ∙ ap (λ (n : ℕ). field_bytes (is_in places at) column.ty.kind value ++ fields_bytes places n (drop (at + 1) columns) (drop (at + 1) values)) (sym (add-one at))
