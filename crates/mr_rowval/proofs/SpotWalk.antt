-- Where columns are found, while their row is walked over.
use Rattle.std.proofs.Common.{◌≡◌, ◌≢◌, ℕ, zero, suc, ◌+◌, ◌-◌, ◌<◌, ◌≤◌, List, [], ◌∷◌, ◌++◌, length, drop, get_or, refl, sym, ap, subst, ◌∙◌, arith, inl, inr, Bool, true, false, Some, Result, Ok, Err}
use Rattle.std.specs.Prelude.{slice_set, slice_index_or}
use Rattle.std.proofs.lemmas.Bool.{cases_eq}
use Rattle.std.proofs.lemmas.List.{get_or-set_same, get_or-set_other, drop_all}
use Rattle.mr_types.specs.declared.kind.Kind.{Kind}
use Rattle.mr_types.specs.declared.definition.ColumnDef.{ColumnDef}
use Rattle.mr_types.specs.declared.value.Value.{Value}
use Rattle.mr_types.specs.declared.value.Value.TheVariants.{Null}
use Rattle.mr_types.specs.Refusals.{◌>>=◌}
use Rattle.mr_memcmp.specs.Reading.{ReadValue}
use Rattle.mr_rowval.specs.declared.nulls.Bits.{Bits}
use Rattle.mr_rowval.specs.KeyParts.{Held, found, is_in, behind}
use Rattle.mr_rowval.specs.Plain.{plain_read}
use Rattle.mr_rowval.specs.RowValue.{field_read, fields_read, first_flag, later_flags, and_value}
use Rattle.mr_rowval.specs.Walking.{kind_at, value_at}
use Rattle.mr_rowval.specs.Parts.{Ends, spot_of, spot_read, IsSpot, AreSpots}
use Rattle.mr_rowval.proofs.FieldWalk.{UpTo, FlagOf, value_read, walk_on, its_kind, fields_ok}
use Rattle.mr_rowval.proofs.PlainTakes.{value_ok}
use Rattle.mr_rowval.proofs.PartsLie.{ends_trans, field_ends}

pub looked : (in_key is_null : Bool) (held : Value) (kind : Kind) (bytes : List ℕ) (x : Value × List ℕ) → in_key ≡ false → is_null ≡ false → field_read in_key is_null held kind bytes ≡ Ok x → plain_read kind bytes ≡ Ok (x.0, x.1)
looked true is_null held kind bytes x in_it null e = absurd cc
looked false true held kind bytes x in_it null e = absurd cc
looked false false held kind bytes x in_it null e = e

-- the columns before a place were read, and their spots are known
pub record SpotsTo (columns : List ColumnDef) (places : List ℕ) (at : ℕ) (flags : List Bool) (bytes : List ℕ) (held : Held) (after : List ℕ) (bits : Bits) (rest value : List ℕ) (fields : List Value) (known : List ℕ) : Type 0 where
  pub ends : Ends value rest
  pub up : UpTo columns places at flags bytes held after bits rest
  pub spots : AreSpots columns places value fields known at

same_value : (x y : Value × List ℕ) → let a : ReadValue = Ok x in let b : ReadValue = Ok y in a ≡ b → x ≡ y
same_value x y e = cc

spot_here : (is_null : Bool) (held : Value) (kind : Kind) (value rest : List ℕ) (x : Value × List ℕ) → Ends value rest → field_read false is_null held kind rest ≡ Ok x → IsSpot kind value x.0 (spot_of is_null (length value - length rest))
spot_here true held kind value rest x ends e =
    let same : Null ≡ x.0 = ap (λ (y : Value × List ℕ). y.0) (same_value (Null, rest) x e) in
    record { within = omega arith; reads = (value, ap (λ (v : Value). value_ok v value) same) }
spot_here false held kind value rest x ends e =
    record { within = omega arith; reads = (x.1, ap (plain_read kind) (sym ends.behind) ∙ e) }

spot_at : (is_null : Bool) (inside : Bool) (held : Value) (kind : Kind) (value rest : List ℕ) (x : Value × List ℕ) → inside ≡ false → Ends value rest → field_read inside is_null held kind rest ≡ Ok x → IsSpot kind value x.0 (spot_of is_null (length value - length rest))
spot_at is_null true held kind value rest x out ends e = absurd cc
spot_at is_null false held kind value rest x out ends e = spot_here is_null held kind value rest x ends e

pub spot_step : (columns : List ColumnDef) (places : List ℕ) (at : ℕ) (flags : List Bool) (bytes : List ℕ) (held : Held) (after : List ℕ) (bits next : Bits) (rest left value : List ℕ) (column : ColumnDef) (is_null : Bool) (fields : List Value) (end spots : List ℕ) → at < length columns → at < length spots → column ≡ get_or columns at column → FlagOf column.ty.nullable bits is_null next
    → ((x : Value × List ℕ) → field_read (is_in places at) is_null (found held at) column.ty.kind rest ≡ Ok x → left ≡ x.1) → fields_read places held 0 columns flags bytes ≡ fields_ok fields end
    → SpotsTo columns places at flags bytes held after bits rest value fields spots → SpotsTo columns places (at + 1) flags bytes held after next left value fields (slice_set spots at (spot_of is_null (length value - length rest)))
spot_step columns places at flags bytes held after bits next rest left value column is_null fields end spots within room is flag leaves read to =
    let there = value_read columns places at flags bytes held after bits next rest column is_null fields end within is to.up flag read in
    let x = there.0 in
    let behind_it : left ≡ x.1 = leaves x there.1 in
    let spot = spot_of is_null (length value - length rest) in
    let kind_is : kind_at columns at ≡ column.ty.kind = its_kind columns at column within is in
    record {
      ends = subst (Ends value) (sym behind_it) (ends_trans value rest x.1 to.ends (field_ends (is_in places at) is_null (found held at) column.ty.kind rest x.0 x.1 there.1));
      up = walk_on columns places at flags bytes held after bits next rest left column is_null within is to.up flag (ap behind there.1 ∙ ap (λ (l : List ℕ). let r : Result (List ℕ) ℕ = Ok l in r) (sym behind_it));
      spots = λ p before inside out. elim (cases_eq p at) [
        | inl same ↦
            let here : IsSpot column.ty.kind value x.0 spot = spot_at is_null (is_in places at) (found held at) column.ty.kind value rest x (ap (is_in places) (sym same) ∙ out) to.ends there.1 in
            let its : IsSpot (kind_at columns at) value (value_at fields at) (slice_index_or (slice_set spots at spot) at 0) = subst (λ (k : Kind). IsSpot k value (value_at fields at) (slice_index_or (slice_set spots at spot) at 0)) (sym kind_is) (subst (λ (v : Value). IsSpot column.ty.kind value v (slice_index_or (slice_set spots at spot) at 0)) there.2 (subst (IsSpot column.ty.kind value x.0) (sym (get_or-set_same spots at spot 0 room)) here)) in
            subst (λ (q : ℕ). IsSpot (kind_at columns q) value (value_at fields q) (slice_index_or (slice_set spots at spot) q 0)) (sym same) its
        | inr other ↦ subst (IsSpot (kind_at columns p) value (value_at fields p)) (sym (get_or-set_other spots at p spot 0 other)) (to.spots p (omega arith) inside out)
      ];
    }
