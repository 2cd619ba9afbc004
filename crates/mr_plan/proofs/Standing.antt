-- A row whose first columns have given values, and its key against a value of the next one.
use Rattle.std.proofs.Common.{◌≡◌, ◌≢◌, ℕ, suc, true, List, [], ◌∷◌, ◌++◌, Option, Some, None, refl, sym, ap, subst, ◌∙◌, length, arith, append_assoc, append-nil}
use Rattle.std.specs.Prelude.{◌↔◌, not, slice_get}
use Rattle.std.specs.declared.cmp.Ordering.{Ordering}
use Rattle.std.specs.declared.cmp.Ordering.TheVariants.{Less, Equal, Greater}
use Rattle.std.specs.Ordering.{is_lt, is_gt, ordering_then}
use Rattle.mr_pieces.specs.Order.{bytes_cmp}
use Rattle.mr_pieces.proofs.Compare.{then_assoc, then_equal}
use Rattle.mr_types.specs.declared.definition.ColumnDef.{ColumnDef}
use Rattle.mr_types.specs.declared.definition.TableDef.{TableDef}
use Rattle.mr_types.specs.declared.row.Row.{Row}
use Rattle.mr_types.specs.declared.value.Value.{Value}
use Rattle.mr_types.specs.Order.{value_cmp}
use Rattle.mr_types.specs.Rows.{IsRowOf}
use Rattle.mr_memcmp.specs.Above.{above_of, IsBelow}
use Rattle.mr_memcmp.specs.Fitting.{FitsPart, FitsColumn}
use Rattle.mr_memcmp.specs.KeyOrder.{part_cmp}
use Rattle.mr_memcmp.specs.Parts.{given_part, given_parts, given_cmp, AllGiven, row_key, PartsInRange}
use Rattle.mr_memcmp.proofs.GivenParts.{parts_in_range}
use Rattle.mr_row_laws.proofs.KeyBytes.{key_bytes_are}
use Rattle.mr_ranges.specs.Ranges.{is_from, is_under}
use Rattle.mr_plan.specs.Tests.{value_from, value_above}

-- ---- one more value

none-given : (columns : List ColumnDef) (ps : List ℕ) → AllGiven columns ps []
none-given columns [] = tt
none-given columns (p ∷ ps) = tt

none-cmp : (columns : List ColumnDef) (ps : List ℕ) (fields : List Value) → given_cmp columns ps fields [] ≡ Equal
none-cmp columns [] fields = refl
none-cmp columns (p ∷ ps) fields = refl

none-parts : (columns : List ColumnDef) (ps : List ℕ) → given_parts columns ps [] ≡ []
none-parts columns [] = refl
none-parts columns (p ∷ ps) = refl

module _ (columns : List ColumnDef) (p : ℕ) (ps : List ℕ) (v : Value) where
  more-given : (done : List ℕ) (vs : List Value) → length done ≡ length vs → AllGiven columns (done ++ p ∷ ps) vs → FitsPart (slice_get columns p) (Some v) → AllGiven columns (done ++ p ∷ ps) (vs ++ v ∷ [])
  more-given [] [] h g f = (f, none-given columns ps)
  more-given [] (w ∷ vs) h g f = absurd (omega arith)
  more-given (q ∷ done) [] h g f = absurd (omega arith)
  more-given (q ∷ done) (w ∷ vs) h g f = (g.0, more-given done vs (omega arith) g.1 f)

  more-cmp : (fields : List Value) (done : List ℕ) (vs : List Value) → length done ≡ length vs → given_cmp columns (done ++ p ∷ ps) fields (vs ++ v ∷ []) ≡ ordering_then (given_cmp columns (done ++ p ∷ ps) fields vs) (part_cmp (slice_get columns p) (slice_get fields p) (Some v))
  more-cmp fields [] [] h = ap (ordering_then (part_cmp (slice_get columns p) (slice_get fields p) (Some v))) (none-cmp columns ps fields) ∙ then_equal (part_cmp (slice_get columns p) (slice_get fields p) (Some v))
  more-cmp fields [] (w ∷ vs) h = absurd (omega arith)
  more-cmp fields (q ∷ done) [] h = absurd (omega arith)
  more-cmp fields (q ∷ done) (w ∷ vs) h =
      ap (ordering_then (part_cmp (slice_get columns q) (slice_get fields q) (Some w))) (more-cmp fields done vs (omega arith))
      ∙ sym (then_assoc (part_cmp (slice_get columns q) (slice_get fields q) (Some w)) (given_cmp columns (done ++ p ∷ ps) fields vs) (part_cmp (slice_get columns p) (slice_get fields p) (Some v)))

  more-parts : (done : List ℕ) (vs : List Value) → length done ≡ length vs → given_parts columns (done ++ p ∷ ps) (vs ++ v ∷ []) ≡ given_parts columns (done ++ p ∷ ps) vs ++ given_part (slice_get columns p) v
  more-parts [] [] h = ap (λ (l : List ℕ). given_part (slice_get columns p) v ++ l) (none-parts columns ps) ∙ append-nil (given_part (slice_get columns p) v)
  more-parts [] (w ∷ vs) h = absurd (omega arith)
  more-parts (q ∷ done) [] h = absurd (omega arith)
  more-parts (q ∷ done) (w ∷ vs) h =
      ap (λ (l : List ℕ). given_part (slice_get columns q) w ++ l) (more-parts done vs (omega arith))
      ∙ sym (append_assoc (given_part (slice_get columns q) w) (given_parts columns (done ++ p ∷ ps) vs) (given_part (slice_get columns p) v))

more-length : {A B : Type 0} (a : A) (b : B) (xs : List A) (ys : List B) → length xs ≡ length ys → length (xs ++ a ∷ []) ≡ length (ys ++ b ∷ [])
more-length a b [] [] h = refl
more-length a b [] (y ∷ ys) h = absurd (omega arith)
more-length a b (x ∷ xs) [] h = absurd (omega arith)
more-length a b (x ∷ xs) (y ∷ ys) h = ap suc (more-length a b xs ys (omega arith))

-- ---- orders as tests

from-is : (o b : Ordering) → (o ≢ Less) ↔ (b ≢ Less) → not (is_lt b) ≡ not (is_lt o)
from-is Less Less h = refl
from-is Less Equal h = absurd (h.1 (λ e. (let f : Equal ≡ Less = e in cc)) refl)
from-is Less Greater h = absurd (h.1 (λ e. (let f : Greater ≡ Less = e in cc)) refl)
from-is Equal Less h = absurd (h.0 (λ e. (let f : Equal ≡ Less = e in cc)) refl)
from-is Greater Less h = absurd (h.0 (λ e. (let f : Greater ≡ Less = e in cc)) refl)
from-is Equal Equal h = refl
from-is Equal Greater h = refl
from-is Greater Equal h = refl
from-is Greater Greater h = refl

not-greater : (o : Ordering) → o ≢ Greater → not (is_gt o) ≡ true
not-greater Less h = refl
not-greater Equal h = refl
not-greater Greater h = absurd (h refl)

below-is : (o b : Ordering) → (o ≢ Greater) ↔ (b ≡ Less) → is_lt b ≡ not (is_gt o)
below-is Less Less h = refl
below-is Equal Less h = refl
below-is Greater Less h = absurd (h.1 refl refl)
below-is Less Equal h = let f : Equal ≡ Less = h.0 (λ e. (let g : Less ≡ Greater = e in cc)) in cc
below-is Equal Equal h = let f : Equal ≡ Less = h.0 (λ e. (let g : Equal ≡ Greater = e in cc)) in cc
below-is Greater Equal h = refl
below-is Less Greater h = let f : Greater ≡ Less = h.0 (λ e. (let g : Less ≡ Greater = e in cc)) in cc
below-is Equal Greater h = let f : Greater ≡ Less = h.0 (λ e. (let g : Equal ≡ Greater = e in cc)) in cc
below-is Greater Greater h = refl

under-is : (o : Ordering) (key : List ℕ) (above : Option (List ℕ)) → (o ≢ Greater) ↔ IsBelow key above → is_under above key ≡ not (is_gt o)
under-is o key None h = sym (not-greater o (h.1 tt))
under-is o key (Some high) h = below-is o (bytes_cmp key high) h

-- ---- a row

-- the first columns of a row have the same values as these, and these bytes
pub record Starts (def : TableDef) (places : List ℕ) (row : Row) (done ps : List ℕ) (vs : List Value) (front : List ℕ) : Type 0 where
  pub split : places ≡ done ++ ps
  pub as_many : length done ≡ length vs
  pub given : AllGiven def.columns places vs
  pub same : given_cmp def.columns places row.fields vs ≡ Equal
  pub bytes : front ≡ given_parts def.columns places vs

-- the key of a row behind those bytes, against those of a value of the next column
pub record Against (front key : List ℕ) (column : ColumnDef) (field : Value) : Type 0 where
  pub from_front : is_from front key ≡ true
  pub under_front : is_under (above_of front) key ≡ true
  pub from : (v : Value) → FitsColumn column.ty v → is_from (value_from front column.ty v) key ≡ not (is_lt (value_cmp column.ty.kind field v))
  pub under : (v : Value) → FitsColumn column.ty v → is_under (value_above front column.ty v) key ≡ not (is_gt (value_cmp column.ty.kind field v))

module _ (def : TableDef) (places : List ℕ) (row : Row) (is_row : IsRowOf def row) where
  abbrev key : List ℕ
  key = row_key None def places row

  ranges : (vs : List Value) → AllGiven def.columns places vs → PartsInRange None def places row vs
  ranges vs given = parts_in_range None def places row vs is_row given (key_bytes_are None def places row is_row)

  pub starts : Starts def places row [] places [] []
  starts = record { split = refl; as_many = refl; given = none-given def.columns places; same = none-cmp def.columns places row.fields; bytes = sym (none-parts def.columns places) }

  module _ (done : List ℕ) (p : ℕ) (ps : List ℕ) (vs : List Value) (front : List ℕ) (s : Starts def places row done (p ∷ ps) vs front) (column : ColumnDef) (here : slice_get def.columns p ≡ Some column) (field : Value) (there : slice_get row.fields p ≡ Some field) where
    fits-part : (v : Value) → FitsColumn column.ty v → FitsPart (slice_get def.columns p) (Some v)
    fits-part v f = subst (λ (o : Option ColumnDef). FitsPart o (Some v)) (sym here) f

    one-given : (v : Value) → FitsColumn column.ty v → AllGiven def.columns places (vs ++ v ∷ [])
    one-given v f = subst (λ (l : List ℕ). AllGiven def.columns l (vs ++ v ∷ [])) (sym s.split) (more-given def.columns p ps v done vs s.as_many (subst (λ (l : List ℕ). AllGiven def.columns l vs) s.split s.given) (fits-part v f))

    one-cmp : (v : Value) → given_cmp def.columns places row.fields (vs ++ v ∷ []) ≡ value_cmp column.ty.kind field v
    one-cmp v =
        ap (λ (l : List ℕ). given_cmp def.columns l row.fields (vs ++ v ∷ [])) s.split
        ∙ more-cmp def.columns p ps v row.fields done vs s.as_many
        ∙ ap (λ (l : List ℕ). ordering_then (given_cmp def.columns l row.fields vs) (part_cmp (slice_get def.columns p) (slice_get row.fields p) (Some v))) (sym s.split)
        ∙ ap (λ (o : Ordering). ordering_then o (part_cmp (slice_get def.columns p) (slice_get row.fields p) (Some v))) s.same
        ∙ ap (λ (o : Option ColumnDef). part_cmp o (slice_get row.fields p) (Some v)) here
        ∙ ap (λ (o : Option Value). part_cmp (Some column) o (Some v)) there

    one-bytes : (v : Value) → given_parts def.columns places (vs ++ v ∷ []) ≡ value_from front column.ty v
    one-bytes v =
        ap (λ (l : List ℕ). given_parts def.columns l (vs ++ v ∷ [])) s.split
        ∙ more-parts def.columns p ps v done vs s.as_many
        ∙ ap (λ (l : List ℕ). given_parts def.columns l vs ++ given_part (slice_get def.columns p) v) (sym s.split)
        ∙ ap (λ (o : Option ColumnDef). given_parts def.columns places vs ++ given_part o v) here
        ∙ ap (λ (l : List ℕ). l ++ given_part (Some column) v) (sym s.bytes)

    front-from : is_from front key ≡ true
    front-from =
        let r = ranges vs s.given in
        ap (λ (l : List ℕ). is_from l key) s.bytes
        ∙ from-is (given_cmp def.columns places row.fields vs) (bytes_cmp key (given_parts def.columns places vs)) r.at_or_above
        ∙ ap (λ (o : Ordering). not (is_lt o)) s.same

    front-under : is_under (above_of front) key ≡ true
    front-under =
        let r = ranges vs s.given in
        ap (λ (l : List ℕ). is_under (above_of l) key) s.bytes
        ∙ under-is (given_cmp def.columns places row.fields vs) key (above_of (given_parts def.columns places vs)) r.at_or_below
        ∙ ap (λ (o : Ordering). not (is_gt o)) s.same

    value-from : (v : Value) → FitsColumn column.ty v → is_from (value_from front column.ty v) key ≡ not (is_lt (value_cmp column.ty.kind field v))
    value-from v f =
        let r = ranges (vs ++ v ∷ []) (one-given v f) in
        ap (λ (l : List ℕ). is_from l key) (sym (one-bytes v))
        ∙ from-is (given_cmp def.columns places row.fields (vs ++ v ∷ [])) (bytes_cmp key (given_parts def.columns places (vs ++ v ∷ []))) r.at_or_above
        ∙ ap (λ (o : Ordering). not (is_lt o)) (one-cmp v)

    value-under : (v : Value) → FitsColumn column.ty v → is_under (value_above front column.ty v) key ≡ not (is_gt (value_cmp column.ty.kind field v))
    value-under v f =
        let r = ranges (vs ++ v ∷ []) (one-given v f) in
        ap (λ (l : List ℕ). is_under (above_of l) key) (sym (one-bytes v))
        ∙ under-is (given_cmp def.columns places row.fields (vs ++ v ∷ [])) key (above_of (given_parts def.columns places (vs ++ v ∷ []))) r.at_or_below
        ∙ ap (λ (o : Ordering). not (is_gt o)) (one-cmp v)

    pub against : Against front key column field
    against = record { from_front = front-from; under_front = front-under; from = value-from; under = value-under }

    pub starts-more : (v : Value) → FitsColumn column.ty v → value_cmp column.ty.kind field v ≡ Equal → Starts def places row (done ++ p ∷ []) ps (vs ++ v ∷ []) (value_from front column.ty v)
    starts-more v f e = record {
      split = s.split ∙ sym (append_assoc done (p ∷ []) ps);
      as_many = more-length p v done vs s.as_many;
      given = one-given v f;
      same = one-cmp v ∙ e;
      bytes = sym (one-bytes v);
    }
