-- What a test of a column says of a row, and of its key.
use Rattle.std.proofs.Common.{◌≡◌, ℕ, Bool, true, false, List, [], Option, Some, None, refl, sym, ap, ◌∙◌}
use Rattle.std.specs.Prelude.{not, ◌&&◌, if◌then◌else◌}
use Rattle.std.specs.declared.cmp.Ordering.{Ordering}
use Rattle.std.specs.declared.cmp.Ordering.TheVariants.{Less, Equal, Greater}
use Rattle.std.specs.Ordering.{is_lt, is_gt, is_eq, is_le, is_ge}
use Rattle.mr_types.specs.declared.kind.Kind.{Kind}
use Rattle.mr_types.specs.declared.definition.ColumnDef.{ColumnDef}
use Rattle.mr_types.specs.declared.value.Value.{Value}
use Rattle.mr_types.specs.declared.value.Value.TheVariants.{Null, Number, Text, Bytes}
use Rattle.mr_types.specs.declared.expr.Cmp.{Cmp}
use Rattle.mr_types.specs.declared.expr.Cmp.TheVariants.{Eq, Ne, Lt, Le, Gt, Ge}
use Rattle.mr_types.specs.Values.{is_null}
use Rattle.mr_types.specs.Order.{value_cmp}
use Rattle.mr_spec.specs.declared.truth.Truth.TheVariants.{Unknown}
use Rattle.mr_spec.specs.Truth.{is_true, truth_of_test, meets, compared}
use Rattle.mr_memcmp.specs.Above.{above_of}
use Rattle.mr_memcmp.specs.Fitting.{FitsColumn}
use Rattle.mr_ranges.specs.Ranges.{precedes, is_under, in_some, between}
use Rattle.mr_ranges.proofs.Order.{turned}
use Rattle.mr_ranges.proofs.Common.{in_between}
use Rattle.mr_plan.specs.Columns.{unless_other}
use Rattle.mr_plan.specs.Tests.{fits_column, side_of, value_from, value_above, floor, from_end, whole, not_null, cmp_ranges, test_ranges, null_ranges}
use Rattle.mr_plan.proofs.Fits.{true_fits}
use Rattle.mr_plan.proofs.Sides.{one-side}
use Rattle.mr_plan.proofs.Standing.{Against}

-- ---- tests as truths

test-is : (b : Bool) → is_true (truth_of_test b) ≡ b
test-is true = refl
test-is false = refl

pub compared-null : (kind : Kind) (field : Value) (cmp : Cmp) (v : Value) → is_null v ≡ true → is_true (compared kind field cmp v) ≡ false
compared-null kind field cmp v h = by (is_null field) (is_null v) h
  where
    by : (s t : Bool) → t ≡ true → is_true (if s then Unknown else (if t then Unknown else truth_of_test (meets cmp (value_cmp kind field v)))) ≡ false
    by true t e = refl
    by false true e = refl
    by false false e = cc

pub compared-is : (kind : Kind) (field : Value) (cmp : Cmp) (v : Value) → is_null v ≡ false → is_true (compared kind field cmp v) ≡ (not (is_null field) && meets cmp (value_cmp kind field v))
compared-is kind field cmp v h = by (is_null field) (is_null v) h
  where
    by : (s t : Bool) → t ≡ false → is_true (if s then Unknown else (if t then Unknown else truth_of_test (meets cmp (value_cmp kind field v)))) ≡ (not s && meets cmp (value_cmp kind field v))
    by true t e = refl
    by false true e = cc
    by false false e = test-is (meets cmp (value_cmp kind field v))

null-less : (kind : Kind) (field v : Value) → is_null v ≡ false → is_null field ≡ true → value_cmp kind field v ≡ Less
null-less kind Null Null h k = cc
null-less kind Null (Number y) h k = refl
null-less kind Null (Text t) h k = refl
null-less kind Null (Bytes b) h k = refl
null-less kind (Number z) v h k = cc
null-less kind (Text s) v h k = cc
null-less kind (Bytes s) v h k = cc

-- ---- tests of an order, where NULL is less

equal-test : (n : Bool) (o : Ordering) → (n ≡ true → o ≡ Less) → (not (is_lt o) && not (is_gt o)) ≡ (not n && is_eq o)
equal-test true o h = ap (λ (o : Ordering). not (is_lt o) && not (is_gt o)) (h refl)
equal-test false Less h = refl
equal-test false Equal h = refl
equal-test false Greater h = refl

from-test : (n : Bool) (o : Ordering) → (n ≡ true → o ≡ Less) → (not (is_lt o) && true) ≡ (not n && is_ge o)
from-test true o h = ap (λ (o : Ordering). not (is_lt o) && true) (h refl)
from-test false Less h = refl
from-test false Equal h = refl
from-test false Greater h = refl

above-test : (n : Bool) (o : Ordering) → (n ≡ true → o ≡ Less) → (not (not (is_gt o)) && true) ≡ (not n && is_gt o)
above-test true o h = ap (λ (o : Ordering). not (not (is_gt o)) && true) (h refl)
above-test false Less h = refl
above-test false Equal h = refl
above-test false Greater h = refl

upto-test : (o : Ordering) → not (is_gt o) ≡ is_le o
upto-test Less = refl
upto-test Equal = refl
upto-test Greater = refl

same-not : (a b : Bool) → not a ≡ not b → a ≡ b
same-not true true h = refl
same-not true false h = cc
same-not false true h = cc
same-not false false h = refl

null-under : (kind : Kind) (field : Value) → not (is_gt (value_cmp kind field Null)) ≡ is_null field
null-under kind Null = refl
null-under kind (Number z) = refl
null-under kind (Text t) = refl
null-under kind (Bytes b) = refl

null-equal : (kind : Kind) (field : Value) → (not (is_lt (value_cmp kind field Null)) && not (is_gt (value_cmp kind field Null))) ≡ is_null field
null-equal kind Null = refl
null-equal kind (Number z) = refl
null-equal kind (Text t) = refl
null-equal kind (Bytes b) = refl

module _ (front key : List ℕ) (column : ColumnDef) (field : Value) (a : Against front key column field) (fits : FitsColumn column.ty field) where
  abbrev order : Value → Ordering
  order v = value_cmp column.ty.kind field v

  pub in-whole-front : in_some key (whole front) ≡ true
  in-whole-front = in_between front (above_of front) key ∙ ap (λ (b : Bool). b && is_under (above_of front) key) a.from_front ∙ a.under_front

  in-end : (low high : Option (List ℕ)) → in_some key (from_end low high) ≡ (not (is_under low key) && is_under high key)
  in-end None high = refl
  in-end (Some low) high = in_between low high key

  never-null : (field : Value) → FitsColumn column.ty field → column.ty.nullable ≡ false → is_null field ≡ false
  never-null Null f e = sym f ∙ e
  never-null (Number z) f e = refl
  never-null (Text t) f e = refl
  never-null (Bytes b) f e = refl

  floor-is : is_under (floor front column.ty) key ≡ is_null field
  floor-is = by column.ty.nullable refl
    where
      by : (b : Bool) → column.ty.nullable ≡ b → is_under (if b then value_above front column.ty Null else Some front) key ≡ is_null field
      by true e = a.under Null e ∙ null-under column.ty.kind field
      by false e = turned (precedes key front) a.from_front ∙ sym (never-null field fits e)

  cmp-says : (cmp : Cmp) (v : Value) → is_null v ≡ false → FitsColumn column.ty v → in_some key (cmp_ranges front column.ty cmp v) ≡ unless_other cmp (not (is_null field) && meets cmp (order v))
  cmp-says Eq v n f =
      in_between (value_from front column.ty v) (value_above front column.ty v) key
      ∙ ap (λ (b : Bool). b && is_under (value_above front column.ty v) key) (a.from v f)
      ∙ ap (λ (b : Bool). not (is_lt (order v)) && b) (a.under v f)
      ∙ equal-test (is_null field) (order v) (null-less column.ty.kind field v n)
  cmp-says Ne v n f = in-whole-front
  cmp-says Lt v n f =
      in-end (floor front column.ty) (Some (value_from front column.ty v))
      ∙ ap (λ (b : Bool). not b && precedes key (value_from front column.ty v)) floor-is
      ∙ ap (λ (b : Bool). not (is_null field) && b) (same-not (precedes key (value_from front column.ty v)) (is_lt (order v)) (a.from v f))
  cmp-says Le v n f =
      in-end (floor front column.ty) (value_above front column.ty v)
      ∙ ap (λ (b : Bool). not b && is_under (value_above front column.ty v) key) floor-is
      ∙ ap (λ (b : Bool). not (is_null field) && b) (a.under v f ∙ upto-test (order v))
  cmp-says Gt v n f =
      in-end (value_above front column.ty v) (above_of front)
      ∙ ap (λ (b : Bool). not b && is_under (above_of front) key) (a.under v f)
      ∙ ap (λ (b : Bool). not (not (is_gt (order v))) && b) a.under_front
      ∙ above-test (is_null field) (order v) (null-less column.ty.kind field v n)
  cmp-says Ge v n f =
      in_between (value_from front column.ty v) (above_of front) key
      ∙ ap (λ (b : Bool). b && is_under (above_of front) key) (a.from v f)
      ∙ ap (λ (b : Bool). not (is_lt (order v)) && b) a.under_front
      ∙ from-test (is_null field) (order v) (null-less column.ty.kind field v n)

  in-not-null : in_some key (not_null front column.ty) ≡ not (is_null field)
  in-not-null =
      in-end (floor front column.ty) (above_of front)
      ∙ ap (λ (b : Bool). not b && is_under (above_of front) key) floor-is
      ∙ ap (λ (b : Bool). not (is_null field) && b) a.under_front
      ∙ whole-of (not (is_null field))
    where
      whole-of : (b : Bool) → (b && true) ≡ b
      whole-of true = refl
      whole-of false = refl

  side-says : (cmp : Cmp) (v : Value) → is_null v ≡ false → fits_column column.ty v ≡ false → in_some key (if meets cmp (side_of column.ty.kind v) then not_null front column.ty else []) ≡ (not (is_null field) && meets cmp (order v))
  side-says cmp v n e = by (meets cmp (side_of column.ty.kind v)) refl (is_null field) refl
    where
      by : (m : Bool) → meets cmp (side_of column.ty.kind v) ≡ m → (t : Bool) → is_null field ≡ t → in_some key (if m then not_null front column.ty else []) ≡ (not (is_null field) && meets cmp (order v))
      by true is true null = in-not-null ∙ ap not null ∙ sym (ap (λ (b : Bool). not b && meets cmp (order v)) null)
      by true is false null = in-not-null ∙ ap not null ∙ sym (ap (λ (b : Bool). not b && meets cmp (order v)) null ∙ ap (meets cmp) (one-side column.ty field v fits null n e) ∙ is)
      by false is true null = sym (ap (λ (b : Bool). not b && meets cmp (order v)) null)
      by false is false null = sym (ap (λ (b : Bool). not b && meets cmp (order v)) null ∙ ap (meets cmp) (one-side column.ty field v fits null n e) ∙ is)

  -- but for `<>`
  some-says : (cmp : Cmp) (v : Value) → ((b : Bool) → unless_other cmp b ≡ b) → in_some key (if is_null v then [] else (if fits_column column.ty v then cmp_ranges front column.ty cmp v else (if meets cmp (side_of column.ty.kind v) then not_null front column.ty else []))) ≡ is_true (compared column.ty.kind field cmp v)
  some-says cmp v plain = by (is_null v) refl (fits_column column.ty v) refl
    where
      by : (n : Bool) → is_null v ≡ n → (f : Bool) → fits_column column.ty v ≡ f → in_some key (if n then [] else (if f then cmp_ranges front column.ty cmp v else (if meets cmp (side_of column.ty.kind v) then not_null front column.ty else []))) ≡ is_true (compared column.ty.kind field cmp v)
      by true null f e = sym (compared-null column.ty.kind field cmp v null)
      by false null true e = cmp-says cmp v null (true_fits column.ty v e) ∙ plain (not (is_null field) && meets cmp (order v)) ∙ sym (compared-is column.ty.kind field cmp v null)
      by false null false e = side-says cmp v null e ∙ sym (compared-is column.ty.kind field cmp v null)

  pub test-says : (cmp : Cmp) (v : Value) → in_some key (test_ranges front column.ty cmp v) ≡ unless_other cmp (is_true (compared column.ty.kind field cmp v))
  test-says Eq v = some-says Eq v (λ b. refl)
  test-says Ne v = in-whole-front
  test-says Lt v = some-says Lt v (λ b. refl)
  test-says Le v = some-says Le v (λ b. refl)
  test-says Gt v = some-says Gt v (λ b. refl)
  test-says Ge v = some-says Ge v (λ b. refl)

  pub null-says : in_some key (null_ranges front column.ty) ≡ is_null field
  null-says = by column.ty.nullable refl
    where
      by : (b : Bool) → column.ty.nullable ≡ b → in_some key (if b then between (value_from front column.ty Null) (value_above front column.ty Null) else []) ≡ is_null field
      by true e =
          in_between (value_from front column.ty Null) (value_above front column.ty Null) key
          ∙ ap (λ (b : Bool). b && is_under (value_above front column.ty Null) key) (a.from Null e)
          ∙ ap (λ (b : Bool). not (is_lt (order Null)) && b) (a.under Null e)
          ∙ null-equal column.ty.kind field
      by false e = sym (never-null field fits e)
