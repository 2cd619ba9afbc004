-- The keys that a plan leaves, and the rows that they are of.
use Rattle.std.proofs.Common.{◌≡◌, ℕ, Bool, true, false, List, [], ◌∷◌, ◌++◌, Option, Some, None, is_some, refl, sym, ap, subst, ◌∙◌}
use Rattle.std.specs.Prelude.{◌==◌, ◌&&◌, ◌||◌, not, if◌then◌else◌, slice_get, unwrap_or}
use Rattle.std.specs.List.{list_any, list_all}
use Rattle.std.specs.Option.{option_map_or}
use Rattle.std.specs.Ordering.{is_eq}
use Rattle.std.specs.declared.cmp.Ordering.{Ordering}
use Rattle.std.specs.declared.cmp.Ordering.TheVariants.{Less, Equal, Greater}
use Rattle.std.proofs.Math.Path.{fun_ext}
use Rattle.mr_types.specs.declared.kind.Kind.{Kind}
use Rattle.mr_types.specs.declared.kind.Kind.TheVariants as kinds
use Rattle.mr_types.specs.declared.definition.ColumnDef.{ColumnDef}
use Rattle.mr_types.specs.declared.definition.TableDef.{TableDef}
use Rattle.mr_types.specs.declared.row.Row.{Row}
use Rattle.mr_types.specs.declared.value.Value.{Value}
use Rattle.mr_types.specs.declared.value.Value.TheVariants.{Null}
use Rattle.mr_types.specs.declared.expr.Cmp.{Cmp}
use Rattle.mr_types.specs.declared.expr.Cmp.TheVariants.{Eq, Ge, Le}
use Rattle.mr_types.specs.Rows.{IsRowOf}
use Rattle.mr_types.specs.Values.{is_null}
use Rattle.mr_types.specs.Order.{value_cmp}
use Rattle.mr_spec.specs.declared.bound.Bound.{Bound, fold-Bound}
use Rattle.mr_spec.specs.declared.bound.Bound.TheOpen.{Bound-F, Compare, IsNull, Between, OneOf, Not, And, Or}
use Rattle.mr_spec.specs.Rows.{kind_at, value_at}
use Rattle.mr_spec.specs.Truth.{is_true, compared}
use Rattle.mr_spec.specs.Binding.{test_at}
use Rattle.mr_memcmp.specs.Fitting.{FitsPart, FitsColumn}
use Rattle.mr_memcmp.specs.Parts.{row_key}
use Rattle.mr_memcmp.proofs.Fitted.{row_fits}
use Rattle.mr_ranges.specs.declared.range.Range.{Range}
use Rattle.mr_ranges.specs.Ranges.{in_some}
use Rattle.mr_plan.specs.Columns.{unless_other, said_layer, said, keeps, fixed}
use Rattle.mr_plan.specs.Tests.{fits_column, value_from, whole, test_ranges, null_ranges, says_layer, says}
use Rattle.mr_plan.specs.Keys.{is_fitting, place_held, held, front_with, index_says}
use Rattle.mr_plan.proofs.Fits.{true_fits}
use Rattle.mr_plan.proofs.Said.{true-said, fixed-same}
use Rattle.mr_plan.proofs.Standing.{Starts, Against, starts, against, starts-more}
use Rattle.mr_plan.proofs.Leaves.{in-whole-front, test-says, null-says, compared-is, compared-null}

all-any : (f g : Value → Bool) → ((v : Value) → f v ≡ g v) → (vs : List Value) → list_any f vs ≡ list_any g vs
all-any f g h [] = refl
all-any f g h (v ∷ vs) = ap (λ (b : Bool). b || list_any f vs) (h v) ∙ ap (λ (b : Bool). g v || b) (all-any f g h vs)

chosen : (b x y u v : Bool) → x ≡ u → y ≡ v → (if b then x else y) ≡ (if b then u else v)
chosen true x y u v h k = h
chosen false x y u v h k = k

-- the value of a column that a table has
pub field-of : (def : TableDef) (row : Row) (p : ℕ) → IsRowOf def row → (column : ColumnDef) → slice_get def.columns p ≡ Some column → (field : Value) × (slice_get row.fields p ≡ Some field) × FitsColumn column.ty field
field-of def row p is column here = by (slice_get row.fields p) refl (subst (λ (o : Option ColumnDef). FitsPart o (slice_get row.fields p)) here (row_fits def row (p ∷ []) is).0)
  where
    by : (o : Option Value) → slice_get row.fields p ≡ o → FitsPart (Some column) (slice_get row.fields p) → (field : Value) × (slice_get row.fields p ≡ Some field) × FitsColumn column.ty field
    by None e f = absurd (subst (FitsPart (Some column)) e f)
    by (Some field) e f = (field, e, subst (FitsPart (Some column)) e f)

-- ---- one column

module _ (def : TableDef) (row : Row) (p : ℕ) (front key : List ℕ) (column : ColumnDef) (field : Value) (here : slice_get def.columns p ≡ Some column) (there : slice_get row.fields p ≡ Some field) (a : Against front key column field) (fits : FitsColumn column.ty field) where
  value-is : value_at row p ≡ field
  value-is = ap (λ (o : Option Value). unwrap_or o Null) there

  kind-is : kind_at def p ≡ column.ty.kind
  kind-is = ap (λ (o : Option ColumnDef). option_map_or (λ c. c.ty.kind) o kinds.Int) here

  test-is : (cmp : Cmp) (v : Value) → test_at def row p cmp v ≡ compared column.ty.kind field cmp v
  test-is cmp v = ap (λ (k : Kind). compared k (value_at row p) cmp v) kind-is ∙ ap (λ (f : Value). compared column.ty.kind f cmp v) value-is

  one-test : (cmp : Cmp) (v : Value) → in_some key (test_ranges front column.ty cmp v) ≡ unless_other cmp (is_true (test_at def row p cmp v))
  one-test cmp v = test-says front key column field a fits cmp v ∙ ap (λ t. unless_other cmp (is_true t)) (sym (test-is cmp v))

  whole-is : in_some key (whole front) ≡ true
  whole-is = in-whole-front front key column field a fits

  layer-is : (x : Bound-F Bool) → says_layer front column.ty p key x ≡ said_layer def p row x
  layer-is (Compare i cmp v) = chosen (i == p) (in_some key (test_ranges front column.ty cmp v)) (in_some key (whole front)) (unless_other cmp (is_true (test_at def row p cmp v))) true (one-test cmp v) whole-is
  layer-is (IsNull i) = chosen (i == p) (in_some key (null_ranges front column.ty)) (in_some key (whole front)) (is_null (value_at row p)) true (null-says front key column field a fits ∙ ap is_null (sym value-is)) whole-is
  layer-is (Between i u v) = chosen (i == p) (in_some key (test_ranges front column.ty Ge u) && in_some key (test_ranges front column.ty Le v)) (in_some key (whole front)) (is_true (test_at def row p Ge u) && is_true (test_at def row p Le v)) true
      (ap (λ (b : Bool). b && in_some key (test_ranges front column.ty Le v)) (one-test Ge u) ∙ ap (λ (b : Bool). is_true (test_at def row p Ge u) && b) (one-test Le v)) whole-is
  layer-is (OneOf i vs) = chosen (i == p) (list_any (λ v. in_some key (test_ranges front column.ty Eq v)) vs) (in_some key (whole front)) (list_any (λ v. is_true (test_at def row p Eq v)) vs) true (all-any (λ v. in_some key (test_ranges front column.ty Eq v)) (λ v. is_true (test_at def row p Eq v)) (one-test Eq) vs) whole-is
  layer-is (Not b) = whole-is
  layer-is (And bs) = ap (λ (b : Bool). b && list_all (λ b. b) bs) whole-is
  layer-is (Or bs) = refl

  pub column-said : (e : Option Bound) → says front column.ty p key e ≡ said def p row e
  column-said None = whole-is
  column-said (Some e) = ap (λ (layer : Bound-F Bool → Bool). fold-Bound Bool layer e) (fun_ext layer-is)

  -- a value that `=` fixes is the row's
  pub same-value : (e : Option Bound) (v : Value) → said def p row e ≡ true → fixed p e ≡ Some v → value_cmp column.ty.kind field v ≡ Equal
  same-value e v s f = by (is_null v) refl
    where
      test : is_true (compared column.ty.kind field Eq v) ≡ true
      test = ap is_true (sym (test-is Eq v)) ∙ fixed-same def row p e v s f

      equal : (n : Bool) (o : Ordering) → (not n && is_eq o) ≡ true → o ≡ Equal
      equal true o h = cc
      equal false Less h = cc
      equal false Equal h = refl
      equal false Greater h = cc

      by : (n : Bool) → is_null v ≡ n → value_cmp column.ty.kind field v ≡ Equal
      by true null = let m : false ≡ true = sym (compared-null column.ty.kind field Eq v null) ∙ test in cc
      by false null = equal (is_null field) (value_cmp column.ty.kind field v) (sym (compared-is column.ty.kind field Eq v null) ∙ test)

-- ---- the columns of an index

where-true : (s x y : Bool) → (s ≡ true → x ≡ y) → (s && x) ≡ (s && y)
where-true true x y h = h refl
where-true false x y h = refl

module _ (def : TableDef) (e : Option Bound) (places : List ℕ) (row : Row) (is_row : IsRowOf def row) where
  abbrev key : List ℕ
  key = row_key None def places row

  says-held : (ps done : List ℕ) (vs : List Value) (front : List ℕ) → Starts def places row done ps vs front → index_says def e front ps key ≡ held def e ps row
  says-held [] done vs front s = refl
  says-held (p ∷ ps) done vs front s = at-column (slice_get def.columns p) refl
      (λ column here field there fits v f same. says-held ps (done ++ p ∷ []) (vs ++ v ∷ []) (value_from front column.ty v) (starts-more def places row is_row done p ps vs front s column here field there v f same))
    where
      at-column : (o : Option ColumnDef) → slice_get def.columns p ≡ o
          → ((column : ColumnDef) → slice_get def.columns p ≡ Some column → (field : Value) → slice_get row.fields p ≡ Some field → FitsColumn column.ty field → (v : Value) → FitsColumn column.ty v → value_cmp column.ty.kind field v ≡ Equal → index_says def e (value_from front column.ty v) ps key ≡ held def e ps row)
          → (option_map_or (λ column. says front column.ty p key e) o true && option_map_or (λ more. index_says def e more ps key) (option_map_or (λ column. front_with front column (fixed p e)) o None) true) ≡ ((if is_some o then said def p row e else true) && (if is_fitting o (fixed p e) then held def e ps row else true))
      at-column None here more = refl
      at-column (Some column) here more =
          let found = field-of def row p is_row column here in
          let a = against def places row is_row done p ps vs front s column here found.0 found.1 in
          ap (λ (b : Bool). b && option_map_or (λ next. index_says def e next ps key) (front_with front column (fixed p e)) true) (column-said def row p front key column found.0 here found.1 a found.2 e)
          ∙ where-true (said def p row e) (option_map_or (λ next. index_says def e next ps key) (front_with front column (fixed p e)) true) (if is_fitting (Some column) (fixed p e) then held def e ps row else true)
          (λ true-here. by-value (fixed p e) (λ v f fit. more column here found.0 found.1 found.2 v (true_fits column.ty v fit) (same-value def row p front key column found.0 here found.1 a found.2 e v true-here f)))
        where
          by-value : (o : Option Value) → ((v : Value) → o ≡ Some v → fits_column column.ty v ≡ true → index_says def e (value_from front column.ty v) ps key ≡ held def e ps row)
              → option_map_or (λ next. index_says def e next ps key) (front_with front column o) true ≡ (if is_fitting (Some column) o then held def e ps row else true)
          by-value None h = refl
          by-value (Some v) h = by-fit (fits_column column.ty v) refl
            where
              by-fit : (b : Bool) → fits_column column.ty v ≡ b → option_map_or (λ next. index_says def e next ps key) (if b then Some (value_from front column.ty v) else None) true ≡ (if b then held def e ps row else true)
              by-fit true f = h v refl f
              by-fit false f = refl

  -- the key of a row is left exactly where the row meets what the condition says
  pub keys-held : index_says def e [] places key ≡ held def e places row
  keys-held = says-held places [] [] [] (starts def places row is_row)

  both : (a b : Bool) → a ≡ true → b ≡ true → (a && b) ≡ true
  both true b h k = k
  both false b h k = cc

  -- and it does where the condition is true
  pub true-held : keeps def e row ≡ true → (ps : List ℕ) → held def e ps row ≡ true
  true-held h [] = refl
  true-held h (p ∷ ps) = both (place_held def e p row) (if is_fitting (slice_get def.columns p) (fixed p e) then held def e ps row else true) (there (is_some (slice_get def.columns p))) (so (is_fitting (slice_get def.columns p) (fixed p e)) (true-held h ps))
    where
      there : (b : Bool) → (if b then said def p row e else true) ≡ true
      there true = true-said def row p e h
      there false = refl

      so : (b : Bool) → held def e ps row ≡ true → (if b then held def e ps row else true) ≡ true
      so true k = k
      so false k = refl

pub lies-held : (def : TableDef) (e : Option Bound) (places slice own : List ℕ) (ranges : List Range) (row : Row) → slice ≡ own → own ≡ places → ((key : List ℕ) → in_some key ranges ≡ index_says def e [] slice key) → IsRowOf def row → in_some (row_key None def places row) ranges ≡ held def e places row
lies-held def e places slice own ranges row is its same is_row =
    same (row_key None def places row)
    ∙ ap (λ (l : List ℕ). index_says def e [] l (row_key None def places row)) (is ∙ its)
    ∙ keys-held def e places row is_row
