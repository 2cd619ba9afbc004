-- Keys stand in the order of their rows.
use Rattle.std.proofs.Common.{◌≡◌, ℕ, ◌^◌, List, [], ◌∷◌, ◌++◌, Option, Some, None, refl, sym, ap, ◌∙◌, append_assoc, append-nil, Bool, true, false}
use Rattle.std.specs.Prelude.{◌↔◌, slice_get}
use Rattle.std.specs.declared.cmp.Ordering.{Ordering}
use Rattle.std.specs.declared.cmp.Ordering.TheVariants.{Less, Equal, Greater}
use Rattle.std.specs.Ordering.{nat_cmp, ordering_then}
use Rattle.byteorder.specs.Endian.{big_bytes}
use Rattle.mr_pieces.specs.Order.{bytes_cmp}
use Rattle.mr_pieces.proofs.Compare.{then_assoc, then_equal, same_front, second_of, equal_bytes, bytes_equal, cmp_equal, cmp_same}
use Rattle.mr_types.specs.declared.definition.ColumnDef.{ColumnDef}
use Rattle.mr_types.specs.declared.definition.TableDef.{TableDef}
use Rattle.mr_types.specs.declared.row.Row.{Row}
use Rattle.mr_types.specs.declared.value.Value.{Value}
use Rattle.mr_types.specs.Rows.{IsRowOf, IsWanted, is_hidden}
use Rattle.mr_memcmp.specs.Fitting.{FitsPart, AllFit}
use Rattle.mr_memcmp.specs.Keys.{part_bytes, parts_bytes, columns_bytes, hidden_bytes, key_bytes_of}
use Rattle.mr_memcmp.specs.KeyOrder.{part_cmp, columns_cmp, hidden_cmp, row_cmp, IsSamePart, AllSame, IsPrefixFree, KeysInOrder, ColumnsInOrder}
use Rattle.mr_memcmp.proofs.Columns.{column_lead, wide_lead}
use Rattle.mr_memcmp.proofs.Fitted.{row_fits}

-- ---- what stands in front decides first

part_lead : (column : Option ColumnDef) (x y : Option Value) (a b : List ℕ) → FitsPart column x → FitsPart column y → bytes_cmp (part_bytes column x ++ a) (part_bytes column y ++ b) ≡ ordering_then (part_cmp column x y) (bytes_cmp a b)
part_lead None x y a b p q = refl
part_lead (Some column) None y a b p q = absurd p
part_lead (Some column) (Some x) None a b p q = absurd q
part_lead (Some column) (Some x) (Some y) a b p q = column_lead column.ty x y a b p q

parts_lead : (columns : List ColumnDef) (places : List ℕ) (xs ys : List Value) (a b : List ℕ) → AllFit columns xs places → AllFit columns ys places → bytes_cmp (parts_bytes columns xs places ++ a) (parts_bytes columns ys places ++ b) ≡ ordering_then (columns_cmp columns places xs ys) (bytes_cmp a b)
parts_lead columns [] xs ys a b p q = refl
parts_lead columns (at ∷ places) xs ys a b p q =
    rw (append_assoc (part_bytes (slice_get columns at) (slice_get xs at)) (parts_bytes columns xs places) a, append_assoc (part_bytes (slice_get columns at) (slice_get ys at)) (parts_bytes columns ys places) b)
    (part_lead (slice_get columns at) (slice_get xs at) (slice_get ys at) (parts_bytes columns xs places ++ a) (parts_bytes columns ys places ++ b) p.0 q.0)
    ∙ ap (ordering_then (part_cmp (slice_get columns at) (slice_get xs at) (slice_get ys at))) (parts_lead columns places xs ys a b p.1 q.1)
    ∙ sym (then_assoc (part_cmp (slice_get columns at) (slice_get xs at) (slice_get ys at)) (columns_cmp columns places xs ys) (bytes_cmp a b))

pub columns_lead : (index : ℕ) (def : TableDef) (places : List ℕ) (x y : Row) (a b : List ℕ) → AllFit def.columns x.fields places → AllFit def.columns y.fields places → bytes_cmp (columns_bytes index def places x ++ a) (columns_bytes index def places y ++ b) ≡ ordering_then (columns_cmp def.columns places x.fields y.fields) (bytes_cmp a b)
columns_lead index def places x y a b p q =
    same_front (big_bytes 4 index) (parts_bytes def.columns x.fields places ++ a) (parts_bytes def.columns y.fields places ++ b)
    ∙ parts_lead def.columns places x.fields y.fields a b p q

hidden_lead : (wanted : Bool) (x y : Option ℕ) (a b : List ℕ) → IsWanted wanted x → IsWanted wanted y → bytes_cmp (hidden_bytes x ++ a) (hidden_bytes y ++ b) ≡ ordering_then (hidden_cmp x y) (bytes_cmp a b)
hidden_lead true (Some x) (Some y) a b p q = wide_lead 8 (2 ^ 64) x y a b refl p q
hidden_lead true (Some x) None a b p q = absurd q
hidden_lead true None y a b p q = absurd p
hidden_lead false (Some x) y a b p q = absurd p
hidden_lead false None (Some y) a b p q = absurd q
hidden_lead false None None a b p q = refl

key_lead : (index : ℕ) (def : TableDef) (places : List ℕ) (x y : Row) (a b : List ℕ) → IsRowOf def x → IsRowOf def y → bytes_cmp (key_bytes_of index def places x ++ a) (key_bytes_of index def places y ++ b) ≡ ordering_then (row_cmp def places x y) (bytes_cmp a b)
key_lead index def places x y a b p q =
    let cx = columns_bytes index def places x in
    let cy = columns_bytes index def places y in
    let hx = hidden_bytes x.hidden in
    let hy = hidden_bytes y.hidden in
    let by_columns = columns_cmp def.columns places x.fields y.fields in
    ap (λ (l : List ℕ). bytes_cmp l ((cy ++ hy) ++ b)) (append_assoc cx hx a)
    ∙ ap (bytes_cmp (cx ++ (hx ++ a))) (append_assoc cy hy b)
    ∙ columns_lead index def places x y (hx ++ a) (hy ++ b) (row_fits def x places p) (row_fits def y places q)
    ∙ ap (ordering_then by_columns) (hidden_lead (is_hidden def) x.hidden y.hidden a b p.hidden_number q.hidden_number)
    ∙ sym (then_assoc by_columns (hidden_cmp x.hidden y.hidden) (bytes_cmp a b))

-- ---- what that says of two keys

abbrev pub Leads : List ℕ → List ℕ → Ordering → Type 0
Leads x y decided = (a b : List ℕ) → bytes_cmp (x ++ a) (y ++ b) ≡ ordering_then decided (bytes_cmp a b)

pub lead_order : (x y : List ℕ) (decided : Ordering) → Leads x y decided → bytes_cmp x y ≡ decided
lead_order x y decided lead =
    sym (ap (λ (l : List ℕ). bytes_cmp l (y ++ [])) (append-nil x) ∙ ap (bytes_cmp x) (append-nil y)) ∙ lead [] [] ∙ then_equal decided

pub lead_equal : (x y : List ℕ) (decided : Ordering) → Leads x y decided → (x ≡ y) ↔ (decided ≡ Equal)
lead_equal x y decided lead =
    let order = lead_order x y decided lead in
    (λ e. sym order ∙ ap (λ (l : List ℕ). bytes_cmp l y) e ∙ bytes_equal y, λ e. equal_bytes x y (order ∙ e))

lead_free : (x y : List ℕ) (decided : Ordering) → Leads x y decided → IsPrefixFree x y
lead_free x y decided lead rest e =
    let whole : bytes_cmp (x ++ rest) (y ++ []) ≡ Equal = ap (bytes_cmp (x ++ rest)) (append-nil y) ∙ ap (λ (l : List ℕ). bytes_cmp l y) (sym e) ∙ bytes_equal y in
    equal_bytes rest [] (second_of decided (bytes_cmp rest []) (sym (lead rest []) ∙ whole))

-- ---- all the same

pub first_equal : (a b : Ordering) → ordering_then a b ≡ Equal → a ≡ Equal
first_equal Less b e = absurd cc
first_equal Equal b e = refl
first_equal Greater b e = absurd cc

both_equal : (a b : Ordering) → a ≡ Equal → b ≡ Equal → ordering_then a b ≡ Equal
both_equal a b e f = ap (λ (o : Ordering). ordering_then o b) e ∙ f

part_same : (column : Option ColumnDef) (x y : Option Value) → (part_cmp column x y ≡ Equal) ↔ IsSamePart column x y
part_same None x y = (λ e. tt, λ e. refl)
part_same (Some column) None y = (λ e. tt, λ e. refl)
part_same (Some column) (Some x) None = (λ e. tt, λ e. refl)
part_same (Some column) (Some x) (Some y) = (λ e. e, λ e. e)

columns_same : (columns : List ColumnDef) (places : List ℕ) (xs ys : List Value) → (columns_cmp columns places xs ys ≡ Equal) ↔ AllSame columns places xs ys
columns_same columns [] xs ys = (λ e. tt, λ e. refl)
columns_same columns (p ∷ places) xs ys =
    let first = part_cmp (slice_get columns p) (slice_get xs p) (slice_get ys p) in
    let others = columns_cmp columns places xs ys in
    let one = part_same (slice_get columns p) (slice_get xs p) (slice_get ys p) in
    let more = columns_same columns places xs ys in
    (λ e. (one.0 (first_equal first others e), more.0 (second_of first others e)), λ e. both_equal first others (one.1 e.0) (more.1 e.1))

hidden_same : (wanted : Bool) (x y : Option ℕ) → IsWanted wanted x → IsWanted wanted y → (hidden_cmp x y ≡ Equal) ↔ (x ≡ y)
hidden_same true (Some x) (Some y) p q = (λ e. ap (λ (n : ℕ). Some n) (cmp_equal x y e), λ e. let same : x ≡ y = cc in ap (nat_cmp x) (sym same) ∙ cmp_same x)
hidden_same true (Some x) None p q = absurd q
hidden_same true None y p q = absurd p
hidden_same false (Some x) y p q = absurd p
hidden_same false None (Some y) p q = absurd q
hidden_same false None None p q = (λ e. refl, λ e. refl)

-- ---- the laws

pub keys_in_order : (index : ℕ) (def : TableDef) (places : List ℕ) (x y : Row) → IsRowOf def x → IsRowOf def y → KeysInOrder index def places x y
keys_in_order index def places x y p q =
    let kx = key_bytes_of index def places x in
    let ky = key_bytes_of index def places y in
    let by_columns = columns_cmp def.columns places x.fields y.fields in
    let by_hidden = hidden_cmp x.hidden y.hidden in
    let lead : Leads kx ky (row_cmp def places x y) = λ a b. key_lead index def places x y a b p q in
    let equal = lead_equal kx ky (row_cmp def places x y) lead in
    let columns = columns_same def.columns places x.fields y.fields in
    let hidden = hidden_same (is_hidden def) x.hidden y.hidden p.hidden_number q.hidden_number in
    record {
      order = lead_order kx ky (row_cmp def places x y) lead;
      same = (λ e. (columns.0 (first_equal by_columns by_hidden (equal.0 e)), hidden.0 (second_of by_columns by_hidden (equal.0 e))), λ e. equal.1 (both_equal by_columns by_hidden (columns.1 e.0) (hidden.1 e.1)));
      prefix_free = lead_free kx ky (row_cmp def places x y) lead;
    }

pub columns_in_order : (index : ℕ) (def : TableDef) (places : List ℕ) (x y : Row) → AllFit def.columns x.fields places → AllFit def.columns y.fields places → ColumnsInOrder index def places x y
columns_in_order index def places x y p q =
    let kx = columns_bytes index def places x in
    let ky = columns_bytes index def places y in
    let decided = columns_cmp def.columns places x.fields y.fields in
    let lead : Leads kx ky decided = λ a b. columns_lead index def places x y a b p q in
    let equal = lead_equal kx ky decided lead in
    let columns = columns_same def.columns places x.fields y.fields in
    record {
      order = lead_order kx ky decided lead;
      same = (λ e. columns.0 (equal.0 e), λ e. equal.1 (columns.1 e));
      prefix_free = lead_free kx ky decided lead;
    }
