-- Rows against given values, as bytes.
use Rattle.std.proofs.Common.{◌≡◌, ◌≢◌, ℕ, zero, suc, ◌≤◌, List, [], ◌∷◌, ◌++◌, Option, Some, None, Bool, refl, sym, ap, subst, ◌∙◌, arith, inl, inr, take, length, map, append_assoc}
use Rattle.std.specs.Prelude.{◌↔◌, ◌==◌, slice_get, if◌then◌else◌}
use Rattle.std.specs.declared.cmp.Ordering.{Ordering}
use Rattle.std.specs.declared.cmp.Ordering.TheVariants.{Less, Equal, Greater}
use Rattle.std.specs.Ordering.{nat_cmp, ordering_then, ordering_reverse}
use Rattle.std.proofs.lemmas.Bool.{cases_eq, cases_lt, eq-eqb, ne_eqb}
use Rattle.std.proofs.lemmas.Bool.Decides.{nat_tests}
use Rattle.byteorder.specs.Endian.{big_bytes}
use Rattle.mr_lanes.specs.Kernels.{upper}
use Rattle.mr_pieces.specs.declared.collation.Collation.{Collation}
use Rattle.mr_pieces.specs.declared.collation.Collation.TheVariants.{Bin, Ci}
use Rattle.mr_pieces.specs.Order.{bytes_cmp, text_cmp, filler_cmp, filled_cmp}
use Rattle.mr_pieces.proofs.Compare.{then_assoc, same_front, cmp_less, cmp_greater}
use Rattle.mr_types.specs.declared.kind.Kind.{Kind}
use Rattle.mr_types.specs.declared.kind.Kind.TheVariants.{Int, IntUnsigned, BigInt, BigIntUnsigned, VarChar, VarBinary}
use Rattle.mr_types.specs.declared.kind.ColumnType.{ColumnType}
use Rattle.mr_types.specs.declared.definition.ColumnDef.{ColumnDef}
use Rattle.mr_types.specs.declared.definition.TableDef.{TableDef}
use Rattle.mr_types.specs.declared.row.Row.{Row}
use Rattle.mr_types.specs.declared.value.Value.{Value}
use Rattle.mr_types.specs.declared.value.Value.TheVariants.{Null, Number, Text, Bytes}
use Rattle.mr_types.specs.Order.{value_cmp}
use Rattle.mr_types.specs.Values.{assign_to, length_of_kind}
use Rattle.mr_types.specs.Rows.{AreFields, IsFieldOf, IsRowOf}
use Rattle.mr_memcmp.specs.ComeBack.{AreBytes}
use Rattle.mr_memcmp.specs.Fitting.{FitsPart, FitsColumn}
use Rattle.mr_memcmp.specs.Keys.{column_bytes, part_bytes, parts_bytes, hidden_bytes}
use Rattle.mr_memcmp.specs.KeyOrder.{part_cmp}
use Rattle.mr_memcmp.specs.Above.{GoesOn, IsBelow, above_of}
use Rattle.mr_memcmp.specs.Parts.{first_no_space, as_list, cut_text, cut, given_part, given_parts, behind_number, given_bytes, AllGiven, given_cmp, row_key, PartsInRange}
use Rattle.mr_memcmp.proofs.Columns.{column_lead}
use Rattle.mr_memcmp.proofs.Fitted.{kept, Taken, value_taken, text_taken, bytes_taken}
use Rattle.mr_memcmp.proofs.Assigned.{text_short, bytes_short}
use Rattle.mr_memcmp.proofs.Keys.{Leads}
use Rattle.mr_memcmp.proofs.Ranges.{is_at_or_above, is_same, against}
use Rattle.mr_memcmp.proofs.Behind.{prefixes_are_ranges, below_front}

-- ---- a text that is cut compares as the whole

then_other : (o a b : Ordering) → o ≢ Equal → ordering_then o a ≡ ordering_then o b
then_other Less a b h = refl
then_other Equal a b h = absurd (h refl)
then_other Greater a b h = refl

differs : (x y : ℕ) → x ≢ y → nat_cmp x y ≢ Equal
differs x y h e = elim (cases_lt x y) [
  | inl less ↦ let f : Less ≡ Equal = sym (cmp_less x y less) ∙ e in absurd cc
  | inr not_less ↦ let f : Greater ≡ Equal = sym (cmp_greater x y (omega arith)) ∙ e in absurd cc
]

spaces_left : (text : List ℕ) → filler_cmp 32 (as_list (first_no_space text)) ≡ filler_cmp 32 text
spaces_left [] = refl
spaces_left (c ∷ text) = elim (cases_eq c 32) [
  | inl same ↦ rw (eq-eqb c 32 same, same) (spaces_left text)
  | inr other ↦ ap (λ (b : Bool). filler_cmp 32 (as_list (if b then first_no_space text else Some c))) (ne_eqb c 32 other) ∙ then_other (nat_cmp c 32) Equal (filler_cmp 32 text) (differs c 32 other)
]

cut_filler : (n : ℕ) (text : List ℕ) → filler_cmp 32 (cut_text n text) ≡ filler_cmp 32 text
cut_filler zero text = spaces_left text
cut_filler (suc n) [] = refl
cut_filler (suc n) (c ∷ text) = ap (ordering_then (nat_cmp c 32)) (cut_filler n text)

cut_filled : (n : ℕ) (field text : List ℕ) → length field ≤ n → filled_cmp 32 field (cut_text n text) ≡ filled_cmp 32 field text
cut_filled n [] text h = ap ordering_reverse (cut_filler n text)
cut_filled zero (x ∷ field) text h = absurd (omega arith)
cut_filled (suc n) (x ∷ field) [] h = refl
cut_filled (suc n) (x ∷ field) (c ∷ text) h = ap (ordering_then (nat_cmp x c)) (cut_filled n field text (omega arith))

upper_space : (c : ℕ) → (upper c == 32) ≡ (c == 32)
upper_space c = elim (cases_eq c 32) [
  | inl same ↦ rw same refl
  | inr other ↦ ne_eqb (upper c) 32 (not_space c other) ∙ sym (ne_eqb c 32 other)
]
  where
    not_space : (c : ℕ) → c ≢ 32 → upper c ≢ 32
    not_space c other e = grind (arith, nat_tests)

first_upper : (text : List ℕ) → map upper (as_list (first_no_space text)) ≡ as_list (first_no_space (map upper text))
first_upper [] = refl
first_upper (c ∷ text) = elim (cases_eq c 32) [
  | inl same ↦ rw (upper_space c, eq-eqb c 32 same) (first_upper text)
  | inr other ↦ rw (upper_space c, ne_eqb c 32 other) refl
]

cut_upper : (n : ℕ) (text : List ℕ) → map upper (cut_text n text) ≡ cut_text n (map upper text)
cut_upper zero text = first_upper text
cut_upper (suc n) [] = refl
cut_upper (suc n) (c ∷ text) = ap (λ (l : List ℕ). upper c ∷ l) (cut_upper n text)

upper_length : (text : List ℕ) → length (map upper text) ≡ length text
upper_length [] = refl
upper_length (c ∷ text) = ap suc (upper_length text)

text_cut : (collation : Collation) (n : ℕ) (field text : List ℕ) → length field ≤ n → text_cmp collation field (cut_text n text) ≡ text_cmp collation field text
text_cut Bin n field text h = cut_filled n field text h
text_cut Ci n field text h =
    ap (filled_cmp 32 (map upper field)) (cut_upper n text) ∙ cut_filled n (map upper field) (map upper text) (let e = upper_length field in omega arith)

bytes_cut : (n : ℕ) (field bytes : List ℕ) → length field ≤ n → bytes_cmp field (take (suc n) bytes) ≡ bytes_cmp field bytes
bytes_cut n [] [] h = refl
bytes_cut n [] (b ∷ bytes) h = refl
bytes_cut zero (x ∷ field) bytes h = absurd (omega arith)
bytes_cut (suc n) (x ∷ field) [] h = refl
bytes_cut (suc n) (x ∷ field) (b ∷ bytes) h = ap (ordering_then (nat_cmp x b)) (bytes_cut n field bytes (omega arith))

-- ---- so does a value

abbrev column_of : Bool → Kind → ColumnType
column_of nullable kind = record { kind = kind; nullable = nullable }

text_of_kind : (kind : Kind) (field text : List ℕ) → Taken kind (Text field) → value_cmp kind (Text field) (Text (cut_text (length_of_kind kind) text)) ≡ value_cmp kind (Text field) (Text text)
text_of_kind (VarChar n c) field text h = text_cut c n field text (text_short n c field h)
text_of_kind Int field text h = absurd (text_taken Int field h)
text_of_kind IntUnsigned field text h = absurd (text_taken IntUnsigned field h)
text_of_kind BigInt field text h = absurd (text_taken BigInt field h)
text_of_kind BigIntUnsigned field text h = absurd (text_taken BigIntUnsigned field h)
text_of_kind (VarBinary n) field text h = absurd (text_taken (VarBinary n) field h)

bytes_of_kind : (kind : Kind) (field bytes : List ℕ) → Taken kind (Bytes field) → value_cmp kind (Bytes field) (Bytes (take (suc (length_of_kind kind)) bytes)) ≡ value_cmp kind (Bytes field) (Bytes bytes)
bytes_of_kind (VarBinary n) field bytes h = bytes_cut n field bytes (bytes_short n field h)
bytes_of_kind Int field bytes h = absurd (bytes_taken Int field h)
bytes_of_kind IntUnsigned field bytes h = absurd (bytes_taken IntUnsigned field h)
bytes_of_kind BigInt field bytes h = absurd (bytes_taken BigInt field h)
bytes_of_kind BigIntUnsigned field bytes h = absurd (bytes_taken BigIntUnsigned field h)
bytes_of_kind (VarChar n c) field bytes h = absurd (bytes_taken (VarChar n c) field h)

value_cut : (nullable : Bool) (kind : Kind) (field value : Value) → assign_to (column_of nullable kind) field ≡ kept field → value_cmp kind field (cut kind value) ≡ value_cmp kind field value
value_cut nullable kind Null Null h = refl
value_cut nullable kind Null (Number z) h = refl
value_cut nullable kind Null (Text t) h = refl
value_cut nullable kind Null (Bytes b) h = refl
value_cut nullable kind (Number y) Null h = refl
value_cut nullable kind (Number y) (Number z) h = refl
value_cut nullable kind (Number y) (Text t) h = refl
value_cut nullable kind (Number y) (Bytes b) h = refl
value_cut nullable kind (Text y) Null h = refl
value_cut nullable kind (Text y) (Number z) h = refl
value_cut nullable kind (Text y) (Text t) h = text_of_kind kind y t h
value_cut nullable kind (Text y) (Bytes b) h = refl
value_cut nullable kind (Bytes y) Null h = refl
value_cut nullable kind (Bytes y) (Number z) h = refl
value_cut nullable kind (Bytes y) (Text t) h = refl
value_cut nullable kind (Bytes y) (Bytes b) h = bytes_of_kind kind y b h

cut_fits : (column : ColumnType) (value : Value) → FitsColumn column value → FitsColumn column (cut column.kind value)
cut_fits column Null h = h
cut_fits column (Number z) h = h
cut_fits column (Text t) h = h
cut_fits column (Bytes b) h = h

-- ---- what stands in front decides first

-- a field of the row, and a given value
part_lead : (column : ColumnDef) (field value : Value) (a b : List ℕ) → IsFieldOf column field → FitsColumn column.ty value → bytes_cmp (column_bytes column.ty field ++ a) (given_part (Some column) value ++ b) ≡ ordering_then (value_cmp column.ty.kind field value) (bytes_cmp a b)
part_lead column field value a b h fits =
    column_lead column.ty field (cut column.ty.kind value) a b (value_taken column.ty.nullable column.ty.kind field h.as_it_is) (cut_fits column.ty value fits)
    ∙ ap (λ (o : Ordering). ordering_then o (bytes_cmp a b)) (value_cut column.ty.nullable column.ty.kind field value h.as_it_is)

-- a column of the row, if there is one
abbrev IsPart : Option ColumnDef → Option Value → Type 0
IsPart None None = Unit {0}
IsPart None (Some value) = ⊥
IsPart (Some column) None = ⊥
IsPart (Some column) (Some value) = IsFieldOf column value

is_part : (columns : List ColumnDef) (fields : List Value) (p : ℕ) → AreFields columns fields → IsPart (slice_get columns p) (slice_get fields p)
is_part [] [] p h = tt
is_part [] (field ∷ fields) p h = absurd h
is_part (column ∷ columns) [] p h = absurd h
is_part (column ∷ columns) (field ∷ fields) zero h = h.0
is_part (column ∷ columns) (field ∷ fields) (suc p) h = is_part columns fields p h.1

place_lead : (column : Option ColumnDef) (field : Option Value) (value : Value) (a b : List ℕ) → IsPart column field → FitsPart column (Some value) → bytes_cmp (part_bytes column field ++ a) (given_part column value ++ b) ≡ ordering_then (part_cmp column field (Some value)) (bytes_cmp a b)
place_lead None None value a b h fits = refl
place_lead None (Some field) value a b h fits = absurd h
place_lead (Some column) None value a b h fits = absurd h
place_lead (Some column) (Some field) value a b h fits = part_lead column field value a b h fits

-- ---- the row's columns that have given values, and the others

abbrev first_parts : List ColumnDef → List ℕ → List Value → List Value → List ℕ
first_parts columns [] fields values = []
first_parts columns (p ∷ places) fields [] = []
first_parts columns (p ∷ places) fields (value ∷ values) = part_bytes (slice_get columns p) (slice_get fields p) ++ first_parts columns places fields values

abbrev later_parts : List ColumnDef → List ℕ → List Value → List Value → List ℕ
later_parts columns [] fields values = []
later_parts columns (p ∷ places) fields [] = parts_bytes columns fields (p ∷ places)
later_parts columns (p ∷ places) fields (value ∷ values) = later_parts columns places fields values

split_parts : (columns : List ColumnDef) (places : List ℕ) (fields values : List Value) → parts_bytes columns fields places ≡ first_parts columns places fields values ++ later_parts columns places fields values
split_parts columns [] fields values = refl
split_parts columns (p ∷ places) fields [] = refl
split_parts columns (p ∷ places) fields (value ∷ values) =
    let first = part_bytes (slice_get columns p) (slice_get fields p) in
    ap (λ (l : List ℕ). first ++ l) (split_parts columns places fields values)
    ∙ sym (append_assoc first (first_parts columns places fields values) (later_parts columns places fields values))

parts_lead : (columns : List ColumnDef) (places : List ℕ) (fields values : List Value) → AreFields columns fields → AllGiven columns places values → Leads (first_parts columns places fields values) (given_parts columns places values) (given_cmp columns places fields values)
parts_lead columns [] fields values h given a b = refl
parts_lead columns (p ∷ places) fields [] h given a b = refl
parts_lead columns (p ∷ places) fields (value ∷ values) h given a b =
    let first = part_bytes (slice_get columns p) (slice_get fields p) in
    let its = given_part (slice_get columns p) value in
    let more = first_parts columns places fields values in
    let others = given_parts columns places values in
    let decided = part_cmp (slice_get columns p) (slice_get fields p) (Some value) in
    ap (λ (l : List ℕ). bytes_cmp l ((its ++ others) ++ b)) (append_assoc first more a)
    ∙ ap (bytes_cmp (first ++ (more ++ a))) (append_assoc its others b)
    ∙ place_lead (slice_get columns p) (slice_get fields p) value (more ++ a) (others ++ b) (is_part columns fields p h) given.0
    ∙ ap (ordering_then decided) (parts_lead columns places fields values h given.1 a b)
    ∙ sym (then_assoc decided (given_cmp columns places fields values) (bytes_cmp a b))

number_lead : (index : Option ℕ) (x y : List ℕ) (decided : Ordering) → Leads x y decided → Leads (behind_number index x) (behind_number index y) decided
number_lead None x y decided lead a b = lead a b
number_lead (Some i) x y decided lead a b =
    ap (λ (l : List ℕ). bytes_cmp l ((big_bytes 4 i ++ y) ++ b)) (append_assoc (big_bytes 4 i) x a)
    ∙ ap (bytes_cmp (big_bytes 4 i ++ (x ++ a))) (append_assoc (big_bytes 4 i) y b)
    ∙ same_front (big_bytes 4 i) (x ++ a) (y ++ b)
    ∙ lead a b

-- ---- the whole key

abbrev tail_of : TableDef → List ℕ → Row → List Value → List ℕ
tail_of def places row values = later_parts def.columns places row.fields values ++ hidden_bytes row.hidden

behind_goes : (index : Option ℕ) (x tail : List ℕ) → behind_number index (x ++ tail) ≡ behind_number index x ++ tail
behind_goes None x tail = refl
behind_goes (Some i) x tail = sym (append_assoc (big_bytes 4 i) x tail)

behind_key : (index : Option ℕ) (def : TableDef) (places : List ℕ) (row : Row) → row_key index def places row ≡ behind_number index (parts_bytes def.columns row.fields places ++ hidden_bytes row.hidden)
behind_key None def places row = refl
behind_key (Some i) def places row = append_assoc (big_bytes 4 i) (parts_bytes def.columns row.fields places) (hidden_bytes row.hidden)

key_goes_on : (index : Option ℕ) (def : TableDef) (places : List ℕ) (row : Row) (values : List Value) → row_key index def places row ≡ behind_number index (first_parts def.columns places row.fields values) ++ tail_of def places row values
key_goes_on index def places row values =
    let first = first_parts def.columns places row.fields values in
    let later = later_parts def.columns places row.fields values in
    behind_key index def places row
    ∙ ap (λ (l : List ℕ). behind_number index (l ++ hidden_bytes row.hidden)) (split_parts def.columns places row.fields values)
    ∙ ap (behind_number index) (append_assoc first later (hidden_bytes row.hidden))
    ∙ behind_goes index first (later ++ hidden_bytes row.hidden)

-- ---- at or below

below_if : (x y tail : List ℕ) (decided : Ordering) → AreBytes (x ++ tail) → Leads x y decided → decided ≢ Greater → IsBelow (x ++ tail) (above_of y)
below_if x y tail Less bytes lead h = below_front (x ++ tail) y bytes (against x y tail Less lead)
below_if x y tail Equal bytes lead h = ((prefixes_are_ranges y (x ++ tail) bytes).0 ((is_same x y tail Equal lead).0 refl)).1
below_if x y tail Greater bytes lead h = absurd (h refl)

not_below : (x y tail : List ℕ) → AreBytes (x ++ tail) → Leads x y Greater → IsBelow (x ++ tail) (above_of y) → ⊥
not_below x y tail bytes lead below =
    let at_or_above : bytes_cmp (x ++ tail) y ≢ Less = λ e. (let f : Greater ≡ Less = sym (against x y tail Greater lead) ∙ e in cc) in
    let on = (prefixes_are_ranges y (x ++ tail) bytes).1 (at_or_above, below) in
    let same : Greater ≡ Equal = (is_same x y tail Greater lead).1 on in
    cc

is_at_or_below : (x y tail : List ℕ) (decided : Ordering) → AreBytes (x ++ tail) → Leads x y decided → (decided ≢ Greater) ↔ IsBelow (x ++ tail) (above_of y)
is_at_or_below x y tail decided bytes lead = (below_if x y tail decided bytes lead, λ below e. not_below x y tail bytes (subst (Leads x y) e lead) below)

pub parts_in_range : (index : Option ℕ) (def : TableDef) (places : List ℕ) (row : Row) (values : List Value) → IsRowOf def row → AllGiven def.columns places values → AreBytes (row_key index def places row) → PartsInRange index def places row values
parts_in_range index def places row values p given bytes =
    let x = behind_number index (first_parts def.columns places row.fields values) in
    let y = given_bytes index def places values in
    let tail = tail_of def places row values in
    let decided = given_cmp def.columns places row.fields values in
    let lead : Leads x y decided = number_lead index (first_parts def.columns places row.fields values) (given_parts def.columns places values) decided (parts_lead def.columns places row.fields values p.fields given) in
    let whole = sym (key_goes_on index def places row values) in
    let are : AreBytes (x ++ tail) = subst AreBytes (key_goes_on index def places row values) bytes in
    record {
      at_or_above = subst (λ (key : List ℕ). (decided ≢ Less) ↔ (bytes_cmp key y ≢ Less)) whole (is_at_or_above x y tail decided lead);
      same = subst (λ (key : List ℕ). (decided ≡ Equal) ↔ GoesOn key y) whole (is_same x y tail decided lead);
      at_or_below = subst (λ (key : List ℕ). (decided ≢ Greater) ↔ IsBelow key (above_of y)) whole (is_at_or_below x y tail decided are lead);
    }
