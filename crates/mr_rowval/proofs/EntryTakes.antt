-- Only a row's entry is read as a row: the whole entry.
use Rattle.std.proofs.Common.{◌≡◌, ℕ, ◌^◌, ◌<◌, ℤ, pos, negsuc, List, [], ◌∷◌, ◌++◌, length, get_or, refl, sym, ap, subst, ◌∙◌, arith, append_assoc, Bool, true, false, cond, Option, Some, None, Result, Ok, Err, inl, inr}
use Rattle.std.specs.Prelude.{slice_get}
use Rattle.std.specs.List.{AllByRecursion}
use Rattle.std.specs.Int.{w32, w64, to_be_bytes}
use Rattle.std.proofs.lemmas.Bool.{cases_eq, ne_eqb}
use Rattle.std.proofs.lemmas.Bool.Decides.{nat_tests}
use Rattle.std.proofs.lemmas.List.{append-nil}
use Rattle.std.proofs.lemmas.Option.{slice_get_within, slice_get-get_or}
use Rattle.mr_types.specs.declared.definition.ColumnDef.{ColumnDef}
use Rattle.mr_types.specs.declared.definition.TableDef.{TableDef}
use Rattle.mr_types.specs.declared.definition.Ttl.{Ttl}
use Rattle.mr_types.specs.declared.row.Row.{Row}
use Rattle.mr_types.specs.declared.value.Value.{Value}
use Rattle.mr_types.specs.declared.value.Value.TheVariants.{Null, Number, Text, Bytes}
use Rattle.mr_types.specs.Refusals.{◌>>=◌}
use Rattle.mr_types.specs.Values.{is_equal}
use Rattle.mr_types.specs.Rows.{AreFields, IsWanted, IsStampOf, is_hidden, has_ttl}
use Rattle.mr_memcmp.specs.Keys.{parts_bytes, hidden_bytes, key_bytes_of}
use Rattle.mr_memcmp.specs.Reading.{ReadNumber, number_read}
use Rattle.mr_memcmp.specs.ComeBack.{AreBytes, IsTaken, parts_unpack}
use Rattle.mr_memcmp.proofs.ColumnTakes.{four_takes, eight_takes}
use Rattle.mr_rowval.specs.NullBits.{Flags, null_flags, nullable_count, null_bits, flags_read}
use Rattle.mr_rowval.specs.KeyParts.{Held, is_in, parts_kept, as_some, wanted_read, ended, key_read, parts_full}
use Rattle.mr_rowval.specs.RowValue.{fields_bytes, row_value_bytes, flags_or, flags_at, fields_read, is_stamp_at, is_column_stamp, is_stamp_of, fields_from, value_read, stamped, further, row_read}
use Rattle.mr_rowval.specs.Walking.{value_at, value_or_null}
use Rattle.mr_rowval.specs.Encoding.{TakesPart}
use Rattle.mr_rowval.specs.Promises.{AreDistinct, AreNotNull, HasKey, WasEntry, OnlyEntriesAreRead}
use Rattle.mr_rowval.proofs.Decoding.{sizes, in_key}
use Rattle.mr_rowval.proofs.PartsTake.{flags_takes, bytes_behind, AreHeldIn, IsHeldIn, parts_take, IsHeld}
use Rattle.mr_rowval.proofs.RowTakes.{fields_take, are_held}

-- ---- the steps of a reading

pub went : {A B : Type 0} (r : Result A ℕ) (f : A → Result B ℕ) (y : B) → (r >>= f) ≡ Ok y → (x : A) × (r ≡ Ok x) × (f x ≡ Ok y)
went (Ok x) f y e = (x, refl, e)
went (Err left) f y e = absurd cc

pub same_ok : {A : Type 0} (x y : A) → (let a : Result A ℕ = Ok x in a) ≡ (let b : Result A ℕ = Ok y in b) → x ≡ y
same_ok x y e = cc

pub end_takes : {A : Type 0} (x y : A) (rest : List ℕ) → ended x rest ≡ Ok y → (rest ≡ []) × (x ≡ y)
end_takes x y [] e = (refl, same_ok x y e)
end_takes x y (b ∷ rest) e = absurd cc

pub further_takes : {A : Type 0} (more : ℕ) (r : Result A ℕ) (x : A) → further more r ≡ Ok x → r ≡ Ok x
further_takes more (Ok y) x e = e
further_takes more (Err left) x e = absurd cc

abbrev ReadWanted : Type 0
ReadWanted = Result (Option ℕ × List ℕ) ℕ

abbrev wanted_ok : Option ℕ → List ℕ → ReadWanted
wanted_ok o rest = Ok (o, rest)

abbrev no_number : Option ℕ
no_number = None

abbrev Wanted : Bool → List ℕ → Option ℕ → List ℕ → Type 0
Wanted wanted bytes o rest = (bytes ≡ hidden_bytes o ++ rest) × IsWanted wanted o

abbrev pub number_ok : ℕ → List ℕ → ReadNumber
number_ok n rest = Ok (n, rest)

some_wanted : (bytes : List ℕ) (r : ReadNumber) (o : Option ℕ) (rest : List ℕ) → as_some r ≡ wanted_ok o rest → (n : ℕ) × (r ≡ number_ok n rest) × (Some n ≡ o)
some_wanted bytes (Ok x) o rest e =
    let same = same_ok (Some x.0, x.1) (o, rest) e in
    (x.0, ap (λ (y : Option ℕ × List ℕ). number_ok x.0 y.1) same, ap (λ (y : Option ℕ × List ℕ). y.0) same)
some_wanted bytes (Err left) o rest e = absurd cc

pub wanted_takes : (wanted : Bool) (bytes : List ℕ) (o : Option ℕ) (rest : List ℕ) → AreBytes bytes → wanted_read wanted bytes ≡ wanted_ok o rest → Wanted wanted bytes o rest
wanted_takes false bytes o rest are e =
    let same = same_ok (no_number, bytes) (o, rest) e in
    subst (λ (x : Option ℕ). Wanted false bytes x rest) (ap (λ (y : Option ℕ × List ℕ). y.0) same) (ap (λ (y : Option ℕ × List ℕ). y.1) same, tt)
wanted_takes true bytes o rest are e =
    let parts = some_wanted bytes (number_read w64 bytes) o rest e in
    let cut = eight_takes bytes parts.0 rest are parts.1 in
    subst (λ (x : Option ℕ). Wanted true bytes x rest) parts.2 cut

-- ---- the key

pub record KeyTaken (hidden : Bool) (columns : List ColumnDef) (places key body : List ℕ) (number : Option ℕ) : Type 0 where
  pub index : ℕ
  pub small : index < 2 ^ 32
  pub whole : key ≡ to_be_bytes w32 index ++ body
  pub after : List ℕ
  pub columns_kept : parts_kept columns places body ≡ Ok after
  pub last : wanted_read hidden after ≡ Ok (number, [])

pub key_takes : (hidden : Bool) (columns : List ColumnDef) (places key body : List ℕ) (number : Option ℕ) → AreBytes key → key_read hidden columns places key ≡ Ok (body, number) → KeyTaken hidden columns places key body number
key_takes hidden columns places key body number are read =
    let i = went (number_read w32 key) (λ index. parts_kept columns places index.1 >>= (λ rest. wanted_read hidden rest >>= (λ number. ended (index.1, number.0) number.1))) (body, number) read in
    let k = went (parts_kept columns places i.0.1) (λ rest. wanted_read hidden rest >>= (λ number. ended (i.0.1, number.0) number.1)) (body, number) i.2 in
    let w = went (wanted_read hidden k.0) (λ number. ended (i.0.1, number.0) number.1) (body, number) k.2 in
    let e = end_takes (i.0.1, w.0.0) (body, number) w.0.1 w.2 in
    let cut = four_takes key i.0.0 i.0.1 are i.1 in
    let same_body : i.0.1 ≡ body = ap (λ (x : List ℕ × Option ℕ). x.0) e.1 in
    let same_number : w.0.0 ≡ number = ap (λ (x : List ℕ × Option ℕ). x.1) e.1 in
    record {
      index = i.0.0;
      small = cut.1;
      whole = cut.0 ∙ ap (λ (l : List ℕ). to_be_bytes w32 i.0.0 ++ l) same_body;
      after = k.0;
      columns_kept = ap (parts_kept columns places) (sym same_body) ∙ k.1;
      last = w.1 ∙ ap (λ (l : List ℕ). wanted_ok w.0.0 l) e.0 ∙ ap (λ (o : Option ℕ). wanted_ok o []) same_number;
    }

-- ---- the columns

pub all_at : (P : ℕ → Type 0) (places : List ℕ) (q : ℕ) → AllByRecursion P places → is_in places q ≡ true → P q
all_at P [] q h there = absurd cc
all_at P (p ∷ places) q h there =
    elim (cases_eq p q) [
      | inl same ↦ subst P same h.0
      | inr other ↦ all_at P places q h.1 (rw (ne_eqb p q other) at there)
    ]

abbrev some_value : Value → Option Value
some_value v = Some v

abbrev some_column : ColumnDef → Option ColumnDef
some_column column = Some column

held_in_values : (columns : List ColumnDef) (places : List ℕ) (held : Held) (flags : List Bool) (bytes : List ℕ) (values : List Value) (rest : List ℕ) → fields_read places held 0 columns flags bytes ≡ Ok (values, rest) → (x : ℕ × Value) → IsHeld columns places held x → IsHeldIn values x
held_in_values columns places held flags bytes values rest read x is =
    let within = slice_get_within columns x.0 is.column is.its_column in
    let size = sizes places held 0 columns flags bytes values rest read in
    let there : value_at values x.0 ≡ x.1 = in_key places held 0 columns flags bytes values rest x.0 x.0 read within (omega arith) is.among ∙ is.first in
    let got = slice_get-get_or values x.0 Null (omega arith) in
    let its : value_at values x.0 ≡ get_or values x.0 Null = ap value_or_null got in
    got ∙ ap (λ (v : Value). some_value v) (sym its ∙ there)

all_held : (columns : List ColumnDef) (places : List ℕ) (held : Held) (flags : List Bool) (bytes : List ℕ) (values : List Value) (rest : List ℕ) → fields_read places held 0 columns flags bytes ≡ Ok (values, rest) → (some_held : Held) → AllByRecursion (IsHeld columns places held) some_held → AreHeldIn values some_held
all_held columns places held flags bytes values rest read [] h = tt
all_held columns places held flags bytes values rest read (x ∷ xs) h = (held_in_values columns places held flags bytes values rest read x h.0, all_held columns places held flags bytes values rest read xs h.1)

flags_were : (left : ℕ) (f : Flags) (x : List Bool × List ℕ) → flags_or left f ≡ Ok x → f ≡ Some x
flags_were left (Some y) x e = ap (λ (z : List Bool × List ℕ). let f : Flags = Some z in f) (same_ok y x e)
flags_were left None x e = absurd cc

pub record ValueTaken (columns : List ColumnDef) (places key after nulls : List ℕ) (values : List Value) : Type 0 where
  pub of_key : key ≡ parts_bytes columns values places ++ after
  pub fields : AreFields columns values
  pub written : nulls ≡ null_bits (null_flags columns values) ++ (parts_unpack columns values places ++ fields_bytes places 0 columns values)

pub taken_of : (column : Option ColumnDef) (value : Option Value) (c : ColumnDef) (v : Value) → column ≡ Some c → value ≡ Some v → TakesPart column value → IsTaken c.ty v
taken_of column value c v cs vs takes =
    let one : TakesPart (some_column c) value = subst (λ (o : Option ColumnDef). TakesPart o value) cs takes in
    subst (λ (o : Option Value). TakesPart (some_column c) o) vs one

pub fields_from_takes : (columns : List ColumnDef) (places key after nulls : List ℕ) (values : List Value) → AreDistinct places → AreNotNull columns places → AreBytes key → AreBytes nulls → parts_kept columns places key ≡ Ok after → fields_from columns places key nulls ≡ Ok values → ValueTaken columns places key after nulls values
fields_from_takes columns places key after nulls values distinct some are form kept read =
    let f = went (flags_at (nullable_count columns) nulls) (λ flags. parts_full columns places key flags.1 >>= (λ held. fields_read places held.0 0 columns flags.0 held.1 >>= (λ fields. ended fields.0 fields.1))) values read in
    let h = went (parts_full columns places key f.0.1) (λ held. fields_read places held.0 0 columns f.0.0 held.1 >>= (λ fields. ended fields.0 fields.1)) values f.2 in
    let v = went (fields_read places h.0.0 0 columns f.0.0 h.0.1) (λ fields. ended fields.0 fields.1) values h.2 in
    let e = end_takes v.0.0 values v.0.1 v.2 in
    let flags = flags_takes (nullable_count columns) 0 0 nulls f.0.0 f.0.1 (omega arith) form (flags_were (length nulls) (flags_read (nullable_count columns) 0 0 nulls) f.0 f.1) in
    let unpack_form = bytes_behind nulls (null_bits f.0.0) f.0.1 form flags.behind_it in
    let held = all_held columns places h.0.0 f.0.0 h.0.1 v.0.0 v.0.1 v.1 h.0.0 (are_held columns places key f.0.1 h.0.1 h.0.0 h.1 distinct) in
    let parts = parts_take columns v.0.0 places key after f.0.1 h.0.1 h.0.0 are unpack_form kept h.1 held in
    let plain_form = bytes_behind f.0.1 (parts_unpack columns v.0.0 places) h.0.1 unpack_form parts.of_unpack in
    let fields = fields_take places h.0.0 0 columns f.0.0 h.0.1 v.0.0 v.0.1 plain_form flags.count v.1
    (λ p q c same s there. all_at (λ n. (column : ColumnDef) → slice_get columns n ≡ Some column → column.ty.nullable ≡ false) places q some there c (ap (slice_get columns) same ∙ ap (slice_get columns) (omega arith) ∙ s))
    (λ p q c w same s t there. taken_of (slice_get columns q) (slice_get v.0.0 q) c w (ap (slice_get columns) same ∙ ap (slice_get columns) (omega arith) ∙ s) (ap (slice_get v.0.0) same ∙ ap (slice_get v.0.0) (omega arith) ∙ t) (all_at (λ n. TakesPart (slice_get columns n) (slice_get v.0.0 n)) places q parts.takes there)) in
    let whole : ValueTaken columns places key after nulls v.0.0 = record {
      of_key = parts.of_key;
      fields = fields.fields;
      written = flags.behind_it ∙ ap (λ (l : List Bool). null_bits l ++ f.0.1) (sym fields.all_flags) ∙ ap (λ (l : List ℕ). null_bits (null_flags columns v.0.0) ++ l) (parts.of_unpack ∙ ap (λ (l : List ℕ). parts_unpack columns v.0.0 places ++ l) (fields.written ∙ ap (λ (l : List ℕ). fields_bytes places 0 columns v.0.0 ++ l) e.0 ∙ append-nil (fields_bytes places 0 columns v.0.0)));
    } in
    subst (ValueTaken columns places key after nulls) e.1 whole

-- ---- the stamp

is_the_number : (z : ℤ) (s : ℕ) → is_equal (Number z) (Number (pos s)) ≡ true → Number z ≡ Number (pos s)
is_the_number (pos n) s e = let same : n ≡ s = grind (arith, nat_tests) in ap (λ (k : ℕ). Number (pos k)) same
is_the_number (negsuc n) s e = absurd cc

is_the_stamp : (v : Value) (s : ℕ) → is_equal v (Number (pos s)) ≡ true → v ≡ Number (pos s)
is_the_stamp Null s e = absurd cc
is_the_stamp (Number z) s e = is_the_number z s e
is_the_stamp (Text t) s e = absurd cc
is_the_stamp (Bytes b) s e = absurd cc

stamp_there : (o : Option Value) (stamp : Option ℕ) (s : ℕ) → stamp ≡ Some s → is_stamp_at o stamp ≡ true → o ≡ Some (Number (pos s))
stamp_there o None s e test = absurd cc
stamp_there None (Some t) s e test = absurd cc
stamp_there (Some v) (Some t) s e test =
    let same : t ≡ s = cc in
    ap (λ (x : Value). some_value x) (is_the_stamp v t test) ∙ ap (λ (k : ℕ). some_value (Number (pos k))) same

column_there : (column : Option ℕ) (row : Row) (place s : ℕ) → column ≡ Some place → row.stamp ≡ Some s → is_column_stamp column row ≡ true → slice_get row.fields place ≡ Some (Number (pos s))
column_there None row place s c e test = absurd cc
column_there (Some p) row place s c e test =
    let same : p ≡ place = cc in
    ap (slice_get row.fields) (sym same) ∙ stamp_there (slice_get row.fields p) row.stamp s e test

pub stamp_takes : (ttl : Option Ttl) (row : Row) → is_stamp_of ttl row ≡ true → IsStampOf ttl row
stamp_takes None row test = tt
stamp_takes (Some ttl) row test = λ place s c e. column_there ttl.column row place s c e test

abbrev pub ReadRow : Type 0
ReadRow = Result Row ℕ

abbrev pub row_ok : Row → ReadRow
row_ok row = Ok row

pub tried_stamp : (test : Bool) (left : ℕ) (a row : Row) → cond test (row_ok a) (Err left) ≡ row_ok row → (test ≡ true) × (a ≡ row)
tried_stamp true left a row e = (refl, same_ok a row e)
tried_stamp false left a row e = absurd cc

-- ---- a row

parts_right : (a b c d : List ℕ) → a ++ (b ++ (c ++ d)) ≡ a ++ b ++ c ++ d
parts_right a b c d = sym (append_assoc (a ++ b) c d ∙ append_assoc a b (c ++ d))

-- what was read but for the test of the stamp
pub record RowTaken (def : TableDef) (key value : List ℕ) (row : Row) : Type 0 where
  pub its_key : (index : ℕ) × (index < 2 ^ 32) × (key ≡ key_bytes_of index def def.primary.columns row)
  pub its_value : value ≡ row_value_bytes def row
  pub fields : AreFields def.columns row.fields
  pub hidden_number : IsWanted (is_hidden def) row.hidden
  pub stamp : IsWanted (has_ttl def) row.stamp

row_taken : (def : TableDef) (key value body : List ℕ) (number : Option ℕ) (row : Row) → HasKey def → AreBytes key → AreBytes value → key_read (is_hidden def) def.columns def.primary.columns key ≡ Ok (body, number) → value_read def body number value ≡ Ok row → RowTaken def key value row
row_taken def key value body number row sound are form front read =
    let columns = def.columns in
    let places = def.primary.columns in
    let k = key_takes (is_hidden def) columns places key body number are front in
    let s = went (wanted_read (has_ttl def) value) (λ stamp. fields_from columns places body stamp.1 >>= (λ fields. Ok (record { hidden = number; stamp = stamp.0; fields = fields }))) row read in
    let f = went (fields_from columns places body s.0.1) (λ fields. Ok (record { hidden = number; stamp = s.0.0; fields = fields })) row s.2 in
    let stamp = wanted_takes (has_ttl def) value s.0.0 s.0.1 form s.1 in
    let body_bytes = bytes_behind key (to_be_bytes w32 k.index) body are k.whole in
    let parts = fields_from_takes columns places body k.after s.0.1 f.0 sound.distinct sound.not_null body_bytes (bytes_behind value (hidden_bytes s.0.0) s.0.1 form stamp.0) k.columns_kept f.1 in
    let last = wanted_takes (is_hidden def) k.after number [] (bytes_behind body (parts_bytes columns f.0 places) k.after body_bytes parts.of_key) k.last in
    let mine : Row = record { hidden = number; stamp = s.0.0; fields = f.0 } in
    let end : k.after ≡ hidden_bytes number = last.0 ∙ append-nil (hidden_bytes number) in
    let whole : RowTaken def key value mine = record {
      its_key = (k.index, k.small, k.whole ∙ ap (λ (l : List ℕ). to_be_bytes w32 k.index ++ l) (parts.of_key ∙ ap (λ (l : List ℕ). parts_bytes columns f.0 places ++ l) end) ∙ sym (append_assoc (to_be_bytes w32 k.index) (parts_bytes columns f.0 places) (hidden_bytes number)));
      its_value = stamp.0 ∙ ap (λ (l : List ℕ). hidden_bytes s.0.0 ++ l) parts.written ∙ parts_right (hidden_bytes s.0.0) (null_bits (null_flags columns f.0)) (parts_unpack columns f.0 places) (fields_bytes places 0 columns f.0);
      fields = parts.fields;
      hidden_number = last.1;
      stamp = stamp.1;
    } in
    subst (RowTaken def key value) (same_ok mine row f.2) whole

pub row_takes : (def : TableDef) → HasKey def → OnlyEntriesAreRead def
unfolding row_read
row_takes def sound = λ key value row are form read.
    let k = went (further (length value) (key_read (is_hidden def) def.columns def.primary.columns key)) (λ front. value_read def front.0 front.1 value >>= stamped def (length value)) row read in
    let r = went (value_read def k.0.0 k.0.1 value) (stamped def (length value)) row k.2 in
    let test = tried_stamp (is_stamp_of def.ttl r.0) (length value) r.0 row r.2 in
    let taken = row_taken def key value k.0.0 k.0.1 r.0 sound are form (further_takes (length value) (key_read (is_hidden def) def.columns def.primary.columns key) k.0 k.1) r.1 in
    let whole : WasEntry def key value r.0 = record {
      is_row = record { fields = taken.fields; hidden_number = taken.hidden_number; stamp = taken.stamp; stamp_column = stamp_takes def.ttl r.0 test.0 };
      its_key = taken.its_key;
      its_value = taken.its_value;
    } in
    subst (WasEntry def key value) test.1 whole
