-- Only a row's entry is read as a row.
use Rattle.std.proofs.Common.{◌≡◌, ◌≢◌, ℕ, suc, ◌+◌, List, [], ◌∷◌, ◌++◌, length, refl, sym, ap, subst, ◌∙◌, arith, append_assoc, Bool, true, false, Some, Ok, inl, inr}
use Rattle.std.specs.Prelude.{slice_get, ◌||◌, ◌==◌}
use Rattle.std.specs.List.{AllByRecursion}
use Rattle.std.proofs.lemmas.Bool.{eq-eqb, ne_eqb, false≢true}
use Rattle.mr_types.specs.declared.kind.Kind.{Kind}
use Rattle.mr_types.specs.declared.definition.ColumnDef.{ColumnDef}
use Rattle.mr_types.specs.declared.value.Value.{Value}
use Rattle.mr_types.specs.declared.value.Value.TheVariants.{Null, Number, Text, Bytes}
use Rattle.mr_types.specs.Values.{is_null}
use Rattle.mr_types.specs.Rows.{IsValue, AreFields}
use Rattle.mr_memcmp.specs.ComeBack.{AreBytes, IsTaken}
use Rattle.mr_memcmp.proofs.Fitted.{Taken}
use Rattle.mr_rowval.specs.NullBits.{with_flag, null_flags, one_more_if, nullable_count}
use Rattle.mr_rowval.specs.KeyParts.{Held, is_in, found, part_full, parts_full, and_held}
use Rattle.mr_rowval.specs.RowValue.{field_bytes, fields_bytes, first_flag, later_flags, field_read, ReadFields, and_value, fields_read}
use Rattle.mr_rowval.specs.Promises.{AreDistinct}
use Rattle.mr_rowval.proofs.FieldWalk.{value_parts, bound}
use Rattle.mr_rowval.proofs.PlainTakes.{value_ok, ok_parts, plain_takes}
use Rattle.mr_rowval.proofs.PartsTake.{bytes_behind, IsHeld, part_bound, and_parts_of, of_held, first_held}

abbrev fields_ok : List Value → List ℕ → ReadFields
fields_ok values rest = Ok (values, rest)

-- ---- a column that isn't in the key, or is held

some_taken : (nullable : Bool) (kind : Kind) (v : Value) → is_null v ≡ false → IsValue v → Taken kind v → IsTaken (record { kind = kind; nullable = nullable }) v
some_taken nullable kind Null some ok taken = absurd cc
some_taken nullable kind (Number z) some ok taken = record { is_value = ok; as_it_is = taken }
some_taken nullable kind (Text t) some ok taken = record { is_value = ok; as_it_is = taken }
some_taken nullable kind (Bytes b) some ok taken = record { is_value = ok; as_it_is = taken }

pub record FieldTaken (inside nullable : Bool) (kind : Kind) (flags : List Bool) (bytes rest : List ℕ) (v : Value) : Type 0 where
  pub written : bytes ≡ field_bytes inside kind v ++ rest
  pub flag : with_flag nullable (is_null v) (later_flags nullable flags) ≡ flags
  pub taken : IsTaken (record { kind = kind; nullable = nullable }) v

plain_done : (nullable : Bool) (kind : Kind) (flags : List Bool) (bytes rest : List ℕ) (v : Value) → AreBytes bytes → first_flag nullable flags ≡ false → with_flag nullable false (later_flags nullable flags) ≡ flags → field_read false false Null kind bytes ≡ value_ok v rest → FieldTaken false nullable kind flags bytes rest v
plain_done nullable kind flags bytes rest v are off same read =
    let p = plain_takes kind v bytes rest are read in
    record {
      written = p.written;
      flag = ap (λ (b : Bool). with_flag nullable b (later_flags nullable flags)) p.some ∙ same;
      taken = some_taken nullable kind v p.some p.is_value p.taken;
    }

null_done : (kind : Kind) (flags : List Bool) (bytes rest : List ℕ) (v : Value) → value_ok Null bytes ≡ value_ok v rest → FieldTaken false true kind (true ∷ flags) bytes rest v
null_done kind flags bytes rest v e =
    let parts = ok_parts Null v bytes rest e in
    subst (λ (x : Value). FieldTaken false true kind (true ∷ flags) bytes rest x) parts.0 (record { written = parts.1; flag = refl; taken = record { is_value = tt; as_it_is = refl } })

held_done : (kind : Kind) (flags : List Bool) (bytes rest : List ℕ) (v held : Value) → value_ok held bytes ≡ value_ok v rest → IsTaken (record { kind = kind; nullable = false }) v → FieldTaken true false kind flags bytes rest v
held_done kind flags bytes rest v held e taken = let parts = ok_parts held v bytes rest e in record { written = parts.1; flag = refl; taken = taken }

field_takes : (inside nullable : Bool) (kind : Kind) (held v : Value) (flags : List Bool) (bytes rest : List ℕ) (n : ℕ) → AreBytes bytes → field_read inside (first_flag nullable flags) held kind bytes ≡ value_ok v rest → length flags ≡ one_more_if nullable n → (inside ≡ true → nullable ≡ false) → (inside ≡ true → IsTaken (record { kind = kind; nullable = nullable }) v) → FieldTaken inside nullable kind flags bytes rest v
field_takes true true kind held v flags bytes rest n are read count some taken = absurd (false≢true (sym (some refl)))
field_takes true false kind held v flags bytes rest n are read count some taken = held_done kind flags bytes rest v held read (taken refl)
field_takes false true kind held v [] bytes rest n are read count some taken = absurd (omega arith)
field_takes false true kind held v (true ∷ flags) bytes rest n are read count some taken = null_done kind flags bytes rest v read
field_takes false true kind held v (false ∷ flags) bytes rest n are read count some taken = plain_done true kind (false ∷ flags) bytes rest v are refl refl read
field_takes false false kind held v flags bytes rest n are read count some taken = plain_done false kind flags bytes rest v are refl refl read

later_count : (nullable : Bool) (flags : List Bool) (n : ℕ) → length flags ≡ one_more_if nullable n → length (later_flags nullable flags) ≡ n
later_count true [] n e = absurd (omega arith)
later_count true (flag ∷ flags) n e = omega arith
later_count false flags n e = e

-- ---- all columns

abbrev NotNullFrom : List ℕ → ℕ → List ColumnDef → Type 0
NotNullFrom places at columns = (p q : ℕ) (column : ColumnDef) → q ≡ at + p → slice_get columns p ≡ Some column → is_in places q ≡ true → column.ty.nullable ≡ false

abbrev TakenFrom : List ℕ → ℕ → List ColumnDef → List Value → Type 0
TakenFrom places at columns values = (p q : ℕ) (column : ColumnDef) (v : Value) → q ≡ at + p → slice_get columns p ≡ Some column → slice_get values p ≡ Some v → is_in places q ≡ true → IsTaken column.ty v

pub record FieldsTaken (places : List ℕ) (at : ℕ) (columns : List ColumnDef) (values : List Value) (flags : List Bool) (bytes rest : List ℕ) : Type 0 where
  pub written : bytes ≡ fields_bytes places at columns values ++ rest
  pub fields : AreFields columns values
  pub all_flags : null_flags columns values ≡ flags

same_fields : (x y : List Value × List ℕ) → let a : ReadFields = Ok x in let b : ReadFields = Ok y in a ≡ b → x ≡ y
same_fields x y e = cc

no_flags : (flags : List Bool) → length flags ≡ 0 → [] ≡ flags
no_flags [] e = refl
no_flags (flag ∷ flags) e = absurd (omega arith)

pub fields_take : (places : List ℕ) (held : Held) (at : ℕ) (columns : List ColumnDef) (flags : List Bool) (bytes : List ℕ) (values : List Value) (rest : List ℕ) → AreBytes bytes → length flags ≡ nullable_count columns → fields_read places held at columns flags bytes ≡ fields_ok values rest → NotNullFrom places at columns → TakenFrom places at columns values → FieldsTaken places at columns values flags bytes rest
fields_take places held at [] flags bytes values rest are count read some taken =
    let same = same_fields ([], bytes) (values, rest) read in
    subst (λ (l : List Value). FieldsTaken places at [] l flags bytes rest) (ap (λ (x : List Value × List ℕ). x.0) same) (record { written = ap (λ (x : List Value × List ℕ). x.1) same; fields = tt; all_flags = no_flags flags count })
fields_take places held at (column ∷ columns) flags bytes values rest are count read some taken =
    let nullable = column.ty.nullable in
    let here = bound (field_read (is_in places at) (first_flag nullable flags) (found held at) column.ty.kind bytes) (λ x. and_value x.0 (fields_read places held (suc at) columns (later_flags nullable flags) x.1)) values rest read in
    let x = here.0 in
    let parts = value_parts x.0 (fields_read places held (suc at) columns (later_flags nullable flags) x.1) values rest here.2 in
    let more = parts.0 in
    let takes : TakenFrom places at (column ∷ columns) (x.0 ∷ more) = subst (TakenFrom places at (column ∷ columns)) (sym parts.2) taken in
    let first = field_takes (is_in places at) nullable column.ty.kind (found held at) x.0 flags bytes x.1 (nullable_count columns) are here.1 count (λ there. some 0 at column (omega arith) refl there) (λ there. takes 0 at column x.0 (omega arith) refl refl there) in
    let later = fields_take places held (suc at) columns (later_flags nullable flags) x.1 more rest (bytes_behind bytes (field_bytes (is_in places at) column.ty.kind x.0) x.1 are first.written) (later_count nullable flags (nullable_count columns) count) parts.1
    (λ p q c e s there. some (suc p) q c (omega arith) s there) (λ p q c v e s w there. takes (suc p) q c v (omega arith) s w there) in
    subst (λ (l : List Value). FieldsTaken places at (column ∷ columns) l flags bytes rest) parts.2 (record {
      written = first.written ∙ ap (λ (l : List ℕ). field_bytes (is_in places at) column.ty.kind x.0 ++ l) later.written ∙ sym (append_assoc (field_bytes (is_in places at) column.ty.kind x.0) (fields_bytes places (suc at) columns more) rest);
      fields = (record { is_value = first.taken.is_value; as_it_is = first.taken.as_it_is }, later.fields);
      all_flags = ap (with_flag nullable (is_null x.0)) later.all_flags ∙ first.flag;
    })

-- ---- what is held

all_map : (P Q : ℕ × Value → Type 0) (xs : Held) → ((x : ℕ × Value) → P x → Q x) → AllByRecursion P xs → AllByRecursion Q xs
all_map P Q [] f h = tt
all_map P Q (x ∷ xs) f h = (f x h.0, all_map P Q xs f h.1)

also_in : (test among : Bool) → among ≡ true → (test || among) ≡ true
also_in true among h = refl
also_in false among h = h

not_same : (places : List ℕ) (p q : ℕ) → is_in places p ≡ false → is_in places q ≡ true → p ≢ q
not_same places p q out there = λ same. false≢true (sym out ∙ ap (is_in places) same ∙ there)

held_one : (columns : List ColumnDef) (places : List ℕ) (p : ℕ) (v : Value) (held : Held) (column : ColumnDef) → slice_get columns p ≡ Some column → is_in places p ≡ false → AllByRecursion (IsHeld columns places held) held → AllByRecursion (IsHeld columns (p ∷ places) ((p, v) ∷ held)) ((p, v) ∷ held)
held_one columns places p v held column c out h = (
  record { first = rw (eq-eqb p p refl) refl; among = rw (eq-eqb p p refl) refl; column = column; its_column = c },
  all_map (IsHeld columns places held) (IsHeld columns (p ∷ places) ((p, v) ∷ held)) held (λ x is. record {
    first = rw (ne_eqb p x.0 (not_same places p x.0 out is.among)) is.first;
    among = also_in (p == x.0) (is_in places x.0) is.among;
    column = is.column;
    its_column = is.its_column;
  }) h,
)

held_none : (columns : List ColumnDef) (places : List ℕ) (p : ℕ) (held : Held) → AllByRecursion (IsHeld columns places held) held → AllByRecursion (IsHeld columns (p ∷ places) held) held
held_none columns places p held h = all_map (IsHeld columns places held) (IsHeld columns (p ∷ places) held) held (λ x is. record {
  first = is.first;
  among = also_in (p == x.0) (is_in places x.0) is.among;
  column = is.column;
  its_column = is.its_column;
}) h

pub are_held : (columns : List ColumnDef) (places key unpack more : List ℕ) (held : Held) → parts_full columns places key unpack ≡ Ok (held, more) → AreDistinct places → AllByRecursion (IsHeld columns places held) held
are_held columns [] key unpack more held full distinct = subst (λ (h : Held). AllByRecursion (IsHeld columns [] h) h) (first_held [] held unpack more full) tt
are_held columns (p ∷ places) key unpack more held full distinct =
    let f = part_bound (part_full (slice_get columns p) p key unpack) (λ x. and_held x.0 (parts_full columns places x.1 x.2)) held more full in
    let x = f.0 in
    let rest = and_parts_of x.0 (parts_full columns places x.1 x.2) held more f.2 in
    let later = are_held columns places x.1 x.2 more rest.0 rest.1 distinct.1 in
    let whole : AllByRecursion (IsHeld columns (p ∷ places) (x.0 ++ rest.0)) (x.0 ++ rest.0) = elim (of_held (slice_get columns p) p key unpack x f.1) [
      | inl none ↦ subst (λ (h : Held). AllByRecursion (IsHeld columns (p ∷ places) (h ++ rest.0)) (h ++ rest.0)) (sym none) (held_none columns places p rest.0 later)
      | inr one ↦ subst (λ (h : Held). AllByRecursion (IsHeld columns (p ∷ places) (h ++ rest.0)) (h ++ rest.0)) (sym one.3) (held_one columns places p one.1 rest.0 one.0 one.2 distinct.0 later)
    ] in
    subst (λ (h : Held). AllByRecursion (IsHeld columns (p ∷ places) h) h) rest.2 whole
