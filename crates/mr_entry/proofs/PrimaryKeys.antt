-- The primary key from the entry of another key.
use Rattle.std.proofs.Common.{◌≡◌, ◌≢◌, ◌⊎◌, ℕ, zero, suc, ◌+◌, ◌-◌, ◌<◌, ◌^◌, List, [], ◌∷◌, ◌++◌, length, take, refl, sym, ap, subst, ◌∙◌, arith, append_assoc, Bool, true, false, true≢false, cond, Option, Some, None, Result, Ok, Err, inl, inr}
use Rattle.std.specs.Prelude.{slice_get, slice_index_or, ◌==◌}
use Rattle.std.specs.List.{flat_map}
use Rattle.std.proofs.lemmas.Bool.{cases_eq, eq-eqb, ne_eqb}
use Rattle.std.proofs.lemmas.List.{take_at, length-append}
use Rattle.byteorder.specs.Endian.{big_bytes}
use Rattle.mr_types.specs.declared.definition.ColumnDef.{ColumnDef}
use Rattle.mr_types.specs.declared.definition.TableDef.{TableDef}
use Rattle.mr_types.specs.declared.row.Row.{Row}
use Rattle.mr_types.specs.declared.value.Value.{Value}
use Rattle.mr_types.specs.declared.value.Value.TheVariants.{Null}
use Rattle.mr_types.specs.Refusals.{◌>>=◌}
use Rattle.mr_memcmp.specs.Keys.{column_bytes, part_bytes, parts_bytes, hidden_bytes}
use Rattle.mr_memcmp.specs.Reading.{ReadValue, kept_read, full_read}
use Rattle.mr_memcmp.specs.ComeBack.{AreBytes, unpack_bytes}
use Rattle.mr_memcmp.proofs.ColumnTakes.{kept_takes}
use Rattle.mr_rowval.specs.KeyParts.{Held, is_in, found, behind, part_kept, ReadPart, kept_full, part_full, parts_full, and_held}
use Rattle.mr_rowval.proofs.PartsTake.{bytes_behind, held_ok, part_bound, and_parts_of, same_part, held_parts, first_held}
use Rattle.mr_entry.specs.Entry.{fields_held}
use Rattle.mr_entry.specs.Held.{HeldEntry}
use Rattle.mr_entry.specs.Primary.{row_held, primary_key_held, null_part, front_or, part_in, part_held, parts_in}

-- ---- one column of the key

-- it was split off with its value
record Split (o : Option ColumnDef) (p : ℕ) (key : List ℕ) (x : Held × List ℕ × List ℕ) : Type 0 where
  kept : part_kept o key ≡ Ok x.1
  here : (later : Held) → key ≡ part_bytes o (Some (found (x.0 ++ later) p)) ++ x.1
  other : (later : Held) (q : ℕ) → p ≢ q → found (x.0 ++ later) q ≡ found later q
  rest_key : AreBytes x.1
  rest_unpack : AreBytes x.2

found_here : (p : ℕ) (v : Value) (later : Held) → found ((p, v) ∷ later) p ≡ v
found_here p v later = rw (eq-eqb p p refl) refl

found_other : (p q : ℕ) (v : Value) (later : Held) → p ≢ q → found ((p, v) ∷ later) q ≡ found later q
found_other p q v later other = rw (ne_eqb p q other) refl

none_split : (p : ℕ) (key unpack : List ℕ) → AreBytes key → AreBytes unpack → Split None p key ([], key, unpack)
none_split p key unpack are form = record { kept = refl; here = λ later. refl; other = λ later q ne. refl; rest_key = are; rest_unpack = form }

some_split : (column : ColumnDef) (p : ℕ) (key unpack : List ℕ) (r : ReadValue) (x : Held × List ℕ × List ℕ) → AreBytes key → AreBytes unpack → kept_read column.ty key ≡ r → kept_full column p unpack r ≡ Ok x → Split (Some column) p key x
some_split column p key unpack (Ok k) x are form e full =
    let parts = held_parts p k.1 (full_read column.ty.kind k.0 unpack) x full in
    let v = parts.0 in
    let was = kept_takes column.ty k.0 v key k.1 unpack x.2 are form e parts.1 in
    let whole : Split (Some column) p key ((p, v) ∷ [], k.1, x.2) = record {
      kept = ap behind e;
      here = λ later. was.of_key ∙ ap (λ (w : Value). column_bytes column.ty w ++ k.1) (sym (found_here p v later));
      other = λ later q ne. found_other p q v later ne;
      rest_key = bytes_behind key (column_bytes column.ty v) k.1 are was.of_key;
      rest_unpack = bytes_behind unpack (unpack_bytes column.ty.kind v) x.2 form was.of_unpack;
    } in
    subst (λ (h : Held). Split (Some column) p key (h, x.1, x.2)) parts.2 (subst (λ (l : List ℕ). Split (Some column) p key ((p, v) ∷ [], l, x.2)) parts.3 whole)
some_split column p key unpack (Err left) x are form e full = absurd cc

split : (o : Option ColumnDef) (p : ℕ) (key unpack : List ℕ) (x : Held × List ℕ × List ℕ) → AreBytes key → AreBytes unpack → part_full o p key unpack ≡ Ok x → Split o p key x
split None p key unpack x are form full = subst (λ (y : Held × List ℕ × List ℕ). Split None p key y) (same_part ([], key, unpack) x full) (none_split p key unpack are form)
split (Some column) p key unpack x are form full = some_split column p key unpack (kept_read column.ty key) x are form refl full

-- its bytes are what stands in front of the rest
front_is : (key front rest : List ℕ) → key ≡ front ++ rest → take (length key - length rest) key ≡ front
front_is key front rest is =
    let size : length front ≡ length key - length rest = omega (arith, ap (λ (l : List ℕ). length l) is, length-append front rest) in
    ap (take (length key - length rest)) is ∙ take_at front rest (length key - length rest) size

-- ---- a column among those of the key

not_later : (places : List ℕ) (p place : ℕ) (b : Bool) → p ≢ place → is_in (p ∷ places) place ≡ b → is_in places place ≡ b
not_later places p place b other e = rw (ne_eqb p place other) at e

abbrev Rest : Type 0
Rest = Result (List ℕ) ℕ

there : (columns : List ColumnDef) (places key unpack : List ℕ) (place : ℕ) (held : Held) (more : List ℕ) → AreBytes key → AreBytes unpack → parts_full columns places key unpack ≡ held_ok held more → is_in places place ≡ true → part_in columns places key place ≡ part_bytes (slice_get columns place) (Some (found held place))
there columns [] key unpack place held more are form full in_it = absurd cc
there columns (p ∷ places) key unpack place held more are form full in_it =
    let f = part_bound (part_full (slice_get columns p) p key unpack) (λ x. and_held x.0 (parts_full columns places x.1 x.2)) held more full in
    let x = f.0 in
    let rest_of = and_parts_of x.0 (parts_full columns places x.1 x.2) held more f.2 in
    let one = split (slice_get columns p) p key unpack x are form f.1 in
    let later = rest_of.0 in
    let first : part_in columns (p ∷ places) key place ≡ front_or key (p == place) (Ok x.1) (λ rest. part_in columns places rest place) = ap (λ (r : Rest). front_or key (p == place) r (λ rest. part_in columns places rest place)) one.kept in
    elim (cases_eq p place) [
      | inl same ↦
          let test : front_or key (p == place) (Ok x.1) (λ rest. part_in columns places rest place) ≡ take (length key - length x.1) key = ap (λ (b : Bool). front_or key b (Ok x.1) (λ rest. part_in columns places rest place)) (eq-eqb p place same) in
          first ∙ test ∙ front_is key (part_bytes (slice_get columns p) (Some (found (x.0 ++ later) p))) x.1 (one.here later)
          ∙ ap (λ (n : ℕ). part_bytes (slice_get columns n) (Some (found (x.0 ++ later) n))) same ∙ ap (λ (h : Held). part_bytes (slice_get columns place) (Some (found h place))) rest_of.2
      | inr other ↦
          let test : front_or key (p == place) (Ok x.1) (λ rest. part_in columns places rest place) ≡ part_in columns places x.1 place = ap (λ (b : Bool). front_or key b (Ok x.1) (λ rest. part_in columns places rest place)) (ne_eqb p place other) in
          first ∙ test ∙ there columns places x.1 x.2 place later more one.rest_key one.rest_unpack rest_of.1 (not_later places p place true other in_it)
          ∙ ap (λ (v : Value). part_bytes (slice_get columns place) (Some v)) (sym (one.other later place other)) ∙ ap (λ (h : Held). part_bytes (slice_get columns place) (Some (found h place))) rest_of.2
    ]

-- ---- a column that the key doesn't hold

is_no_place : (places : List ℕ) (p place : ℕ) → is_in (p ∷ places) place ≡ false → p ≢ place
is_no_place places p place out = λ same. true≢false (rw (eq-eqb p place same) at out)

absent : (columns : List ColumnDef) (places key unpack : List ℕ) (place : ℕ) (held : Held) (more : List ℕ) → AreBytes key → AreBytes unpack → parts_full columns places key unpack ≡ held_ok held more → is_in places place ≡ false → Null ≡ found held place
absent columns [] key unpack place held more are form full out = ap (λ (h : Held). found h place) (first_held [] held unpack more full)
absent columns (p ∷ places) key unpack place held more are form full out =
    let f = part_bound (part_full (slice_get columns p) p key unpack) (λ x. and_held x.0 (parts_full columns places x.1 x.2)) held more full in
    let x = f.0 in
    let rest_of = and_parts_of x.0 (parts_full columns places x.1 x.2) held more f.2 in
    let one = split (slice_get columns p) p key unpack x are form f.1 in
    let other = is_no_place places p place out in
    absent columns places x.1 x.2 place rest_of.0 more one.rest_key one.rest_unpack rest_of.1 (not_later places p place false other out)
    ∙ sym (one.other rest_of.0 place other) ∙ ap (λ (h : Held). found h place) rest_of.2

null_of : (column : ColumnDef) (nullable : Bool) → column.ty.nullable ≡ nullable → null_part (Some column) ≡ part_bytes (Some column) (Some Null)
unfolding column_bytes
null_of column true e = rw e refl
null_of column false e = rw e refl

null_bytes : (o : Option ColumnDef) → null_part o ≡ part_bytes o (Some Null)
null_bytes None = refl
null_bytes (Some column) = null_of column column.ty.nullable refl

-- ---- all of them

by_place : (columns : List ColumnDef) (places key unpack : List ℕ) (place : ℕ) (held : Held) (more : List ℕ) (b : Bool) → is_in places place ≡ b → AreBytes key → AreBytes unpack → parts_full columns places key unpack ≡ held_ok held more → part_held columns places key place ≡ part_bytes (slice_get columns place) (Some (found held place))
by_place columns places key unpack place held more true e are form full = rw e (there columns places key unpack place held more are form full e)
by_place columns places key unpack place held more false e are form full = rw e (null_bytes (slice_get columns place) ∙ ap (λ (v : Value). part_bytes (slice_get columns place) (Some v)) (absent columns places key unpack place held more are form full e))

-- the value that is held of a column
pub field_there : (held : Held) (at : ℕ) (columns : List ColumnDef) (p q : ℕ) → q ≡ at + p → part_bytes (slice_get columns p) (slice_get (fields_held held at columns) p) ≡ part_bytes (slice_get columns p) (Some (found held q))
field_there held at [] p q e = refl
field_there held at (column ∷ columns) zero q e = let same : at ≡ q = omega arith in ap (λ (n : ℕ). part_bytes (Some column) (Some (found held n))) same
field_there held at (column ∷ columns) (suc p) q e = field_there held (suc at) columns p q (omega arith)

pub parts_again : (columns : List ColumnDef) (places key unpack : List ℕ) (held : Held) (more : List ℕ) (wanted : List ℕ) → AreBytes key → AreBytes unpack → parts_full columns places key unpack ≡ held_ok held more → parts_in columns places key wanted ≡ parts_bytes columns (fields_held held 0 columns) wanted
parts_again columns places key unpack held more [] are form full = refl
parts_again columns places key unpack held more (p ∷ wanted) are form full =
    ap (λ (l : List ℕ). l ++ parts_in columns places key wanted) (by_place columns places key unpack p held more (is_in places p) refl are form full ∙ sym (field_there held 0 columns p p (omega arith)))
    ∙ ap (λ (l : List ℕ). part_bytes (slice_get columns p) (slice_get (fields_held held 0 columns) p) ++ l) (parts_again columns places key unpack held more wanted are form full)

-- what was added, one part behind the other
pub added : (columns : List ColumnDef) (places key unpack wanted : List ℕ) (held : Held) (old one two three : List ℕ) (number : ℕ) (hidden : Option ℕ) → AreBytes key → AreBytes unpack → parts_full columns places key unpack ≡ held_ok held [] → one ≡ old ++ big_bytes 4 number → two ≡ one ++ parts_in columns places key wanted → three ≡ two ++ hidden_bytes hidden → three ≡ old ++ (big_bytes 4 number ++ parts_bytes columns (fields_held held 0 columns) wanted ++ hidden_bytes hidden)
added columns places key unpack wanted held old one two three number hidden are form full a b c =
    let front = big_bytes 4 number in
    let parts = parts_bytes columns (fields_held held 0 columns) wanted in
    let last = hidden_bytes hidden in
    let so_far : two ≡ old ++ (front ++ parts) = b ∙ ap (λ (l : List ℕ). l ++ parts_in columns places key wanted) a ∙ ap (λ (l : List ℕ). old ++ front ++ l) (parts_again columns places key unpack held [] wanted are form full) ∙ append_assoc old front parts in
    c ∙ ap (λ (l : List ℕ). l ++ last) so_far ∙ append_assoc old (front ++ parts) last
