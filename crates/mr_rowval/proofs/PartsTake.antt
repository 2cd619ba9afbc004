-- Only what was written is read of null bits and of a key's columns.
use Rattle.std.proofs.Common.{◌≡◌, ◌⊎◌, ℕ, zero, suc, ◌+◌, ◌-◌, ◌*◌, ◌/◌, ◌%◌, ◌^◌, ◌<◌, List, [], ◌∷◌, ◌++◌, length, get_or, refl, sym, ap, subst, ◌∙◌, arith, append_assoc, Bool, true, false, cond, Option, Some, None, Result, Ok, Err, inl, inr, pow-suc}
use Rattle.std.specs.Prelude.{slice_get, ◌==◌}
use Rattle.std.specs.List.{AllByRecursion}
use Rattle.std.proofs.lemmas.Bool.{cases_eq, eq-eqb, ne_eqb, eqb-true}
use Rattle.std.proofs.lemmas.List.{get_or-append_right}
use Rattle.mr_types.specs.declared.definition.ColumnDef.{ColumnDef}
use Rattle.mr_types.specs.declared.value.Value.{Value}
use Rattle.mr_types.specs.Refusals.{◌>>=◌}
use Rattle.mr_memcmp.specs.Keys.{part_bytes, parts_bytes}
use Rattle.mr_memcmp.specs.Reading.{ReadValue, kept_read, full_read}
use Rattle.mr_memcmp.specs.ComeBack.{AreBytes, part_unpack, parts_unpack}
use Rattle.mr_memcmp.proofs.ColumnTakes.{kept_takes}
use Rattle.mr_rowval.specs.NullBits.{Flags, bit_of, bits_from, is_odd, after_flag, flags_read}
use Rattle.mr_rowval.specs.KeyParts.{Held, is_in, found, behind, part_kept, parts_kept, ReadPart, held_at, kept_full, part_full, parts_full, and_held}
use Rattle.mr_rowval.specs.Encoding.{TakesPart}

-- ---- null bits

odd_split : (n : ℕ) → n ≡ bit_of (is_odd n) + 2 * (n / 2)
odd_split n =
    elim (cases_eq (n % 2) 1) [
      | inl odd ↦ rw (eq-eqb (n % 2) 1 odd) (omega arith)
      | inr even ↦ rw (ne_eqb (n % 2) 1 even) (omega arith)
    ]

abbrev pub some_flags : List Bool → List ℕ → Flags
some_flags flags rest = Some (flags, rest)

same_flags : (x y : List Bool × List ℕ) → let a : Flags = Some x in let b : Flags = Some y in a ≡ b → x ≡ y
same_flags x y e = cc

pub after_parts : (flag : Bool) (f : Flags) (flags : List Bool) (more : List ℕ) → after_flag flag f ≡ some_flags flags more → (later : List Bool) × (f ≡ some_flags later more) × (flag ∷ later ≡ flags)
after_parts flag (Some x) flags more e =
    let same = same_flags (flag ∷ x.0, x.1) (flags, more) e in
    (x.0, ap (λ (y : List Bool × List ℕ). some_flags x.0 y.1) same, ap (λ (y : List Bool × List ℕ). y.0) same)
after_parts flag None flags more e = absurd cc

pub end_parts : (test : Bool) (rest more : List ℕ) (flags : List Bool) → cond test (some_flags [] rest) None ≡ some_flags flags more → (test ≡ true) × ([] ≡ flags) × (rest ≡ more)
end_parts true rest more flags e =
    let same = same_flags ([], rest) (flags, more) e in
    (refl, ap (λ (y : List Bool × List ℕ). y.0) same, ap (λ (y : List Bool × List ℕ). y.1) same)
end_parts false rest more flags e = absurd cc

pub record FlagsTaken (n left byte : ℕ) (rest : List ℕ) (flags : List Bool) (more : List ℕ) : Type 0 where
  pub first : byte ≡ (bits_from left flags).0
  pub behind_it : rest ≡ (bits_from left flags).1 ++ more
  pub count : length flags ≡ n

tail_bytes : (b : ℕ) (rest : List ℕ) → AreBytes (b ∷ rest) → AreBytes rest
tail_bytes b rest are = λ i. are (suc i)

pub flags_takes : (n left byte : ℕ) (rest : List ℕ) (flags : List Bool) (more : List ℕ) → byte < 2 ^ left → AreBytes rest → flags_read n left byte rest ≡ Some (flags, more) → FlagsTaken n left byte rest flags more
flags_takes zero left byte rest flags more small are read =
    let parts = end_parts (byte == 0) rest more flags read in
    let none = eqb-true byte 0 parts.0 in
    subst (λ (f : List Bool). FlagsTaken zero left byte rest f more) parts.1 (record { first = none; behind_it = parts.2; count = refl })
flags_takes (suc n) zero byte [] flags more small are read = absurd cc
flags_takes (suc n) zero byte (next ∷ rest) flags more small are read =
    let parts = after_parts (is_odd next) (flags_read n 7 (next / 2) rest) flags more read in
    let below = are 0 in
    let later = flags_takes n 7 (next / 2) rest parts.0 more (omega arith) (tail_bytes next rest are) parts.1 in
    let here : next ≡ bit_of (is_odd next) + 2 * (bits_from 7 parts.0).0 = odd_split next ∙ ap (λ (k : ℕ). bit_of (is_odd next) + 2 * k) later.first in
    let whole : FlagsTaken (suc n) zero byte (next ∷ rest) (is_odd next ∷ parts.0) more = record {
      first = omega arith;
      behind_it = ap (λ (k : ℕ). k ∷ rest) here ∙ ap (λ (l : List ℕ). (bit_of (is_odd next) + 2 * (bits_from 7 parts.0).0) ∷ l) later.behind_it;
      count = ap suc later.count;
    } in
    subst (λ (f : List Bool). FlagsTaken (suc n) zero byte (next ∷ rest) f more) parts.2 whole
flags_takes (suc n) (suc left) byte rest flags more small are read =
    let parts = after_parts (is_odd byte) (flags_read n left (byte / 2) rest) flags more read in
    let power = pow-suc 2 left in
    let later = flags_takes n left (byte / 2) rest parts.0 more (omega (arith, power)) are parts.1 in
    let whole : FlagsTaken (suc n) (suc left) byte rest (is_odd byte ∷ parts.0) more = record {
      first = odd_split byte ∙ ap (λ (k : ℕ). bit_of (is_odd byte) + 2 * k) later.first;
      behind_it = later.behind_it;
      count = ap suc later.count;
    } in
    subst (λ (f : List Bool). FlagsTaken (suc n) (suc left) byte rest f more) parts.2 whole

-- ---- a key's columns

pub bytes_behind : (whole front rest : List ℕ) → AreBytes whole → whole ≡ front ++ rest → AreBytes rest
bytes_behind whole front rest are is = λ i.
    let b = are (length front + i) in
    let there : get_or whole (length front + i) 0 ≡ get_or rest (length front + i - length front) 0 = ap (λ (l : List ℕ). get_or l (length front + i) 0) is ∙ get_or-append_right front rest (length front) (length front + i) 0 refl (omega arith) in
    let place : length front + i - length front ≡ i = omega arith in
    let same : get_or whole (length front + i) 0 ≡ get_or rest i 0 = there ∙ ap (λ (k : ℕ). get_or rest k 0) place in
    omega arith

abbrev ReadRest : Type 0
ReadRest = Result (List ℕ) ℕ

rest_bound : (r : ReadRest) (f : List ℕ → ReadRest) (rest : List ℕ) → (r >>= f) ≡ Ok rest → (x : List ℕ) × (r ≡ Ok x) × (f x ≡ Ok rest)
rest_bound (Ok x) f rest e = (x, refl, e)
rest_bound (Err left) f rest e = absurd cc

abbrev pub ReadHeld : Type 0
ReadHeld = Result (Held × List ℕ) ℕ

abbrev pub held_ok : Held → List ℕ → ReadHeld
held_ok held rest = Ok (held, rest)

pub part_bound : (r : ReadPart) (f : Held × List ℕ × List ℕ → ReadHeld) (held : Held) (rest : List ℕ) → (r >>= f) ≡ held_ok held rest → (x : Held × List ℕ × List ℕ) × (r ≡ Ok x) × (f x ≡ held_ok held rest)
part_bound (Ok x) f held rest e = (x, refl, e)
part_bound (Err left) f held rest e = absurd cc

same_held : (x y : Held × List ℕ) → let a : ReadHeld = Ok x in let b : ReadHeld = Ok y in a ≡ b → x ≡ y
same_held x y e = cc

pub and_parts_of : (first : Held) (r : ReadHeld) (held : Held) (rest : List ℕ) → and_held first r ≡ held_ok held rest → (more : Held) × (r ≡ held_ok more rest) × (first ++ more ≡ held)
and_parts_of first (Ok x) held rest e =
    let same = same_held (first ++ x.0, x.1) (held, rest) e in
    (x.0, ap (λ (y : Held × List ℕ). held_ok x.0 y.1) same, ap (λ (y : Held × List ℕ). y.0) same)
and_parts_of first (Err left) held rest e = absurd cc

pub same_part : (x y : Held × List ℕ × List ℕ) → let a : ReadPart = Ok x in let b : ReadPart = Ok y in a ≡ b → x ≡ y
same_part x y e = cc

-- a column was read twice: by the key alone, and with its unpack data
abbrev value_ok : Value → List ℕ → ReadValue
value_ok value rest = Ok (value, rest)

same_rest : (a b : List ℕ) → let x : ReadRest = Ok a in let y : ReadRest = Ok b in x ≡ y → a ≡ b
same_rest a b e = cc

behind_parts : (r : ReadValue) (rest : List ℕ) → behind r ≡ Ok rest → (k : Value) × (r ≡ value_ok k rest)
behind_parts (Ok x) rest e = (x.0, ap (value_ok x.0) (same_rest x.1 rest e))
behind_parts (Err left) rest e = absurd cc

pub held_parts : (p : ℕ) (key : List ℕ) (r : ReadValue) (x : Held × List ℕ × List ℕ) → held_at p key r ≡ Ok x → (v : Value) × (r ≡ value_ok v x.2) × ((p, v) ∷ [] ≡ x.0) × (key ≡ x.1)
held_parts p key (Ok y) x e =
    let same = same_part ((p, y.0) ∷ [], key, y.1) x e in
    (y.0, ap (λ (z : Held × List ℕ × List ℕ). value_ok y.0 z.2) same, ap (λ (z : Held × List ℕ × List ℕ). z.0) same, ap (λ (z : Held × List ℕ × List ℕ). z.1) same)
held_parts p key (Err left) x e = absurd cc

-- the values that are held are those of a row
abbrev pub IsHeldIn : List Value → ℕ × Value → Type 0
IsHeldIn values x = slice_get values x.0 ≡ Some x.1

abbrev pub AreHeldIn : List Value → Held → Type 0
AreHeldIn values held = AllByRecursion (IsHeldIn values) held

pub record PartTaken (column : Option ColumnDef) (value : Option Value) (p : ℕ) (key rest unpack : List ℕ) (x : Held × List ℕ × List ℕ) : Type 0 where
  pub of_key : key ≡ part_bytes column value ++ rest
  pub same_key : x.1 ≡ rest
  pub of_unpack : unpack ≡ part_unpack column value ++ x.2
  pub takes : TakesPart column value

part_takes : (column : Option ColumnDef) (value : Option Value) (p : ℕ) (key rest unpack : List ℕ) (x : Held × List ℕ × List ℕ) → AreBytes key → AreBytes unpack → part_kept column key ≡ Ok rest → part_full column p key unpack ≡ Ok x → AllByRecursion (λ y. value ≡ Some y.1) x.0 → PartTaken column value p key rest unpack x
part_takes None value p key rest unpack x are form kept full held =
    let same = same_part ([], key, unpack) x full in
    record { of_key = same_rest key rest kept; same_key = sym (ap (λ (z : Held × List ℕ × List ℕ). z.1) same) ∙ same_rest key rest kept; of_unpack = ap (λ (z : Held × List ℕ × List ℕ). z.2) same; takes = tt }
part_takes (Some column) value p key rest unpack x are form kept full held =
    let k = behind_parts (kept_read column.ty key) rest kept in
    let parts = held_parts p rest (full_read column.ty.kind k.0 unpack) x (sym (ap (kept_full column p unpack) k.1) ∙ full) in
    let was = kept_takes column.ty k.0 parts.0 key rest unpack x.2 are form k.1 parts.1 in
    let mine : value ≡ Some parts.0 = (subst (λ (h : Held). AllByRecursion (λ y. value ≡ Some y.1) h) (sym parts.2) held).0 in
    let whole : PartTaken (Some column) (Some parts.0) p key rest unpack x = record { of_key = was.of_key; same_key = sym parts.3; of_unpack = was.of_unpack; takes = was.taken } in
    subst (λ (o : Option Value). PartTaken (Some column) o p key rest unpack x) (sym mine) whole

all-append : (P : ℕ × Value → Type 0) (a b : Held) → AllByRecursion P (a ++ b) → AllByRecursion P a × AllByRecursion P b
all-append P [] b h = (tt, h)
all-append P (x ∷ a) b h = let more = all-append P a b h.1 in ((h.0, more.0), more.1)

-- what is held of one place
of_value : (p : ℕ) (key : List ℕ) (r : ReadValue) (x : Held × List ℕ × List ℕ) → held_at p key r ≡ Ok x → (values : List Value) → AreHeldIn values x.0 → AllByRecursion (λ y. slice_get values p ≡ Some y.1) x.0
of_value p key r x e values held =
    let parts = held_parts p key r x e in
    let mine = subst (AreHeldIn values) (sym parts.2) held in
    subst (λ (h : Held). AllByRecursion (λ y. slice_get values p ≡ Some y.1) h) parts.2 (mine.0, tt)

of_kept : (column : ColumnDef) (p : ℕ) (unpack : List ℕ) (r : ReadValue) (x : Held × List ℕ × List ℕ) → kept_full column p unpack r ≡ Ok x → (values : List Value) → AreHeldIn values x.0 → AllByRecursion (λ y. slice_get values p ≡ Some y.1) x.0
of_kept column p unpack (Ok k) x e values held = of_value p k.1 (full_read column.ty.kind k.0 unpack) x e values held
of_kept column p unpack (Err left) x e values held = absurd cc

at_one : (column : Option ColumnDef) (p : ℕ) (key unpack : List ℕ) (x : Held × List ℕ × List ℕ) → part_full column p key unpack ≡ Ok x → (values : List Value) → AreHeldIn values x.0 → AllByRecursion (λ y. slice_get values p ≡ Some y.1) x.0
at_one None p key unpack x full values held = let same = same_part ([], key, unpack) x full in subst (λ (h : Held). AllByRecursion (λ y. slice_get values p ≡ Some y.1) h) (ap (λ (z : Held × List ℕ × List ℕ). z.0) same) tt
at_one (Some column) p key unpack x full values held = of_kept column p unpack (kept_read column.ty key) x full values held

-- nothing, or one value, is held of a place
of_one : (column : ColumnDef) (p : ℕ) (key : List ℕ) (r : ReadValue) (x : Held × List ℕ × List ℕ) → held_at p key r ≡ Ok x → (v : Value) × (x.0 ≡ (p, v) ∷ [])
of_one column p key r x e = let parts = held_parts p key r x e in (parts.0, sym parts.2)

of_some : (column : ColumnDef) (p : ℕ) (unpack : List ℕ) (r : ReadValue) (x : Held × List ℕ × List ℕ) → kept_full column p unpack r ≡ Ok x → (v : Value) × (x.0 ≡ (p, v) ∷ [])
of_some column p unpack (Ok k) x e = of_one column p k.1 (full_read column.ty.kind k.0 unpack) x e
of_some column p unpack (Err left) x e = absurd cc

abbrev some_column : ColumnDef → Option ColumnDef
some_column column = Some column

pub of_held : (o : Option ColumnDef) (p : ℕ) (key unpack : List ℕ) (x : Held × List ℕ × List ℕ) → part_full o p key unpack ≡ Ok x → (x.0 ≡ []) ⊎ ((column : ColumnDef) × (v : Value) × (o ≡ Some column) × (x.0 ≡ (p, v) ∷ []))
of_held None p key unpack x full = inl (sym (ap (λ (z : Held × List ℕ × List ℕ). z.0) (same_part ([], key, unpack) x full)))
of_held (Some column) p key unpack x full = let one = of_some column p unpack (kept_read column.ty key) x full in inr (column, one.0, refl, one.1)

pub first_held : (a b : Held) (x y : List ℕ) → held_ok a x ≡ held_ok b y → a ≡ b
first_held a b x y e = ap (λ (z : Held × List ℕ). z.0) (same_held (a, x) (b, y) e)

pub record PartsTaken (columns : List ColumnDef) (values : List Value) (places key rest unpack more : List ℕ) : Type 0 where
  pub of_key : key ≡ parts_bytes columns values places ++ rest
  pub of_unpack : unpack ≡ parts_unpack columns values places ++ more
  pub takes : AllByRecursion (λ p. TakesPart (slice_get columns p) (slice_get values p)) places

pub parts_take : (columns : List ColumnDef) (values : List Value) (places key rest unpack more : List ℕ) (held : Held) → AreBytes key → AreBytes unpack → parts_kept columns places key ≡ Ok rest → parts_full columns places key unpack ≡ Ok (held, more) → AreHeldIn values held → PartsTaken columns values places key rest unpack more
parts_take columns values [] key rest unpack more held are form kept full h = record { of_key = same_rest key rest kept; of_unpack = ap (λ (z : Held × List ℕ). z.1) (same_held ([], unpack) (held, more) full); takes = tt }
parts_take columns values (p ∷ places) key rest unpack more held are form kept full h =
    let k = rest_bound (part_kept (slice_get columns p) key) (parts_kept columns places) rest kept in
    let f = part_bound (part_full (slice_get columns p) p key unpack) (λ x. and_held x.0 (parts_full columns places x.1 x.2)) held more full in
    let x = f.0 in
    let rest_of = and_parts_of x.0 (parts_full columns places x.1 x.2) held more f.2 in
    let both = all-append (IsHeldIn values) x.0 rest_of.0 (subst (AreHeldIn values) (sym rest_of.2) h) in
    let part = part_takes (slice_get columns p) (slice_get values p) p key k.0 unpack x are form k.1 f.1 (at_one (slice_get columns p) p key unpack x f.1 values both.0) in
    let full_later = ap (λ (l : List ℕ). parts_full columns places l x.2) (sym part.same_key) ∙ rest_of.1 in
    let later = parts_take columns values places k.0 rest x.2 more rest_of.0 (bytes_behind key (part_bytes (slice_get columns p) (slice_get values p)) k.0 are part.of_key) (bytes_behind unpack (part_unpack (slice_get columns p) (slice_get values p)) x.2 form part.of_unpack) k.2 full_later both.1 in
    record {
      of_key = part.of_key ∙ ap (λ (l : List ℕ). part_bytes (slice_get columns p) (slice_get values p) ++ l) later.of_key ∙ sym (append_assoc (part_bytes (slice_get columns p) (slice_get values p)) (parts_bytes columns values places) rest);
      of_unpack = part.of_unpack ∙ ap (λ (l : List ℕ). part_unpack (slice_get columns p) (slice_get values p) ++ l) later.of_unpack ∙ sym (append_assoc (part_unpack (slice_get columns p) (slice_get values p)) (parts_unpack columns values places) more);
      takes = (part.takes, later.takes);
    }

-- ---- what is held

-- found first under its place, which is among these and is a column's
pub record IsHeld (columns : List ColumnDef) (places : List ℕ) (held : Held) (x : ℕ × Value) : Type 0 where
  pub first : found held x.0 ≡ x.1
  pub among : is_in places x.0 ≡ true
  pub column : ColumnDef
  pub its_column : slice_get columns x.0 ≡ Some column
