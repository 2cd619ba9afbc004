-- Loops over null bits, over a key's columns and over the others.
use Rattle.std.proofs.Common.{◌≡◌, ◌≢◌, ℕ, suc, ◌+◌, ◌<◌, List, length, drop, get_or, refl, sym, ap, ◌∙◌, Bool, Option, Some, None, Result, Ok, Err}
use Rattle.std.specs.Prelude.{slice_get}
use Rattle.std.proofs.lemmas.List.{drop_more}
use Rattle.std.proofs.lemmas.Bool.{eq-eqb, ne_eqb}
use Rattle.mr_types.specs.declared.definition.ColumnDef.{ColumnDef}
use Rattle.mr_types.specs.Refusals.{◌>>=◌}
use Rattle.mr_rowval.specs.declared.nulls.Bits.{Bits}
use Rattle.mr_rowval.specs.NullBits.{Flags, flags_read, after_flag, nullable_count, one_more_if}
use Rattle.mr_rowval.specs.KeyParts.{part_kept, parts_kept}
use Rattle.mr_rowval.specs.RowValue.{flags_or, flags_at}
use Rattle.mr_rowval.specs.Walking.{behind_of, bits_read}

-- ---- null bits

abbrev pub behind_flags : Flags → Option (List ℕ)
behind_flags (Some x) = Some x.1
behind_flags None = None

abbrev or_left : ℕ → Option (List ℕ) → Result (List ℕ) ℕ
or_left left (Some rest) = Ok rest
or_left left None = Err left

behind_or : (left : ℕ) (f : Flags) → behind_of (flags_or left f) ≡ or_left left (behind_flags f)
behind_or left (Some x) = refl
behind_or left None = refl

pub flags_behind : (count : ℕ) (bytes : List ℕ) (o : Option (List ℕ)) → behind_flags (flags_read count 0 0 bytes) ≡ o → behind_of (flags_at count bytes) ≡ or_left (length bytes) o
flags_behind count bytes o e = behind_or (length bytes) (flags_read count 0 0 bytes) ∙ ap (or_left (length bytes)) e

behind_after : (flag : Bool) (f : Flags) → behind_flags (after_flag flag f) ≡ behind_flags f
behind_after flag (Some x) = refl
behind_after flag None = refl

abbrev no_flags : Flags
no_flags = None

pub next_some : (n m : ℕ) (bits next : Bits) (flag : Bool) → n ≡ suc m → bits_read (suc m) bits ≡ after_flag flag (bits_read m next) → behind_flags (bits_read n bits) ≡ behind_flags (bits_read m next)
next_some n m bits next flag is e = ap (λ (k : ℕ). behind_flags (bits_read k bits)) is ∙ ap behind_flags e ∙ behind_after flag (bits_read m next)

pub next_none : (n m : ℕ) (bits : Bits) → n ≡ suc m → bits_read (suc m) bits ≡ no_flags → behind_flags (bits_read n bits) ≡ None
next_none n m bits is e = ap (λ (k : ℕ). behind_flags (bits_read k bits)) is ∙ ap behind_flags e

pub flags_end : (n : ℕ) (bits : Bits) → n ≡ 0 → bits.byte ≡ 0 → behind_flags (bits_read n bits) ≡ Some bits.rest.now
flags_end n bits is none = ap (λ (k : ℕ). behind_flags (bits_read k bits)) is ∙ rw (eq-eqb bits.byte 0 none) refl

pub bits_left : (n : ℕ) (bits : Bits) → n ≡ 0 → bits.byte ≢ 0 → behind_flags (bits_read n bits) ≡ None
bits_left n bits is some = ap (λ (k : ℕ). behind_flags (bits_read k bits)) is ∙ rw (ne_eqb bits.byte 0 some) refl

pub nullable_step : (columns : List ColumnDef) (i : ℕ) (column : ColumnDef) → i < length columns → column ≡ get_or columns i column → nullable_count (drop i columns) ≡ one_more_if column.ty.nullable (nullable_count (drop (i + 1) columns))
nullable_step columns i column within is = ap nullable_count (drop_more columns i column within) ∙ ap (λ (c : ColumnDef). one_more_if c.ty.nullable (nullable_count (drop (i + 1) columns))) (sym is)

-- ---- the key

abbrev Kept : Type 0
Kept = Result (List ℕ) ℕ

kept_next : (columns : List ColumnDef) (places key : List ℕ) (i : ℕ) (r : Kept) → i < length places → part_kept (slice_get columns (get_or places i 0)) key ≡ r → parts_kept columns (drop i places) key ≡ (r >>= parts_kept columns (drop (i + 1) places))
kept_next columns places key i r within e = ap (λ (l : List ℕ). parts_kept columns l key) (drop_more places i 0 within) ∙ ap (λ (x : Kept). x >>= parts_kept columns (drop (i + 1) places)) e

pub kept_on : (columns : List ColumnDef) (places key rest : List ℕ) (i : ℕ) (o : Option ColumnDef) → i < length places → o ≡ slice_get columns (get_or places i 0) → part_kept o key ≡ Ok rest → parts_kept columns (drop i places) key ≡ parts_kept columns (drop (i + 1) places) rest
kept_on columns places key rest i o within is e = kept_next columns places key i (Ok rest) within (ap (λ (c : Option ColumnDef). part_kept c key) (sym is) ∙ e)

pub kept_stops : (columns : List ColumnDef) (places key : List ℕ) (left i : ℕ) (o : Option ColumnDef) → i < length places → o ≡ slice_get columns (get_or places i 0) → part_kept o key ≡ Err left → parts_kept columns (drop i places) key ≡ Err left
kept_stops columns places key left i o within is e = kept_next columns places key i (Err left) within (ap (λ (c : Option ColumnDef). part_kept c key) (sym is) ∙ e)
