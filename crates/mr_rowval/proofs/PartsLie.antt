-- What was read ends where what it was read from ends.
use Rattle.std.proofs.Common.{◌≡◌, ℕ, zero, suc, ◌+◌, ◌-◌, ◌<◌, ◌≤◌, ◌/◌, ℤ, pos, List, [], ◌∷◌, ◌++◌, length, take, drop, get_or, refl, sym, ap, subst, ◌∙◌, arith, Bool, true, false, cond, Option, Some, None, Result, Ok, Err}
use Rattle.std.specs.Prelude.{nat_le, nat_lt, slice_get, ◌&&◌, ◌==◌, replicate}
use Rattle.std.specs.Int.{Width, w32, w64, byte_len, from_be_bytes}
use Rattle.std.proofs.lemmas.List.{length-drop, drop-drop, drop_more}
use Rattle.std.proofs.lemmas.Bool.{leb-true, ltb-true, and_parts}
use Rattle.std.proofs.lemmas.Bool.Decides.{nat_tests}
use Rattle.mr_types.specs.declared.kind.Kind.{Kind}
use Rattle.mr_types.specs.declared.kind.Kind.TheVariants.{Int, IntUnsigned, BigInt, BigIntUnsigned, VarChar, VarBinary}
use Rattle.mr_types.specs.declared.value.Value.{Value}
use Rattle.mr_types.specs.declared.value.Value.TheVariants.{Null, Number, Text, Bytes}
use Rattle.mr_pieces.specs.declared.collation.Collation.{Collation}
use Rattle.mr_pieces.specs.declared.collation.Collation.TheVariants.{Bin, Ci}
use Rattle.mr_pieces.specs.Reading.{Read}
use Rattle.mr_pieces.specs.Unpack.{restored}
use Rattle.mr_pieces.specs.UnpackReading.{bits_room, are_bits_of, case_read, spaces_in, unpack_read}
use Rattle.mr_types.specs.declared.definition.ColumnDef.{ColumnDef}
use Rattle.mr_memcmp.specs.Reading.{ReadValue, ReadNumber, as_number, number_read, as_text, text_full, full_read, kept_read}
use Rattle.mr_rowval.specs.NullBits.{is_odd, flags_read}
use Rattle.mr_rowval.specs.KeyParts.{Held, kept_full, part_full, parts_full, and_held}
use Rattle.mr_rowval.specs.RowValue.{field_read}
use Rattle.mr_rowval.proofs.PartsTake.{some_flags, end_parts, after_parts, held_ok, held_parts, same_part, part_bound, and_parts_of}
use Rattle.mr_rowval.specs.Plain.{length16, is_text16, text16_read, is_any, is_ascii_text, signed, plain_read}
use Rattle.mr_rowval.specs.Parts.{Ends}
use Rattle.mr_rowval.proofs.PlainTakes.{value_ok, number_ok, ok_parts, number_parts, tried}

pub ends_all : (bytes : List ℕ) → Ends bytes bytes
ends_all bytes = record { within = omega arith; behind = ap (λ (n : ℕ). drop n bytes) {x = 0} (omega arith) }

pub ends_drop : (n : ℕ) (bytes : List ℕ) → n ≤ length bytes → Ends bytes (drop n bytes)
ends_drop n bytes h =
    let l = length-drop n bytes in
    record { within = omega arith; behind = ap (λ (m : ℕ). drop m bytes) (omega arith) }

pub ends_trans : (a b c : List ℕ) → Ends a b → Ends b c → Ends a c
ends_trans a b c p q =
    let m = length b - length c in
    let n = length a - length b in
    let w : length c ≤ length b = q.within in
    let v : length b ≤ length a = p.within in
    let chain : c ≡ drop m (drop n a) = q.behind ∙ ap (drop m) p.behind in
    record { within = omega arith; behind = chain ∙ drop-drop m n a ∙ ap (λ (k : ℕ). drop k a) (omega arith) }

-- ---- columns that aren't in the key

passed : {A : Type 0} (test : Bool) (r : Result A ℕ) (left : ℕ) (y : A) → cond test r (Err left) ≡ (let z : Result A ℕ = Ok y in z) → (test ≡ true) × (r ≡ Ok y)
passed true r left y e = (refl, e)
passed false r left y e = absurd cc

tried_number : (short : Bool) (left m n : ℕ) (more rest : List ℕ) → cond short (Err left) (number_ok m more) ≡ number_ok n rest → (short ≡ false) × (more ≡ rest)
tried_number true left m n more rest e = absurd cc
tried_number false left m n more rest e = (refl, same_number (m, more) (n, rest) e)
  where
    same_number : (x y : ℕ × List ℕ) → (let a : ReadNumber = Ok x in a) ≡ (let b : ReadNumber = Ok y in b) → x.1 ≡ y.1
    same_number x y e = cc

not_short : (n m : ℕ) → nat_lt n m ≡ false → m ≤ n
not_short n m e = grind (arith, nat_tests)

pub number_ends : (w : Width) (bytes : List ℕ) (n : ℕ) (rest : List ℕ) → number_read w bytes ≡ number_ok n rest → (byte_len w ≤ length bytes) × (drop (byte_len w) bytes ≡ rest)
number_ends w bytes n rest e =
    let t = tried_number (nat_lt (length bytes) (byte_len w)) (length bytes) (from_be_bytes w (take (byte_len w) bytes)) n (drop (byte_len w) bytes) rest e in
    (not_short (length bytes) (byte_len w) t.0, t.1)

of_number : (w : Width) (view : ℕ → ℤ) (bytes : List ℕ) (v : Value) (rest : List ℕ) → as_number view (number_read w bytes) ≡ value_ok v rest → Ends bytes rest
of_number w view bytes v rest e =
    let parts = number_parts view (number_read w bytes) v rest e in
    let cut = number_ends w bytes parts.0 rest parts.1 in
    subst (Ends bytes) cut.1 (ends_drop (byte_len w) bytes cut.0)

of_text16 : (n : ℕ) (test : List ℕ → Bool) (value : List ℕ → Value) (bytes : List ℕ) (v : Value) (rest : List ℕ) → text16_read n test value bytes ≡ value_ok v rest → Ends bytes rest
of_text16 n test value bytes v rest e =
    let m = length16 bytes in
    let t = tried (is_text16 n test bytes) (length bytes) (value (take m (drop 2 bytes))) v (drop m (drop 2 bytes)) rest e in
    let one = and_parts (nat_le 2 (length bytes)) (nat_le m n && (nat_le m (length (drop 2 bytes)) && test (take m (drop 2 bytes)))) t.0 in
    let two = and_parts (nat_le m n) (nat_le m (length (drop 2 bytes)) && test (take m (drop 2 bytes))) one.1 in
    let three = and_parts (nat_le m (length (drop 2 bytes))) (test (take m (drop 2 bytes))) two.1 in
    subst (Ends bytes) t.2 (ends_trans bytes (drop 2 bytes) (drop m (drop 2 bytes)) (ends_drop 2 bytes (leb-true 2 (length bytes) one.0)) (ends_drop m (drop 2 bytes) (leb-true m (length (drop 2 bytes)) three.0)))

pub plain_ends : (kind : Kind) (bytes : List ℕ) (v : Value) (rest : List ℕ) → plain_read kind bytes ≡ value_ok v rest → Ends bytes rest
unfolding plain_read
plain_ends Int bytes v rest e = of_number w32 (signed 31) bytes v rest e
plain_ends IntUnsigned bytes v rest e = of_number w32 (λ m. pos m) bytes v rest e
plain_ends BigInt bytes v rest e = of_number w64 (signed 63) bytes v rest e
plain_ends BigIntUnsigned bytes v rest e = of_number w64 (λ m. pos m) bytes v rest e
plain_ends (VarChar n c) bytes v rest e = of_text16 n is_ascii_text (λ t. Text t) bytes v rest e
plain_ends (VarBinary n) bytes v rest e = of_text16 n is_any (λ t. Bytes t) bytes v rest e

pub field_ends : (in_key is_null : Bool) (held : Value) (kind : Kind) (bytes : List ℕ) (v : Value) (rest : List ℕ) → field_read in_key is_null held kind bytes ≡ value_ok v rest → Ends bytes rest
field_ends true is_null held kind bytes v rest e = subst (Ends bytes) (ok_parts held v bytes rest e).1 (ends_all bytes)
field_ends false true held kind bytes v rest e = subst (Ends bytes) (ok_parts Null v bytes rest e).1 (ends_all bytes)
field_ends false false held kind bytes v rest e = plain_ends kind bytes v rest e

-- ---- null bits and unpack data

pub flags_end : (n left byte : ℕ) (rest : List ℕ) (flags : List Bool) (more : List ℕ) → flags_read n left byte rest ≡ some_flags flags more → Ends rest more
flags_end zero left byte rest flags more e = subst (Ends rest) (end_parts (byte == 0) rest more flags e).2 (ends_all rest)
flags_end (suc n) zero byte [] flags more e = absurd cc
flags_end (suc n) zero byte (next ∷ rest) flags more e =
    let parts = after_parts (is_odd next) (flags_read n 7 (next / 2) rest) flags more e in
    ends_trans (next ∷ rest) rest more (ends_drop 1 (next ∷ rest) (omega arith)) (flags_end n 7 (next / 2) rest parts.0 more parts.1)
flags_end (suc n) (suc left) byte rest flags more e =
    let parts = after_parts (is_odd byte) (flags_read n left (byte / 2) rest) flags more e in
    flags_end n left (byte / 2) rest parts.0 more parts.1

abbrev text_ok : List ℕ → List ℕ → Read
text_ok t rest = Ok (t, rest)

same_text : (a c : List ℕ) (b d : List ℕ) → text_ok a b ≡ text_ok c d → b ≡ d
same_text a c b d e = let same = pairs (a, b) (c, d) e in ap (λ (x : List ℕ × List ℕ). x.1) same
  where
    pairs : (x y : List ℕ × List ℕ) → (let r : Read = Ok x in r) ≡ (let s : Read = Ok y in s) → x ≡ y
    pairs x y e = cc

case_ends : (c : Collation) (kept : List ℕ) (spaces : ℕ) (bytes t rest : List ℕ) → case_read c kept spaces bytes ≡ text_ok t rest → Ends bytes rest
case_ends Bin kept spaces bytes t rest e = subst (Ends bytes) (same_text (kept ++ replicate spaces 32) t bytes rest e) (ends_all bytes)
case_ends Ci kept spaces bytes t rest e =
    let room = bits_room kept in
    let test = passed (nat_le room (length bytes) && are_bits_of kept (take room bytes)) (text_ok (restored (take room bytes) kept ++ replicate spaces 32) (drop room bytes)) (length bytes) (t, rest) e in
    let one = and_parts (nat_le room (length bytes)) (are_bits_of kept (take room bytes)) test.0 in
    subst (Ends bytes) (same_text (restored (take room bytes) kept ++ replicate spaces 32) t (drop room bytes) rest test.1) (ends_drop room bytes (leb-true room (length bytes) one.0))

unpack_ends : (c : Collation) (n : ℕ) (kept unpack t rest : List ℕ) → unpack_read c n kept unpack ≡ text_ok t rest → Ends unpack rest
unpack_ends c n kept unpack t rest e =
    let test = passed (nat_le 2 (length unpack) && nat_le (spaces_in unpack + length kept) n) (case_read c kept (spaces_in unpack) (drop 2 unpack)) (length unpack) (t, rest) e in
    let one = and_parts (nat_le 2 (length unpack)) (nat_le (spaces_in unpack + length kept) n) test.0 in
    ends_trans unpack (drop 2 unpack) rest (ends_drop 2 unpack (leb-true 2 (length unpack) one.0)) (case_ends c kept (spaces_in unpack) (drop 2 unpack) t rest test.1)

as_text_parts : (r : Read) (v : Value) (rest : List ℕ) → as_text r ≡ value_ok v rest → (t : List ℕ) × (r ≡ text_ok t rest)
as_text_parts (Ok x) v rest e = (x.0, ap (text_ok x.0) (ok_parts (Text x.0) v x.1 rest e).1)
as_text_parts (Err left) v rest e = absurd cc

text_ends : (kind : Kind) (kept unpack : List ℕ) (v : Value) (rest : List ℕ) → text_full kind kept unpack ≡ value_ok v rest → Ends unpack rest
text_ends (VarChar n c) kept unpack v rest e =
    let parts = as_text_parts (unpack_read c n kept unpack) v rest e in
    unpack_ends c n kept unpack parts.0 rest parts.1
text_ends Int kept unpack v rest e = subst (Ends unpack) (ok_parts (Text kept) v unpack rest e).1 (ends_all unpack)
text_ends IntUnsigned kept unpack v rest e = subst (Ends unpack) (ok_parts (Text kept) v unpack rest e).1 (ends_all unpack)
text_ends BigInt kept unpack v rest e = subst (Ends unpack) (ok_parts (Text kept) v unpack rest e).1 (ends_all unpack)
text_ends BigIntUnsigned kept unpack v rest e = subst (Ends unpack) (ok_parts (Text kept) v unpack rest e).1 (ends_all unpack)
text_ends (VarBinary n) kept unpack v rest e = subst (Ends unpack) (ok_parts (Text kept) v unpack rest e).1 (ends_all unpack)

full_ends : (kind : Kind) (kept : Value) (unpack : List ℕ) (v : Value) (rest : List ℕ) → full_read kind kept unpack ≡ value_ok v rest → Ends unpack rest
full_ends kind Null unpack v rest e = subst (Ends unpack) (ok_parts Null v unpack rest e).1 (ends_all unpack)
full_ends kind (Number z) unpack v rest e = subst (Ends unpack) (ok_parts (Number z) v unpack rest e).1 (ends_all unpack)
full_ends kind (Text kept) unpack v rest e = text_ends kind kept unpack v rest e
full_ends kind (Bytes b) unpack v rest e = subst (Ends unpack) (ok_parts (Bytes b) v unpack rest e).1 (ends_all unpack)

kept_ends : (column : ColumnDef) (p : ℕ) (unpack : List ℕ) (r : ReadValue) (x : Held × List ℕ × List ℕ) → kept_full column p unpack r ≡ Ok x → Ends unpack x.2
kept_ends column p unpack (Ok y) x e =
    let parts = held_parts p y.1 (full_read column.ty.kind y.0 unpack) x e in
    full_ends column.ty.kind y.0 unpack parts.0 x.2 parts.1
kept_ends column p unpack (Err left) x e = absurd cc

part_ends : (o : Option ColumnDef) (p : ℕ) (key unpack : List ℕ) (x : Held × List ℕ × List ℕ) → part_full o p key unpack ≡ Ok x → Ends unpack x.2
part_ends None p key unpack x e = subst (Ends unpack) (ap (λ (y : Held × List ℕ × List ℕ). y.2) (same_part ([], key, unpack) x e)) (ends_all unpack)
part_ends (Some column) p key unpack x e = kept_ends column p unpack (kept_read column.ty key) x e

pub parts_end : (columns : List ColumnDef) (places key unpack : List ℕ) (held : Held) (rest : List ℕ) → parts_full columns places key unpack ≡ held_ok held rest → Ends unpack rest
parts_end columns [] key unpack held rest e = subst (Ends unpack) (behind ([], unpack) (held, rest) e) (ends_all unpack)
  where
    behind : (x y : Held × List ℕ) → (let a : Result (Held × List ℕ) ℕ = Ok x in a) ≡ (let b : Result (Held × List ℕ) ℕ = Ok y in b) → x.1 ≡ y.1
    behind x y e = cc
parts_end columns (p ∷ places) key unpack held rest e =
    let here = part_bound (part_full (slice_get columns p) p key unpack) (λ x. and_held x.0 (parts_full columns places x.1 x.2)) held rest e in
    let more = and_parts_of here.0.0 (parts_full columns places here.0.1 here.0.2) held rest here.2 in
    ends_trans unpack here.0.2 rest (part_ends (slice_get columns p) p key unpack here.0 here.1) (parts_end columns places here.0.1 here.0.2 more.0 rest more.1)
