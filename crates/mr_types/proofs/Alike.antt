-- Values that are the same byte for byte, and values in fields.
use Rattle.std.proofs.Common.{◌≡◌, ℕ, List, true, true≢false, refl, sym}
use Rattle.std.specs.Ordering.{is_eq}
use Rattle.std.proofs.lemmas.Map.Text.{is_eq-slice_cmp}
use Rattle.mr_pieces.specs.Order.{bytes_cmp}
use Rattle.mr_types.specs.declared.kind.Kind.{Kind}
use Rattle.mr_types.specs.declared.kind.Kind.TheVariants.{Int, IntUnsigned, BigInt, BigIntUnsigned, VarChar, VarBinary}
use Rattle.mr_types.specs.declared.value.Value.TheVariants.{Text, Bytes}
use Rattle.mr_types.specs.Values.{same_bytes, is_equal}
use Rattle.mr_types.specs.FieldValues.{value_of_bytes, is_held_by}

pub same_order : (a b : List ℕ) → is_eq (bytes_cmp a b) ≡ same_bytes a b
same_order a b = is_eq-slice_cmp a b

pub alike_of_bytes : (kind : Kind) (a b : List ℕ) → is_equal (value_of_bytes kind a) (value_of_bytes kind b) ≡ same_bytes a b
alike_of_bytes Int a b = refl
alike_of_bytes IntUnsigned a b = refl
alike_of_bytes BigInt a b = refl
alike_of_bytes BigIntUnsigned a b = refl
alike_of_bytes (VarChar n collation) a b = refl
alike_of_bytes (VarBinary n) a b = refl

pub text_there : (kind : Kind) (t : List ℕ) → is_held_by kind (Text t) ≡ true → value_of_bytes kind t ≡ Text t
text_there Int t h = absurd (true≢false (sym h))
text_there IntUnsigned t h = absurd (true≢false (sym h))
text_there BigInt t h = absurd (true≢false (sym h))
text_there BigIntUnsigned t h = absurd (true≢false (sym h))
text_there (VarChar n collation) t h = refl
text_there (VarBinary n) t h = absurd (true≢false (sym h))

pub bytes_there : (kind : Kind) (b : List ℕ) → is_held_by kind (Bytes b) ≡ true → value_of_bytes kind b ≡ Bytes b
bytes_there Int b h = refl
bytes_there IntUnsigned b h = refl
bytes_there BigInt b h = refl
bytes_there BigIntUnsigned b h = refl
bytes_there (VarChar n collation) b h = absurd (true≢false (sym h))
bytes_there (VarBinary n) b h = refl
