-- A value of a column against a literal that has no bytes in it.
use Rattle.std.proofs.Common.{◌≡◌, ℕ, ◌<◌, ◌^◌, ℤ, pos, negsuc, false, refl, arith, nat_lt}
use Rattle.std.specs.Prelude.{if◌then◌else◌}
use Rattle.std.specs.declared.cmp.Ordering.{Ordering}
use Rattle.std.specs.declared.cmp.Ordering.TheVariants.{Less, Greater}
use Rattle.std.specs.Ordering.{int_cmp}
use Rattle.std.proofs.lemmas.Bool.Decides.{nat_tests}
use Rattle.mr_types.specs.declared.kind.Kind.{Kind}
use Rattle.mr_types.specs.declared.kind.Kind.TheVariants.{Int, IntUnsigned, BigInt, BigIntUnsigned, VarChar, VarBinary}
use Rattle.mr_types.specs.declared.kind.ColumnType.{ColumnType}
use Rattle.mr_types.specs.declared.value.Value.{Value}
use Rattle.mr_types.specs.declared.value.Value.TheVariants.{Null, Number, Text, Bytes}
use Rattle.mr_types.specs.Values.{is_null}
use Rattle.mr_types.specs.Order.{value_cmp}
use Rattle.mr_memcmp.specs.Fitting.{IsSigned, IsUnsigned, IsNumber, HoldsTexts, HoldsBytes, FitsColumn}
use Rattle.mr_plan.specs.Tests.{is_signed, is_unsigned, is_number, holds_texts, holds_bytes, fits_column, side_of_number, side_of}

abbrev side : ℤ → Ordering
side (pos n) = Less
side (negsuc n) = Greater

pos-less : (m n k : ℕ) → m < k → nat_lt n k ≡ false → int_cmp (pos m) (pos n) ≡ Less
pos-less m n k h e = grind (arith, nat_tests)

neg-greater : (m n k : ℕ) → m < k → nat_lt n k ≡ false → int_cmp (negsuc m) (negsuc n) ≡ Greater
neg-greater m n k h e = grind (arith, nat_tests)

pos-greater : (m n : ℕ) → int_cmp (pos m) (negsuc n) ≡ Greater
pos-greater m n = refl

neg-less : (m n : ℕ) → int_cmp (negsuc m) (pos n) ≡ Less
neg-less m n = refl

signed-side : (half : ℕ) (z y : ℤ) → IsSigned half z → is_signed half y ≡ false → int_cmp z y ≡ side y
signed-side half (pos m) (pos n) h e = pos-less m n (2 ^ half) h e
signed-side half (pos m) (negsuc n) h e = pos-greater m n
signed-side half (negsuc m) (pos n) h e = neg-less m n
signed-side half (negsuc m) (negsuc n) h e = neg-greater m n (2 ^ half) h e

unsigned-side : (width : ℕ) (z y : ℤ) → IsUnsigned width z → is_unsigned width y ≡ false → int_cmp z y ≡ side y
unsigned-side width (pos m) (pos n) h e = pos-less m n (2 ^ width) h e
unsigned-side width (pos m) (negsuc n) h e = pos-greater m n
unsigned-side width (negsuc m) y h e = absurd h

number-side : (kind : Kind) (z y : ℤ) → IsNumber kind z → is_number kind y ≡ false → int_cmp z y ≡ side_of_number kind y
number-side Int z (pos n) h e = signed-side 31 z (pos n) h e
number-side Int z (negsuc n) h e = signed-side 31 z (negsuc n) h e
number-side IntUnsigned z (pos n) h e = unsigned-side 32 z (pos n) h e
number-side IntUnsigned z (negsuc n) h e = unsigned-side 32 z (negsuc n) h e
number-side BigInt z (pos n) h e = signed-side 63 z (pos n) h e
number-side BigInt z (negsuc n) h e = signed-side 63 z (negsuc n) h e
number-side BigIntUnsigned z (pos n) h e = unsigned-side 64 z (pos n) h e
number-side BigIntUnsigned z (negsuc n) h e = unsigned-side 64 z (negsuc n) h e
number-side (VarChar n c) z y h e = absurd h
number-side (VarBinary n) z y h e = absurd h

number-text : (kind : Kind) (z : ℤ) → IsNumber kind z → Less ≡ (if holds_bytes kind then Greater else Less)
number-text Int z h = refl
number-text IntUnsigned z h = refl
number-text BigInt z h = refl
number-text BigIntUnsigned z h = refl
number-text (VarChar n c) z h = refl
number-text (VarBinary n) z h = absurd h

text-number : (kind : Kind) (y : ℤ) → HoldsTexts kind → Greater ≡ side_of_number kind y
text-number (VarChar n c) y h = refl
text-number (VarBinary n) y h = refl
text-number Int y h = absurd h
text-number IntUnsigned y h = absurd h
text-number BigInt y h = absurd h
text-number BigIntUnsigned y h = absurd h

bytes-number : (kind : Kind) (y : ℤ) → HoldsBytes kind → Greater ≡ side_of_number kind y
bytes-number (VarChar n c) y h = refl
bytes-number (VarBinary n) y h = refl
bytes-number Int y h = absurd h
bytes-number IntUnsigned y h = absurd h
bytes-number BigInt y h = absurd h
bytes-number BigIntUnsigned y h = absurd h

bytes-text : (kind : Kind) → HoldsBytes kind → Greater ≡ (if holds_bytes kind then Greater else Less)
bytes-text (VarBinary n) h = refl
bytes-text (VarChar n c) h = absurd h
bytes-text Int h = absurd h
bytes-text IntUnsigned h = absurd h
bytes-text BigInt h = absurd h
bytes-text BigIntUnsigned h = absurd h

texts-hold : (kind : Kind) → HoldsTexts kind → holds_texts kind ≡ false → ⊥
texts-hold (VarChar n c) h e = cc
texts-hold (VarBinary n) h e = h
texts-hold Int h e = h
texts-hold IntUnsigned h e = h
texts-hold BigInt h e = h
texts-hold BigIntUnsigned h e = h

bytes-hold : (kind : Kind) → HoldsBytes kind → holds_bytes kind ≡ false → ⊥
bytes-hold (VarBinary n) h e = cc
bytes-hold (VarChar n c) h e = h
bytes-hold Int h e = h
bytes-hold IntUnsigned h e = h
bytes-hold BigInt h e = h
bytes-hold BigIntUnsigned h e = h

pub one-side : (column : ColumnType) (field v : Value) → FitsColumn column field → is_null field ≡ false → is_null v ≡ false → fits_column column v ≡ false → value_cmp column.kind field v ≡ side_of column.kind v
one-side column Null v h n m e = cc
one-side column (Number z) Null h n m e = cc
one-side column (Number z) (Number y) h n m e = number-side column.kind z y h e
one-side column (Number z) (Text t) h n m e = number-text column.kind z h
one-side column (Number z) (Bytes b) h n m e = refl
one-side column (Text s) Null h n m e = cc
one-side column (Text s) (Number y) h n m e = text-number column.kind y h
one-side column (Text s) (Text t) h n m e = absurd (texts-hold column.kind h e)
one-side column (Text s) (Bytes b) h n m e = refl
one-side column (Bytes s) Null h n m e = cc
one-side column (Bytes s) (Number y) h n m e = bytes-number column.kind y h
one-side column (Bytes s) (Text t) h n m e = bytes-text column.kind h
one-side column (Bytes s) (Bytes b) h n m e = absurd (bytes-hold column.kind h e)
