-- Which values have bytes in a column, as a test.
use Rattle.std.proofs.Common.{◌≡◌, ℕ, ◌<◌, ◌^◌, ℤ, pos, negsuc, Bool, true, false, IsTrue, refl, sym, arith, nat_lt}
use Rattle.std.proofs.lemmas.Bool.Decides.{nat_tests}
use Rattle.mr_types.specs.declared.kind.Kind.{Kind}
use Rattle.mr_types.specs.declared.kind.Kind.TheVariants.{Int, IntUnsigned, BigInt, BigIntUnsigned, VarChar, VarBinary}
use Rattle.mr_types.specs.declared.kind.ColumnType.{ColumnType}
use Rattle.mr_types.specs.declared.value.Value.{Value}
use Rattle.mr_types.specs.declared.value.Value.TheVariants.{Null, Number, Text, Bytes}
use Rattle.mr_memcmp.specs.Fitting.{IsSigned, IsUnsigned, IsNumber, HoldsTexts, HoldsBytes, FitsColumn}
use Rattle.mr_plan.specs.Tests.{is_signed, is_unsigned, is_number, holds_texts, holds_bytes, fits_column}

below : (n m : ℕ) → n < m → nat_lt n m ≡ true
below n m h = grind (arith, nat_tests)

is_below : (n m : ℕ) → nat_lt n m ≡ true → n < m
is_below n m h = grind (arith, nat_tests)

signed : (half : ℕ) (z : ℤ) → IsSigned half z → is_signed half z ≡ true
signed half (pos n) h = below n (2 ^ half) h
signed half (negsuc n) h = below n (2 ^ half) h

unsigned : (width : ℕ) (z : ℤ) → IsUnsigned width z → is_unsigned width z ≡ true
unsigned width (pos n) h = below n (2 ^ width) h
unsigned width (negsuc n) h = absurd h

number : (kind : Kind) (z : ℤ) → IsNumber kind z → is_number kind z ≡ true
number Int z h = signed 31 z h
number IntUnsigned z h = unsigned 32 z h
number BigInt z h = signed 63 z h
number BigIntUnsigned z h = unsigned 64 z h
number (VarChar n c) z h = absurd h
number (VarBinary n) z h = absurd h

texts : (kind : Kind) → HoldsTexts kind → holds_texts kind ≡ true
texts (VarChar n c) h = refl
texts (VarBinary n) h = absurd h
texts Int h = absurd h
texts IntUnsigned h = absurd h
texts BigInt h = absurd h
texts BigIntUnsigned h = absurd h

bytes : (kind : Kind) → HoldsBytes kind → holds_bytes kind ≡ true
bytes (VarBinary n) h = refl
bytes (VarChar n c) h = absurd h
bytes Int h = absurd h
bytes IntUnsigned h = absurd h
bytes BigInt h = absurd h
bytes BigIntUnsigned h = absurd h

truth : (b : Bool) → IsTrue b → b ≡ true
truth true h = refl
truth false h = absurd (nothing h)
  where
    nothing : IsTrue false → ⊥
    nothing h = cc

pub fits_true : (column : ColumnType) (v : Value) → FitsColumn column v → fits_column column v ≡ true
fits_true column Null h = truth column.nullable h
fits_true column (Number z) h = number column.kind z h
fits_true column (Text t) h = texts column.kind h
fits_true column (Bytes b) h = bytes column.kind h

is_signed_of : (half : ℕ) (z : ℤ) → is_signed half z ≡ true → IsSigned half z
is_signed_of half (pos n) h = is_below n (2 ^ half) h
is_signed_of half (negsuc n) h = is_below n (2 ^ half) h

is_unsigned_of : (width : ℕ) (z : ℤ) → is_unsigned width z ≡ true → IsUnsigned width z
is_unsigned_of width (pos n) h = is_below n (2 ^ width) h
is_unsigned_of width (negsuc n) h = cc

is_number_of : (kind : Kind) (z : ℤ) → is_number kind z ≡ true → IsNumber kind z
is_number_of Int z h = is_signed_of 31 z h
is_number_of IntUnsigned z h = is_unsigned_of 32 z h
is_number_of BigInt z h = is_signed_of 63 z h
is_number_of BigIntUnsigned z h = is_unsigned_of 64 z h
is_number_of (VarChar n c) z h = cc
is_number_of (VarBinary n) z h = cc

is_texts : (kind : Kind) → holds_texts kind ≡ true → HoldsTexts kind
is_texts (VarChar n c) h = tt
is_texts (VarBinary n) h = cc
is_texts Int h = cc
is_texts IntUnsigned h = cc
is_texts BigInt h = cc
is_texts BigIntUnsigned h = cc

is_bytes : (kind : Kind) → holds_bytes kind ≡ true → HoldsBytes kind
is_bytes (VarBinary n) h = tt
is_bytes (VarChar n c) h = cc
is_bytes Int h = cc
is_bytes IntUnsigned h = cc
is_bytes BigInt h = cc
is_bytes BigIntUnsigned h = cc

pub true_fits : (column : ColumnType) (v : Value) → fits_column column v ≡ true → FitsColumn column v
true_fits column Null h = h
true_fits column (Number z) h = is_number_of column.kind z h
true_fits column (Text t) h = is_texts column.kind h
true_fits column (Bytes b) h = is_bytes column.kind h

pub fits_by : (column : ColumnType) (v : Value) (result : Bool) → (result ≡ true → FitsColumn column v) → (result ≡ false → FitsColumn column v → ⊥) → result ≡ fits_column column v
fits_by column v result so other = by result (fits_column column v) (λ e. fits_true column v (so e)) (λ e f. other e (true_fits column v f))
  where
    by : (r b : Bool) → (r ≡ true → b ≡ true) → (r ≡ false → b ≡ true → ⊥) → r ≡ b
    by true b h k = sym (h refl)
    by false false h k = refl
    by false true h k = absurd (k refl refl)
