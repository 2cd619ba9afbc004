-- A column's bytes stand in the order of its values, and decide before what follows.
use Rattle.std.proofs.Common.{◌≡◌, ℕ, suc, ◌+◌, ◌-◌, ◌*◌, ◌%◌, ◌^◌, ◌<◌, ℤ, pos, negsuc, List, ◌++◌, refl, sym, ap, ◌∙◌, arith, Bool, true, false}
use Rattle.std.specs.declared.cmp.Ordering.{Ordering}
use Rattle.std.specs.Ordering.{nat_cmp, int_cmp, ordering_then}
use Rattle.std.specs.Int.{bytes_high_first}
use Rattle.std.proofs.Math.Nat.{mod-eq_of_lt}
use Rattle.std.proofs.lemmas.Bool.{false≢true}
use Rattle.std.proofs.lemmas.Bool.Decides.{nat_tests}
use Rattle.mr_pieces.specs.Order.{bytes_cmp}
use Rattle.mr_pieces.proofs.Compare.{cmp_less, cmp_greater}
use Rattle.mr_pieces.proofs.Kept.{decide_first}
use Rattle.mr_types.specs.declared.kind.Kind.{Kind}
use Rattle.mr_types.specs.declared.kind.Kind.TheVariants.{Int, IntUnsigned, BigInt, BigIntUnsigned, VarChar, VarBinary}
use Rattle.mr_types.specs.declared.kind.ColumnType.{ColumnType}
use Rattle.mr_types.specs.declared.value.Value.{Value}
use Rattle.mr_types.specs.declared.value.Value.TheVariants.{Null, Number, Text, Bytes}
use Rattle.mr_types.specs.Order.{value_cmp, collation_of}
use Rattle.mr_memcmp.specs.Fitting.{HasKind, FitsColumn, IsNumber, HoldsTexts, HoldsBytes, IsSigned, IsUnsigned}
use Rattle.mr_memcmp.specs.Keys.{sign_flipped, magnitude, number_bytes, value_bytes, bytes_by_flag, column_bytes}
use Rattle.mr_memcmp.proofs.Numbers.{high_first}

-- ---- numbers

int_cmp-pos : (x y : ℕ) → int_cmp (pos x) (pos y) ≡ nat_cmp x y
int_cmp-pos x y = grind (arith, nat_tests)

int_cmp-negsuc : (x y : ℕ) → int_cmp (negsuc x) (negsuc y) ≡ nat_cmp y x
int_cmp-negsuc x y = grind (arith, nat_tests)

flipped_cmp : (half : ℕ) (x y : ℤ) → IsSigned half x → IsSigned half y → nat_cmp (sign_flipped half x) (sign_flipped half y) ≡ int_cmp x y
flipped_cmp half (pos x) (pos y) p q = rw int_cmp-pos (grind (arith, nat_tests))
flipped_cmp half (pos x) (negsuc y) p q = cmp_greater (2 ^ half + x) (2 ^ half - suc y) (omega arith)
flipped_cmp half (negsuc x) (pos y) p q = cmp_less (2 ^ half - suc x) (2 ^ half + y) (omega arith)
flipped_cmp half (negsuc x) (negsuc y) p q = rw int_cmp-negsuc (grind (arith, nat_tests))

pub flipped_below : (half : ℕ) (x : ℤ) → IsSigned half x → sign_flipped half x < 2 * 2 ^ half
flipped_below half (pos x) p = omega arith
flipped_below half (negsuc x) p = omega arith

magnitude_cmp : (width : ℕ) (x y : ℤ) → IsUnsigned width x → IsUnsigned width y → nat_cmp (magnitude x) (magnitude y) ≡ int_cmp x y
magnitude_cmp width (pos x) (pos y) p q = sym (int_cmp-pos x y)
magnitude_cmp width (pos x) (negsuc y) p q = absurd q
magnitude_cmp width (negsuc x) y p q = absurd p

pub magnitude_below : (width : ℕ) (x : ℤ) → IsUnsigned width x → magnitude x < 2 ^ width
magnitude_below width (pos x) p = p
magnitude_below width (negsuc x) p = absurd p

-- numbers of one width
pub wide_lead : (k limit m n : ℕ) (a b : List ℕ) → limit ≡ 256 ^ k → m < limit → n < limit → bytes_cmp (bytes_high_first k m ++ a) (bytes_high_first k n ++ b) ≡ ordering_then (nat_cmp m n) (bytes_cmp a b)
wide_lead k limit m n a b e p q =
    let first : m % 256 ^ k ≡ m = rw (← e) (mod-eq_of_lt p) in
    let second : n % 256 ^ k ≡ n = rw (← e) (mod-eq_of_lt q) in
    high_first k m n a b ∙ rw (first, second) refl

number_lead : (kind : Kind) (x y : ℤ) (a b : List ℕ) → IsNumber kind x → IsNumber kind y → bytes_cmp (number_bytes kind x ++ a) (number_bytes kind y ++ b) ≡ ordering_then (int_cmp x y) (bytes_cmp a b)
number_lead Int x y a b p q = wide_lead 4 (2 ^ 32) (sign_flipped 31 x) (sign_flipped 31 y) a b refl (flipped_below 31 x p) (flipped_below 31 y q) ∙ ap (λ (o : Ordering). ordering_then o (bytes_cmp a b)) (flipped_cmp 31 x y p q)
number_lead IntUnsigned x y a b p q = wide_lead 4 (2 ^ 32) (magnitude x) (magnitude y) a b refl (magnitude_below 32 x p) (magnitude_below 32 y q) ∙ ap (λ (o : Ordering). ordering_then o (bytes_cmp a b)) (magnitude_cmp 32 x y p q)
number_lead BigInt x y a b p q = wide_lead 8 (2 ^ 64) (sign_flipped 63 x) (sign_flipped 63 y) a b refl (flipped_below 63 x p) (flipped_below 63 y q) ∙ ap (λ (o : Ordering). ordering_then o (bytes_cmp a b)) (flipped_cmp 63 x y p q)
number_lead BigIntUnsigned x y a b p q = wide_lead 8 (2 ^ 64) (magnitude x) (magnitude y) a b refl (magnitude_below 64 x p) (magnitude_below 64 y q) ∙ ap (λ (o : Ordering). ordering_then o (bytes_cmp a b)) (magnitude_cmp 64 x y p q)
number_lead (VarChar n c) x y a b p q = absurd p
number_lead (VarBinary n) x y a b p q = absurd p

-- ---- values of one kind, neither NULL

number_text : (kind : Kind) (z : ℤ) → IsNumber kind z → HoldsTexts kind → ⊥
number_text (VarChar n c) z p q = p
number_text kind z p q = q

number_binary : (kind : Kind) (z : ℤ) → IsNumber kind z → HoldsBytes kind → ⊥
number_binary (VarBinary n) z p q = p
number_binary kind z p q = q

text_binary : (kind : Kind) → HoldsTexts kind → HoldsBytes kind → ⊥
text_binary (VarBinary n) p q = p
text_binary kind p q = q

kind_lead : (kind : Kind) (x y : Value) (a b : List ℕ) → HasKind kind x → HasKind kind y → bytes_cmp (value_bytes kind x ++ a) (value_bytes kind y ++ b) ≡ ordering_then (value_cmp kind x y) (bytes_cmp a b)
kind_lead kind Null y a b p q = absurd p
kind_lead kind (Number x) Null a b p q = absurd q
kind_lead kind (Number x) (Number y) a b p q = number_lead kind x y a b p q
kind_lead kind (Number x) (Text y) a b p q = absurd (number_text kind x p q)
kind_lead kind (Number x) (Bytes y) a b p q = absurd (number_binary kind x p q)
kind_lead kind (Text x) Null a b p q = absurd q
kind_lead kind (Text x) (Number y) a b p q = absurd (number_text kind y q p)
kind_lead kind (Text x) (Text y) a b p q = decide_first.of_texts (collation_of kind) x y a b
kind_lead kind (Text x) (Bytes y) a b p q = absurd (text_binary kind p q)
kind_lead kind (Bytes x) Null a b p q = absurd q
kind_lead kind (Bytes x) (Number y) a b p q = absurd (number_binary kind y q p)
kind_lead kind (Bytes x) (Text y) a b p q = absurd (text_binary kind q p)
kind_lead kind (Bytes x) (Bytes y) a b p q = decide_first.of_bytes x y a b

-- ---- a column

flag_lead : (nullable : Bool) (kind : Kind) (x y : Value) (a b : List ℕ) → FitsColumn (record { kind = kind; nullable = nullable }) x → FitsColumn (record { kind = kind; nullable = nullable }) y → bytes_cmp (bytes_by_flag nullable kind x ++ a) (bytes_by_flag nullable kind y ++ b) ≡ ordering_then (value_cmp kind x y) (bytes_cmp a b)
flag_lead false kind Null y a b p q = absurd (false≢true p)
flag_lead false kind x Null a b p q = absurd (false≢true q)
flag_lead false kind x y a b p q = kind_lead kind x y a b p q
flag_lead true kind Null Null a b p q = refl
flag_lead true kind Null y a b p q = refl
flag_lead true kind x Null a b p q = refl
flag_lead true kind x y a b p q = kind_lead kind x y a b p q

pub column_lead : (column : ColumnType) (x y : Value) (a b : List ℕ) → FitsColumn column x → FitsColumn column y → bytes_cmp (column_bytes column x ++ a) (column_bytes column y ++ b) ≡ ordering_then (value_cmp column.kind x y) (bytes_cmp a b)
unfolding column_bytes
column_lead column x y a b p q = flag_lead column.nullable column.kind x y a b p q
