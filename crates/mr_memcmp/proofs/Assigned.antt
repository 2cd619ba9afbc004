-- Which values assignment leaves as they are.
use Rattle.std.proofs.Common.{◌≡◌, ℕ, ◌≤◌, ℤ, pos, negsuc, List, length, take, drop, refl, ap, arith, Bool, true, false, Ok}
use Rattle.std.specs.Prelude.{not, nat_lt}
use Rattle.std.specs.List.{list_all}
use Rattle.std.proofs.lemmas.List.{length-take, take_all, drop_all}
use Rattle.std.proofs.lemmas.Bool.{le-ltb}
use Rattle.std.proofs.lemmas.Bool.Decides.{nat_tests}
use Rattle.mr_lanes.specs.Kernels.{is_space}
use Rattle.mr_pieces.specs.declared.collation.Collation.{Collation}
use Rattle.mr_types.specs.declared.kind.Kind.{Kind}
use Rattle.mr_types.specs.declared.kind.Kind.TheVariants.{Int, IntUnsigned, BigInt, BigIntUnsigned, VarChar, VarBinary}
use Rattle.mr_types.specs.declared.value.Value.TheVariants.{Number, Text, Bytes}
use Rattle.mr_types.specs.Refusals.{◌>>◌, refuse_where}
use Rattle.mr_types.specs.Values.{is_in_kind}
use Rattle.mr_memcmp.specs.Fitting.{IsNumber}
use Rattle.mr_memcmp.proofs.Fitted.{kept, Taken}

-- ---- what is taken is not too long

same_text : (a b : List ℕ) → kept (Text a) ≡ kept (Text b) → a ≡ b
same_text a b e = cc

uncut : (refused : Bool) (n : ℕ) (t : List ℕ) → (refuse_where 1406 refused >> Ok (Text (take n t))) ≡ kept (Text t) → take n t ≡ t
uncut true n t e = absurd cc
uncut false n t e = same_text (take n t) t e

pub text_short : (n : ℕ) (c : Collation) (t : List ℕ) → Taken (VarChar n c) (Text t) → length t ≤ n
text_short n c t e =
    let whole : length (take n t) ≡ length t = ap (λ (l : List ℕ). length l) (uncut (not (list_all is_space (drop n t))) n t e) in
    omega (arith, length-take n t)

not_over : (over : Bool) (b : List ℕ) → (refuse_where 1406 over >> Ok (Bytes b)) ≡ kept (Bytes b) → over ≡ false
not_over true b e = absurd cc
not_over false b e = refl

at_most : (n m : ℕ) → nat_lt n m ≡ false → m ≤ n
at_most n m e = grind (arith, nat_tests)

pub bytes_short : (n : ℕ) (b : List ℕ) → Taken (VarBinary n) (Bytes b) → length b ≤ n
bytes_short n b e = at_most n (length b) (not_over (nat_lt n (length b)) b e)

-- ---- and what is not too long is taken

pub text_taken_back : (n : ℕ) (c : Collation) (t : List ℕ) → length t ≤ n → Taken (VarChar n c) (Text t)
text_taken_back n c t short = rw (drop_all n t short, take_all n t short) refl

pub bytes_taken_back : (n : ℕ) (b : List ℕ) → length b ≤ n → Taken (VarBinary n) (Bytes b)
bytes_taken_back n b short = rw (le-ltb n (length b) short) refl

int_within : (z : ℤ) → IsNumber Int z → is_in_kind Int z ≡ true
int_within (pos n) h = grind (arith, nat_tests)
int_within (negsuc n) h = grind (arith, nat_tests)

int_unsigned_within : (z : ℤ) → IsNumber IntUnsigned z → is_in_kind IntUnsigned z ≡ true
int_unsigned_within (pos n) h = grind (arith, nat_tests)
int_unsigned_within (negsuc n) h = absurd h

bigint_within : (z : ℤ) → IsNumber BigInt z → is_in_kind BigInt z ≡ true
bigint_within (pos n) h = grind (arith, nat_tests)
bigint_within (negsuc n) h = grind (arith, nat_tests)

bigint_unsigned_within : (z : ℤ) → IsNumber BigIntUnsigned z → is_in_kind BigIntUnsigned z ≡ true
bigint_unsigned_within (pos n) h = grind (arith, nat_tests)
bigint_unsigned_within (negsuc n) h = absurd h

pub number_taken_back : (kind : Kind) (z : ℤ) → IsNumber kind z → Taken kind (Number z)
number_taken_back Int z h = rw (int_within z h) refl
number_taken_back IntUnsigned z h = rw (int_unsigned_within z h) refl
number_taken_back BigInt z h = rw (bigint_within z h) refl
number_taken_back BigIntUnsigned z h = rw (bigint_unsigned_within z h) refl
number_taken_back (VarChar n c) z h = absurd h
number_taken_back (VarBinary n) z h = absurd h
