-- Comparing bytes: what stands in front decides first.
use Rattle.std.proofs.Common.{◌≡◌, ℕ, ◌<◌, List, [], ◌∷◌, ◌++◌, refl, arith}
use Rattle.std.specs.declared.cmp.Ordering.{Ordering}
use Rattle.std.specs.declared.cmp.Ordering.TheVariants.{Less, Equal, Greater}
use Rattle.std.specs.Ordering.{nat_cmp, ordering_then}
use Rattle.std.proofs.lemmas.Bool.Decides.{nat_tests}
use Rattle.mr_pieces.specs.Order.{bytes_cmp}

pub then_assoc : (a b c : Ordering) → ordering_then (ordering_then a b) c ≡ ordering_then a (ordering_then b c)
then_assoc Less b c = refl
then_assoc Equal b c = refl
then_assoc Greater b c = refl

pub then_equal : (a : Ordering) → ordering_then a Equal ≡ a
then_equal Less = refl
then_equal Equal = refl
then_equal Greater = refl

pub cmp_same : (x : ℕ) → nat_cmp x x ≡ Equal
cmp_same x = grind (arith, nat_tests)

pub cmp_less : (x y : ℕ) → x < y → nat_cmp x y ≡ Less
cmp_less x y h = grind (arith, nat_tests)

pub cmp_greater : (x y : ℕ) → y < x → nat_cmp x y ≡ Greater
cmp_greater x y h = grind (arith, nat_tests)

-- one front on both sides decides nothing
pub same_front : (front a b : List ℕ) → bytes_cmp (front ++ a) (front ++ b) ≡ bytes_cmp a b
same_front [] a b = refl
same_front (x ∷ front) a b = rw (cmp_same x) (same_front front a b)

first_of : (a b : Ordering) → ordering_then a b ≡ Equal → a ≡ Equal
first_of Less b h = absurd cc
first_of Equal b h = refl
first_of Greater b h = absurd cc

pub second_of : (a b : Ordering) → ordering_then a b ≡ Equal → b ≡ Equal
second_of Less b h = absurd cc
second_of Equal b h = h
second_of Greater b h = absurd cc

pub cmp_equal : (x y : ℕ) → nat_cmp x y ≡ Equal → x ≡ y
cmp_equal x y h = grind (arith, nat_tests)

pub equal_bytes : (a b : List ℕ) → bytes_cmp a b ≡ Equal → a ≡ b
equal_bytes [] [] e = refl
equal_bytes [] (y ∷ b) e = absurd cc
equal_bytes (x ∷ a) [] e = absurd cc
equal_bytes (x ∷ a) (y ∷ b) e =
    let heads = cmp_equal x y (first_of (nat_cmp x y) (bytes_cmp a b) e) in
    let tails = equal_bytes a b (second_of (nat_cmp x y) (bytes_cmp a b) e) in
    cc

pub bytes_equal : (a : List ℕ) → bytes_cmp a a ≡ Equal
bytes_equal [] = refl
bytes_equal (x ∷ a) = rw (cmp_same x) (bytes_equal a)
