-- Big-endian bytes stand in the order of their numbers.
use Rattle.std.proofs.Common.{◌≡◌, ℕ, zero, suc, ◌+◌, ◌*◌, ◌%◌, ◌^◌, ◌<◌, List, ◌++◌, refl, sym, ap, ◌∙◌, arith, inl, inr, pow-suc, mul_comm}
use Rattle.std.specs.Ordering.{nat_cmp, ordering_then}
use Rattle.std.specs.Int.{bytes_high_first, byte_at}
use Rattle.std.proofs.Math.Nat.{pow-le-pow_right}
use Rattle.std.proofs.Math.Arith.{mod-mul}
use Rattle.std.proofs.lemmas.Bool.{cases_order}
use Rattle.std.proofs.lemmas.Nat.{row_fits, mod_below}
use Rattle.mr_pieces.specs.Order.{bytes_cmp}
use Rattle.mr_pieces.proofs.Compare.{then_assoc, cmp_same, cmp_less, cmp_greater}

-- the high part decides first
cmp_parts : (width a x b y : ℕ) → x < width → y < width → nat_cmp (a * width + x) (b * width + y) ≡ ordering_then (nat_cmp a b) (nat_cmp x y)
cmp_parts width a x b y p q =
    elim (cases_order a b) [
      | inl same ↦ rw (same, cmp_same b) (
          elim (cases_order x y) [
            | inl equal ↦ rw (equal, cmp_same y, cmp_same (b * width + y)) refl
            | inr (inl less) ↦ rw (cmp_less x y less) (cmp_less (b * width + x) (b * width + y) (omega arith))
            | inr (inr more) ↦ rw (cmp_greater x y more) (cmp_greater (b * width + x) (b * width + y) (omega arith))
          ])
      | inr (inl less) ↦ rw (cmp_less a b less) (cmp_less (a * width + x) (b * width + y) (omega (arith, row_fits a width b width less (omega arith))))
      | inr (inr more) ↦ rw (cmp_greater a b more) (cmp_greater (a * width + x) (b * width + y) (omega (arith, row_fits b width a width more (omega arith))))
    ]

some_power : (k : ℕ) → 0 < 256 ^ k
some_power k = pow-le-pow_right {n = 256} (omega arith) {i = 0} {j = k} (omega arith)

-- the low k + 1 bytes are the byte above and the low k bytes
one_byte : (k n : ℕ) → n % 256 ^ suc k ≡ byte_at k n * 256 ^ k + n % 256 ^ k
one_byte zero n = omega arith
one_byte (suc k) n =
    let wider : 256 ^ suc (suc k) ≡ 256 * 256 ^ suc k = pow-suc 256 (suc k) ∙ mul_comm (256 ^ suc k) 256 in
    rw (wider, mod-mul n {m = 256} {c = 256 ^ suc k} (omega arith) (some_power (suc k))) refl

pub high_first : (k m n : ℕ) (a b : List ℕ) → bytes_cmp (bytes_high_first k m ++ a) (bytes_high_first k n ++ b) ≡ ordering_then (nat_cmp (m % 256 ^ k) (n % 256 ^ k)) (bytes_cmp a b)
high_first zero m n a b =
    let same : m % 1 ≡ n % 1 = omega arith in
    rw (same, cmp_same (n % 1)) refl
high_first (suc k) m n a b =
    rw (one_byte k m, one_byte k n, cmp_parts (256 ^ k) (byte_at k m) (m % 256 ^ k) (byte_at k n) (n % 256 ^ k) (mod_below m (256 ^ k) (some_power k)) (mod_below n (256 ^ k) (some_power k)))
    (ap (ordering_then (nat_cmp (byte_at k m) (byte_at k n))) (high_first k m n a b)
    ∙ sym (then_assoc (nat_cmp (byte_at k m) (byte_at k n)) (nat_cmp (m % 256 ^ k) (n % 256 ^ k)) (bytes_cmp a b)))
