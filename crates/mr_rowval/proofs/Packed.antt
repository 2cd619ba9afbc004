-- Null bits are written one after the other.
use Rattle.std.proofs.Common.{◌≡◌, ℕ, zero, suc, ◌+◌, ◌*◌, ◌^◌, ◌<◌, List, [], ◌∷◌, refl, ap, ◌∙◌, arith, Bool}
use Rattle.mr_rowval.specs.NullBits.{bit_of, bits_from}
use Rattle.mr_rowval.specs.Packing.{pending}

pub none_open : (flags : List Bool) → (bits_from 0 flags).0 ≡ 0
none_open [] = refl
none_open (flag ∷ flags) = refl

-- one more bit of a byte that isn't full then
pub one_on : (used byte next : ℕ) (flag : Bool) (flags : List Bool) → used < 7 → byte < 2 ^ used → next ≡ byte + bit_of flag * 2 ^ used → pending used byte (flag ∷ flags) ≡ pending (used + 1) next flags
one_on zero byte next flag flags few small is = ap (λ (n : ℕ). n ∷ (bits_from 7 flags).1) (omega arith)
one_on (suc zero) byte next flag flags few small is = ap (λ (n : ℕ). n ∷ (bits_from 6 flags).1) (omega arith)
one_on (suc (suc zero)) byte next flag flags few small is = ap (λ (n : ℕ). n ∷ (bits_from 5 flags).1) (omega arith)
one_on (suc (suc (suc zero))) byte next flag flags few small is = ap (λ (n : ℕ). n ∷ (bits_from 4 flags).1) (omega arith)
one_on (suc (suc (suc (suc zero)))) byte next flag flags few small is = ap (λ (n : ℕ). n ∷ (bits_from 3 flags).1) (omega arith)
one_on (suc (suc (suc (suc (suc zero))))) byte next flag flags few small is = ap (λ (n : ℕ). n ∷ (bits_from 2 flags).1) (omega arith)
one_on (suc (suc (suc (suc (suc (suc zero)))))) byte next flag flags few small is = ap (λ (n : ℕ). n ∷ (bits_from 1 flags).1) (omega arith)
one_on (suc (suc (suc (suc (suc (suc (suc used))))))) byte next flag flags few small is = absurd (omega arith)

-- the last bit of a byte
pub byte_full : (used byte next : ℕ) (flag : Bool) (flags : List Bool) → used ≡ 7 → next ≡ byte + bit_of flag * 2 ^ used → pending used byte (flag ∷ flags) ≡ next ∷ pending 0 0 flags
byte_full used byte next flag flags full is =
    let first : next ≡ byte + bit_of flag * 2 ^ 7 = is ∙ ap (λ (n : ℕ). byte + bit_of flag * 2 ^ n) full in
    let open_is = none_open flags in
    ap (λ (n : ℕ). pending n byte (flag ∷ flags)) full ∙ ap (λ (n : ℕ). n ∷ (bits_from 0 flags).1) (omega arith)

-- the end
pub pending_end : (used byte : ℕ) → 0 < used → pending used byte [] ≡ byte ∷ []
pending_end zero byte some = absurd (omega arith)
pending_end (suc used) byte some = ap (λ (n : ℕ). n ∷ []) (omega arith)
