-- Null bits while they are written.
use Rattle.std.specs.Prelude.{◌≡◌, ℕ, zero, suc, ◌+◌, ◌-◌, ◌*◌, ◌^◌, ◌<◌, ◌≤◌, Bool, List, ◌∷◌, ◌++◌}
use Rattle.mr_rowval.specs.declared.packing.Pack.{Pack}
use Rattle.mr_rowval.specs.NullBits.{bit_of, bits_from, with_flag}

-- the first `used` bits of a byte are known, and are the number `byte`: that byte and the further ones, where these
-- flags follow
abbrev pub pending : ℕ → ℕ → List Bool → List ℕ
pending zero byte flags = (bits_from 0 flags).1
pending (suc used) byte flags = (byte + 2 ^ suc used * (bits_from (7 - used) flags).0) ∷ (bits_from (7 - used) flags).1

pub record IsPack (pack : Pack) : Type 0 where
  pub few : pack.used ≤ 7
  pub power : pack.worth ≡ 2 ^ pack.used
  pub below : pack.byte < pack.worth

abbrev pub WithBit : Pack → Bool → ℕ → Type 0
WithBit pack flag byte = (byte ≡ pack.byte + bit_of flag * 2 ^ pack.used) × (byte < 2 ^ suc pack.used)

-- one more flag was written, if the column has one
abbrev pub PacksFlag : List ℕ → List ℕ → Bool → Bool → Pack → Pack → Type 0
PacksFlag old new nullable is_null pack next = (flags : List Bool) → new ++ pending next.used next.byte flags ≡ old ++ pending pack.used pack.byte (with_flag nullable is_null flags)
