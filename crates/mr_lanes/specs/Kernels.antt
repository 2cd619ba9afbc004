-- What the kernels say of one byte.
use Rattle.std.specs.Prelude.{ℕ, ◌-◌, Bool, nat_le, nat_lt, ◌&&◌, ◌==◌, if◌then◌else◌}

-- a to z become A to Z, every other byte stays
abbrev pub upper : ℕ → ℕ
upper b = if nat_le 97 b && nat_le b 122 then b - 32 else b

abbrev pub is_space : ℕ → Bool
is_space c = c == 32

-- an ASCII byte
abbrev pub is_low : ℕ → Bool
is_low b = nat_lt b 128
