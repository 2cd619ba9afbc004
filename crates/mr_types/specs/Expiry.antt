-- When a row has expired.
use Rattle.std.specs.Prelude.{ℕ, ◌+◌, Bool, nat_le}

-- the stamp and the duration are counted without bound
abbrev pub is_expired : ℕ → ℕ → ℕ → Bool
is_expired stamp duration moment = nat_le (stamp + duration) moment
