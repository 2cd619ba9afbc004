-- The values that statements are served at: a clock's, or one that is given.
use Rattle.std.specs.Prelude.{◌≡◌, ◌≢◌, ℕ, zero, suc, ◌-◌, true, if◌then◌else◌, nat_lt, Option, Some, None}
use Rattle.mr_base.specs.Source.{ClockState}

-- the clock, or where a value is given, one that tells it always
abbrev pub clock_of : Option ℕ → ClockState → ClockState
clock_of None clock = clock
clock_of (Some n) clock = record { tells = true; values = λ k. n }

-- the first n values of one clock, then those of another
abbrev pub joined : ℕ → (ℕ → ℕ) → (ℕ → ℕ) → ℕ → ℕ
joined n a b k = if nat_lt k n then a k else b (k - n)

-- a clock whose next value is this one, and whose later ones are those of another
abbrev pub one_value : ℕ → (ℕ → ℕ) → ℕ → ℕ
one_value value others zero = value
one_value value others (suc k) = others (suc k)

-- whether a clock tells stays, and where a value is given none of it is taken
pub record Goes (given : Option ℕ) (old new : ClockState) : Type 0 where
  pub tells : new.tells ≡ old.tells
  pub untaken : given ≢ None → new ≡ old
