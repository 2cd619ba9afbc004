-- What a source and a clock in memory tell.
use Rattle.std.specs.Prelude.{ℕ, ◌+◌, ◌-◌, min, Bool, true, false, nat_eq, List, length, get_or, drop, Option, Some, None}
use Rattle.mr_base.specs.Source.{SourceState, ClockState}
use Rattle.mr_memhost.specs.Host.{raised}
use Rattle.mr_memhost.specs.declared.clock.ListClock.{ListClock}
use Rattle.mr_memhost.specs.declared.source.MemSource.{MemSource}

abbrev pub supply : MemSource → SourceState
supply s = record { tells = true; left = drop s.taken s.bytes.items; faults = s.faults }

-- the most bytes that a take gives, the number of the take that fails, and the takes made so far
pub record TakePlan : Type 0 where
  pub piece : ℕ
  pub fail_at : Option ℕ
  pub takes : ℕ

abbrev pub take_plan : MemSource → TakePlan
take_plan s = record { piece = s.piece; fail_at = s.fail_at; takes = s.takes }

abbrev pub taken_once : TakePlan → TakePlan
taken_once p = record { piece = p.piece; fail_at = p.fail_at; takes = raised 1 p.takes }

abbrev pub is_number : Option ℕ → ℕ → Bool
is_number None n = false
is_number (Some m) n = nat_eq m n

-- whether the next take is the one that fails
abbrev pub is_take_due : TakePlan → Bool
is_take_due p = is_number p.fail_at (raised 1 p.takes)

-- the value number k of a list, whose last value repeats; of an empty list it is 0
abbrev pub value_at : List ℕ → ℕ → ℕ
value_at values k = get_or values (min k (length values - 1)) 0

abbrev pub dial : ListClock → ClockState
dial c = record { tells = true; values = λ k. value_at c.values.items (c.next + k) }
