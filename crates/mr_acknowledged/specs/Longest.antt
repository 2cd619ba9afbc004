-- The longest list of first statements whose whole replies an output begins with.
use Rattle.std.specs.Prelude.{◌≡◌, ◌≤◌, ◌+◌, ℕ, List, [], ◌∷◌, ◌++◌, length}
use Rattle.mr_spec.specs.ScriptRun.{Event, output_of, added_by, acknowledged, acknowledged_or_next}

-- the output begins with the replies of these
abbrev pub BeginsWith : List ℕ → List Event → Type 0
BeginsWith output first = (more : List ℕ) × (output ≡ output_of first ++ more)

-- The events are these first ones and the rest; the output begins with the replies of the first ones, and with those of no
-- longer list of first events.
pub record IsLongest (events : List Event) (output : List ℕ) (first rest : List Event) : Type 0 where
  pub whole : events ≡ first ++ rest
  pub begins : BeginsWith output first
  pub longest : (longer others : List Event) → events ≡ longer ++ others → BeginsWith output longer → length longer ≤ length first

-- how many commits the first of these events has, 0 where there is none
abbrev pub next_count : List Event → ℕ
next_count [] = 0
next_count (e ∷ es) = length e.added

-- the commits of the first ones are acknowledged, and those of one event more may be there
pub record Counts (events : List Event) (output : List ℕ) (first rest : List Event) : Type 0 where
  pub acknowledged_ones : acknowledged events output ≡ length (added_by first)
  pub or_next : acknowledged_or_next events output ≡ length (added_by first) + next_count rest

-- there is such a list
pub record HasLongest (events : List Event) (output : List ℕ) : Type 0 where
  pub first : List Event
  pub rest : List Event
  pub is : IsLongest events output first rest
