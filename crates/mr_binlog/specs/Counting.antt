-- A binary log that is open.
use Rattle.std.specs.Prelude.{ℕ, ◌+◌}
use Rattle.mr_gate.specs.Gate.{Gate, appended, closed}

-- the log of its records in file 1, and how many commits there are before the place that it begins at
pub record Counted : Type 0 where
  pub gate : Gate
  pub before : ℕ

-- how many commits there are
abbrev pub commits : Counted → ℕ
commits log = log.before + log.gate.records

-- after a commit with a body of n bytes, and after a call that stopped
abbrev pub with_body : Counted → ℕ → Counted
with_body log n = record { gate = appended log.gate n; before = log.before }

abbrev pub stopped : Counted → Counted
stopped log = record { gate = closed log.gate; before = log.before }
