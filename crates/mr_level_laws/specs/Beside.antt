-- A run beside those of a level.
use Rattle.std.specs.Prelude.{◌⊎◌, ℕ, [], get_or, zero, suc}
use Rattle.std.specs.List.{AllByRecursion}
use Rattle.mr_base.specs.declared.stop.Direction.{Direction}
use Rattle.mr_run_open.specs.Runs.{RunState}
use Rattle.mr_levels.specs.Levels.{LevelsState, EndsBefore}

-- two runs don't overlap: one's last key comes before the other's first key
abbrev pub AreBeside : Direction → RunState → RunState → Type 0
AreBeside d r t = EndsBefore d r t ⊎ EndsBefore d t r

-- the run overlaps none of its level, where that is behind the newest runs
abbrev pub StandsBeside : ℕ → RunState → LevelsState → Type 0
StandsBeside zero r s = Unit {0}
StandsBeside (suc level) r s = AllByRecursion (AreBeside s.direction r) (get_or s.deeper level [])
