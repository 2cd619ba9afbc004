-- The answer to a script.
use Rattle.std.specs.Prelude.{◌≡◌, ◌≤◌, ◌^◌, ℕ, IsTrue, List, [], length}
use Rattle.mr_base.specs.Source.{SourceState, ClockState}
use Rattle.mr_spec.specs.ScriptRun.{statements_of}
use Rattle.mr_model.specs.Running.{IsRun, IsSpent}
use Rattle.mr_model.specs.declared.script.Ran.{Ran}

-- There is a script of at most 2^30 bytes, which the source had where it tells. The answer is its run where no commit was
-- before, each statement at the clock's next value, and no more of the clock was taken.
pub record IsAnswered (source : SourceState) (clock_old clock_new : ClockState) (ran : Ran) : Type 0 where
  pub script : List ℕ
  pub told : IsTrue source.tells → script ≡ source.left
  pub fits : length script ≤ 2 ^ 30
  pub run : IsRun [] script clock_old ran
  pub values : IsSpent clock_old clock_new (statements_of script) []
