-- How a run goes: statement by statement, each with the next value of the clock.
use Rattle.std.specs.Prelude.{◌≡◌, ℕ, zero, suc, ◌+◌, IsTrue, List, ◌++◌, ◌||◌, length, Result}
use Rattle.mr_base.specs.Source.{ClockState}
use Rattle.mr_types.specs.declared.row.Commit.{Commit}
use Rattle.mr_types.specs.declared.statement.Statement.{Statement}
use Rattle.mr_spec.specs.Replay.{reopened}
use Rattle.mr_spec.specs.ReplyText.{text_of}
use Rattle.mr_spec.specs.ScriptRun.{trace, output_of, has_error, is_refusal, statements_of, world_behind}
use Rattle.mr_spec.specs.Step.{step}
use Rattle.mr_spec.specs.World.{World}
use Rattle.mr_model.specs.declared.script.Player.{Player}
use Rattle.mr_model.specs.declared.script.Ran.{Ran}
use Rattle.mr_model_engine.specs.Worlds.{world_in}

-- The run of these statements from this world, at values of the clock that are its own where it tells them: the replies,
-- whether one of them is an `ERROR`, and all commits behind it.
pub record IsRunFrom (w : World) (statements : List (Result Statement ℕ)) (clock : ClockState) (ran : Ran) : Type 0 where
  pub now : ℕ → ℕ
  pub told : IsTrue clock.tells → (k : ℕ) → now k ≡ clock.values k
  pub output : ran.output ≡ output_of (trace w statements now)
  pub failed : ran.failed ≡ has_error (trace w statements now)
  pub commits : ran.commits ≡ (world_behind w statements now).commits

-- the run of a script where these commits were before
abbrev pub IsRun : List Commit → List ℕ → ClockState → Ran → Type 0
IsRun commits script clock ran = IsRunFrom (reopened commits) (statements_of script) clock ran

-- one value of the clock was taken for each of these statements but those that are left
pub record IsSpent (start now : ClockState) (statements left : List (Result Statement ℕ)) : Type 0 where
  pub tells : now.tells ≡ start.tells
  pub values : IsTrue start.tells → (k : ℕ) → now.values (k + length left) ≡ start.values (k + length statements)

-- and for the first of these at the most
pub record IsPartlySpent (start now : ClockState) (statements : List (Result Statement ℕ)) : Type 0 where
  pub served : List (Result Statement ℕ)
  pub left : List (Result Statement ℕ)
  pub are : statements ≡ served ++ left
  pub spent : IsSpent start now statements left

-- one value was taken
pub record IsTaken (old new : ClockState) : Type 0 where
  pub tells : new.tells ≡ old.tells
  pub later : IsTrue old.tells → (k : ℕ) → new.values k ≡ old.values (k + 1)

-- ---- one statement, and those so far

-- a value, and others behind it
abbrev pub value_before : ℕ → (ℕ → ℕ) → ℕ → ℕ
value_before value others zero = value
value_before value others (suc k) = others k

-- one statement was served at this value of the clock
pub record IsServed (clock_old clock_new : ClockState) (old new : Player) (s : Result Statement ℕ) : Type 0 where
  pub value : ℕ
  pub told : IsTrue clock_old.tells → value ≡ clock_old.values 0
  pub taken : IsTaken clock_old clock_new
  pub world : world_in new.engine ≡ (step (world_in old.engine) s value).world
  pub output : new.output.items ≡ old.output.items ++ text_of (step (world_in old.engine) s value).reply
  pub failed : new.failed ≡ (old.failed || is_refusal (step (world_in old.engine) s value).reply)

-- whatever values follow, what the rest gives from here is what all gives from the start
pub record GoesOn (w : World) (statements : List (Result Statement ℕ)) (clock_start clock_now : ClockState) (player : Player) (left : List (Result Statement ℕ)) : Type 0 where
  pub values : (ℕ → ℕ) → ℕ → ℕ
  pub told : IsTrue clock_start.tells → (vs : ℕ → ℕ) → ((k : ℕ) → vs k ≡ clock_now.values k) → (k : ℕ) → values vs k ≡ clock_start.values k
  pub output : (vs : ℕ → ℕ) → player.output.items ++ output_of (trace (world_in player.engine) left vs) ≡ output_of (trace w statements (values vs))
  pub failed : (vs : ℕ → ℕ) → (player.failed || has_error (trace (world_in player.engine) left vs)) ≡ has_error (trace w statements (values vs))
  pub behind : (vs : ℕ → ℕ) → world_behind (world_in player.engine) left vs ≡ world_behind w statements (values vs)
  pub spent : IsSpent clock_start clock_now statements left
