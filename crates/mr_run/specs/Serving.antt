-- Statements served one after the other.
use Rattle.std.specs.Prelude.{◌≡◌, ℕ, ◌+◌, List, length, IsTrue, Option, None, ◌||◌, Result}
use Rattle.mr_base.specs.Disk.{State}
use Rattle.mr_base.specs.Source.{ClockState}
use Rattle.mr_spec.specs.ScriptRun.{trace, world_behind, has_error}
use Rattle.mr_spec.specs.World.{World}
use Rattle.mr_types.specs.declared.statement.Statement.{Statement}
use Rattle.mr_commit_log.specs.declared.ending.Ending.{Ending}
use Rattle.mr_serve.specs.Serving.{Stands}
use Rattle.mr_serve.specs.Settled.{Runs}
use Rattle.mr_serve.specs.declared.server.Server.{Server}

-- These statements were served, wholly where they didn't end early, at values of the clock that are its own where it tells them.
pub record Served (old new : Server) (clock_old clock_new : ClockState) (host_old host_new : State) (ending : Option Ending) (statements : List (Result Statement ℕ)) (w : World) : Type 0 where
  pub clock : ℕ → ℕ
  pub told : IsTrue clock_old.tells → (k : ℕ) → clock k ≡ clock_old.values k
  pub runs : Runs old.log.gate.limit host_old host_new old.replies new.replies (trace w statements clock) ending w.commits
  pub stands : ending ≡ None → Stands new (world_behind w statements clock)
  pub failed : ending ≡ None → new.failed ≡ (old.failed || has_error (trace w statements clock))

-- from any world that the server stands for, and the clock has moved by one value a statement
pub record Serves (old new : Server) (clock_old clock_new : ClockState) (host_old host_new : State) (ending : Option Ending) (statements : List (Result Statement ℕ)) : Type 0 where
  pub served : (w : World) → Stands old w → Served old new clock_old clock_new host_old host_new ending statements w
  pub limit : new.log.gate.limit ≡ old.log.gate.limit
  pub tells : clock_new.tells ≡ clock_old.tells
  pub later : ending ≡ None → IsTrue clock_old.tells → (k : ℕ) → clock_new.values k ≡ clock_old.values (length statements + k)
