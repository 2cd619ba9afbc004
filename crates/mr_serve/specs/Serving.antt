-- What is known of a server while statements are served.
use Rattle.std.specs.Prelude.{◌≡◌}
use Rattle.mr_base.specs.Disk.{State}
use Rattle.mr_spec.specs.World.{World}
use Rattle.mr_sound.specs.Sound.{IsSound}
use Rattle.mr_schema.specs.Few.{FewColumns}
use Rattle.mr_model_engine.specs.Worlds.{world_in}
use Rattle.mr_commit_log.specs.Appending.{IsReady}
use Rattle.mr_serve.specs.declared.server.Server.{Server}

-- the server's engine has the world, which is sound
pub record Stands (server : Server) (w : World) : Type 0 where
  pub world : world_in server.engine ≡ w
  pub sound : IsSound w

-- the server's log is ready, and the tables have as few columns as a definition's bytes can tell
pub record IsServing (server : Server) (s : State) : Type 0 where
  pub log : IsReady server.log.gate s
  pub few : FewColumns server.engine.commits
