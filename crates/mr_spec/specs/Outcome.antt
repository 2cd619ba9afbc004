-- What a statement makes of a world, and its reply.
use Rattle.std.specs.Prelude.{ℕ, Result, Ok, Err}
use Rattle.mr_types.specs.declared.row.Reply.{Reply}
use Rattle.mr_types.specs.declared.row.Reply.TheVariants as reply
use Rattle.mr_spec.specs.World.{World}

-- the world behind a statement, and the statement's reply
pub record Outcome : Type 0 where
  pub world : World
  pub reply : Reply

-- this refusal
abbrev pub refused : World → ℕ → Outcome
refused w code = record { world = w; reply = reply.Refused code }

-- done, for so many rows
abbrev pub done : World → ℕ → Outcome
done w count = record { world = w; reply = reply.Ok count }

-- an answer; a refusal leaves this world
abbrev pub answered : World → Result Outcome ℕ → Outcome
answered w (Ok o) = o
answered w (Err code) = refused w code
