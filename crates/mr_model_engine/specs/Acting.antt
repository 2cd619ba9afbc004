-- What a statement of the program did, against its definition.
use Rattle.std.specs.Prelude.{◌≡◌, ℕ, IfOk, Result, Ok, Err}
use Rattle.mr_base.specs.declared.stop.Memory.{Memory as NoMemory}
use Rattle.mr_types.specs.declared.row.Reply.{Reply}
use Rattle.mr_types.specs.declared.refused.Refused.{Refused}
use Rattle.mr_types.specs.declared.refused.Refused.TheVariants.{Memory, Sql}
use Rattle.mr_spec.specs.World.{World}
use Rattle.mr_spec.specs.Outcome.{Outcome}
use Rattle.mr_model_engine.specs.declared.engine.Engine.{Engine}
use Rattle.mr_model_engine.specs.Worlds.{world_in}

-- the engine's world and this reply
abbrev pub outcome_in : Engine → Reply → Outcome
outcome_in engine reply = record { world = world_in engine; reply = reply }

-- the engine and the reply are this outcome; want of memory says nothing
abbrev pub Gives : Engine → Result Reply NoMemory → Outcome → Type 0
Gives after result outcome = IfOk result (λ reply. outcome ≡ outcome_in after reply)

-- the same of an answer that may be a refusal, which leaves the engine
abbrev pub Acts : Engine → Engine → Result Reply Refused → Result Outcome ℕ → Type 0
Acts before after (Ok reply) answer = answer ≡ Ok (outcome_in after reply)
Acts before after (Err (Sql code)) answer = (answer ≡ Err code) × (after ≡ before)
Acts before after (Err Memory) answer = Unit {0}

-- the same of an answer without a reply
abbrev pub Turns : {A : Type 0} → Engine → Engine → Result A Refused → Result World ℕ → Type 0
Turns before after (Ok x) answer = answer ≡ Ok (world_in after)
Turns before after (Err (Sql code)) answer = (answer ≡ Err code) × (after ≡ before)
Turns before after (Err Memory) answer = Unit {0}
