-- The run of a script, and the commits that an output acknowledges.
use Rattle.std.specs.Prelude.{◌≡◌, ◌≤◌, take, ℕ, ◌+◌, suc, Bool, true, false, List, [], ◌∷◌, ◌++◌, length, drop, Result, Err, map}
use Rattle.std.specs.List.{list_any}
use Rattle.std.specs.Option.{option_map_or}
use Rattle.mr_lex.specs.Cutting.{Part, Statement as Whole, Rest, parts_of}
use Rattle.mr_types.specs.declared.row.Commit.{Commit}
use Rattle.mr_types.specs.declared.row.Reply.{Reply}
use Rattle.mr_types.specs.declared.row.Reply.TheVariants as reply
use Rattle.mr_types.specs.declared.statement.Statement.{Statement}
use Rattle.mr_spec.specs.Grammar.{parsed}
use Rattle.mr_spec.specs.TtlOptions.{behind}
use Rattle.mr_spec.specs.World.{World}
use Rattle.mr_spec.specs.Step.{step}
use Rattle.mr_spec.specs.ReplyText.{text_of}

-- what one statement did: the commits that it appended, and its reply
pub record Event : Type 0 where
  pub added : List Commit
  pub reply : Reply

-- the world behind one statement
abbrev pub world_after : World → Result Statement ℕ → ℕ → World
world_after w s clock = (step w s clock).world

-- the event of one statement
abbrev pub event_at : World → Result Statement ℕ → ℕ → Event
event_at w s clock = let o = step w s clock in record { added = drop (length w.commits) o.world.commits; reply = o.reply }

-- the events of these statements, one after the other, each with the next value of the clock
abbrev pub trace : World → List (Result Statement ℕ) → (ℕ → ℕ) → List Event
trace w [] now = []
trace w (s ∷ ss) now = event_at w s (now 0) ∷ trace (world_after w s (now 0)) ss (λ k. now (suc k))

-- the world behind them
abbrev pub world_behind : World → List (Result Statement ℕ) → (ℕ → ℕ) → World
world_behind w [] now = w
world_behind w (s ∷ ss) now = world_behind (world_after w s (now 0)) ss (λ k. now (suc k))

-- a part of a script: its statement or its refusal, which is 1064 for a rest at the end
abbrev pub read_part : Part → Result Statement ℕ
read_part (Whole text) = parsed text
read_part Rest = Err 1064

-- the statements of a script
abbrev pub statements_of : List ℕ → List (Result Statement ℕ)
statements_of script = map read_part (parts_of script)

-- the events of a script in this world, with these values of the clock
abbrev pub run_of : List ℕ → (ℕ → ℕ) → World → List Event
run_of script now w = trace w (statements_of script) now

-- the texts of all replies
abbrev pub output_of : List Event → List ℕ
output_of [] = []
output_of (e ∷ es) = text_of e.reply ++ output_of es

-- the commits of all events
abbrev pub added_by : List Event → List Commit
added_by [] = []
added_by (e ∷ es) = e.added ++ added_by es

-- an `ERROR`
abbrev pub is_refusal : Reply → Bool
is_refusal (reply.Refused n) = true
is_refusal (reply.Ok n) = false
is_refusal (reply.Rows rows) = false

-- some reply is an `ERROR`
abbrev pub has_error : List Event → Bool
has_error es = list_any (λ e. is_refusal e.reply) es

-- the commits of the longest list of first statements whose whole replies the output begins with
abbrev pub acknowledged : List Event → List ℕ → ℕ
acknowledged [] o = 0
acknowledged (e ∷ es) o = option_map_or (λ rest. length e.added + acknowledged es rest) (behind (text_of e.reply) o) 0

-- these, and the commits of the one statement after that list, where there is one
abbrev pub acknowledged_or_next : List Event → List ℕ → ℕ
acknowledged_or_next [] o = 0
acknowledged_or_next (e ∷ es) o = option_map_or (λ rest. length e.added + acknowledged_or_next es rest) (behind (text_of e.reply) o) (length e.added)

-- These commits and this output stand at some moment of a run that began at `commits_before` and `output_before`: the output is
-- a front of the run's, and of the run's commits those are there whose replies are out, and at most one statement's more.
pub record IsWithin (events : List Event) (commits_before : List Commit) (output_before : List ℕ) (commits_now : List Commit) (output_now : List ℕ) : Type 0 where
  pub shown : List ℕ
  pub unshown : List ℕ
  pub front : output_of events ≡ shown ++ unshown
  pub output : output_now ≡ output_before ++ shown
  pub count : ℕ
  pub commits : commits_now ≡ commits_before ++ take count (added_by events)
  pub least : acknowledged events shown ≤ count
  pub most : count ≤ acknowledged_or_next events shown
