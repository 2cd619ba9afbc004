-- What is known of a host while events run: what file 1 holds, and what is out.
use Rattle.std.specs.Prelude.{◌≡◌, ℕ, ◌+◌, ◌-◌, ◌^◌, ◌<◌, min, List, ◌∷◌, ◌++◌, length, Option, Some, None, IfSome}
use Rattle.mr_base.specs.Disk.{State, Moment, Tells, MayLeave, present}
use Rattle.mr_base.specs.Calls.{During}
use Rattle.mr_base.specs.declared.stop.Stop.TheVariants.{Memory, Disk, Full, Damaged}
use Rattle.mr_base.specs.declared.stop.FullKind.{FullKind}
use Rattle.mr_spec.specs.Lawful.{IsLawful}
use Rattle.mr_spec.specs.ScriptRun.{Event, IsWithin, output_of, added_by}
use Rattle.mr_types.specs.declared.row.Commit.{Commit}
use Rattle.mr_commit_log.specs.Appending.{IsSettled, IsFullFor}
use Rattle.mr_commit_log.specs.Folder.{Holds}
use Rattle.mr_commit_log.specs.Room.{log_length, HasRoom}
use Rattle.mr_commit_log.specs.declared.ending.Ending.{Ending}
use Rattle.mr_commit_log.specs.declared.ending.Ending.TheVariants.{Stopped, EmitFault, SourceFault, TooLong}
use Rattle.mr_serve.specs.Replied.{replied}

-- the output is the one from before and a front of what the events reply
pub record IsFront (events : List Event) (before now : List ℕ) : Type 0 where
  pub shown : List ℕ
  pub unshown : List ℕ
  pub front : output_of events ≡ shown ++ unshown
  pub output : now ≡ before ++ shown

-- A moment inside a run of these events: the output is a front of the run's, and what a crash leaves in file 1 holds lawful commits:
-- those from before and those of the run whose replies are out, with at most one statement's more.
pub record IsInside (events : List Event) (commits : List Commit) (output : List ℕ) (m : Moment) : Type 0 where
  pub shown : IsFront events output m.output
  pub left : (bytes : List ℕ) → MayLeave (m.files 1) bytes → (now : List Commit) × Holds now bytes × IsLawful now × IsWithin events commits output now m.output

-- a count stands still at its type's end
abbrev pub counted : ℕ → ℕ
counted n = min n (2 ^ 64 - 1)

-- The first of the events ran, and so much of the next one's commits is there that the one behind would take the log past its limit.
pub record IsDue (most : ℕ) (events : List Event) (commits : List Commit) (output : List ℕ) (s : State) (what : FullKind) (at limit : ℕ) : Type 0 where
  pub first : List Event
  pub next : Event
  pub others : List Event
  pub split : events ≡ first ++ next ∷ others
  pub room : HasRoom most (log_length commits) (added_by first)
  pub here : IsFullFor most s (commits ++ added_by first) next.added (output ++ output_of first) what at limit

-- From a host that was settled on, these events ran, wholly where they didn't end early. The log is not to pass `most` bytes.
pub record RunsFrom (most : ℕ) (old new : State) (replies_old replies_new : ℕ) (events : List Event) (ending : Option Ending) (commits : List Commit) (output : List ℕ) : Type 0 where
  pub moments : During old new (IsInside events commits output)
  pub settled : ending ≡ None → IsSettled new (commits ++ added_by events) (output ++ output_of events)
  pub room : ending ≡ None → HasRoom most (log_length commits) (added_by events)
  pub full : (what : FullKind) (at limit : ℕ) → ending ≡ Some (Stopped (Full what at limit)) → IsDue most events commits output new what at limit
  pub replies : (shown : List ℕ) → (present new).output ≡ output ++ shown → counted replies_new ≡ counted (replies_old + replied events shown)
  pub tells : Tells new

-- where the disk, the output or a full log ended them early, some reply of the events isn't wholly out
abbrev pub IsUnfinished : Ending → List Event → List ℕ → List ℕ → Type 0
IsUnfinished (Stopped Memory) events before now = Unit {0}
IsUnfinished (Stopped Disk) events before now = length now < length (before ++ output_of events)
IsUnfinished (Stopped (Full what at limit)) events before now = length now < length (before ++ output_of events)
IsUnfinished (Stopped (Damaged file at)) events before now = Unit {0}
IsUnfinished EmitFault events before now = length now < length (before ++ output_of events)
IsUnfinished SourceFault events before now = Unit {0}
IsUnfinished TooLong events before now = Unit {0}

pub record EndsFrom (most : ℕ) (old new : State) (replies_old replies_new : ℕ) (events : List Event) (ending : Option Ending) (commits : List Commit) (output : List ℕ) : Type 0 where
  pub runs : RunsFrom most old new replies_old replies_new events ending commits output
  pub unfinished : IfSome ending (λ e. IsUnfinished e events output (present new).output)

abbrev pub Runs : ℕ → State → State → ℕ → ℕ → List Event → Option Ending → List Commit → Type 0
Runs most old new replies_old replies_new events ending commits = Tells old → (output : List ℕ) → IsSettled old commits output → EndsFrom most old new replies_old replies_new events ending commits output
