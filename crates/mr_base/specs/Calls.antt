-- What the calls of a disk do to its moments and counts, and how a run of calls is told.
use Rattle.std.specs.Prelude.{◌≡◌, ◌≢◌, ℕ, ◌+◌, ◌≤◌, List, ◌++◌, take}
use Rattle.mr_base.specs.Disk.{File, Moment, State, MayLeave, IsWithin, present, file_of}

-- P at each moment from that of old to that of new, and the moments before stay
pub record During (old new : State) (P : Moment → Type 0) : Type 0 where
  pub later : old.now ≤ new.now
  pub past : (k : ℕ) → k ≤ old.now → new.moments k ≡ old.moments k
  pub each : (k : ℕ) → old.now ≤ k → k ≤ new.now → P (new.moments k)

-- At this moment one file at most differs from what it was at another one, and a crash leaves of it only what has P.
pub record OneFile (file : ℕ) (start : Moment) (P : List ℕ → Type 0) (m : Moment) : Type 0 where
  pub files : (other : ℕ) → other ≢ file → m.files other ≡ start.files other
  pub output : m.output ≡ start.output
  pub left : (c : List ℕ) → MayLeave (m.files file) c → P c

-- each moment is the one at the start: nothing changes
abbrev pub Same : State → State → Type 0
Same old new = During old new (λ m. m ≡ present old)

-- At this moment the other files and the output are as at the start, and no more is pending in the file than in this one.
pub record IsBegun (file : ℕ) (begun : File) (start m : Moment) : Type 0 where
  pub files : (other : ℕ) → other ≢ file → m.files other ≡ start.files other
  pub output : m.output ≡ start.output
  pub pending : IsWithin (m.files file) begun

-- A call that begins to change a file, whether it is done, fails or is cut off: at each of its moments no more is
-- pending than when it began.
abbrev pub Changes : ℕ → (File → File) → State → State → Type 0
Changes file begun old new = During old new (IsBegun file (begun (file_of old file)) (present old))

-- At this moment the other files and the output are as at the start, and a crash leaves of the file only what it left there.
pub record IsSettling (file : ℕ) (start m : Moment) : Type 0 where
  pub files : (other : ℕ) → other ≢ file → m.files other ≡ start.files other
  pub output : m.output ≡ start.output
  pub crash : (c : List ℕ) → MayLeave (m.files file) c → MayLeave (start.files file) c

-- a call that puts a file on the disk, or a part of it
abbrev pub Settles : ℕ → State → State → Type 0
Settles file old new = During old new (IsSettling file (present old))

-- at this moment the files are as at the start, and the output is the one there and a front of these bytes
pub record IsShown (bytes : List ℕ) (start m : Moment) : Type 0 where
  pub files : (file : ℕ) → m.files file ≡ start.files file
  pub count : ℕ
  pub output : m.output ≡ start.output ++ take count bytes

-- a call that appends these bytes to the output
pub record Emits (bytes : List ℕ) (old new : State) : Type 0 where
  pub during : During old new (IsShown bytes (present old))
  pub whole : (present new).output ≡ (present old).output ++ bytes

-- the counts of a call that emits
pub record EmitCounts (old new : State) : Type 0 where
  pub tells : new.tells ≡ old.tells
  pub faults : new.faults ≡ old.faults
  pub emit_faults : old.emit_faults ≤ new.emit_faults
  pub reads : new.reads ≡ old.reads
  pub asked : new.asked ≡ old.asked
  pub syncs : new.syncs ≡ old.syncs

-- the counts of a call, with at most so many reads, bytes asked for and syncs
pub record Counts (r a s : ℕ) (old new : State) : Type 0 where
  pub tells : new.tells ≡ old.tells
  pub faults : old.faults ≤ new.faults
  pub emit_faults : new.emit_faults ≡ old.emit_faults
  pub reads : (old.reads ≤ new.reads) × (new.reads ≤ old.reads + r)
  pub asked : (old.asked ≤ new.asked) × (new.asked ≤ old.asked + a)
  pub syncs : (old.syncs ≤ new.syncs) × (new.syncs ≤ old.syncs + s)

-- the counts of calls of which only the syncs are bounded on every disk
pub record Rises (s : ℕ) (old new : State) : Type 0 where
  pub tells : new.tells ≡ old.tells
  pub faults : old.faults ≤ new.faults
  pub emit_faults : new.emit_faults ≡ old.emit_faults
  pub reads : old.reads ≤ new.reads
  pub asked : old.asked ≤ new.asked
  pub syncs : (old.syncs ≤ new.syncs) × (new.syncs ≤ old.syncs + s)

-- at most so many reads, and bytes asked for
pub record Reads (r a : ℕ) (old new : State) : Type 0 where
  pub reads : new.reads ≤ old.reads + r
  pub asked : new.asked ≤ old.asked + a
