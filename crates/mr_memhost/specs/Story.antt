-- A disk as the record of its calls.
use Rattle.std.specs.Prelude.{◌≡◌, ℕ, ◌+◌, ◌≤◌, ◌<◌, max, min, true, if◌then◌else◌, ◌==◌, List, [], ◌∷◌, ◌++◌, length, take}
use Rattle.mr_base.specs.Disk.{File, IsIn, Moment, State, MayLeave, at_rest, overwrite}
use Rattle.mr_memhost.specs.declared.counts.Counts.{Counts}
use Rattle.mr_memhost.specs.declared.step.Step.{Step}
use Rattle.mr_memhost.specs.declared.step.Step.TheVariants.{Write, Cut, Sync, Emit}
use Rattle.mr_memhost.specs.Held.{Held}

-- a file after each kind of call
abbrev pub written : ℕ → List ℕ → File → File
written at bytes f = record { bytes = overwrite at bytes f.bytes; stable = f.stable; written = f.written ++ (at, length bytes) ∷ []; least = f.least; greatest = max f.greatest (at + length bytes) }

abbrev pub cut : ℕ → File → File
cut to f = record { bytes = take to f.bytes; stable = f.stable; written = f.written; least = min f.least to; greatest = f.greatest }

abbrev pub at_file : ℕ → (File → File) → Moment → Moment
at_file file change m = record { files = λ f. if f == file then change (m.files f) else m.files f; output = m.output }

-- the next moment
abbrev pub after : Moment → Step → Moment
after m (Write file at bytes) = at_file file (written at bytes) m
after m (Cut file to) = at_file file (cut to) m
after m (Sync file) = at_file file (λ f. at_rest f.bytes) m
after m (Emit bytes) = record { files = m.files; output = m.output ++ bytes }

abbrev pub replay : Moment → List Step → Moment
replay m [] = m
replay m (step ∷ steps) = replay (after m step) steps

-- the files with these bytes, all of them on the disk, and the output so far
abbrev pub start_of : (ℕ → List ℕ) → List ℕ → Moment
start_of bytes shown = record { files = λ f. at_rest (bytes f); output = shown }

-- where a disk began, and its steps since
pub record Story : Type 0 where
  pub start : Moment
  pub steps : List Step

abbrev pub story_of : (ℕ → List ℕ) → List ℕ → List Step → Story
story_of bytes shown steps = record { start = start_of bytes shown; steps = steps }

abbrev pub with_step : Step → Story → Story
with_step step s = record { start = s.start; steps = s.steps ++ step ∷ [] }

abbrev pub moment_at : Story → ℕ → Moment
moment_at s k = replay s.start (take k s.steps)

abbrev pub latest : Story → Moment
latest s = moment_at s (length s.steps)

abbrev pub state : Story → Counts → State
state s c = record { tells = true; moments = moment_at s; now = length s.steps; faults = c.faults; emit_faults = c.emit_faults; reads = c.reads; asked = c.asked; syncs = c.syncs }

-- at least as much is pending in g as in f
pub record PendsMore (f g : File) : Type 0 where
  pub written : (k : ℕ) → (IsIn g.written k → ⊥) → IsIn f.written k → ⊥
  pub least : g.least ≤ f.least

-- What is held of a file: the bytes that the steps left, and its last sync, when it was at rest; since then ever more of
-- it is pending.
pub record Holds (s : Story) (file : ℕ) (h : Held) : Type 0 where
  pub bytes : h.bytes ≡ ((latest s).files file).bytes
  pub early : h.synced ≤ length s.steps
  pub settled : (moment_at s h.synced).files file ≡ at_rest ((moment_at s h.synced).files file).bytes
  pub stable : ((latest s).files file).stable ≡ ((moment_at s h.synced).files file).bytes
  pub grows : (k : ℕ) → h.synced ≤ k → k < length s.steps → PendsMore ((moment_at s k).files file) ((moment_at s (k + 1)).files file)
  pub read_left : MayLeave ((latest s).files file) ((latest s).files file).bytes
  pub synced_left : MayLeave ((latest s).files file) ((latest s).files file).stable

-- what is held is what the steps left
pub record Kept (s : Story) (held : ℕ → Held) (output : List ℕ) : Type 0 where
  pub shown : output ≡ (latest s).output
  pub files : (file : ℕ) → Holds s file (held file)
