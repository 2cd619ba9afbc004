-- What a disk of numbered files has, and what a crash may leave of it.
use Rattle.std.specs.Prelude.{◌≡◌, ◌⊎◌, ℕ, ◌+◌, ◌^◌, ◌-◌, ◌≤◌, ◌<◌, min, max, Bool, IsTrue, List, [], ◌∷◌, ◌++◌, length, get_or, take, drop}

-- a place in one of these ranges, each a place and a length
abbrev pub IsIn : List (ℕ × ℕ) → ℕ → Type 0
IsIn [] k = ⊥
IsIn (r ∷ rs) k = ((r.0 ≤ k) × (k < r.0 + r.1)) ⊎ IsIn rs k

-- A file: the bytes that a read gives; the bytes at the last sync; and since then the ranges that were written,
-- and the least and the greatest length.
pub record File : Type 0 where
  pub bytes : List ℕ
  pub stable : List ℕ
  pub written : List (ℕ × ℕ)
  pub least : ℕ
  pub greatest : ℕ

abbrev pub AreBytes : List ℕ → Type 0
AreBytes c = (k : ℕ) → get_or c k 0 < 256

-- A crash may leave these bytes: each place below the least length that wasn't written is as at the last sync.
pub record MayLeave (f : File) (c : List ℕ) : Type 0 where
  pub no_shorter : f.least ≤ length c
  pub no_longer : length c ≤ f.greatest
  pub kept : (k : ℕ) → k < f.least → (IsIn f.written k → ⊥) → get_or c k 0 ≡ get_or f.stable k 0
  pub are_bytes : AreBytes c

-- the file with these bytes, all of them on the disk
abbrev pub at_rest : List ℕ → File
at_rest b = record { bytes = b; stable = b; written = []; least = length b; greatest = length b }

-- nothing of the file is pending: a crash leaves just what a read gives
abbrev pub IsAtRest : File → Type 0
IsAtRest f = (c : List ℕ) → MayLeave f c → c ≡ f.bytes

-- a write of n bytes began there, and so did a cut to n
abbrev pub write_begun : ℕ → ℕ → File → File
write_begun at n f = record { bytes = f.bytes; stable = f.stable; written = (at, n) ∷ f.written; least = f.least; greatest = max f.greatest (at + n) }

abbrev pub cut_begun : ℕ → File → File
cut_begun n f = record { bytes = f.bytes; stable = f.stable; written = f.written; least = min f.least n; greatest = f.greatest }

-- no more is pending in f than in g
pub record IsWithin (f g : File) : Type 0 where
  pub stable : f.stable ≡ g.stable
  pub written : (k : ℕ) → IsIn f.written k → IsIn g.written k
  pub least : g.least ≤ f.least
  pub greatest : f.greatest ≤ g.greatest

-- the bytes with these in their place, and past the end where they reach so far
abbrev pub overwrite : ℕ → List ℕ → List ℕ → List ℕ
overwrite at bytes old = take at old ++ bytes ++ drop (at + length bytes) old

-- After a write of n bytes to a file at rest that a crash cuts short: any bytes in the range and past the old end,
-- the same elsewhere.
pub record Torn (at n : ℕ) (old new : List ℕ) : Type 0 where
  pub before : take at new ≡ take at old
  pub after : drop (at + n) new ≡ drop (at + n) old
  pub no_shorter : length old ≤ length new
  pub no_longer : length new ≤ max (length old) (at + n)

-- after a cut of a file at rest: some length between, and any bytes past the cut
pub record CutShort (n : ℕ) (old new : List ℕ) : Type 0 where
  pub before : take n new ≡ take n old
  pub no_shorter : n ≤ length new
  pub no_longer : length new ≤ length old

-- whatever a crash leaves of the file, its first n bytes are these
pub record KeepsFront (n : ℕ) (front : List ℕ) (f : File) : Type 0 where
  pub whole : length front ≡ n
  pub stable : (k : ℕ) → k < n → get_or f.stable k 0 ≡ get_or front k 0
  pub least : n ≤ f.least
  pub behind : (k : ℕ) → IsIn f.written k → n ≤ k

-- what the disk is at one moment: its files by number, and the output so far
pub record Moment : Type 0 where
  pub files : ℕ → File
  pub output : List ℕ

-- the bytes of each file
abbrev pub Image : Type 0
Image = ℕ → List ℕ

-- a crash at that moment may leave this image
abbrev pub Leaves : Moment → Image → Type 0
Leaves m image = (file : ℕ) → MayLeave (m.files file) (image file)

-- nothing of any file is pending
abbrev pub NothingPending : Moment → Type 0
NothingPending m = (file : ℕ) → IsAtRest (m.files file)

-- A disk: whether it tells its contents, its moments up to the one that is now, and its counts.
pub record State : Type 0 where
  pub tells : Bool
  pub moments : ℕ → Moment
  pub now : ℕ
  pub faults : ℕ
  pub emit_faults : ℕ
  pub reads : ℕ
  pub asked : ℕ
  pub syncs : ℕ

abbrev pub Tells : State → Type 0
Tells s = IsTrue s.tells

abbrev pub present : State → Moment
present s = s.moments s.now

abbrev pub file_of : State → ℕ → File
file_of s file = (s.moments s.now).files file

-- what a read gives of each file
abbrev pub seen : State → Image
seen s file = (file_of s file).bytes

-- A count of faults rose. One that stands at its greatest value counts as risen.
abbrev pub HasRisen : ℕ → ℕ → Type 0
HasRisen before now = min before (2 ^ 64 - 2) < now
