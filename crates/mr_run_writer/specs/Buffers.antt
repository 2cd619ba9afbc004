-- A file that grows at its end, and the bytes that are held to be written behind it.
use Rattle.std.specs.Prelude.{◌≡◌, ℕ, ◌+◌, ◌<◌, ◌≤◌, List, ◌++◌, length, take}

-- so many bytes were written to the file, which has no others; before the first ones it may have any
abbrev pub EndsAt : ℕ → List ℕ → Type 0
EndsAt written file = 0 < written → length file ≡ written

-- the bytes that were written, and those that are held
abbrev pub with_held : ℕ → List ℕ → List ℕ → List ℕ
with_held written held file = take written file ++ held

-- some were written between the two, and at least so many at once
abbrev pub InLumps : ℕ → ℕ → ℕ → Type 0
InLumps size before now = (before ≤ now) × (before < now → before + size ≤ now)
