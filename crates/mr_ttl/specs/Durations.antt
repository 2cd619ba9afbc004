-- How long the rows of an index live.
use Rattle.std.specs.Prelude.{ℕ, ◌<◌, ◌≤◌, ◌==◌, cond, List, [], ◌∷◌, length, slice_index, slice_index_or, Option, Some, None}
use Rattle.mr_ttl.specs.declared.duration.Duration.{Duration}

-- how many seconds the rows of the index live, where its rows expire
abbrev pub seconds_of : List Duration → ℕ → Option ℕ
seconds_of [] index = None
seconds_of (d ∷ ds) index = cond (d.index == index) (Some d.seconds) (seconds_of ds index)

-- the index of the duration at place i
abbrev pub index_at : List Duration → ℕ → ℕ
index_at ds i = let d = slice_index_or ds i (record { index = 0; seconds = 0 }) in d.index

-- the index numbers rise, so none comes twice
abbrev pub HaveRisingIndexes : List Duration → Type 0
HaveRisingIndexes ds = (i j : ℕ) → i < j → j < length ds → index_at ds i < index_at ds j

-- the numbers don't fall
abbrev pub DontFall : List ℕ → Type 0
DontFall ns = (i j : ℕ) → i ≤ j → j < length ns → slice_index ns i ≤ slice_index ns j
