-- What one pass over a family's runs tells.
use Rattle.std.specs.Prelude.{ℕ, ◌==◌, Bool, false, not, ◌&&◌, ◌||◌, List, [], ◌∷◌, if◌then◌else◌}
use Rattle.mr_compact.specs.declared.span.Span.{Span}
use Rattle.mr_compact.specs.Levels.{comes_before, span_of, overlap, overlaps_span}

-- a run of the level ends at or behind a key
abbrev pub ends_behind : ℕ → List ℕ → List Span → Bool
ends_behind level key [] = false
ends_behind level key (s ∷ ss) = ((s.level == level) && not (comes_before (span_of s).greatest key)) || ends_behind level key ss

-- a run of the level begins at or before a key
abbrev pub begins_before : ℕ → List ℕ → List Span → Bool
begins_before level key [] = false
begins_before level key (s ∷ ss) = ((s.level == level) && not (comes_before key (span_of s).least)) || begins_before level key ss

-- a run overlaps one of the level
abbrev pub overlaps_level : ℕ → Span → List Span → Bool
overlaps_level level s [] = false
overlaps_level level s (r ∷ rs) = ((r.level == level) && overlap (span_of r) (span_of s)) || overlaps_level level s rs

-- a run overlaps one of the level that overlaps the span of these
abbrev pub overlaps_touched : List Span → ℕ → Span → List Span → Bool
overlaps_touched runs level s [] = false
overlaps_touched runs level s (r ∷ rs) = ((r.level == level) && (overlap (span_of r) (span_of s) && overlaps_span runs r)) || overlaps_touched runs level s rs

-- the files of the level
abbrev pub files_at : ℕ → List Span → List ℕ
files_at level [] = []
files_at level (s ∷ ss) = if s.level == level then s.info.file ∷ files_at level ss else files_at level ss

-- the files of the level's runs that overlap the span of these
abbrev pub files_touched : List Span → ℕ → List Span → List ℕ
files_touched runs level [] = []
files_touched runs level (s ∷ ss) = if (s.level == level) && overlaps_span runs s then s.info.file ∷ files_touched runs level ss else files_touched runs level ss
