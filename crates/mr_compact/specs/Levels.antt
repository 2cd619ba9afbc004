-- Which runs of a family are merged next.
use Rattle.std.specs.Prelude.{ℕ, ◌+◌, ◌*◌, ◌^◌, ◌==◌, nat_lt, Bool, true, false, not, ◌&&◌, ◌||◌, List, [], ◌∷◌, ◌++◌, Option, Some, None, if◌then◌else◌}
use Rattle.std.specs.Option.{option_map}
use Rattle.std.specs.Cmp.Lexicographic.{slice_cmp}
use Rattle.std.specs.Ordering.{nat_cmp, is_lt}
use Rattle.mr_compact.specs.declared.span.Span.{Span}
use Rattle.mr_compact.specs.declared.span.Pick.{Pick}

-- byte by byte, in whichever direction the family has its keys
abbrev pub comes_before : List ℕ → List ℕ → Bool
comes_before a b = is_lt (slice_cmp nat_cmp a b)

abbrev pub lesser : List ℕ → List ℕ → List ℕ
lesser a b = if comes_before b a then b else a

abbrev pub greater : List ℕ → List ℕ → List ℕ
greater a b = if comes_before a b then b else a

-- keys from the least to the greatest
pub record KeySpan : Type 0 where
  pub least : List ℕ
  pub greatest : List ℕ

abbrev pub span_of : Span → KeySpan
span_of s = record { least = lesser s.first s.last; greatest = greater s.first s.last }

-- neither's greatest key comes before the other's least
abbrev pub overlap : KeySpan → KeySpan → Bool
overlap a b = not (comes_before a.greatest b.least) && not (comes_before b.greatest a.least)

-- from the least of all keys of two to the greatest
abbrev pub joint : KeySpan → KeySpan → KeySpan
joint a b = record { least = lesser a.least b.least; greatest = greater a.greatest b.greatest }

-- from the least of all keys of a run and others to the greatest
abbrev pub span_of_all : Span → List Span → KeySpan
span_of_all s [] = span_of s
span_of_all s (t ∷ ts) = joint (span_of s) (span_of_all t ts)

-- a run overlaps the span of all of these; of none it overlaps nothing
abbrev pub overlaps_span : List Span → Span → Bool
overlaps_span [] s = false
overlaps_span (r ∷ rs) s = overlap (span_of_all r rs) (span_of s)

-- a run overlaps one of these
abbrev pub overlaps_any : List Span → Span → Bool
overlaps_any [] s = false
overlaps_any (r ∷ rs) s = overlap (span_of r) (span_of s) || overlaps_any rs s

-- the runs of a level; level 0 has the newest runs
abbrev pub at_level : ℕ → List Span → List Span
at_level level [] = []
at_level level (s ∷ ss) = if s.level == level then s ∷ at_level level ss else at_level level ss

abbrev pub count_at : ℕ → List Span → ℕ
count_at level [] = 0
count_at level (s ∷ ss) = if s.level == level then 1 + count_at level ss else count_at level ss

-- the sum of the lengths of a level's runs
abbrev pub bytes_at : ℕ → List Span → ℕ
bytes_at level [] = 0
bytes_at level (s ∷ ss) = if s.level == level then s.info.length + bytes_at level ss else bytes_at level ss

-- the one of the lesser file number, of equal ones the first
abbrev pub older : List Span → Span → List Span
older [] t = t ∷ []
older (s ∷ ss) t = if nat_lt t.info.file s.info.file then t ∷ [] else s ∷ ss

abbrev pub oldest_with : ℕ → List Span → List Span → List Span
oldest_with level best [] = best
oldest_with level best (t ∷ ts) = if t.level == level then oldest_with level (older best t) ts else oldest_with level best ts

-- the run of a level of the least file number, if the level has any
abbrev pub oldest : ℕ → List Span → List Span
oldest level spans = oldest_with level [] spans

-- the level passes its limit: its runs have more bytes than the memtable's limit times 10 for each level
abbrev pub is_over : ℕ → ℕ → List Span → Bool
is_over level memtable spans = nat_lt (memtable * 10 ^ level) (bytes_at level spans)

-- there are at least 8 newest runs, or any where it is eager
abbrev pub are_due : Bool → ℕ → Bool
are_due eager newest = not (nat_lt newest 8) || (eager && nat_lt 0 newest)

-- The level whose runs go down: that of the newest runs where they are due, else the least from 1 to 3 that passes its limit.
abbrev pub source : Bool → ℕ → List Span → Option ℕ
source eager memtable spans =
    if are_due eager (count_at 0 spans) then Some 0
    else (if is_over 1 memtable spans then Some 1
    else (if is_over 2 memtable spans then Some 2
    else (if is_over 3 memtable spans then Some 3 else None)))

-- the runs of that level that go down: all newest ones, and of another level the one of the least file number
abbrev pub going : ℕ → List Span → List Span
going level spans = if level == 0 then at_level 0 spans else oldest level spans

-- the runs of a level that overlap the span of these
abbrev pub touched : List Span → ℕ → List Span → List Span
touched runs level [] = []
touched runs level (s ∷ ss) = if (s.level == level) && overlaps_span runs s then s ∷ touched runs level ss else touched runs level ss

-- the runs that are merged: those that go down, and those of the next level that they meet
abbrev pub merged_runs : ℕ → List Span → List Span
merged_runs level spans = going level spans ++ touched (going level spans) (level + 1) spans

-- no level deeper than this one has a run that overlaps one of these
abbrev pub is_bottom : ℕ → List Span → List Span → Bool
is_bottom level runs [] = true
is_bottom level runs (s ∷ ss) = not (nat_lt level s.level && overlaps_any runs s) && is_bottom level runs ss

abbrev pub files_of : List Span → List ℕ
files_of [] = []
files_of (s ∷ ss) = s.info.file ∷ files_of ss

abbrev pub as_pick : ℕ → List ℕ → Bool → Pick
as_pick level files bottom = record { level = level; files = files; bottom = bottom }

abbrev pub pick_from : ℕ → List Span → Pick
pick_from level spans = as_pick (level + 1) (files_of (merged_runs level spans)) (is_bottom (level + 1) (merged_runs level spans) spans)

abbrev pub picked : Bool → ℕ → List Span → Option Pick
picked eager memtable spans = option_map (λ level. pick_from level spans) (source eager memtable spans)
