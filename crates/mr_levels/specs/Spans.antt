-- The live runs of a family, as a choice of runs is given them.
use Rattle.std.specs.Prelude.{ℕ, ◌+◌, List, [], ◌∷◌, ◌++◌, map}
use Rattle.mr_iter.specs.declared.run.RunInfo.{RunInfo}
use Rattle.mr_run_open.specs.Runs.{RunState, first_of}
use Rattle.mr_compact.specs.declared.span.Span.{Span}
use Rattle.mr_levels.specs.Levels.{LevelsState}

abbrev pub info_of : RunState → RunInfo
info_of r = record { file = r.file; length = r.length; entries = r.entries }

abbrev pub span_at : ℕ → RunState → Span
span_at level r = record { level = level; info = info_of r; first = first_of r.index; last = r.index.last }

abbrev pub spans_at : ℕ → List RunState → List Span
spans_at level rs = map (span_at level) rs

-- the levels from one on
abbrev pub spans_from : ℕ → List (List RunState) → List Span
spans_from level [] = []
spans_from level (rs ∷ rss) = spans_at level rs ++ spans_from (level + 1) rss

-- each live run with its level, its file and its first and last key
abbrev pub spans_of_levels : LevelsState → List Span
spans_of_levels s = spans_at 0 s.newest ++ spans_from 1 s.deeper
