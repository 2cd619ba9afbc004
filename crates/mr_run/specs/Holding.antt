-- What is held of the statement that a script is in.
use Rattle.std.specs.Prelude.{◌≡◌, ℕ, List, [], not, take, map, Option, Some, None, Result}
use Rattle.mr_lex.specs.Cutting.{is_blank, as_part}
use Rattle.mr_lex.specs.Pieces.{start, read_piece}
use Rattle.mr_lex.specs.Standing.{HasRead}
use Rattle.mr_spec.specs.ScriptRun.{read_part}
use Rattle.mr_types.specs.declared.statement.Statement.{Statement}
use Rattle.mr_run.specs.declared.part.Part.{Part}

-- of a text so many bytes are kept, one more than a statement may have
abbrev pub most_kept : ℕ
most_kept = 1048577

-- These bytes were read since the last end. The first ones of the statement's text are kept, and whether one has begun is known.
pub record Holds (part : Part) (since : List ℕ) : Type 0 where
  pub unended : (read_piece start since).since ≡ since
  pub splitter : HasRead part.splitter since
  pub kept : part.kept ≡ take most_kept (read_piece start since).kept
  pub begun : part.begun ≡ not (is_blank since)

-- the statement of a text that has ended, none where the text is empty
abbrev pub given_by : Option (List ℕ) → List (Result Statement ℕ)
given_by None = []
given_by (Some text) = map read_part (as_part text)
