-- How a cutter stands for a reader of a script.
use Rattle.std.specs.Prelude.{◌≡◌, not, map}
use Rattle.mr_lex.specs.Cutting.{is_blank}
use Rattle.mr_lex.specs.Pieces.{Reader}
use Rattle.mr_lex.specs.Standing.{HasRead}
use Rattle.mr_spec.specs.ScriptRun.{read_part}
use Rattle.mr_model.specs.declared.cutting.Cutter.{Cutter}

-- it has read the same bytes since the last end, keeps the same ones, and has read the ended parts
pub record Holds (c : Cutter) (r : Reader) : Type 0 where
  pub splitter : HasRead c.splitter r.since
  pub kept : c.kept ≡ r.kept
  pub has_rest : c.has_rest ≡ not (is_blank r.since)
  pub read : c.read ≡ map read_part r.parts
