use Rattle.std.proofs.Common.{◌≡◌, map, take}
use Rattle.mr_spec.specs.TablePhrases.{closed}
use Rattle.mr_parse_tables.proofs.tables.closed_columns.Given as goal

abbrev pub invariant-loop-column : goal.invariant-loop-column
invariant-loop-column l = l.found ≡ map (closed l.collation) (take l.column-index l.columns)
