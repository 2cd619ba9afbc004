use Rattle.std.proofs.Common.{◌≡◌, take, filter}
use Rattle.mr_spec.specs.Truth.{where_of}
use Rattle.mr_model_rows.proofs.conditions.kept_by.Given as goal

abbrev pub invariant-loop-row : goal.invariant-loop-row
invariant-loop-row l = l.kept ≡ filter ((where_of l.condition).keeps l.def) (take l.row-index l.rows)
