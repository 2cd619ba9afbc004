use Rattle.std.proofs.Common.{◌≡◌, drop}
use Rattle.std.specs.Option.{option_copied}
use Rattle.mr_spec.specs.Select.{first_by, values_of}
use Rattle.mr_model_select.specs.First.{comes_first, first_with}
use Rattle.mr_model_select.proofs.listing.first_in.Given as goal

abbrev pub invariant-loop-row : goal.invariant-loop-row
invariant-loop-row l = first_with (comes_first l.end l.kind) (option_copied l.best) (values_of l.at (drop l.row-index l.rows)) ≡ first_by (comes_first l.end l.kind) (values_of l.at l.rows)
