use Rattle.std.proofs.Common.{◌≡◌, map, take}
use Rattle.mr_spec.specs.Select.{aggregate_of}
use Rattle.mr_model_select.proofs.listing.aggregated.Given as goal

abbrev pub invariant-loop-aggregate : goal.invariant-loop-aggregate
invariant-loop-aggregate l = l.values ≡ map (aggregate_of l.def l.rows) (take l.aggregate-index l.aggregates)
