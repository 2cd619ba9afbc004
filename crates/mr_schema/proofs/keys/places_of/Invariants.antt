use Rattle.std.proofs.Common.{◌≡◌, drop, length, ◌++◌, Ok}
use Rattle.mr_types.specs.Refusals.{◌>>=◌}
use Rattle.mr_spec.specs.KeyChecks.{places_of}
use Rattle.mr_schema.proofs.keys.places_of.Given as goal

abbrev pub invariant-loop-name : goal.invariant-loop-name
invariant-loop-name l = record {
  placed : places_of l.columns l.names ≡ (places_of l.columns (drop l.name-index l.names) >>= (λ rest. Ok (l.places.items ++ rest)));
  count : length l.places.items ≡ l.name-index;
}
