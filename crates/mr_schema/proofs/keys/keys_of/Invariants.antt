use Rattle.std.proofs.Common.{◌≡◌, drop}
use Rattle.mr_types.specs.Refusals.{in_turn}
use Rattle.mr_spec.specs.KeyChecks.{with_key}
use Rattle.mr_schema.specs.Said.{said_keys, no_keys}
use Rattle.mr_schema.proofs.keys.keys_of.Given as goal

abbrev pub invariant-loop-key : goal.invariant-loop-key
invariant-loop-key l = in_turn (with_key l.columns) (said_keys l.keys) (drop l.key-index l.written) ≡ in_turn (with_key l.columns) no_keys l.written
