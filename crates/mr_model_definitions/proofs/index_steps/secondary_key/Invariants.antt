use Rattle.std.proofs.Common.{◌≡◌, drop, find}
use Rattle.mr_spec.specs.KeyChecks.{is_named}
use Rattle.mr_model_definitions.proofs.index_steps.secondary_key.Given as goal

abbrev pub invariant-loop-key : goal.invariant-loop-key
invariant-loop-key l = find (is_named l.name) (drop l.key-index l.def.secondary) ≡ find (is_named l.name) l.def.secondary
