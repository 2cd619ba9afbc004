use Rattle.std.proofs.Common.{◌≡◌, take, filter, not}
use Rattle.mr_spec.specs.KeyChecks.{is_named}
use Rattle.mr_model_rows.proofs.database.other_keys.Given as goal

abbrev pub invariant-loop-key : goal.invariant-loop-key
invariant-loop-key l = l.all ≡ filter (λ k. not (is_named l.name k)) (take l.key-index l.keys)
