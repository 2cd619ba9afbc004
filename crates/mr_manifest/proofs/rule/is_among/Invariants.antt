use Rattle.std.proofs.Common.{◌≡◌, drop}
use Rattle.mr_manifest.specs.Rule.{is_among}
use Rattle.mr_manifest.proofs.rule.is_among.Given as goal

abbrev pub invariant-looking : goal.invariant-looking
invariant-looking l = is_among l.file l.runs ≡ is_among l.file (drop l.run-index l.runs)
