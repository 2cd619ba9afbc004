use Rattle.std.proofs.Common.{◌≡◌, drop}
use Rattle.mr_manifest.specs.Rule.{drops_fit}
use Rattle.mr_manifest.proofs.rule.drops_fit.Given as goal

abbrev pub invariant-dropping : goal.invariant-dropping
invariant-dropping l = drops_fit l.live l.edits ≡ drops_fit l.live (drop l.edit-index l.edits)
