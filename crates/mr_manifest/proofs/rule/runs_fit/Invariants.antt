use Rattle.std.proofs.Common.{◌≡◌, drop}
use Rattle.mr_manifest.specs.Rule.{runs_fit}
use Rattle.mr_manifest.proofs.rule.runs_fit.Given as goal

abbrev pub invariant-judging : goal.invariant-judging
invariant-judging l = runs_fit l.live l.runs ≡ runs_fit l.live (drop l.i l.runs)
