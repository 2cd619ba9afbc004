use Rattle.std.proofs.Common.{◌≡◌, [], drop, ap, arith}
use Rattle.std.proofs.lemmas.List.{drop_all}
use Rattle.mr_manifest.specs.Manifest.{taken}
use Rattle.mr_manifest.proofs.manifest.taken_by.Goals as goal

pub returns : goal.returns
returns c =
    let rest : drop c.taking.edit-index c.args.edits.now ≡ [] = drop_all c.taking.edit-index c.args.edits.now (c.taking-test.false) in
    omega (arith, c.taking.invariant.sum, c.taking.invariant.small, ap taken rest)
