use Rattle.std.proofs.Common.{◌≡◌, [], drop, ap, arith}
use Rattle.std.proofs.lemmas.List.{drop_all}
use Rattle.mr_manifest.specs.Edits.{edits_size}
use Rattle.mr_manifest.proofs.manifest.size_of.Goals as goal

pub returns : goal.returns
returns c =
    let rest : drop c.sizing.edit-index c.args.edits.now ≡ [] = drop_all c.sizing.edit-index c.args.edits.now (c.sizing-test.false) in
    omega (arith, c.sizing.invariant.sum, c.sizing.invariant.small, ap edits_size rest)
