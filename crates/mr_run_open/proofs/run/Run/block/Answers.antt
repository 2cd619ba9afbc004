use Rattle.std.proofs.Common.{◌≡◌, length, map, ap, arith}
use Rattle.mr_run_open.specs.Given.{indexed_of}
use Rattle.mr_run_open.specs.Runs.{RunState}
use Rattle.mr_run_open.proofs.Sizes.{span_within}
use Rattle.mr_run_open.proofs.run.Run.block.Goals as goal

pub returns-clause-within : goal.returns-clause-within
returns-clause-within c =
    let long : length (map indexed_of c.self.inside.blocks.items) ≡ length c.args.self.now.index.blocks = ap (λ (r : RunState). length r.index.blocks) c.self.view_is in
    span_within c.self.inside.blocks.items c.index.result.now c.args.i (omega (arith, long, c.requires)) c.index.ensures c.self.invariant.1
