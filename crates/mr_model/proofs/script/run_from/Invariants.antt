use Rattle.std.proofs.Common.{drop}
use Rattle.mr_schema.specs.Few.{FewColumns}
use Rattle.mr_model.specs.Running.{GoesOn}
use Rattle.mr_model_engine.specs.Worlds.{world_in}
use Rattle.mr_model.proofs.script.run_from.Given as goal

abbrev pub invariant-loop-statement : goal.invariant-loop-statement
invariant-loop-statement g l =
    let clock = g.C.Clock.clock in
    record {
      few : FewColumns l.player.engine.commits;
      goes_on : GoesOn (world_in l.fn.engine) l.statements (clock l.fn.clock) (clock l.clock) l.player (drop l.statement-index l.statements);
    }
