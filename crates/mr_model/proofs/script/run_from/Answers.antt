use Rattle.std.proofs.Common.{refl, false}
use Rattle.mr_model_engine.specs.Worlds.{world_in}
use Rattle.mr_model.proofs.RunSteps.{at_start, goes_on_at, at_end, spent_at_end, partly_at, on_err}
use Rattle.mr_model.proofs.script.run_from.Goals as goal

pub loop-statement-init : goal.loop-statement-init
loop-statement-init g c = record {
  few = c.requires.few;
  goes_on = at_start c.args.statements.now (g.C.Clock.clock c.args.clock.now) (record { engine = c.args.engine; output = c.new.result; failed = false }) c.new.ensures.items refl;
}

pub loop-statement-preserved : goal.loop-statement-preserved
loop-statement-preserved g c = record {
  few = c.in_ok-serve.ensures.few;
  goes_on = goes_on_at (world_in c.args.engine) c.args.statements.now c.loop-statement.statement-index (g.C.Clock.clock c.args.clock.now) (g.C.Clock.clock c.loop-statement.clock) (g.C.Clock.clock c.serve.new.clock)
      c.loop-statement.player c.serve.new.self c.statement-item.result c.loop-statement-test.true c.statement-item.is c.loop-statement.invariant.goes_on c.in_ok-serve.ensures.served;
}

pub returns-clause-run : goal.returns-clause-run
returns-clause-run g c = at_end (world_in c.args.engine) c.args.statements.now c.loop-statement.statement-index (g.C.Clock.clock c.args.clock.now) (g.C.Clock.clock c.loop-statement.clock)
    c.loop-statement.player (record { output = c.from_vec.result; failed = c.loop-statement.player.failed; commits = c.loop-statement.player.engine.commits }) c.loop-statement-test.false c.loop-statement.invariant.goes_on c.from_vec.ensures refl refl

pub returns-clause-values : goal.returns-clause-values
returns-clause-values g c = spent_at_end (world_in c.args.engine) c.args.statements.now c.loop-statement.statement-index (g.C.Clock.clock c.args.clock.now) (g.C.Clock.clock c.loop-statement.clock)
    c.loop-statement.player c.loop-statement-test.false c.loop-statement.invariant.goes_on

pub returns-clause-few : goal.returns-clause-few
returns-clause-few g c = c.loop-statement.invariant.few

pub returns-in_err-serve-clause-at_most : goal.returns-in_err-serve-clause-at_most
returns-in_err-serve-clause-at_most g c = on_err c.from_residual.result _ (partly_at (world_in c.args.engine) c.args.statements.now c.loop-statement.statement-index (g.C.Clock.clock c.args.clock.now) (g.C.Clock.clock c.loop-statement.clock) (g.C.Clock.clock c.serve.new.clock)
    c.loop-statement.player c.statement-item.result c.loop-statement-test.true c.statement-item.is c.loop-statement.invariant.goes_on c.serve.ensures.taken)
