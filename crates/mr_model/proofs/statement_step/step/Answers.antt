use Rattle.std.proofs.Common.{ℕ}
use Rattle.mr_spec.specs.World.{World}
use Rattle.mr_model_engine.specs.Worlds.{world_in}
use Rattle.mr_model_engine.specs.declared.engine.Engine.{Engine}
use Rattle.mr_model.proofs.FewSteps.{few_at_begin, few_behind}
use Rattle.mr_model.proofs.statement_step.step.Goals as goal

abbrev at_moment : Engine → ℕ → World
at_moment engine moment = world_in (record engine { moment = moment })

pub outcome_of-requires : goal.outcome_of-requires
outcome_of-requires c = record {
  few = few_at_begin c.in-Ok.statement (at_moment c.args.engine.now c.max-engine.result) c.begin_statement.new.engine c.in_ok-begin_statement-in-Ok.ensures c.requires.few;
}

pub returns-in_ok-begin_statement-in-Ok-clause-few : goal.returns-in_ok-begin_statement-in-Ok-clause-few
returns-in_ok-begin_statement-in-Ok-clause-few c =
    few_behind c.in-Ok.statement (world_in c.begin_statement.new.engine) c.outcome_of.new.engine c.outcome_of.result c.outcome_of.ensures
    (few_at_begin c.in-Ok.statement (at_moment c.args.engine.now c.max-engine.result) c.begin_statement.new.engine c.in_ok-begin_statement-in-Ok.ensures c.requires.few)
