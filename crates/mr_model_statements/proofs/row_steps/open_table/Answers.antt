use Rattle.std.proofs.Common.{rules, ◌≡◌, false, Option, Some, option_map, sym, subst}
use Rattle.mr_orders.specs.Orders.{IsAscending}
use Rattle.mr_spec.specs.Database.{table_of, replay}
use Rattle.mr_spec.specs.World.{World, is_stale, entered}
use Rattle.mr_spec.specs.RowSteps.{rows_seen}
use Rattle.mr_model_engine.specs.Worlds.{world_in}
use Rattle.mr_model_statements.proofs.Ascent.{opened_ascends}
use Rattle.mr_model_statements.proofs.row_steps.open_table.Goals as goal

pub returns-clause-rising : goal.returns-clause-rising
returns-clause-rising c =
    let opened : world_in c.enter.new.self ≡ entered c.args.name.now (world_in c.args.engine.now) = search rules in
    let stays : world_in c.keep_view.new.engine ≡ world_in c.enter.new.self = search rules in
    let fresh : is_stale c.args.name.now (world_in c.enter.new.self) ≡ false = search rules in
    let there : Some c.in-Some.def ≡ option_map (λ t. t.def) (table_of c.args.name.now (replay c.args.engine.now.commits)) = search rules in
    subst (λ (w : World). IsAscending c.in-Some.def (rows_seen c.in-Some.def.name w)) (sym stays)
    (opened_ascends (world_in c.enter.new.self) c.args.name.now c.in-Some.def fresh
    (subst (λ (w : World). Some c.in-Some.def ≡ option_map (λ t. t.def) (table_of c.args.name.now (replay w.commits))) (sym opened) there))
