use Rattle.std.proofs.Common.{rules, ◌≡◌, ◌++◌, ◌∷◌, [], ap, ◌∙◌, List, reverse}
use Rattle.mr_spec.specs.declared.world.Table.{Table}
use Rattle.mr_spec.specs.Database.{changed}
use Rattle.mr_model_rows.specs.Keyed.{table_after}
use Rattle.mr_model_rows.proofs.Ascent.{front_ascends}
use Rattle.mr_model_rows.proofs.Moved.{carried}
use Rattle.mr_model_rows.proofs.database.changed.Goals as goal

pub tables-preserved : goal.tables-preserved
tables-preserved c =
    let popped : c.tables.before ≡ c.pop.new.self ++ c.in-Some.table ∷ [] = search rules in
    let pushed : c.push.new.self ≡ c.tables.after ++ table_after c.args.change.now c.in-Some.table ∷ [] = search rules in
    record {
      same = ap (λ (l : List Table). changed c.pop.new.self c.args.change.now ++ reverse l) pushed ∙ carried (table_after c.args.change.now) c.tables.before c.pop.new.self c.tables.after c.in-Some.table popped ∙ c.tables.invariant.same;
      rising = front_ascends c.tables.before c.pop.new.self c.in-Some.table popped c.tables.invariant.rising;
    }
