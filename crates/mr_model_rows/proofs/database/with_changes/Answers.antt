use Rattle.std.proofs.Common.{arith}
use Rattle.std.proofs.lemmas.Grind.{common_steps}
use Rattle.mr_model_rows.proofs.Ascent.{changed_ascends}
use Rattle.mr_model_rows.proofs.database.with_changes.Goals as goal

pub loop-change-preserved : goal.loop-change-preserved
loop-change-preserved c = record {
  same = grind (arith, common_steps);
  rising = changed_ascends c.loop-change.all c.in_ok-all.all c.change-item.result c.loop-change.invariant.rising c.in_ok-all.ensures;
}
