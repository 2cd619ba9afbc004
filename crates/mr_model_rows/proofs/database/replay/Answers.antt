use Rattle.std.proofs.Common.{arith}
use Rattle.std.proofs.lemmas.Grind.{common_steps}
use Rattle.mr_model_rows.proofs.Ascent.{body_ascends}
use Rattle.mr_model_rows.proofs.database.replay.Goals as goal

pub loop-commit-preserved : goal.loop-commit-preserved
loop-commit-preserved c = record {
  same = grind (arith, common_steps);
  rising = body_ascends c.loop-commit.all c.in_ok-all.all c.commit-item.result.body c.loop-commit.invariant.rising c.in_ok-all.ensures;
}
