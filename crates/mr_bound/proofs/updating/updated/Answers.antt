use Rattle.std.proofs.Common.{subst}
use Rattle.mr_types.specs.Values.{Answers}
use Rattle.mr_bound.proofs.StampsFit.{updated_is}
use Rattle.mr_bound.proofs.updating.updated.Goals as goal

pub returns-clause-is : goal.returns-clause-is
returns-clause-is c = λ stamp. subst (Answers c.row_after.result) (updated_is c.args.def.now c.args.row.now c.args.update.now stamp) c.row_after.ensures
