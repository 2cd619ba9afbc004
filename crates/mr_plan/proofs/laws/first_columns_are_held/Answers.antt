use Rattle.mr_plan.proofs.FirstTests.{first-held}
use Rattle.mr_plan.proofs.laws.first_columns_are_held.Goals as goal

pub returns : goal.returns
returns c = first-held
