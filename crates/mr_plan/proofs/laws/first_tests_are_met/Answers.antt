use Rattle.mr_plan.proofs.FirstTests.{first-met}
use Rattle.mr_plan.proofs.laws.first_tests_are_met.Goals as goal

pub returns : goal.returns
returns c = first-met
