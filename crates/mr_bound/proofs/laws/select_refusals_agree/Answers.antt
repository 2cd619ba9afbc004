use Rattle.mr_bound.proofs.SelectsAgree.{refusals_agree}
use Rattle.mr_bound.proofs.laws.select_refusals_agree.Goals as goal

pub returns : goal.returns
returns c = refusals_agree
