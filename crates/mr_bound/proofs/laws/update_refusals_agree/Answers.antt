use Rattle.mr_bound.proofs.UpdatesAgree.{refusals_agree}
use Rattle.mr_bound.proofs.laws.update_refusals_agree.Goals as goal

pub returns : goal.returns
returns c = refusals_agree
