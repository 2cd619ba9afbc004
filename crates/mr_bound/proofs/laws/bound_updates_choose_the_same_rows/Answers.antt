use Rattle.mr_bound.proofs.UpdatesAgree.{rows_agree}
use Rattle.mr_bound.proofs.laws.bound_updates_choose_the_same_rows.Goals as goal

pub returns : goal.returns
returns c = rows_agree
