use Rattle.mr_views.proofs.Visible.{gone-or-not}
use Rattle.mr_views.proofs.expiry.expired_rows_may_be_gone.Goals as goal

pub returns : goal.returns
returns c = gone-or-not
