use Rattle.mr_views.proofs.Visible.{visible-later}
use Rattle.mr_views.proofs.expiry.visible_later_was_visible.Goals as goal

pub returns : goal.returns
returns c = visible-later
