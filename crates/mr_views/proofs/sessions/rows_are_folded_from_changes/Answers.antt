use Rattle.mr_views.proofs.Own.{rows-by-changes}
use Rattle.mr_views.proofs.sessions.rows_are_folded_from_changes.Goals as goal

pub returns : goal.returns
returns c = rows-by-changes
