use Rattle.mr_views.proofs.Own.{table-by-changes}
use Rattle.mr_views.proofs.sessions.tables_are_folded_from_changes.Goals as goal

pub returns : goal.returns
returns c = table-by-changes
