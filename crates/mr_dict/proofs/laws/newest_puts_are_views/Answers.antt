use Rattle.mr_dict.proofs.Viewing.{view_of_all, view_of_view}
use Rattle.mr_dict.proofs.laws.newest_puts_are_views.Goals as goal

pub returns-clause-of_versions : goal.returns-clause-of_versions
returns-clause-of_versions c = view_of_all

pub returns-clause-of_views : goal.returns-clause-of_views
returns-clause-of_views c = view_of_view
