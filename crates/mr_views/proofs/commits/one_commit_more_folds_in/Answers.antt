use Rattle.mr_views.proofs.Folds.{folds-in}
use Rattle.mr_views.proofs.commits.one_commit_more_folds_in.Goals as goal

pub returns : goal.returns
returns c = folds-in
