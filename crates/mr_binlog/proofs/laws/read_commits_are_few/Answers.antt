use Rattle.mr_binlog.proofs.FewCommits.{read_few}
use Rattle.mr_binlog.proofs.laws.read_commits_are_few.Goals as goal

pub returns : goal.returns
returns c = λ bytes commit e. read_few bytes commit e
