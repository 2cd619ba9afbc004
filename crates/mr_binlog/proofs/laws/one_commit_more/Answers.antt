use Rattle.mr_binlog.proofs.Holding.{one_more}
use Rattle.mr_binlog.proofs.laws.one_commit_more.Goals as goal

pub returns : goal.returns
returns c = λ at bodies body cs d. one_more at bodies body cs d
