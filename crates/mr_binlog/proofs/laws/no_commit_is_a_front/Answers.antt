use Rattle.mr_binlog.proofs.CommitLaws.{no_front}
use Rattle.mr_binlog.proofs.laws.no_commit_is_a_front.Goals as goal

pub returns : goal.returns
returns c = no_front
