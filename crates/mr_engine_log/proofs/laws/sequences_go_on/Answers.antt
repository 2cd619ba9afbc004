use Rattle.mr_engine_log.proofs.Sequenced.{sequenced}
use Rattle.mr_engine_log.proofs.laws.sequences_go_on.Goals as goal

pub returns : goal.returns
returns c = λ base file l is turn. sequenced base file l is turn
