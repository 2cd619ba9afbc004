use Rattle.mr_engine_log.proofs.Opened.{new_log}
use Rattle.mr_engine_log.proofs.laws.a_new_log_leaves_nothing.Goals as goal

pub returns : goal.returns
returns c = λ base. new_log base
