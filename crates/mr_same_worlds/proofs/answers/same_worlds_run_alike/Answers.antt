use Rattle.mr_same_worlds.proofs.Again.{run-alike}
use Rattle.mr_same_worlds.proofs.answers.same_worlds_run_alike.Goals as goal

pub returns : goal.returns
returns c = λ old new ss now p q h all. run-alike ss old new now p q h all
