use Rattle.mr_same_worlds.proofs.Again.{answer-alike}
use Rattle.mr_same_worlds.proofs.answers.same_worlds_answer_alike.Goals as goal

pub returns : goal.returns
returns c = answer-alike
