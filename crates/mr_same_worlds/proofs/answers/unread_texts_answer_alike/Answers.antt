use Rattle.mr_same_worlds.proofs.Again.{unread-alike}
use Rattle.mr_same_worlds.proofs.answers.unread_texts_answer_alike.Goals as goal

pub returns : goal.returns
returns c = unread-alike
