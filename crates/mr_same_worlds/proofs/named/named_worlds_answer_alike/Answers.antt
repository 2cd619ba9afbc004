use Rattle.mr_same_worlds.proofs.Naming.{named-alike}
use Rattle.mr_same_worlds.proofs.named.named_worlds_answer_alike.Goals as goal

pub returns : goal.returns
returns c = named-alike
