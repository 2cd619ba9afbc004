use Rattle.mr_sound.proofs.Tuples.{draws-few}
use Rattle.mr_sound.proofs.numbers.draws_are_few.Goals as goal

pub returns : goal.returns
returns c = draws-few
