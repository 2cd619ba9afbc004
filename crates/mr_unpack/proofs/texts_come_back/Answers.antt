use Rattle.mr_unpack.proofs.Together.{comes_back}
use Rattle.mr_unpack.proofs.texts_come_back.Goals as goal

pub returns : goal.returns
returns c = comes_back
