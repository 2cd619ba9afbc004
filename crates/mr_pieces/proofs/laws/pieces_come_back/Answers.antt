use Rattle.mr_pieces.proofs.Kept.{come_back}
use Rattle.mr_pieces.proofs.laws.pieces_come_back.Goals as goal

pub returns : goal.returns
returns c = come_back
