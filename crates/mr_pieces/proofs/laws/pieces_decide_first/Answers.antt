use Rattle.mr_pieces.proofs.Kept.{decide_first}
use Rattle.mr_pieces.proofs.laws.pieces_decide_first.Goals as goal

pub returns : goal.returns
returns c = decide_first
