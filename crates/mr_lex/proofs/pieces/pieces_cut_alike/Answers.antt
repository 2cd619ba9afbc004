use Rattle.mr_lex.proofs.Alike.{pieces_alike}
use Rattle.mr_lex.proofs.pieces.pieces_cut_alike.Goals as goal

pub returns : goal.returns
returns c = pieces_alike
