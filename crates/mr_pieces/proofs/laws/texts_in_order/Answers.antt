use Rattle.mr_pieces.proofs.Kept.{in_order}
use Rattle.mr_pieces.proofs.laws.texts_in_order.Goals as goal

pub returns : goal.returns
returns c = in_order
