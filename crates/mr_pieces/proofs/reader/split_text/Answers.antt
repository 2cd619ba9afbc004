use Rattle.mr_pieces.proofs.Held.{takes_text}
use Rattle.mr_pieces.proofs.reader.split_text.Goals as goal

pub returns : goal.returns
returns c = takes_text c.args.collation c.args.key.now c.cut_text.result c.cut_text.ensures
