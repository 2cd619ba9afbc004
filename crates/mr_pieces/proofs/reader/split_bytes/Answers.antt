use Rattle.mr_pieces.proofs.Held.{takes_bytes}
use Rattle.mr_pieces.proofs.reader.split_bytes.Goals as goal

pub returns : goal.returns
returns c = takes_bytes c.args.key.now c.cut_bytes.result c.cut_bytes.ensures
