use Rattle.std.proofs.Common.{arith}
use Rattle.mr_memcmp.proofs.Fitted.{fits_at}
use Rattle.mr_memcmp.proofs.encode.push_parts.Goals as goal

pub push_part-requires : goal.push_part-requires
push_part-requires c = fits_at c.args.columns.now c.args.values.now c.args.places.now c.loop-at.at-index c.requires (omega arith)
