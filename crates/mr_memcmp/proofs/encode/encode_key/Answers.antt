use Rattle.mr_memcmp.proofs.Fitted.{row_fits}
use Rattle.mr_memcmp.proofs.encode.encode_key.Goals as goal

pub columns_of-requires : goal.columns_of-requires
columns_of-requires c = row_fits c.args.def.now c.args.row.now c.args.columns.now c.requires
