use Rattle.mr_entry.proofs.Copying.{row_size}
use Rattle.mr_entry.proofs.rows.primary_row.Goals as goal

pub row_of-requires-clause-size : goal.row_of-requires-clause-size
row_of-requires-clause-size c = row_size c.args.def.now c.args.key.now c.args.value.now c.in-Ok.row.row c.in-Ok.ensures.decodes.0
