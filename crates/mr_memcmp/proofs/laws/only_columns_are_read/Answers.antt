use Rattle.mr_memcmp.proofs.ColumnTakes.{field_takes}
use Rattle.mr_memcmp.proofs.laws.only_columns_are_read.Goals as goal

pub returns : goal.returns
returns c = field_takes
