use Rattle.mr_memcmp.proofs.ColumnTrip.{field_again}
use Rattle.mr_memcmp.proofs.laws.columns_come_back.Goals as goal

pub returns : goal.returns
returns c = field_again
