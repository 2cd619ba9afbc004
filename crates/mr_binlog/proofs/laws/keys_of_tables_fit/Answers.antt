use Rattle.mr_binlog.proofs.KeysFit.{key_fits}
use Rattle.mr_binlog.proofs.laws.keys_of_tables_fit.Goals as goal

pub returns : goal.returns
returns c = key_fits
