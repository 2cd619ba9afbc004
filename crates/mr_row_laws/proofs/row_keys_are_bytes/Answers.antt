use Rattle.mr_row_laws.proofs.KeyBytes.{key_bytes_are}
use Rattle.mr_row_laws.proofs.row_keys_are_bytes.Goals as goal

pub returns : goal.returns
returns c = key_bytes_are
