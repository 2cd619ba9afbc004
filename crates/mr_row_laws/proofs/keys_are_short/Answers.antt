use Rattle.mr_row_laws.proofs.CheckedDefinitions.{checked_is_formed}
use Rattle.mr_row_laws.proofs.KeySizes.{key_size}
use Rattle.mr_row_laws.proofs.keys_are_short.Goals as goal

pub returns : goal.returns
returns c = λ text def row number index e is. key_size def row number index (checked_is_formed text def e) is
