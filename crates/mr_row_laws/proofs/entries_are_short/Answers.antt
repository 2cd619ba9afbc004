use Rattle.mr_row_laws.proofs.CheckedDefinitions.{checked_is_formed}
use Rattle.mr_row_laws.proofs.EntrySizes.{entry_size}
use Rattle.mr_row_laws.proofs.entries_are_short.Goals as goal

pub returns : goal.returns
returns c = λ text def row index e is. entry_size def row index (checked_is_formed text def e) is
