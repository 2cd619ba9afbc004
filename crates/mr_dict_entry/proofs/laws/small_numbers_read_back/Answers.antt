use Rattle.mr_dict_entry.proofs.SmallNumbers.{small_back}
use Rattle.mr_dict_entry.proofs.laws.small_numbers_read_back.Goals as goal

pub returns : goal.returns
returns c = small_back
