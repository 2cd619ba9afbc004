use Rattle.mr_memcmp.proofs.KeyTrip.{key_again}
use Rattle.mr_memcmp.proofs.laws.keys_come_back.Goals as goal

pub returns : goal.returns
returns c = key_again
