use Rattle.mr_views.proofs.Above.{one-above}
use Rattle.mr_views.proofs.numbers.next_numbers_are_one_above.Goals as goal

pub returns : goal.returns
returns c = one-above
