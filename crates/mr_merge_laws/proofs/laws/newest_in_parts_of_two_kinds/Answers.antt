use Rattle.mr_merge_laws.proofs.Latest.{newest_in_two}
use Rattle.mr_merge_laws.proofs.laws.newest_in_parts_of_two_kinds.Goals as goal

pub returns : goal.returns
returns c = λ number key p parts all. newest_in_two number key p parts all
