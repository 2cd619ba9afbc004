use Rattle.mr_entry.proofs.EntryTrip.{entry_again}
use Rattle.mr_entry.proofs.laws.entries_come_back.Goals as goal

pub returns : goal.returns
returns c = entry_again
