use Rattle.mr_entry.proofs.EntryTakes.{entry_takes}
use Rattle.mr_entry.proofs.laws.only_entries_are_read.Goals as goal

pub returns : goal.returns
returns c = entry_takes
