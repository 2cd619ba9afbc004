use Rattle.mr_entry.proofs.HeldEntries.{entry_is_held}
use Rattle.mr_entry.proofs.laws.entries_are_held.Goals as goal

pub returns : goal.returns
returns c = entry_is_held
