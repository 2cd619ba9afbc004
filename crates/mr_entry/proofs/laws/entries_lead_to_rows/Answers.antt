use Rattle.mr_entry.proofs.RowKeys.{leads_to_row}
use Rattle.mr_entry.proofs.laws.entries_lead_to_rows.Goals as goal

pub returns : goal.returns
returns c = leads_to_row
