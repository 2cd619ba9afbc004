use Rattle.mr_sound.proofs.Holding.{lawful-rows, seen-rows}
use Rattle.mr_sound.proofs.rows.rows_are_of_their_tables.Goals as goal

pub returns-clause-lawful : goal.returns-clause-lawful
returns-clause-lawful c = lawful-rows

pub returns-clause-seen : goal.returns-clause-seen
returns-clause-seen c = seen-rows
