use Rattle.mr_row_laws.proofs.CheckedDefinitions.{checked_is_codable}
use Rattle.mr_row_laws.proofs.checked_definitions_are_codable.Goals as goal

pub returns : goal.returns
returns c = checked_is_codable
