use Rattle.mr_schema.proofs.CheckedDefinitions.{checked_fits, checked_key_fits}
use Rattle.mr_schema.proofs.laws.checked_definitions_fit.Goals as goal

pub returns : goal.returns
returns c = record { definitions = checked_fits; keys = checked_key_fits }
