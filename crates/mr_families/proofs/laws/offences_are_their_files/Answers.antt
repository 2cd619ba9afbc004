use Rattle.mr_families.proofs.ByPlace.{key_offends_by}
use Rattle.mr_families.proofs.laws.offences_are_their_files.Goals as goal

pub returns : goal.returns
returns c = λ f key i j file at same any. key_offends_by f.levels key i j file at same any
