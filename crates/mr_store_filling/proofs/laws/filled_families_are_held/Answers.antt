use Rattle.mr_families.specs.Known.{family_at}
use Rattle.mr_store_filling.proofs.Holding.{filled_held, filled_cached, nothing_held}
use Rattle.mr_store_filling.proofs.laws.filled_families_are_held.Goals as goal

pub returns-clause-held : goal.returns-clause-held
returns-clause-held c = λ image runs batches a b d empty named directed opened added. filled_held image runs batches a b d empty opened added named directed

pub returns-clause-cached : goal.returns-clause-cached
returns-clause-cached c = λ image runs batches a b d empty opened added f. nothing_held image (family_at d f) (filled_cached image runs batches a b d empty opened added f)
