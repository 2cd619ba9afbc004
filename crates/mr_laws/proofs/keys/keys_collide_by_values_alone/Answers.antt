use Rattle.mr_laws.proofs.Colliding.{collide-by-values}
use Rattle.mr_laws.proofs.keys.keys_collide_by_values_alone.Goals as goal

pub returns : goal.returns
returns c = collide-by-values
