use Rattle.mr_spec.proofs.Colliding.{collides}
use Rattle.mr_spec.proofs.laws.same_values_collide.Goals as goal

pub returns : goal.returns
returns c = collides
