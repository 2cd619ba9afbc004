use Rattle.mr_dict.proofs.Putting.{removed_ordered}
use Rattle.mr_dict.proofs.dict.Dict.remove.Goals as goal

pub invariant_of-self : goal.invariant_of-self
invariant_of-self c = rw c.take_out.ensures (removed_ordered c.self.inside.entries.items c.args.at c.self.invariant)
