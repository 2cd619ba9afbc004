use Rattle.mr_dict_entry.proofs.Smallness.{all_small}
use Rattle.mr_dict_entry.proofs.write.are_small.Goals as goal

pub returns : goal.returns
returns c = all_small c.args.numbers.now c.type_inv.numbers
