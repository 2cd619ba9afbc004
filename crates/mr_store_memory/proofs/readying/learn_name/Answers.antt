use Rattle.mr_store_memory.proofs.Named.{no_name_turns, named_readies, named_turns}
use Rattle.mr_store_memory.proofs.readying.learn_name.Goals as goal

pub returns-in-None-clause-turned : goal.returns-in-None-clause-turned
returns-in-None-clause-turned c = no_name_turns c.args.operation.now c.args.families.now c.in-None.ensures.none

pub returns-in-Some-clause-readied : goal.returns-in-Some-clause-readied
returns-in-Some-clause-readied c =
    named_readies c.learn.result c.args.operation.now c.in-Some.number c.in-Some.direction c.args.families.now c.learn.new.self c.in-Some.ensures.named c.learn.ensures.learnt c.learn.ensures.unchanged

pub returns-in-Some-clause-turned : goal.returns-in-Some-clause-turned
returns-in-Some-clause-turned c = named_turns c.learn.result c.args.operation.now c.in-Some.number c.in-Some.direction c.args.families.now c.learn.new.self c.in-Some.ensures.named c.learn.ensures.learnt
