use Rattle.std.proofs.Common.{◌∙◌, sym}
use Rattle.mr_store_memory.proofs.Others.{number_same, number_known}
use Rattle.mr_store_memory.proofs.readying.learn_number.Goals as goal

pub returns-clause-same : goal.returns-clause-same
returns-clause-same c = number_same c.args.number c.args.families.now c.learn.new.self c.learn.result (sym c.is_known.ensures ∙ c.if-is_known.false) c.learn.ensures.learnt c.learn.ensures.unchanged

pub returns-clause-known : goal.returns-clause-known
returns-clause-known c = number_known c.args.number c.args.families.now c.learn.new.self c.learn.result c.learn.ensures.learnt
