use Rattle.std.proofs.Common.{◌∙◌, sym}
use Rattle.mr_families.proofs.Telling.{some_from, none_from}
use Rattle.mr_families.proofs.places.none_in_memory.Goals as goal

pub returns-then-list-i : goal.returns-then-list-i
returns-then-list-i c = sym (c.looking.invariant ∙ some_from c.args.list.now c.looking.i c.index-list-i.result c.looking-test.true c.index-list-i.is c.requires c.if-list-i.true)

pub looking-preserved : goal.looking-preserved
looking-preserved c = c.looking.invariant ∙ none_from c.args.list.now c.looking.i c.index-list-i.result c.looking-test.true c.index-list-i.is c.requires c.if-list-i.false
