use Rattle.mr_iter.specs.declared.one_of.OneOf.TheVariants.{Second}
use Rattle.mr_family.proofs.Gathering.{each_pushed, any_pushed, or_then, on_ok}
use Rattle.mr_family.proofs.parts.add_level.Goals as goal

pub returns-clause-whole : goal.returns-clause-whole
returns-clause-whole c = λ image all live apart. on_ok c.push.result (λ e. each_pushed _ c.args.parts.now.items c.push.new.list.items (Second (Second c.in_ok-cursor.cursor)) e all (c.in_ok-cursor.ensures.whole image live apart)) c.push.ensures

pub returns-clause-offends : goal.returns-clause-offends
returns-clause-offends c = λ image file at. on_ok c.push.result (λ e any. or_then (c.in_ok-cursor.ensures.offends image file at) (any_pushed _ c.args.parts.now.items c.push.new.list.items (Second (Second c.in_ok-cursor.cursor)) e any)) c.push.ensures
