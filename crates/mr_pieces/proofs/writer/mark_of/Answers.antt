use Rattle.std.proofs.Common.{◌∙◌, sym, arith}
use Rattle.std.proofs.lemmas.List.{at_drop_all}
use Rattle.mr_pieces.specs.Pieces.{mark}
use Rattle.mr_pieces.proofs.Texts.{mark_nil}
use Rattle.mr_pieces.proofs.Cutting.{mark_more, mark_low, mark_high}
use Rattle.mr_pieces.proofs.writer.mark_of.Goals as goal

pub returns-then-b-lt32 : goal.returns-then-b-lt32
returns-then-b-lt32 c = sym (mark_low c.args.rest.now c.loop-b.b-index (omega arith) (omega arith)) ∙ c.loop-b.invariant

pub returns-then-b-gt32 : goal.returns-then-b-gt32
returns-then-b-gt32 c = sym (mark_high c.args.rest.now c.loop-b.b-index (omega arith) (omega arith)) ∙ c.loop-b.invariant

pub loop-b-preserved : goal.loop-b-preserved
loop-b-preserved c = sym (mark_more c.args.rest.now c.loop-b.b-index (omega arith) (omega arith)) ∙ c.loop-b.invariant

pub returns : goal.returns
returns c = sym mark_nil ∙ sym (at_drop_all mark c.args.rest.now c.loop-b.b-index (omega arith)) ∙ c.loop-b.invariant
