use Rattle.std.proofs.Common.{arith, sym, ◌∙◌}
use Rattle.std.proofs.lemmas.List.{take_rest, drop-drop, length-drop}
use Rattle.mr_pieces.proofs.Reading.{cut_at}
use Rattle.mr_pieces.proofs.reader.cut_text.Goals as goal

pub returns-then-branch : goal.returns-then-branch
returns-then-branch c =
    let key = c.args.key.now in
    let at = c.loop-at.at in
    let h = rw (c.if-branch.true, take_rest key at) at c.in_ok-text_head.ensures in
    cut_at key at _ _ _ c.loop-at.invariant.same h.1 c.split_at.ensures.front c.split_at.ensures.back

pub loop-at-preserved : goal.loop-at-preserved
loop-at-preserved c =
    let key = c.args.key.now in
    let at = c.loop-at.at in
    let h = rw (c.if-branch.false, take_rest key at) at c.in_ok-text_head.ensures in
    record {
      within = omega (arith, h.0, length-drop at key);
      same = rw (← drop-drop 9 at key) (sym h.1 ∙ c.loop-at.invariant.same);
    }
