use Rattle.std.proofs.Common.{arith, ◌∙◌, ap, ◌++◌, ◌∷◌, [], ℕ, drop}
use Rattle.mr_pieces.specs.Pieces.{text_from, mark}
use Rattle.mr_pieces.proofs.Cutting.{text_step, text_last, cut_more, cut_last}
use Rattle.mr_pieces.proofs.writer.push_pieces.Goals as goal

pub loop-rest-preserved : goal.loop-rest-preserved
loop-rest-preserved c =
    let behind = c.mark_behind.ensures ∙ ap mark c.split_at.ensures.back in (
      cut_more (text_from 8) (mark (drop 8 c.loop-rest.rest.now)) c.loop-rest.rest.now _ _ c.loop-rest.out.items _ _ _ (text_step c.loop-rest.rest.now (omega arith)) c.split_at.ensures.front c.split_at.ensures.back
          c.in_ok-extend_from_slice.ensures.items (c.in_ok-push.ensures.items ∙ ap (λ (m : ℕ). c.extend_from_slice.new.self.items ++ m ∷ []) behind) c.loop-rest.invariant.0,
      omega (arith, c.spaces_in_front-spaces.ensures),
    )

pub returns : goal.returns
returns c =
    cut_last (text_from 8) 32 2 c.loop-rest.rest.now c.loop-rest.out.items _ _ _ _ (text_last 8 c.loop-rest.rest.now (omega arith))
    c.in_ok-extend_from_slice-2.ensures.items c.in_ok-push_many.ensures c.in_ok-push-2.ensures.items c.loop-rest.invariant.0
