use Rattle.std.proofs.Common.{arith, ap, ◌∙◌, ℕ, take, drop}
use Rattle.std.proofs.lemmas.List.{take_min, drop_min}
use Rattle.mr_pieces.proofs.Restoring.{bits_loop, bits_done}
use Rattle.mr_pieces.proofs.unpack_form.push_bits.Goals as goal

pub loop-rest-preserved : goal.loop-rest-preserved
loop-rest-preserved c =
    let rest = c.loop-rest.rest.now in
    bits_loop c.loop-rest.out.items _ rest _ _ _ _ (omega arith)
    (c.split_at.ensures.front ∙ ap (λ (n : ℕ). take n rest) c.min.ensures ∙ take_min 8 rest)
    (c.split_at.ensures.back ∙ ap (λ (n : ℕ). drop n rest) c.min.ensures ∙ drop_min 8 rest)
    c.bits_byte.ensures c.in_ok-push.ensures.items c.loop-rest.invariant

pub returns : goal.returns
returns c = bits_done c.loop-rest.out.items c.loop-rest.rest.now _ (omega arith) c.loop-rest.invariant
