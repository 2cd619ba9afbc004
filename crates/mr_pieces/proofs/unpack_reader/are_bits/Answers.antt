use Rattle.std.proofs.Common.{◌≡◌, ◌<◌, ◌+◌, ◌-◌, ◌/◌, ◌%◌, ◌^◌, ◌∙◌, arith, ap, sym, get_or}
use Rattle.mr_pieces.specs.Unpack.{lower_one}
use Rattle.mr_pieces.proofs.Restoring.{lower_bit_small}
use Rattle.mr_pieces.proofs.CaseBits.{again_from, again_step, again_small}
use Rattle.mr_pieces.proofs.unpack_reader.are_bits.Goals as goal

pub overflow_mul-again : goal.overflow_mul-again
overflow_mul-again c =
    let low : c.loop-at.again < 128 = omega (arith, c.loop-at.invariant.so_far, again_small c.args.bits c.args.piece.now c.loop-at.at c.requires (omega arith)) in
    omega (arith, low)

pub overflow_add-again : goal.overflow_add-again
overflow_add-again c =
    let low : c.loop-at.again < 128 = omega (arith, c.loop-at.invariant.so_far, again_small c.args.bits c.args.piece.now c.loop-at.at c.requires (omega arith)) in
    let bit : c.bit_again.result < 2 = omega (arith, c.bit_again.ensures, lower_bit_small (lower_one (c.args.bits / 2 ^ (c.loop-at.at - 1) % 2) (get_or c.args.piece.now (c.loop-at.at - 1) 0))) in
    omega (arith, low, bit)

pub loop-at-preserved : goal.loop-at-preserved
loop-at-preserved c =
    let i = c.loop-at.at - 1 in
    let next : i + 1 ≡ c.loop-at.at = omega arith in
    let step = again_step c.args.bits c.args.piece.now i (omega arith) in
    let so_far : c.loop-at.again ≡ again_from c.args.bits c.args.piece.now (i + 1) = c.loop-at.invariant.so_far ∙ ap (again_from c.args.bits c.args.piece.now) (sym next) in
    record {
      within = omega arith;
      so_far = omega (arith, step, so_far, c.bit_again.ensures);
    }
