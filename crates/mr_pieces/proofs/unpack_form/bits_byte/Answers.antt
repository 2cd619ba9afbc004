use Rattle.std.proofs.Common.{arith, ◌<◌, ◌-◌, drop, length-drop, get_or}
use Rattle.mr_pieces.proofs.Restoring.{bits_small, lower_bit_small}
use Rattle.mr_pieces.proofs.unpack_form.bits_byte.Goals as goal

pub overflow_mul-bits : goal.overflow_mul-bits
overflow_mul-bits c =
    let small = bits_small (drop c.loop-at.at c.args.part.now) (omega (arith, length-drop c.loop-at.at c.args.part.now, c.requires)) in
    let low : c.loop-at.bits < 128 = omega (arith, small, c.loop-at.invariant.so_far) in
    omega (arith, low)

pub overflow_add-bits : goal.overflow_add-bits
overflow_add-bits c =
    let small = bits_small (drop c.loop-at.at c.args.part.now) (omega (arith, length-drop c.loop-at.at c.args.part.now, c.requires)) in
    let low : c.loop-at.bits < 128 = omega (arith, small, c.loop-at.invariant.so_far) in
    let one = lower_bit_small (get_or c.args.part.now (c.loop-at.at - 1) 0) in
    let bit : c.lower_bit_of.result < 2 = omega (arith, one, c.lower_bit_of.ensures) in
    omega (arith, low, bit)
