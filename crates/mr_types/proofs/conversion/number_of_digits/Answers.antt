use Rattle.std.proofs.Common.{◌<◌, ◌^◌, ◌+◌, ◌*◌, ◌-◌, ℕ, arith, ap, sym, ◌∙◌, get_or}
use Rattle.std.proofs.lemmas.List.{take_all}
use Rattle.std.proofs.lemmas.Int.{to_z_pos}
use Rattle.std.specs.Int.{w128}
use Rattle.std.specs.Prelude.{pos}
use Rattle.mr_types.specs.Values.{number_from}
use Rattle.mr_types.proofs.Digits.{digit_at, number_less, number_small, number_step}
use Rattle.mr_types.proofs.conversion.number_of_digits.Goals as goal

pub overflow_mul-number : goal.overflow_mul-number
overflow_mul-number c =
    let xs = c.args.digits.now in
    let i = c.loop-digit.digit-index in
    let low : c.loop-digit.number < 10 ^ 37 = omega (arith, c.loop-digit.invariant, number_less xs i c.requires.all (omega arith) (omega (arith, c.requires.few))) in
    omega (arith, low)

pub overflow_add-number : goal.overflow_add-number
overflow_add-number c =
    let xs = c.args.digits.now in
    let i = c.loop-digit.digit-index in
    let low : c.loop-digit.number < 10 ^ 37 = omega (arith, c.loop-digit.invariant, number_less xs i c.requires.all (omega arith) (omega (arith, c.requires.few))) in
    let d = digit_at xs i c.requires.all (omega arith) in
    omega (arith, low, d.1)

pub loop-digit-preserved : goal.loop-digit-preserved
loop-digit-preserved c =
    let xs = c.args.digits.now in
    let i = c.loop-digit.digit-index in
    ap (λ (n : ℕ). 10 * n + (get_or xs i 0 - 48)) c.loop-digit.invariant ∙ sym (number_step xs i (omega arith))

pub overflow_cast-result : goal.overflow_cast-result
overflow_cast-result c =
    let xs = c.args.digits.now in
    let i = c.loop-digit.digit-index in
    let low : c.loop-digit.number < 10 ^ 38 = omega (arith, c.loop-digit.invariant, number_small xs i c.requires.all (omega arith) (omega (arith, c.requires.few))) in
    omega (arith, low)

pub returns : goal.returns
returns c =
    let xs = c.args.digits.now in
    let i = c.loop-digit.digit-index in
    let low : c.loop-digit.number < 10 ^ 38 = omega (arith, c.loop-digit.invariant, number_small xs i c.requires.all (omega arith) (omega (arith, c.requires.few))) in
    to_z_pos w128 c.loop-digit.number (omega (arith, low)) ∙ ap pos (c.loop-digit.invariant ∙ ap (number_from 0) (take_all i xs (omega arith)))
