use Rattle.mr_lex.proofs.Numbers.{few_digits, digits_left, too_large}
use Rattle.mr_lex.proofs.number.fits.Goals as goal

pub returns-then-digits-le-SAFE_DIGITS : goal.returns-then-digits-le-SAFE_DIGITS
returns-then-digits-le-SAFE_DIGITS c = few_digits c.args.digits.now c.requires c.if-digits-le-SAFE_DIGITS.true

pub returns-then-value-next : goal.returns-then-value-next
returns-then-value-next c = too_large c.args.digits.now c.loop-digit.digit-index c.loop-digit.value c.loop-digit-test.true c.if-value-next.true
    (digits_left c.args.digits.now c.loop-digit.digit-index c.loop-digit-test.true c.loop-digit.invariant.digits).0 c.loop-digit.invariant.same
