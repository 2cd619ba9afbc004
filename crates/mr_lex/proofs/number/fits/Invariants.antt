use Rattle.std.proofs.Common.{◌≡◌, ◌≤◌, ◌-◌, map, drop, true}
use Rattle.std.specs.List.{list_all}
use Rattle.std.specs.Int.Digits.{number_from_digits_after}
use Rattle.mr_lex.specs.Bytes.{is_digit}
use Rattle.mr_lex.specs.Tokens.{number_of}
use Rattle.mr_lex.proofs.number.fits.Given as goal

abbrev pub invariant-loop-digit : goal.invariant-loop-digit
invariant-loop-digit l = record {
  low : l.value ≤ 170141183460469231731687303715884105727;
  digits : list_all is_digit (drop l.digit-index l.digits) ≡ true;
  same : number_from_digits_after 10 l.value (map (λ b. b - 48) (drop l.digit-index l.digits)) ≡ number_of l.digits;
}
