use Rattle.std.proofs.Common.{◌≡◌, drop}
use Rattle.mr_words.specs.Form.{with_digits}
use Rattle.mr_words.proofs.numbers.number_of.Given as goal

abbrev pub invariant-digits : goal.invariant-digits
invariant-digits l = with_digits l.number (drop l.byte-index l.text) ≡ with_digits 0 l.text
