use Rattle.std.proofs.Common.{◌≡◌, ◌≤◌, ◌-◌, true, length, drop}
use Rattle.mr_lex.specs.Blank.{blank_front}
use Rattle.mr_lex.specs.Reading.{tokens_from}
use Rattle.mr_lex.proofs.lexer.behind_blank.Given as goal

abbrev pub invariant-loop-blank : goal.invariant-loop-blank
invariant-loop-blank l = record {
  within : l.at ≤ length l.text;
  blank : l.blank ≡ blank_front true (drop l.at l.text);
  fits : l.blank ≤ length l.text - l.at;
  same : tokens_from l.fn.from 0 (drop l.fn.from l.text) ≡ tokens_from l.at 0 (drop l.at l.text);
}

abbrev pub decreases-loop-blank : goal.decreases-loop-blank
decreases-loop-blank l = length l.text - l.at
