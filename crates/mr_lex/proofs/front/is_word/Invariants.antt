use Rattle.std.proofs.Common.{◌≡◌, map, nat_eq, drop, length}
use Rattle.std.specs.Cmp.Lexicographic.{pointwise}
use Rattle.mr_lex.specs.Tokens.{lowered}
use Rattle.mr_lex.proofs.front.is_word.Given as goal

abbrev pub invariant-loop-i : goal.invariant-loop-i
invariant-loop-i l = record {
  long : length l.word ≡ length l.lowercase;
  same : pointwise nat_eq (drop l.i l.lowercase) (map lowered (drop l.i l.word)) ≡ pointwise nat_eq l.lowercase (map lowered l.word);
}
