use Rattle.std.proofs.Common.{◌≡◌, map, nat_eq, drop, length}
use Rattle.std.specs.Cmp.Lexicographic.{pointwise}
use Rattle.mr_lex.specs.Tokens.{lowered}
use Rattle.mr_tokens.proofs.words.is_same.Given as goal

abbrev pub invariant-loop-i : goal.invariant-loop-i
invariant-loop-i l = record {
  long : length l.bytes ≡ length l.word;
  same : pointwise nat_eq (drop l.i l.word) (map lowered (drop l.i l.bytes)) ≡ pointwise nat_eq l.word (map lowered l.bytes);
}
