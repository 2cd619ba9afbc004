use Rattle.std.proofs.Common.{◌≡◌, ◌∙◌, ap, ℕ, List, ◌+◌, arith, true, drop, length-drop}
use Rattle.std.proofs.lemmas.List.{drop-drop}
use Rattle.mr_lex.specs.Blank.{blank_front}
use Rattle.mr_lex.specs.Reading.{tokens_from}
use Rattle.mr_lex.proofs.Reading.{blank_step, tail}
use Rattle.mr_lex.proofs.lexer.behind_blank.Goals as goal

again : (at n k : ℕ) (s : List ℕ) → tokens_from at 0 (drop n (drop k s)) ≡ tokens_from at 0 (drop (k + n) s)
again at n k s = ap (tokens_from at 0) (drop-drop n k s)

pub loop-blank-preserved : goal.loop-blank-preserved
loop-blank-preserved c = record {
  within = omega arith;
  blank = c.blank_len-blank-in-loop-blank.ensures.len ∙ ap (blank_front true) (tail c.args.text.now (c.loop-blank.at + c.loop-blank.blank));
  fits = let h = c.blank_len-blank-in-loop-blank.ensures.within in let l = length-drop (c.loop-blank.at + c.loop-blank.blank) c.args.text.now in omega (arith, h, l);
  same = c.loop-blank.invariant.same ∙ blank_step c.loop-blank.at c.loop-blank.blank (drop c.loop-blank.at c.args.text.now) c.loop-blank.invariant.blank c.loop-blank-test.true ∙ again (c.loop-blank.at + c.loop-blank.blank) c.loop-blank.blank c.loop-blank.at c.args.text.now;
}
