use Rattle.std.proofs.Common.{refl, arith}
use Rattle.mr_lex.proofs.Reading.{spans_from}
use Rattle.mr_lex.proofs.lexer.Lexer.new.Goals as goal

pub returns-clause-spans : goal.returns-clause-spans
returns-clause-spans c = spans_from c.args.text.now 0 0 0 c.args.text.now refl (omega arith)
