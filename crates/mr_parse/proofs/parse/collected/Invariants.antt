use Rattle.std.proofs.Common.{◌≡◌, length}
use Rattle.mr_lex.specs.Reading.{tokens_of}
use Rattle.mr_tokens.specs.Cursor.{lexemes}
use Rattle.mr_parse.specs.Collected.{joined}
use Rattle.mr_parse.proofs.parse.collected.Given as goal

abbrev pub invariant-loop-found : goal.invariant-loop-found
invariant-loop-found l = joined (lexemes l.found.items) l.lexer ≡ tokens_of l.text

abbrev pub decreases-loop-found : goal.decreases-loop-found
decreases-loop-found l = length l.lexer.found
