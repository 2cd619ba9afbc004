-- Where a reader of tokens stands.
use Rattle.std.specs.Prelude.{List, map}
use Rattle.mr_lex.specs.Reading.{Lexeme, lexeme}
use Rattle.mr_lex.specs.declared.token.Token.{Token}

abbrev pub lexemes : List Token → List Lexeme
lexemes ts = map lexeme ts
