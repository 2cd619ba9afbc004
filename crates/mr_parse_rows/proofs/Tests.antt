-- A test begins with its column, or with its literal.
use Rattle.std.proofs.Common.{◌≡◌, List, refl, if◌then◌else◌}
use Rattle.mr_lex.specs.Reading.{Lexeme}
use Rattle.mr_spec.specs.ConditionPhrases.{test, column_test, turned_test}
use Rattle.mr_spec.specs.Phrases.{begins_name}

pub by_front : (ts : List Lexeme) → test ts ≡ (if begins_name ts then column_test ts else turned_test ts)
unfolding test
by_front ts = refl
