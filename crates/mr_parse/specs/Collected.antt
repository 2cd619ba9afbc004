-- Tokens that were collected, and those that are still to come.
use Rattle.std.specs.Prelude.{◌≡◌, ℕ, List, ◌++◌, Option, Some, None}
use Rattle.mr_lex.specs.Reading.{Lexeme, Lexemes}

abbrev pub joined : List Lexeme → Lexemes → Lexemes
joined found more = record { found = found ++ more.found; bad = more.bad }

-- where all are tokens, these are all of them; else there is a bad place
abbrev pub AreAll : Lexemes → Option (List Lexeme) → Type 0
AreAll all (Some found) = all ≡ record { found = found; bad = None }
AreAll all None = (bad : ℕ) × (all.bad ≡ Some bad)
