-- What a function that reads a phrase answers.
use Rattle.std.specs.Prelude.{◌≡◌, ◌≢◌, List, Option, Some, None, Result, Ok, Err}
use Rattle.mr_lex.specs.Reading.{Lexeme}
use Rattle.mr_spec.specs.Phrases.{Outcome}
use Rattle.mr_tokens.specs.declared.unread.Unread.{Unread}
use Rattle.mr_tokens.specs.declared.unread.Unread.TheVariants.{Memory}

-- the phrase's outcome, unless memory fails
abbrev pub Reads : {A : Type 0} → Outcome A → Result A Unread → List Lexeme → Type 0
Reads outcome (Ok a) new = outcome ≡ Some (a, new)
Reads outcome (Err e) new = e ≢ Memory → outcome ≡ None

-- the value, unless memory fails
abbrev pub IsGiven : {A : Type 0} → Option A → Result A Unread → Type 0
IsGiven given (Ok a) = given ≡ Some a
IsGiven given (Err e) = e ≢ Memory → given ≡ None
