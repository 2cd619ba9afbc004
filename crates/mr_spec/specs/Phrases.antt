-- Phrases: each is taken off the front of a list of tokens, and gives a value and what stands behind it.
use Rattle.std.specs.Prelude.{ℕ, zero, suc, Bool, false, ◌&&◌, if◌then◌else◌, nat_le, List, [], ◌∷◌, ◌++◌, length, Option, Some, None, codes}
use Rattle.std.specs.Option.{option_map}
use Rattle.mr_lex.specs.Reading.{Lexeme}
use Rattle.mr_lex.specs.declared.token.TokenKind.{TokenKind}
use Rattle.mr_types.specs.Values.{number_from}
use Rattle.mr_spec.specs.Words.{is_word, is_number, is_text, is_keyword, is_sign, name_in, is_namelike, only_ascii, text_bytes}

abbrev pub Outcome : Type 0 → Type 0
Outcome A = Option (A × List Lexeme)

abbrev pub Phrase : Type 0 → Type 0
Phrase A = List Lexeme → Outcome A

abbrev pub and_then : {A B : Type 0} → Outcome A → (A → Phrase B) → Outcome B
and_then (Some p) f = f p.0 p.1
and_then None f = None

infixl 10 ◌>>=◌
abbrev pub ◌>>=◌ : {A B : Type 0} → Phrase A → (A → Phrase B) → Phrase B
p >>= f = λ ts. and_then (p ts) f

infixl 10 ◌>>◌
abbrev pub ◌>>◌ : {A B : Type 0} → Phrase A → Phrase B → Phrase B
p >> q = p >>= (λ _. q)

abbrev pub pure : {A : Type 0} → A → Phrase A
pure a = λ ts. Some (a, ts)

infixr 11 ◌<$>◌
abbrev pub ◌<$>◌ : {A B : Type 0} → (A → B) → Phrase A → Phrase B
f <$> p = p >>= (λ x. pure (f x))

abbrev pub refuse : {A : Type 0} → Phrase A
refuse = λ ts. None

-- goes on only where the test holds
unfoldable pub check : Bool → Phrase (Unit {0})
check test = λ ts. if test then Some (tt, ts) else None

-- goes on with the value, or with what is last where there is none
abbrev pub go_on : {A B : Type 0} → Option A → (A → Phrase B) → Phrase B → Phrase B
go_on (Some x) f last = f x
go_on None f last = last

-- ---- keywords and signs

unfoldable pub first_kind : List Lexeme → Option TokenKind
first_kind [] = None
first_kind (t ∷ ts) = Some t.kind

unfoldable pub sees : List ℕ → List Lexeme → Bool
sees word [] = false
sees word (t ∷ ts) = is_keyword word t

unfoldable pub sees_sign : List ℕ → List Lexeme → Bool
sees_sign sign [] = false
sees_sign sign (t ∷ ts) = is_sign sign t

-- without the first token
unfoldable pub behind : List Lexeme → List Lexeme
behind [] = []
behind (t ∷ ts) = ts

unfoldable pub after : List ℕ → List Lexeme → List Lexeme
after word ts = if sees word ts then behind ts else ts

unfoldable pub after_sign : List ℕ → List Lexeme → List Lexeme
after_sign sign ts = if sees_sign sign ts then behind ts else ts

-- takes the keyword, if it comes next
abbrev pub eat : List ℕ → Phrase Bool
eat word = λ ts. Some (sees word ts, after word ts)

abbrev pub eat_sign : List ℕ → Phrase Bool
eat_sign sign = λ ts. Some (sees_sign sign ts, after_sign sign ts)

-- the same, where it says nothing whether it comes
unfoldable pub maybe : List ℕ → Phrase Bool
maybe word = eat word

unfoldable pub maybe_sign : List ℕ → Phrase Bool
maybe_sign sign = eat_sign sign

unfoldable pub expect : List ℕ → Phrase (Unit {0})
expect word = λ ts. if sees word ts then Some (tt, behind ts) else None

unfoldable pub expect_sign : List ℕ → Phrase (Unit {0})
expect_sign sign = λ ts. if sees_sign sign ts then Some (tt, behind ts) else None

-- nothing stands behind
unfoldable pub ended : Phrase (Unit {0})
ended [] = Some (tt, [])
ended (t ∷ ts) = None

-- ---- names, words, numbers and texts

abbrev pub first_name : List Lexeme → Option (List ℕ)
first_name [] = None
first_name (t ∷ ts) = name_in t.kind t.bytes

unfoldable pub begins_name : List Lexeme → Bool
begins_name [] = false
begins_name (t ∷ ts) = is_namelike t.kind t.bytes

unfoldable pub name : Phrase (List ℕ)
name ts = option_map (λ n. (n, behind ts)) (first_name ts)

-- any word, also a reserved one
unfoldable pub word : Phrase (List ℕ)
word [] = None
word (t ∷ ts) = if is_word t.kind then option_map (λ w. (w, ts)) (only_ascii t.bytes) else None

unfoldable pub text : Phrase (List ℕ)
text [] = None
text (t ∷ ts) = if is_text t.kind then option_map (λ x. (x, ts)) (only_ascii (text_bytes t.bytes)) else None

abbrev pub within : ℕ → ℕ → ℕ → Option ℕ
within least most n = if nat_le least n && nat_le n most then Some n else None

-- a number from `least` to `most`
unfoldable pub number : ℕ → ℕ → Phrase ℕ
number least most [] = None
number least most (t ∷ ts) = if is_number t.kind then option_map (λ n. (n, ts)) (within least most (number_from 0 t.bytes)) else None

-- ---- lists. The number bounds the turns. Each turn takes a token, so the count of tokens is enough.

unfoldable pub separated_from : {A : Type 0} → Phrase Bool → Phrase A → ℕ → List A → Phrase (List A)
separated_from mark item zero found = refuse
separated_from mark item (suc n) found = do
  x ← item
  more ← mark
  if more then separated_from mark item n (found ++ x ∷ []) else pure (found ++ x ∷ [])

-- one or more, with the mark between two
abbrev pub separated : {A : Type 0} → Phrase Bool → Phrase A → Phrase (List A)
separated mark item = λ ts. separated_from mark item (length ts) [] ts

abbrev pub comma : Phrase Bool
comma = eat_sign (codes ",")

-- one or more, with commas between
abbrev pub listed : {A : Type 0} → Phrase A → Phrase (List A)
listed item = separated comma item

unfoldable pub in_parentheses : {A : Type 0} → Phrase A → Phrase A
in_parentheses item = do
  expect_sign (codes "(")
  x ← item
  expect_sign (codes ")")
  pure x

-- names with commas between
abbrev pub names : Phrase (List (List ℕ))
names = listed name

-- ( names )
abbrev pub names_in : Phrase (List (List ℕ))
names_in = in_parentheses names

-- what the keyword introduces, if it comes next
abbrev pub clause : {A : Type 0} → List ℕ → Phrase A → Phrase (Option A)
clause keyword item = do
  found ← eat keyword
  if found then Some <$> item else pure None
