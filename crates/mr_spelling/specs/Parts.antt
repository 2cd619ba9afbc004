-- The parts that a statement is spelled with, and the tokens that spell each.
use Rattle.std.specs.Prelude.{◌≡◌, ℕ, true, List, [], ◌∷◌, Some}
use Rattle.mr_lex.specs.Reading.{Lexeme}
use Rattle.mr_lex.specs.Tokens.{is_same_word}
use Rattle.mr_lex.specs.declared.token.TokenKind.{TokenKind}
use Rattle.mr_lex.specs.declared.token.TokenKind.TheVariants as kinds
use Rattle.mr_types.specs.Values.{number_from}
use Rattle.mr_spec.specs.Words.{name_in, text_bytes, binary_bytes}

pub data Part : Type 0 where
  -- in small letters
  Keyword : List ℕ → Part
  Mark : List ℕ → Part
  Name : List ℕ → Part
  Count : ℕ → Part
  Quoted : List ℕ → Part
  Octets : List ℕ → Part
  -- a word as it stands
  Plain : List ℕ → Part

-- The bytes of a token of this kind spell the part: a keyword in any case, a name as a word or in backticks, a number with any
-- zeros in front, a text in either quotes and with any escapes, bytes in any of their forms.
abbrev pub IsToken : Part → TokenKind → List ℕ → Type 0
IsToken (Keyword word) kind bytes = (kind ≡ kinds.Word) × (is_same_word word bytes ≡ true)
IsToken (Mark sign) kind bytes = (kind ≡ kinds.Sign) × (bytes ≡ sign)
IsToken (Name name) kind bytes = name_in kind bytes ≡ Some name
IsToken (Count n) kind bytes = (kind ≡ kinds.Number) × (number_from 0 bytes ≡ n)
IsToken (Quoted text) kind bytes = (kind ≡ kinds.Text) × (text_bytes bytes ≡ text)
IsToken (Octets octets) kind bytes = (kind ≡ kinds.Bytes) × (binary_bytes bytes ≡ octets)
IsToken (Plain word) kind bytes = (kind ≡ kinds.Word) × (bytes ≡ word)

abbrev pub IsPart : Part → Lexeme → Type 0
IsPart p t = IsToken p t.kind t.bytes

-- one token for each part
abbrev pub Spell : List Lexeme → List Part → Type 0
Spell [] [] = Unit {0}
Spell [] (p ∷ ps) = ⊥
Spell (t ∷ ts) [] = ⊥
Spell (t ∷ ts) (p ∷ ps) = IsPart p t × Spell ts ps
