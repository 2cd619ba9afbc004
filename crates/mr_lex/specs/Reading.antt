-- The tokens of a text, with white space and comments between them.
use Rattle.std.specs.Prelude.{◌≡◌, ℕ, zero, suc, pred, ◌+◌, ◌≤◌, ◌<◌, List, [], ◌∷◌, Option, Some, None, Result, Ok, Err, true, length, take, slice_range}
use Rattle.std.specs.Option.{option_map}
use Rattle.mr_lex.specs.Blank.{blank_front}
use Rattle.mr_lex.specs.Tokens.{first_token}
use Rattle.mr_lex.specs.declared.token.Token.{Token}
use Rattle.mr_lex.specs.declared.token.BadToken.{BadToken}
use Rattle.mr_lex.specs.declared.token.TokenKind.{TokenKind}

-- a token and its span, from `start` to before `end`
pub record Lexeme : Type 0 where
  pub kind : TokenKind
  pub bytes : List ℕ
  pub start : ℕ
  pub end : ℕ

-- tokens one after the other, and the place behind them where no token begins, if there is one
pub record Lexemes : Type 0 where
  pub found : List Lexeme
  pub bad : Option ℕ

abbrev pub none_left : Lexemes
none_left = record { found = []; bad = None }

abbrev pub bad_at : ℕ → Lexemes
bad_at at = record { found = []; bad = Some at }

abbrev pub with_first : Lexeme → Lexemes → Lexemes
with_first first more = record { found = first ∷ more.found; bad = more.bad }

-- what stands in front: white space or a comment, a token, or neither
pub data Piece : Type 0 where
  Blank : ℕ → Piece
  Lexed : TokenKind → ℕ → Piece
  Neither : Piece

abbrev pub lexed : Option (TokenKind × ℕ) → Piece
lexed None = Neither
lexed (Some x) = Lexed x.0 x.1

abbrev pub piece_by : ℕ → List ℕ → Piece
piece_by zero text = lexed (first_token text)
piece_by (suc n) text = Blank (suc n)

abbrev pub piece_of : List ℕ → Piece
piece_of text = piece_by (blank_front true text) text

abbrev pub piece_length : Piece → ℕ
piece_length (Blank n) = n
piece_length (Lexed kind n) = n
piece_length Neither = 0

-- the tokens of a text, where `piece` stands in front at the place `at`, and `more` are the tokens behind it
abbrev pub with_piece : Piece → ℕ → List ℕ → Lexemes → Lexemes
with_piece (Blank n) at text more = more
with_piece (Lexed kind n) at text more = with_first (record { kind = kind; bytes = take n text; start = at; end = at + n }) more
with_piece Neither at text more = bad_at at

-- the tokens of what stands at the place `at`, behind `skip` further bytes
abbrev pub tokens_from : ℕ → ℕ → List ℕ → Lexemes
tokens_from at skip [] = none_left
tokens_from at (suc k) (b ∷ bs) = tokens_from (at + 1) k bs
tokens_from at zero (b ∷ bs) =
    let piece = piece_of (b ∷ bs) in
    with_piece piece at (b ∷ bs) (tokens_from (at + 1) (pred (piece_length piece)) bs)

-- the tokens of a text
abbrev pub tokens_of : List ℕ → Lexemes
tokens_of text = tokens_from 0 0 text

-- the token as it is told
abbrev pub lexeme : Token → Lexeme
lexeme t = record { kind = t.kind; bytes = t.slice.now; start = t.start; end = t.end }

-- From the tokens left in `old` this was told, and `new` are left: the first of them, that none is left, or the bad
-- place, at which the reader stays.
abbrev pub IsNext : Lexemes → Result (Option Token) BadToken → Lexemes → Type 0
IsNext old (Ok None) new = (old ≡ none_left) × (new ≡ old)
IsNext old (Ok (Some t)) new = old ≡ with_first (lexeme t) new
IsNext old (Err bad) new = (old ≡ bad_at bad.0) × (new ≡ old)

-- each token is what its span of the text has, and the spans stand in order from the place `from` on
abbrev pub AreSpans : List ℕ → ℕ → List Lexeme → Type 0
AreSpans text from [] = Unit {0}
AreSpans text from (t ∷ ts) =
    (from ≤ t.start) × (t.start < t.end) × (t.end ≤ length text) × (t.bytes ≡ slice_range text t.start t.end) × AreSpans text t.end ts

-- the token that the first bytes of this text are, which stands at the place `at`
abbrev pub lexeme_at : ℕ → List ℕ → TokenKind × ℕ → Lexeme
lexeme_at at text x = record { kind = x.0; bytes = take x.1 text; start = at; end = at + x.1 }

-- the token in front of what stands at the place `at`
abbrev pub token_front : ℕ → List ℕ → Option Lexeme
token_front at text = option_map (lexeme_at at text) (first_token text)
