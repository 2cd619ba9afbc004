-- One text for each statement: keywords in small letters, names in backticks, numbers in decimal, texts in single quotes, bytes
-- in pairs of digits, and a blank in front of each token.
use Rattle.std.specs.Prelude.{ℕ, ◌+◌, ◌/◌, ◌%◌, Bool, true, false, not, ◌&&◌, ◌||◌, ◌==◌, nat_lt, if◌then◌else◌, List, [], ◌∷◌, map, codes}
use Rattle.std.specs.List.{list_all}
use Rattle.std.specs.Fmt.{decimal}
use Rattle.mr_lex.specs.Bytes.{is_letter, is_word_byte}
use Rattle.mr_lex.specs.Tokens.{is_same_word}
use Rattle.mr_lex.specs.declared.token.TokenKind.{TokenKind}
use Rattle.mr_lex.specs.declared.token.TokenKind.TheVariants as kinds
use Rattle.mr_types.specs.Grammatical.{where_given}
use Rattle.mr_types.specs.declared.statement.Statement.{Statement}
use Rattle.mr_types.specs.declared.statement.Statement.TheVariants as statements
use Rattle.mr_spelling.specs.Parts.{Part, Keyword, Mark, Name, Count, Quoted, Octets, Plain}
use Rattle.mr_spelling.specs.Texts.{Written, text_of}
use Rattle.mr_spelling.specs.Statements.{spelled_statement}

-- behind a backtick: each backtick twice, and one that closes
abbrev pub doubled : List ℕ → List ℕ
doubled [] = 96 ∷ []
doubled (b ∷ bs) = if b == 96 then 96 ∷ 96 ∷ doubled bs else b ∷ doubled bs

-- behind a single quote: quotes and backslashes behind a backslash, and one quote that closes
abbrev pub escaping : List ℕ → List ℕ
escaping [] = 39 ∷ []
escaping (b ∷ bs) = if b == 39 || b == 92 then 92 ∷ b ∷ escaping bs else b ∷ escaping bs

abbrev pub hex_digit : ℕ → ℕ
hex_digit n = if nat_lt n 10 then n + 48 else n + 87

-- behind `x` and a quote: two digits for each byte, and one quote that closes
abbrev pub hex_digits : List ℕ → List ℕ
hex_digits [] = 39 ∷ []
hex_digits (b ∷ bs) = hex_digit (b / 16) ∷ hex_digit (b % 16) ∷ hex_digits bs

abbrev pub bytes_of : Part → List ℕ
bytes_of (Keyword word) = word
bytes_of (Mark sign) = sign
bytes_of (Name name) = 96 ∷ doubled name
bytes_of (Count n) = decimal n
bytes_of (Quoted text) = 39 ∷ escaping text
bytes_of (Octets bytes) = 120 ∷ 39 ∷ hex_digits bytes
bytes_of (Plain word) = word

abbrev pub kind_of : Part → TokenKind
kind_of (Keyword word) = kinds.Word
kind_of (Mark sign) = kinds.Sign
kind_of (Name name) = kinds.QuotedName
kind_of (Count n) = kinds.Number
kind_of (Quoted text) = kinds.Text
kind_of (Octets bytes) = kinds.Bytes
kind_of (Plain word) = kinds.Word

abbrev pub written : Part → Written
written p = record { gap = 32 ∷ []; kind = kind_of p; bytes = bytes_of p }

-- the tokens of the statement, a blank in front of each
abbrev pub text_of_statement : Statement → List ℕ
text_of_statement s = text_of (map written (spelled_statement s)) []

-- a word that is one token: letters, digits, `_` and `$`, no digit in front, and not `_binary`, with which a text behind it would be one
abbrev pub is_plain_word : List ℕ → Bool
is_plain_word [] = false
is_plain_word (b ∷ bs) = is_letter b && (list_all is_word_byte bs && not (is_same_word (codes "_binary") (b ∷ bs)))

-- the word behind ENGINE, of which a statement says only that it is ASCII
abbrev pub has_plain_engine : Statement → Bool
has_plain_engine (statements.CreateTable text if_not_exists engine) = where_given is_plain_word engine
has_plain_engine _ = true
