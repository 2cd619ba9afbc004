-- Keywords, names, and what tokens say.
use Rattle.std.specs.Prelude.{ℕ, ◌+◌, ◌-◌, ◌*◌, ◌%◌, Bool, true, false, not, ◌&&◌, ◌||◌, ◌==◌, nat_le, nat_eq, if◌then◌else◌, List, [], ◌∷◌, ◌++◌, length, drop, Option, Some, None, codes}
use Rattle.std.specs.Cmp.Lexicographic.{pointwise}
use Rattle.mr_lex.specs.Bytes.{is_digit}
use Rattle.mr_lex.specs.Tokens.{is_same_word, without_spaces}
use Rattle.mr_lex.specs.Reading.{Lexeme}
use Rattle.mr_lex.specs.declared.token.TokenKind.{TokenKind}
use Rattle.mr_lex.specs.declared.token.TokenKind.TheVariants as kinds
use Rattle.mr_types.specs.Grammatical.{is_name, is_ascii_text}

-- ---- keywords and signs

abbrev pub is_word : TokenKind → Bool
is_word kinds.Word = true
is_word _ = false

abbrev pub is_number : TokenKind → Bool
is_number kinds.Number = true
is_number _ = false

abbrev pub is_text : TokenKind → Bool
is_text kinds.Text = true
is_text _ = false

abbrev pub is_bytes : TokenKind → Bool
is_bytes kinds.Bytes = true
is_bytes _ = false

abbrev pub is_sign_kind : TokenKind → Bool
is_sign_kind kinds.Sign = true
is_sign_kind _ = false

-- the keyword, given in small letters; its case is free
unfoldable pub is_keyword : List ℕ → Lexeme → Bool
is_keyword word t = is_word t.kind && is_same_word word t.bytes

unfoldable pub is_sign : List ℕ → Lexeme → Bool
is_sign sign t = is_sign_kind t.kind && pointwise nat_eq t.bytes sign

-- the words that are no names
unfoldable pub reserved : List (List ℕ)
reserved =
    codes "and" ∷ codes "asc" ∷ codes "between" ∷ codes "bigint" ∷ codes "by" ∷ codes "character" ∷ codes "collate" ∷ codes "create" ∷
    codes "default" ∷ codes "delete" ∷ codes "desc" ∷ codes "drop" ∷ codes "exists" ∷ codes "force" ∷ codes "from" ∷ codes "if" ∷
    codes "in" ∷ codes "index" ∷ codes "insert" ∷ codes "int" ∷ codes "integer" ∷ codes "into" ∷ codes "is" ∷ codes "key" ∷
    codes "limit" ∷ codes "lock" ∷ codes "not" ∷ codes "null" ∷ codes "on" ∷ codes "or" ∷ codes "order" ∷ codes "primary" ∷
    codes "release" ∷ codes "replace" ∷ codes "select" ∷ codes "set" ∷ codes "table" ∷ codes "to" ∷ codes "unique" ∷ codes "unlock" ∷
    codes "unsigned" ∷ codes "update" ∷ codes "values" ∷ codes "varbinary" ∷ codes "varchar" ∷ codes "where" ∷ codes "with" ∷ []

-- whether a word is one of these, without regard to case
abbrev pub is_among : List (List ℕ) → List ℕ → Bool
is_among [] word = false
is_among (w ∷ ws) word = is_same_word w word || is_among ws word

unfoldable pub is_reserved : List ℕ → Bool
is_reserved word = is_among reserved word

-- ---- what stands in quotes. Each of these goes from behind the opening quote to the closing one.

-- with a doubled quote as one
abbrev pub undoubled : ℕ → List ℕ → List ℕ
undoubled quote [] = []
undoubled quote (a ∷ []) = []
undoubled quote (a ∷ b ∷ bs) = if a == quote then a ∷ undoubled quote bs else a ∷ undoubled quote (b ∷ bs)

-- what a backslash and this byte stand for; `\%` and `\_` keep the backslash
unfoldable pub escaped_byte : ℕ → ℕ
escaped_byte b =
    if b == 48 then 0 else (if b == 98 then 8 else (if b == 110 then 10 else (if b == 114 then 13 else (if b == 116 then 9 else (if b == 90 then 26 else b)))))

unfoldable pub escaped : ℕ → List ℕ
escaped b = if b == 37 || b == 95 then 92 ∷ escaped_byte b ∷ [] else escaped_byte b ∷ []

-- with escapes too
abbrev pub unescaped : ℕ → List ℕ → List ℕ
unescaped quote [] = []
unescaped quote (a ∷ []) = []
unescaped quote (a ∷ b ∷ bs) =
    if a == quote then a ∷ unescaped quote bs
    else (if a == 92 then escaped b ++ unescaped quote bs else a ∷ unescaped quote (b ∷ bs))

-- the bytes of a text, whose first byte is its quote
unfoldable pub text_bytes : List ℕ → List ℕ
text_bytes [] = []
text_bytes (quote ∷ bytes) = unescaped quote bytes

-- ---- hexadecimal digits

-- 0 for any other byte
unfoldable pub hex_value : ℕ → ℕ
hex_value b = if is_digit b then b - 48 else (if nat_le 97 b && nat_le b 102 then b - 87 else (if nat_le 65 b && nat_le b 70 then b - 55 else 0))

-- a byte for each two digits
abbrev pub pairs_bytes : List ℕ → List ℕ
pairs_bytes [] = []
pairs_bytes (a ∷ []) = []
pairs_bytes (a ∷ b ∷ bs) = (16 * hex_value a + hex_value b) ∷ pairs_bytes bs

-- with a 0 in front where their number is odd
unfoldable pub padded_bytes : List ℕ → List ℕ
padded_bytes digits = if length digits % 2 == 1 then pairs_bytes (48 ∷ digits) else pairs_bytes digits

-- ---- the values of tokens

-- the bytes of a token of bytes: `0x` and digits, `_binary` and a text, or `x` and digits in quotes
unfoldable pub binary_bytes : List ℕ → List ℕ
binary_bytes [] = []
binary_bytes (b ∷ bs) =
    if b == 48 then padded_bytes (drop 1 bs)
    else (if b == 95 then text_bytes (without_spaces (drop 6 bs)) else pairs_bytes (drop 1 bs))

abbrev pub only_name : List ℕ → Option (List ℕ)
only_name name = if is_name name then Some name else None

abbrev pub only_ascii : List ℕ → Option (List ℕ)
only_ascii text = if is_ascii_text text then Some text else None

-- the name that a token is: a word that isn't reserved, or what stands in backticks; 1 to 64 bytes from 0x01 to 0x7F
unfoldable pub name_in : TokenKind → List ℕ → Option (List ℕ)
name_in kinds.Word bytes = if is_reserved bytes then None else only_name bytes
name_in kinds.QuotedName bytes = only_name (undoubled 96 (drop 1 bytes))
name_in _ bytes = None

-- whether a token can only be a name
unfoldable pub is_namelike : TokenKind → List ℕ → Bool
is_namelike kinds.Word bytes = not (is_reserved bytes)
is_namelike kinds.QuotedName bytes = true
is_namelike _ bytes = false
