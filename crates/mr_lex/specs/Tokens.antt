-- Which bytes are one token.
use Rattle.std.specs.Prelude.{ℕ, zero, suc, ◌+◌, ◌-◌, ◌^◌, List, [], ◌∷◌, Option, Some, None, if◌then◌else◌, Bool, true, false, not, ◌==◌, nat_le, nat_eq, ◌||◌, ◌&&◌, length, take, drop, map, is_some, codes}
use Rattle.std.specs.List.{list_all, prefix_len}
use Rattle.std.specs.Int.Digits.{number_from_digits}
use Rattle.std.specs.Option.{option_map}
use Rattle.std.specs.Cmp.Lexicographic.{pointwise}
use Rattle.mr_lex.specs.Bytes.{is_space, is_digit, is_letter, is_word_byte, is_hex_digit, is_empty, starts}
use Rattle.mr_lex.specs.Quoted.{closes, name_count, closes_pairs}
use Rattle.mr_lex.specs.declared.token.TokenKind.{TokenKind}
use Rattle.mr_lex.specs.declared.token.TokenKind.TheVariants.{Word, QuotedName, Number, Text, Bytes, Sign}

-- a letter in lower case
abbrev pub lowered : ℕ → ℕ
lowered b = if nat_le 65 b && nat_le b 90 then b + 32 else b

-- the word in front
abbrev pub word_of : List ℕ → List ℕ
word_of bytes = take (prefix_len is_word_byte bytes) bytes

abbrev pub behind_word : List ℕ → List ℕ
behind_word bytes = drop (prefix_len is_word_byte bytes) bytes

abbrev pub without_spaces : List ℕ → List ℕ
without_spaces bytes = drop (prefix_len is_space bytes) bytes

-- a text in `'` or `"`
abbrev pub is_text : ℕ → List ℕ → Bool
is_text most [] = false
is_text most (quote ∷ bytes) = (quote == 39 || quote == 34) && closes quote true 0 most bytes

abbrev pub is_same_word : List ℕ → List ℕ → Bool
is_same_word word bytes = pointwise nat_eq word (map lowered bytes)

-- pairs of hexadecimal digits in `'`
abbrev pub is_pairs : List ℕ → Bool
is_pairs [] = false
is_pairs (a ∷ bs) = a == 39 && closes_pairs bs

-- whether the first byte of `text`, its quote, stands in front of what follows
abbrev pub goes_on : List ℕ → List ℕ → Bool
goes_on [] rest = false
goes_on (quote ∷ text) rest = starts (λ b. b == quote) rest

-- a text, behind which its quote doesn't stand once more: then it would go on
abbrev pub is_whole_text : ℕ → List ℕ → List ℕ → Bool
is_whole_text most bytes rest = is_text most bytes && not (goes_on bytes rest)

-- what makes a word one token of bytes: pairs of digits behind `x`, a text of any bytes behind `_binary`
abbrev pub completes : List ℕ → List ℕ → List ℕ → Bool
completes word bytes rest =
    if is_same_word (codes "x") word then is_pairs bytes
    else is_same_word (codes "_binary") word && is_whole_text 255 (without_spaces bytes) rest

-- the value of decimal digits
abbrev pub number_of : List ℕ → ℕ
number_of digits = number_from_digits 10 (map (λ b. b - 48) digits)

-- `0x` and at least one hexadecimal digit
abbrev pub is_hex_number : List ℕ → Bool
is_hex_number [] = false
is_hex_number (a ∷ []) = false
is_hex_number (a ∷ b ∷ bs) = a == 48 && b == 120 && not (is_empty bs) && list_all is_hex_digit bs

-- ( ) , = < > + - * .
abbrev pub is_lone_sign : ℕ → Bool
is_lone_sign a = a == 40 || a == 41 || a == 44 || a == 61 || a == 60 || a == 62 || a == 43 || a == 45 || a == 42 || a == 46

-- <= >= <> !=
abbrev pub is_double_sign : ℕ → ℕ → Bool
is_double_sign a b = (a == 60 && (b == 61 || b == 62)) || (a == 62 && b == 61) || (a == 33 && b == 61)

abbrev pub is_sign : List ℕ → Bool
is_sign [] = false
is_sign (a ∷ []) = is_lone_sign a
is_sign (a ∷ b ∷ []) = is_double_sign a b
is_sign (a ∷ b ∷ c ∷ cs) = false

-- A kind, where the test passes.
abbrev pub where_holds : Bool → TokenKind → Option TokenKind
where_holds test kind = if test then Some kind else None

-- a word, or bytes that begin with one
abbrev pub word_kind : List ℕ → List ℕ → Option TokenKind
word_kind bytes rest =
    if is_empty (behind_word bytes) then Some Word
    else where_holds (completes (word_of bytes) (behind_word bytes) rest) Bytes

-- a number up to 2^127 - 1, behind which no letter and no digit stands, or bytes that begin with `0x`
abbrev pub digits_kind : List ℕ → List ℕ → Option TokenKind
digits_kind bytes rest =
    if list_all is_digit bytes then where_holds (nat_le (number_of bytes) (2 ^ 127 - 1) && not (starts is_word_byte rest)) Number
    else where_holds (is_hex_number bytes) Bytes

-- a name of 1 to 64 bytes in backticks
abbrev pub is_name : List ℕ → Bool
is_name [] = false
is_name (a ∷ bs) = a == 96 && closes 96 false 1 127 bs && nat_le 1 (name_count bs) && nat_le (name_count bs) 64

-- the kind of token that all of these bytes are, where `rest` stands behind them
abbrev pub kind_of : List ℕ → List ℕ → Option TokenKind
kind_of [] rest = None
kind_of (b ∷ bs) rest =
    if is_letter b then word_kind (b ∷ bs) rest
    else (if is_digit b then digits_kind (b ∷ bs) rest
    else (if b == 96 then where_holds (is_name (b ∷ bs) && not (goes_on (b ∷ bs) rest)) QuotedName
    else (if b == 39 || b == 34 then where_holds (is_whole_text 127 (b ∷ bs) rest) Text
    else where_holds (is_sign (b ∷ bs)) Sign)))

-- the kind of token that the first n bytes are
abbrev pub kind_at : ℕ → List ℕ → Option TokenKind
kind_at n text = kind_of (take n text) (drop n text)

-- the length of the longest front of at most k bytes that is a token, 0 where there is none
abbrev pub longest : ℕ → List ℕ → ℕ
longest zero text = 0
longest (suc k) text = if is_some (kind_at (suc k) text) then suc k else longest k text

-- the kind and the length of the token in front: the longest front that is one
abbrev pub first_token : List ℕ → Option (TokenKind × ℕ)
first_token text = let n = longest (length text) text in option_map (λ kind. (kind, n)) (kind_at n text)
