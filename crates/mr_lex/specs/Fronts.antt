-- The token in front by its first byte: how far each kind of token goes.
use Rattle.std.specs.Prelude.{ℕ, ◌+◌, ◌-◌, ◌^◌, List, [], ◌∷◌, Option, Some, None, if◌then◌else◌, Bool, true, false, not, ◌==◌, nat_le, ◌||◌, ◌&&◌, take, drop, codes}
use Rattle.std.specs.List.{prefix_len}
use Rattle.std.specs.Option.{option_map}
use Rattle.mr_lex.specs.Bytes.{is_space, is_digit, is_letter, is_word_byte, is_hex_digit, is_within, starts}
use Rattle.mr_lex.specs.Quoted.{name_count}
use Rattle.mr_lex.specs.Tokens.{word_of, behind_word, without_spaces, is_same_word, number_of, is_lone_sign, is_double_sign}
use Rattle.mr_lex.specs.declared.token.TokenKind.{TokenKind}
use Rattle.mr_lex.specs.declared.token.TokenKind.TheVariants.{Word, QuotedName, Number, Text, Bytes, Sign}

-- the place behind the closing quote, where what is behind the opening one stands at the place `at`
abbrev pub quoted_end : ℕ → Bool → ℕ → ℕ → ℕ → List ℕ → Option ℕ
quoted_end quote escapes least most at [] = None
quoted_end quote escapes least most at (a ∷ []) = if a == quote then Some (at + 1) else None
quoted_end quote escapes least most at (a ∷ b ∷ bs) =
    if a == quote then (if b == quote then quoted_end quote escapes least most (at + 2) bs else Some (at + 1))
    else (if escapes && a == 92 then (if is_within least most b then quoted_end quote escapes least most (at + 2) bs else None)
    else (if is_within least most a then quoted_end quote escapes least most (at + 1) (b ∷ bs) else None))

-- the same for pairs of hexadecimal digits
abbrev pub pairs_end : ℕ → List ℕ → Option ℕ
pairs_end at [] = None
pairs_end at (a ∷ []) = if a == 39 then Some (at + 1) else None
pairs_end at (a ∷ b ∷ bs) =
    if a == 39 then Some (at + 1)
    else (if is_hex_digit a && is_hex_digit b then pairs_end (at + 2) bs else None)

-- the length of a text in front
abbrev pub text_front : ℕ → List ℕ → Option ℕ
text_front most [] = None
text_front most (quote ∷ bytes) = if quote == 39 || quote == 34 then quoted_end quote true 0 most 1 bytes else None

abbrev pub pairs_front : List ℕ → Option ℕ
pairs_front [] = None
pairs_front (a ∷ bs) = if a == 39 then pairs_end 1 bs else None

-- how many bytes behind this word complete it to a token of bytes
abbrev pub completed : List ℕ → List ℕ → Option ℕ
completed word bytes =
    if is_same_word (codes "x") word then pairs_front bytes
    else (if is_same_word (codes "_binary") word then option_map (λ n. prefix_len is_space bytes + n) (text_front 255 (without_spaces bytes)) else None)

-- a token of bytes that so many bytes behind a word complete, else the word
abbrev pub word_or : ℕ → Option ℕ → TokenKind × ℕ
word_or len None = (Word, len)
word_or len (Some n) = (Bytes, len + n)

abbrev pub word_front : List ℕ → Option (TokenKind × ℕ)
word_front text = Some (word_or (prefix_len is_word_byte text) (completed (word_of text) (behind_word text)))

-- whether `0x` and a hexadecimal digit stand in front
abbrev pub begins_hex : List ℕ → Bool
begins_hex [] = false
begins_hex (a ∷ []) = false
begins_hex (a ∷ b ∷ bs) = a == 48 && b == 120 && starts is_hex_digit bs

abbrev pub if_so : Bool → TokenKind → ℕ → Option (TokenKind × ℕ)
if_so test kind len = if test then Some (kind, len) else None

abbrev pub digits_front : List ℕ → Option (TokenKind × ℕ)
digits_front text =
    if begins_hex text then Some (Bytes, 2 + prefix_len is_hex_digit (drop 2 text))
    else (let n = prefix_len is_digit text in if_so (nat_le (number_of (take n text)) (2 ^ 127 - 1) && not (starts is_word_byte (drop n text))) Number n)

abbrev pub name_if : Option ℕ → List ℕ → Option (TokenKind × ℕ)
name_if None bytes = None
name_if (Some n) bytes = let count = name_count (take (n - 1) bytes) in if_so (nat_le 1 count && nat_le count 64) QuotedName n

abbrev pub of_kind : TokenKind → Option ℕ → Option (TokenKind × ℕ)
of_kind kind len = option_map (λ n. (kind, n)) len

abbrev pub sign_front : List ℕ → Option (TokenKind × ℕ)
sign_front [] = None
sign_front (a ∷ []) = if_so (is_lone_sign a) Sign 1
sign_front (a ∷ b ∷ bs) = if is_double_sign a b then Some (Sign, 2) else if_so (is_lone_sign a) Sign 1

abbrev pub front_of : List ℕ → Option (TokenKind × ℕ)
front_of [] = None
front_of (b ∷ bs) =
    if is_letter b then word_front (b ∷ bs)
    else (if is_digit b then digits_front (b ∷ bs)
    else (if b == 96 then name_if (quoted_end 96 false 1 127 1 bs) bs
    else (if b == 39 || b == 34 then of_kind Text (text_front 127 (b ∷ bs))
    else sign_front (b ∷ bs))))
