-- What stands in quotes.
use Rattle.std.specs.Prelude.{ℕ, suc, List, [], ◌∷◌, if◌then◌else◌, Bool, false, ◌==◌, ◌&&◌}
use Rattle.mr_lex.specs.Bytes.{is_within, is_hex_digit}

-- Whether this is what stands behind an opening quote, up to the quote that closes and with it. A doubled quote is
-- one quote that closes nothing; where there are escapes, a backslash takes the next byte with it. Bytes go from
-- `least` to `most`.
abbrev pub closes : ℕ → Bool → ℕ → ℕ → List ℕ → Bool
closes quote escapes least most [] = false
closes quote escapes least most (a ∷ []) = a == quote
closes quote escapes least most (a ∷ b ∷ bs) =
    if a == quote then b == quote && closes quote escapes least most bs
    else (if escapes && a == 92 then is_within least most b && closes quote escapes least most bs
    else is_within least most a && closes quote escapes least most (b ∷ bs))

-- how many bytes a name has, of which this stands behind the opening backtick: a doubled one counts once
abbrev pub name_count : List ℕ → ℕ
name_count [] = 0
name_count (a ∷ []) = 0
name_count (a ∷ b ∷ bs) = if a == 96 then suc (name_count bs) else suc (name_count (b ∷ bs))

-- pairs of hexadecimal digits and a closing quote
abbrev pub closes_pairs : List ℕ → Bool
closes_pairs [] = false
closes_pairs (a ∷ []) = a == 39
closes_pairs (a ∷ b ∷ bs) = is_hex_digit a && is_hex_digit b && closes_pairs bs
