-- Which words of the command line are in form, and what they say.
use Rattle.std.specs.Prelude.{ℕ, ◌+◌, ◌-◌, ◌*◌, ◌^◌, Bool, true, false, ◌&&◌, ◌||◌, nat_lt, nat_le, nat_eq, ◌==◌, if◌then◌else◌, List, [], ◌∷◌, ◌++◌, length, take, drop, codes, Option, Some, None, option_and_then, option_map}
use Rattle.std.specs.Option.{option_map_or, option_or}
use Rattle.std.specs.Cmp.Lexicographic.{pointwise}
use Rattle.mr_moments.specs.declared.source.Moments.{Moments}
use Rattle.mr_moments.specs.declared.source.Moments.TheVariants.{System, Given}

-- ---- seconds

abbrev pub is_digit : ℕ → Bool
is_digit b = nat_le 48 b && nat_le b 57

-- a number with one more digit behind it, none where it is no digit, or the number reaches 2^64
abbrev pub with_digit : ℕ → ℕ → Option ℕ
with_digit n b = if is_digit b && nat_lt (10 * n + (b - 48)) (2 ^ 64) then Some (10 * n + (b - 48)) else None

-- a number with these digits behind it
abbrev pub with_digits : ℕ → List ℕ → Option ℕ
with_digits n [] = Some n
with_digits n (b ∷ bs) = option_and_then (λ m. with_digits m bs) (with_digit n b)

-- 1 to 20 decimal digits
abbrev pub seconds_of : List ℕ → Option ℕ
seconds_of text = if nat_lt 0 (length text) && nat_le (length text) 20 then with_digits 0 text else None

-- ---- lists

-- what stands between commas, with the bytes of the first part so far
abbrev pub parts_from : List ℕ → List ℕ → List (List ℕ)
parts_from front [] = front ∷ []
parts_from front (b ∷ bs) = if b == 44 then front ∷ parts_from [] bs else parts_from (front ++ b ∷ []) bs

-- these values, and those of the parts
abbrev pub with_values : List ℕ → List (List ℕ) → Option (List ℕ)
with_values values [] = Some values
with_values values (part ∷ parts) = option_and_then (λ n. with_values (values ++ n ∷ []) parts) (seconds_of part)

-- one value or more, with commas between them
abbrev pub values_of : List ℕ → Option (List ℕ)
values_of text = with_values [] (parts_from [] text)

-- ---- words

-- what stands behind these bytes, where the word begins with them
abbrev pub behind : List ℕ → List ℕ → Option (List ℕ)
behind front word = if pointwise nat_eq (take (length front) word) front then Some (drop (length front) word) else None

abbrev pub is_filled : List ℕ → Bool
is_filled [] = false
is_filled (b ∷ bs) = true

-- a byte or more stands behind these bytes
abbrev pub has_behind : List ℕ → List ℕ → Bool
has_behind front word = option_map_or is_filled (behind front word) false

-- one of the two options, with a value
abbrev pub is_option : List ℕ → Bool
is_option word = has_behind (codes "--now=") word || has_behind (codes "--clock=") word

-- the one word is such an option
abbrev pub are_option : List (List ℕ) → Bool
are_option [] = false
are_option (word ∷ []) = is_option word
are_option (_ ∷ _ ∷ _) = false

-- the value of the option that begins so, where the one word is it
abbrev pub value_of : List ℕ → List (List ℕ) → Option (List ℕ)
value_of front [] = None
value_of front (word ∷ _) = behind front word

-- `--now=SECONDS`: always this moment
abbrev pub said_now : Option (List ℕ) → Option Moments
said_now value = option_and_then (λ text. option_map (λ n. Given (n ∷ [])) (seconds_of text)) value

-- `--clock=SECONDS,SECONDS,..`: these moments, one a statement
abbrev pub said_clock : Option (List ℕ) → Option Moments
said_clock value = option_and_then (λ text. option_map Given (values_of text)) value

abbrev pub said : Option (List ℕ) → Option (List ℕ) → Option Moments
said now clock = option_or (said_now now) (said_clock clock)

-- no word, or one of the two; None where the words are in no form
abbrev pub moments_of : List (List ℕ) → Option Moments
moments_of [] = Some System
moments_of (word ∷ []) = said (behind (codes "--now=") word) (behind (codes "--clock=") word)
moments_of (_ ∷ _ ∷ _) = None
