-- Which words of the command line, those after the program's name, are in form, and what they say:
--   run FOLDER [--now=SECS] [--log-limit=BYTES]
-- The options and FOLDER stand in any order behind the command, each once at the most, and a value also as a word of its own. FOLDER
-- begins with `-` only behind `--`, behind which there are no options.
use Rattle.std.specs.Prelude.{◌≡◌, ℕ, ◌+◌, ◌-◌, ◌*◌, ◌^◌, Bool, true, false, ◌&&◌, nat_lt, nat_le, nat_eq, ◌==◌, if◌then◌else◌, List, [], ◌∷◌, length, take, drop, codes, Option, Some, None, is_some, option_and_then, option_map}
use Rattle.std.specs.Cmp.Lexicographic.{pointwise}
use Rattle.mr_words.specs.declared.options.Options.{Options}
use Rattle.mr_words.specs.declared.told.Told.{Told}
use Rattle.mr_words.specs.declared.told.Next.{Next}
use Rattle.mr_words.specs.declared.told.Next.TheVariants.{Any, Now, LogLimit, Folder}

-- ---- numbers

-- a number with one more digit behind it, none where it is no digit, or the number reaches 2^64
abbrev pub with_digit : ℕ → ℕ → Option ℕ
with_digit n b = if (nat_le 48 b && nat_le b 57) && nat_lt (10 * n + (b - 48)) (2 ^ 64) then Some (10 * n + (b - 48)) else None

abbrev pub with_digits : ℕ → List ℕ → Option ℕ
with_digits n [] = Some n
with_digits n (b ∷ bs) = option_and_then (λ m. with_digits m bs) (with_digit n b)

-- 1 to 20 decimal digits, whose number is below 2^64
abbrev pub number_in : List ℕ → Option ℕ
number_in text = if nat_lt 0 (length text) && nat_le (length text) 20 then with_digits 0 text else None

-- a length that the log is not to pass: from 4096 to 2^40
abbrev pub is_limit : ℕ → Bool
is_limit n = nat_le 4096 n && nat_le n (2 ^ 40)

abbrev pub limit_in : List ℕ → Option ℕ
limit_in text = option_and_then (λ n. if is_limit n then Some n else None) (number_in text)

-- ---- one word more

-- what they say with a value of `--now`, of `--log-limit`, or with a folder at this place; none where it is said twice
abbrev pub with_now : List ℕ → Told → Option Told
with_now text told = if is_some told.now then None else option_map (λ n. record told { now = Some n }) (number_in text)

abbrev pub with_limit : List ℕ → Told → Option Told
with_limit text told = if is_some told.log_limit then None else option_map (λ n. record told { log_limit = Some n }) (limit_in text)

abbrev pub with_folder : ℕ → List ℕ → Told → Option Told
with_folder at [] told = None
with_folder at (b ∷ bs) told = if is_some told.folder then None else Some (record told { folder = Some at })

-- what the words so far say, and what the next one may be
abbrev pub Read : Type 0
Read = Option (Next × Told)

abbrev pub then_any : Option Told → Read
then_any told = option_map (λ t. (Any, t)) told

abbrev pub then_folder : Option Told → Read
then_folder told = option_map (λ t. (Folder, t)) told

-- what stands behind these bytes, where the word begins with them
abbrev pub behind : List ℕ → List ℕ → Option (List ℕ)
behind front word = if pointwise nat_eq (take (length front) word) front then Some (drop (length front) word) else None

-- what stands behind an option's name: nothing, so that the next word is its value, or `=` and the value
abbrev pub with_option : Next → (List ℕ → Told → Option Told) → List ℕ → Told → Read
with_option next with_value [] told = Some (next, told)
with_option next with_value (b ∷ text) told = if b == 61 then then_any (with_value text told) else None

-- `--`, or a folder
abbrev pub is_dash : List ℕ → Bool
is_dash [] = false
is_dash (b ∷ []) = b == 45
is_dash (_ ∷ _ ∷ _) = false

abbrev pub with_other : ℕ → List ℕ → Told → Read
with_other at [] told = None
with_other at (b ∷ bs) told = if b == 45 then (if is_dash bs then Some (Folder, told) else None) else then_any (with_folder at (b ∷ bs) told)

-- an option's name, with its value or without it; or another word
abbrev pub with_limit_or_other : Option (List ℕ) → ℕ → List ℕ → Told → Read
with_limit_or_other (Some rest) at word told = with_option LogLimit with_limit rest told
with_limit_or_other None at word told = with_other at word told

abbrev pub with_any : Option (List ℕ) → ℕ → List ℕ → Told → Read
with_any (Some rest) at word told = with_option Now with_now rest told
with_any None at word told = with_limit_or_other (behind (codes "--log-limit") word) at word told

-- with the word at this place
abbrev pub with_word : Next → ℕ → List ℕ → Told → Read
with_word Any at word told = with_any (behind (codes "--now") word) at word told
with_word Now at word told = then_any (with_now word told)
with_word LogLimit at word told = then_any (with_limit word told)
with_word Folder at word told = then_folder (with_folder at word told)

-- ---- all words

-- no value is missing
abbrev pub ended : Next → Told → Option Told
ended Any told = Some told
ended Folder told = Some told
ended Now told = None
ended LogLimit told = None

-- with the words from this place on
abbrev pub told_in : Next → ℕ → Told → List (List ℕ) → Option Told
told_in next at told [] = ended next told
told_in next at told (word ∷ words) = option_and_then (λ read. told_in read.0 (at + 1) read.1 words) (with_word next at word told)

abbrev pub nothing : Told
nothing = record { folder = None; now = None; log_limit = None }

-- there is a folder
abbrev pub options_of : Told → Option Options
options_of told = option_map (λ folder. record { folder = folder; now = told.now; log_limit = told.log_limit }) told.folder

abbrev pub is_run : List ℕ → Bool
is_run word = pointwise nat_eq word (codes "run")

-- what the words say, none where they are in no form
abbrev pub options_in : List (List ℕ) → Option Options
options_in [] = None
options_in (command ∷ words) = if is_run command then option_and_then options_of (told_in Any 1 nothing words) else None

-- the words are in form
abbrev pub IsRunForm : List (List ℕ) → Type 0
IsRunForm words = is_some (options_in words) ≡ true
