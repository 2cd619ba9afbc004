-- White space and comments.
use Rattle.std.specs.Prelude.{ℕ, zero, suc, pred, List, [], ◌∷◌, Option, Some, None, if◌then◌else◌, Bool, false, ◌==◌, ◌||◌, ◌&&◌}
use Rattle.std.specs.Option.{option_map}
use Rattle.mr_lex.specs.Bytes.{is_space, starts}

-- whether white space or the end follows: `ended` says that the script or the statement's text ends behind these
-- bytes, and where it doesn't, a `;` stands there
abbrev pub is_space_or_end : Bool → List ℕ → Bool
is_space_or_end ended [] = ended
is_space_or_end ended (b ∷ bs) = is_space b

abbrev pub begins_second_dash : Bool → List ℕ → Bool
begins_second_dash ended [] = false
begins_second_dash ended (b ∷ bs) = b == 45 && is_space_or_end ended bs

-- whether two dashes stand in front that begin a comment: white space or the end follows them
abbrev pub begins_dashes : Bool → List ℕ → Bool
begins_dashes ended [] = false
begins_dashes ended (b ∷ bs) = b == 45 && begins_second_dash ended bs

-- whether a comment to the end of the line stands in front
abbrev pub begins_line : Bool → List ℕ → Bool
begins_line ended bytes = starts (λ b. b == 35) bytes || begins_dashes ended bytes

-- the bytes of the line, its newline among them
abbrev pub line_length : List ℕ → ℕ
line_length [] = 0
line_length (b ∷ bs) = if b == 10 then 1 else suc (line_length bs)

-- whether `/*` stands in front
abbrev pub begins_block : List ℕ → Bool
begins_block [] = false
begins_block (b ∷ bs) = b == 47 && starts (λ c. c == 42) bs

-- behind `/*`, the bytes up to the next `*/` and with it
abbrev pub block_length : List ℕ → Option ℕ
block_length [] = None
block_length (b ∷ bs) = if b == 42 && starts (λ c. c == 47) bs then Some 2 else option_map suc (block_length bs)

abbrev pub behind_first : List ℕ → List ℕ
behind_first [] = []
behind_first (b ∷ bs) = bs

abbrev pub closed_block : Option ℕ → ℕ
closed_block None = 0
closed_block (Some n) = suc (suc n)

-- the bytes of the white space byte or the whole comment in front, 0 where neither stands there
abbrev pub blank_front : Bool → List ℕ → ℕ
blank_front ended [] = 0
blank_front ended (b ∷ bs) =
    if is_space b then 1
    else (if begins_line ended (b ∷ bs) then suc (line_length bs)
    else (if begins_block (b ∷ bs) then closed_block (block_length (behind_first bs)) else 0))

-- the text where so many blank bytes stand in front of it, and `left` is left behind these
abbrev pub left_behind : ℕ → List ℕ → List ℕ → List ℕ
left_behind zero text left = text
left_behind (suc n) text left = left

-- With so many bytes to skip: what stands behind all white space and whole comments in front.
abbrev pub trimmed_behind : Bool → ℕ → List ℕ → List ℕ
trimmed_behind ended skip [] = []
trimmed_behind ended (suc k) (b ∷ bs) = trimmed_behind ended k bs
trimmed_behind ended zero (b ∷ bs) =
    left_behind (blank_front ended (b ∷ bs)) (b ∷ bs) (trimmed_behind ended (pred (blank_front ended (b ∷ bs))) bs)

abbrev pub trimmed : Bool → List ℕ → List ℕ
trimmed ended bytes = trimmed_behind ended 0 bytes
