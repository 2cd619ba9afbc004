-- How bytes and texts are cut into pieces of 8, with a count or a mark behind each.
use Rattle.std.specs.Prelude.{ℕ, zero, suc, ◌-◌, List, [], ◌∷◌, ◌++◌, replicate, nat_lt, ◌==◌, if◌then◌else◌}
use Rattle.mr_pieces.specs.declared.collation.Collation.{Collation}
use Rattle.mr_pieces.specs.Order.{folded}

-- ---- bytes: a 9 behind a piece that others follow, the number of its bytes behind the last one

-- `left` places of the present piece are free
abbrev pub bytes_from : ℕ → List ℕ → List ℕ
bytes_from left [] = replicate left 0 ++ (8 - left) ∷ []
bytes_from zero (b ∷ bytes) = 9 ∷ b ∷ bytes_from 7 bytes
bytes_from (suc left) (b ∷ bytes) = b ∷ bytes_from left bytes

abbrev pub bytes_pieces : List ℕ → List ℕ
bytes_pieces bytes = bytes_from 8 bytes

-- ---- texts: a mark behind each piece

abbrev pub trim_onto : ℕ → List ℕ → List ℕ
trim_onto c [] = if c == 32 then [] else c ∷ []
trim_onto c (x ∷ xs) = c ∷ x ∷ xs

-- without the spaces at its end
abbrev pub trimmed : List ℕ → List ℕ
trimmed [] = []
trimmed (c ∷ text) = trim_onto c (trimmed text)

-- how the rest compares with spaces: 1 below them, 2 nothing follows, 3 above
unfoldable pub mark : List ℕ → ℕ
mark [] = 2
mark (c ∷ text) = if nat_lt c 32 then 1 else if c == 32 then mark text else 3

-- `left` places of the present piece are free
abbrev pub text_from : ℕ → List ℕ → List ℕ
text_from left [] = replicate left 32 ++ 2 ∷ []
text_from zero (c ∷ text) = mark (c ∷ text) ∷ c ∷ text_from 7 text
text_from (suc left) (c ∷ text) = c ∷ text_from left text

-- what pieces keep of a text
abbrev pub shortened : Collation → List ℕ → List ℕ
shortened collation text = trimmed (folded collation text)

abbrev pub text_pieces : Collation → List ℕ → List ℕ
text_pieces collation text = text_from 8 (shortened collation text)
