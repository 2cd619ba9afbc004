-- A script that comes in pieces, cut by what a splitter tells of each byte.
use Rattle.std.specs.Prelude.{◌≡◌, ℕ, List, [], ◌∷◌, ◌++◌, if◌then◌else◌, Bool, false, ◌==◌, ◌&&◌}
use Rattle.mr_lex.specs.Cutting.{split_of, Part, as_part, rest_of, parts_of}
use Rattle.mr_lex.specs.declared.place.Split.{Split}
use Rattle.mr_lex.specs.declared.place.Split.TheVariants.{End, Blank, Inside}

-- What a reader of a script holds: the bytes since the last end, of these the ones that it keeps for the statement's
-- text, and the parts that have ended.
pub record Reader : Type 0 where
  pub since : List ℕ
  pub kept : List ℕ
  pub parts : List Part

abbrev pub start : Reader
start = record { since = []; kept = []; parts = [] }

abbrev pub is_two_dashes : List ℕ → Bool
is_two_dashes [] = false
is_two_dashes (a ∷ []) = false
is_two_dashes (a ∷ b ∷ []) = a == 45 && b == 45
is_two_dashes (a ∷ b ∷ c ∷ cs) = false

-- Where all is blank nothing is kept. Two dashes alone stay, since the next byte may take them back.
abbrev pub kept_where_blank : List ℕ → List ℕ
kept_where_blank kept = if is_two_dashes kept then kept else []

-- a byte more: at an end the kept bytes are the statement's text
abbrev pub with_byte : Split → Reader → ℕ → Reader
with_byte End r b = record { since = []; kept = []; parts = r.parts ++ as_part r.kept }
with_byte Blank r b = record { since = r.since ++ b ∷ []; kept = kept_where_blank (r.kept ++ b ∷ []); parts = r.parts }
with_byte Inside r b = record { since = r.since ++ b ∷ []; kept = r.kept ++ b ∷ []; parts = r.parts }

abbrev pub read_byte : Reader → ℕ → Reader
read_byte r b = with_byte (split_of r.since b) r b

abbrev pub read_piece : Reader → List ℕ → Reader
read_piece r [] = r
read_piece r (b ∷ bs) = read_piece (read_byte r b) bs

abbrev pub read_pieces : Reader → List (List ℕ) → Reader
read_pieces r [] = r
read_pieces r (piece ∷ pieces) = read_pieces (read_piece r piece) pieces

abbrev pub joined : List (List ℕ) → List ℕ
joined [] = []
joined (piece ∷ pieces) = piece ++ joined pieces

-- the parts, and the rest at the end
abbrev pub finished : Reader → List Part
finished r = r.parts ++ rest_of r.since

-- wherever the pieces border, they give the parts of the whole script
abbrev pub PiecesCutAlike : Type 0
PiecesCutAlike = (pieces : List (List ℕ)) → finished (read_pieces start pieces) ≡ parts_of (joined pieces)
