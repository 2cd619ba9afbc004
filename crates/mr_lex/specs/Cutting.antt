-- A script, cut into statements.
use Rattle.std.specs.Prelude.{ℕ, List, [], ◌∷◌, ◌++◌, if◌then◌else◌, Bool, true, false, ◌==◌, ◌||◌, ◌&&◌}
use Rattle.mr_lex.specs.Bytes.{is_space, is_empty}
use Rattle.mr_lex.specs.Blank.{trimmed}
use Rattle.mr_lex.specs.declared.place.Place.{Place}
use Rattle.mr_lex.specs.declared.place.Place.TheVariants.{Plain, Dash, Dashes, Slash, Line, Block, Star, Quoted, Escaped}
use Rattle.mr_lex.specs.declared.place.Split.{Split}
use Rattle.mr_lex.specs.declared.place.Split.TheVariants.{End, Blank, Inside}

-- the place behind a byte of plain text
abbrev pub plain_next : ℕ → Place
plain_next b = if b == 35 then Line else (if b == 45 then Dash else (if b == 47 then Slash
    else (if b == 39 || b == 34 || b == 96 then Quoted b else Plain)))

-- the place behind the byte b, which stands at this place
abbrev pub next_place : Place → ℕ → Place
next_place Plain b = plain_next b
next_place Dash b = if b == 45 then Dashes else plain_next b
next_place Dashes b = if b == 45 then Dashes else (if b == 10 then Plain else (if is_space b then Line else plain_next b))
next_place Slash b = if b == 42 then Block else plain_next b
next_place Line b = if b == 10 then Plain else Line
next_place Block b = if b == 42 then Star else Block
next_place Star b = if b == 47 then Plain else (if b == 42 then Star else Block)
next_place (Quoted q) b = if b == q then Plain else (if b == 92 && (q == 39 || q == 34) then Escaped q else Quoted q)
next_place (Escaped q) b = Quoted q

abbrev pub place_from : Place → List ℕ → Place
place_from p [] = p
place_from p (b ∷ bs) = place_from (next_place p b) bs

-- the place behind these bytes of a statement
abbrev pub place_behind : List ℕ → Place
place_behind bytes = place_from Plain bytes

-- whether a byte at this place is in no quotes and no comment
abbrev pub is_outside : Place → Bool
is_outside Plain = true
is_outside Dash = true
is_outside Dashes = true
is_outside Slash = true
is_outside _ = false

-- whether the byte b behind the bytes `since` the last end is a `;` outside quotes and comments
abbrev pub ends : List ℕ → ℕ → Bool
ends since b = b == 59 && is_outside (place_behind since)

-- whether these bytes, where the script ends behind them, are only white space and whole comments
abbrev pub is_blank : List ℕ → Bool
is_blank bytes = is_empty (trimmed true bytes)

-- what is told of the byte b behind the bytes `since` the last end
abbrev pub split_of : List ℕ → ℕ → Split
split_of since b = if ends since b then End else (if is_blank (since ++ b ∷ []) then Blank else Inside)

-- the bytes since the last end, with b
abbrev pub since_with : List ℕ → ℕ → List ℕ
since_with since b = if ends since b then [] else since ++ b ∷ []

-- a part of a script: a statement's text, or a rest at the end that is no statement
pub data Part : Type 0 where
  Statement : List ℕ → Part
  Rest : Part

-- a text as a part, where it has a byte
abbrev pub as_part : List ℕ → List Part
as_part [] = []
as_part (b ∷ bs) = Statement (b ∷ bs) ∷ []

-- The statement whose `;` stands behind these bytes: from the first byte outside white space and comments on, none
-- where there is no such byte.
abbrev pub part_of : List ℕ → List Part
part_of since = as_part (trimmed false since)

-- what stands at the script's end
abbrev pub rest_of : List ℕ → List Part
rest_of since = if is_blank since then [] else Rest ∷ []

-- the parts of a script, of which the bytes `since` the last end stand in front
abbrev pub parts_from : List ℕ → List ℕ → List Part
parts_from since [] = rest_of since
parts_from since (b ∷ bs) = if ends since b then part_of since ++ parts_from [] bs else parts_from (since ++ b ∷ []) bs

-- the parts of a script
abbrev pub parts_of : List ℕ → List Part
parts_of script = parts_from [] script
