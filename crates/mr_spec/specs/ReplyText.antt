-- The text of a reply.
use Rattle.std.specs.Prelude.{ℕ, List, [], ◌∷◌, ◌++◌, length, codes, ◌==◌, if◌then◌else◌}
use Rattle.std.specs.Fmt.{decimal, signed_decimal}
use Rattle.std.specs.List.{flat_map}
use Rattle.mr_types.specs.declared.value.Value.{Value}
use Rattle.mr_types.specs.declared.value.Value.TheVariants.{Null, Number, Text, Bytes}
use Rattle.mr_types.specs.declared.row.Reply.{Reply}
use Rattle.mr_types.specs.declared.row.Reply.TheVariants as reply

-- tab, newline, NUL and backslash print as two bytes
abbrev pub escaped : ℕ → List ℕ
escaped b = if b == 9 then 92 ∷ 116 ∷ [] else (if b == 10 then 92 ∷ 110 ∷ [] else (if b == 0 then 92 ∷ 48 ∷ [] else (if b == 92 then 92 ∷ 92 ∷ [] else b ∷ [])))

-- a field: NULL, a number in decimal, or its bytes
abbrev pub field_text : Value → List ℕ
field_text Null = codes "NULL"
field_text (Number n) = signed_decimal n
field_text (Text t) = flat_map escaped t
field_text (Bytes b) = flat_map escaped b

-- fields with tabs between them
abbrev pub fields_text : List Value → List ℕ
fields_text [] = []
fields_text (v ∷ []) = field_text v
fields_text (v ∷ u ∷ vs) = field_text v ++ 9 ∷ fields_text (u ∷ vs)

-- a row's line
abbrev pub line_of : List Value → List ℕ
line_of vs = fields_text vs ++ 10 ∷ []

-- the lines of a reply
abbrev pub text_of : Reply → List ℕ
text_of (reply.Ok n) = codes "OK " ++ decimal n ++ codes "\n"
text_of (reply.Refused n) = codes "ERROR " ++ decimal n ++ codes "\n"
text_of (reply.Rows rows) = codes "ROWS " ++ decimal (length rows) ++ codes "\n" ++ flat_map line_of rows
