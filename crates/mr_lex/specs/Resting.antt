-- Whether all is blank, place by place.
use Rattle.std.specs.Prelude.{ℕ, List, [], ◌∷◌, if◌then◌else◌, Bool, true, false, ◌==◌, ◌||◌, ◌&&◌}
use Rattle.mr_lex.specs.Bytes.{is_space}
use Rattle.mr_lex.specs.Cutting.{next_place}
use Rattle.mr_lex.specs.declared.place.Place.{Place}
use Rattle.mr_lex.specs.declared.place.Place.TheVariants.{Plain, Dash, Dashes, Slash, Line, Block, Star, Quoted, Escaped}
use Rattle.mr_lex.specs.declared.place.Split.{Split}
use Rattle.mr_lex.specs.declared.place.Split.TheVariants.{Blank, Inside}

-- Whether, with the byte b, all is white space and whole comments up to a comment that is open or may begin.
abbrev pub next_blank : Place → Bool → ℕ → Bool
next_blank Plain blank b = blank && (is_space b || b == 35 || b == 45 || b == 47)
next_blank Dash blank b = blank && b == 45
next_blank Dashes blank b = blank && is_space b
next_blank Slash blank b = blank && b == 42
next_blank Line blank b = blank
next_blank Block blank b = blank
next_blank Star blank b = blank
next_blank (Quoted q) blank b = false
next_blank (Escaped q) blank b = false

abbrev pub blank_from : Place → Bool → List ℕ → Bool
blank_from p blank [] = blank
blank_from p blank (b ∷ bs) = blank_from (next_place p b) (next_blank p blank b) bs

-- whether what is open here is whole where the script ends
abbrev pub is_whole : Place → Bool
is_whole Plain = true
is_whole Dashes = true
is_whole Line = true
is_whole _ = false

-- what is told where a byte ends nothing
abbrev pub told_at : Place → Bool → Split
told_at p blank = if blank && is_whole p then Blank else Inside
