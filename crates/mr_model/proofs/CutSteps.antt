-- A cutter goes with a reader, byte by byte.
use Rattle.std.proofs.Common.{◌≡◌, ◌≤◌, ◌<◌, ◌+◌, ℕ, Bool, true, false, not, List, [], ◌∷◌, ◌++◌, length, take, map, get_or, if◌then◌else◌, refl, ap, sym, ◌∙◌, subst, append-nil, Result, Ok, Err, IfOk}
use Rattle.std.proofs.lemmas.List.{take_more, take_all}
use Rattle.mr_lex.specs.declared.place.Split.TheVariants.{End, Blank, Inside}
use Rattle.mr_lex.specs.Cutting.{is_blank, split_of, since_with, ends, parts_of}
use Rattle.mr_lex.specs.Standing.{HasRead}
use Rattle.mr_lex.specs.Pieces.{Reader, start, read_byte, read_piece, with_byte, kept_where_blank, finished, PiecesCutAlike}
use Rattle.mr_types.specs.declared.statement.Statement.{Statement}
use Rattle.mr_base.specs.declared.stop.Memory.{Memory}
use Rattle.mr_spec.specs.ScriptRun.{read_part, statements_of}
use Rattle.mr_model.specs.Cuts.{Holds}
use Rattle.mr_model.specs.declared.cutting.Cutter.{Cutter}

pub piece_snoc : (r : Reader) (xs : List ℕ) (b : ℕ) → read_piece r (xs ++ b ∷ []) ≡ read_byte (read_piece r xs) b
piece_snoc r [] b = refl
piece_snoc r (x ∷ xs) b = piece_snoc (read_byte r x) xs b

-- one byte more
pub holds_more : (c : Cutter) (xs : List ℕ) (i : ℕ) → i < length xs → Holds c (read_byte (read_piece start (take i xs)) (get_or xs i 0)) → Holds c (read_piece start (take (i + 1) xs))
holds_more c xs i l h = subst (Holds c) (sym (ap (read_piece start) (take_more xs i 0 l) ∙ piece_snoc start (take i xs) (get_or xs i 0))) h

-- a script that is one piece
pub whole_is : PiecesCutAlike → (xs : List ℕ) → finished (read_piece start xs) ≡ parts_of xs
whole_is law xs = law (xs ∷ []) ∙ ap parts_of (append-nil xs)

of_tests : (e k : Bool) (r : Reader) (b : ℕ) (c : Cutter) → (if e then End else (if k then Blank else Inside)) ≡ Blank → k ≡ is_blank (r.since ++ b ∷ [])
    → HasRead c.splitter (if e then [] else r.since ++ b ∷ []) → c.kept ≡ kept_where_blank (r.kept ++ b ∷ []) → c.has_rest ≡ false → c.read ≡ map read_part r.parts
    → Holds c (with_byte (if e then End else (if k then Blank else Inside)) r b)
of_tests true k r b c is tests s kept rest read = cc
of_tests false true r b c is tests s kept rest read = record { splitter = s; kept = kept; has_rest = rest ∙ ap not tests; read = read }
of_tests false false r b c is tests s kept rest read = cc

-- where all is blank
pub holds_blank : (r : Reader) (b : ℕ) (c : Cutter) → split_of r.since b ≡ Blank
    → HasRead c.splitter (since_with r.since b) → c.kept ≡ kept_where_blank (r.kept ++ b ∷ []) → c.has_rest ≡ false → c.read ≡ map read_part r.parts → Holds c (read_byte r b)
holds_blank r b c is s kept rest read = of_tests (ends r.since b) (is_blank (r.since ++ b ∷ [])) r b c is refl s kept rest read

-- what is read at the end of a script
pub whole_read : (c : Cutter) (xs : List ℕ) (i : ℕ) → length xs ≤ i → Holds c (read_piece start (take i xs)) → PiecesCutAlike → (read : Result (List (Result Statement ℕ)) Memory)
    → IfOk read (λ all. (r : Reader) → Holds c r → all ≡ map read_part (finished r)) → IfOk read (λ all. all ≡ statements_of xs)
whole_read c xs i l h law (Ok all) f = f _ h ∙ ap (λ ys. map read_part (finished (read_piece start ys))) (take_all i xs l) ∙ ap (map read_part) (whole_is law xs)
whole_read c xs i l h law (Err e) f = tt
