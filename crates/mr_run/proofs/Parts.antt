-- What is held of a statement, byte by byte.
use Rattle.std.proofs.Common.{◌≡◌, ◌==◌, ℕ, Bool, true, false, not, List, [], ◌∷◌, ◌++◌, take, map, if◌then◌else◌, refl, ap, sym, ◌∙◌, subst, append-nil}
use Rattle.mr_lex.specs.Cutting.{as_part, part_of, ends, is_blank, place_behind, is_outside, split_of, since_with}
use Rattle.mr_lex.specs.Pieces.{Reader, start, read_byte, read_piece, with_byte, kept_where_blank}
use Rattle.mr_lex.specs.Standing.{HasRead, standing}
use Rattle.mr_lex.specs.declared.place.Split.TheVariants.{End, Blank, Inside}
use Rattle.mr_lex.proofs.Alike.{Holds as HasKept, read_holds}
use Rattle.mr_lex.proofs.Blanks.{text_is}
use Rattle.mr_lex.proofs.Lists.{and_second}
use Rattle.mr_spec.specs.ScriptRun.{read_part}
use Rattle.mr_run.specs.Cutting.{left_by, statements_in}
use Rattle.mr_run.specs.Holding.{Holds, most_kept}
use Rattle.mr_run.specs.declared.part.Part.{Part}
use Rattle.mr_run.proofs.Capped.{part_kept}

piece_snoc : (r : Reader) (xs : List ℕ) (b : ℕ) → read_piece r (xs ++ b ∷ []) ≡ read_byte (read_piece r xs) b
piece_snoc r [] b = refl
piece_snoc r (x ∷ xs) b = piece_snoc (read_byte r x) xs b

-- what a reader keeps of bytes since the last end
abbrev pub kept_of : List ℕ → List ℕ
kept_of since = (read_piece start since).kept

-- where nothing ends there
pub unended_blank : (since : List ℕ) (b : ℕ) → (read_piece start since).since ≡ since → split_of since b ≡ Blank → (read_piece start (since ++ b ∷ [])) ≡ with_byte Blank (read_piece start since) b
unended_blank since b whole told = piece_snoc start since b ∙ ap (λ s. with_byte s (read_piece start since) b) (ap (λ x. split_of x b) whole ∙ told)

pub unended_inside : (since : List ℕ) (b : ℕ) → (read_piece start since).since ≡ since → split_of since b ≡ Inside → (read_piece start (since ++ b ∷ [])) ≡ with_byte Inside (read_piece start since) b
unended_inside since b whole told = piece_snoc start since b ∙ ap (λ s. with_byte s (read_piece start since) b) (ap (λ x. split_of x b) whole ∙ told)

-- what is told, and what it says of the bytes
told_end : (e k : Bool) → (if e then End else (if k then Blank else Inside)) ≡ End → e ≡ true
told_end true k is = refl
told_end false true is = cc
told_end false false is = cc

told_blank : (e k : Bool) → (if e then End else (if k then Blank else Inside)) ≡ Blank → (e ≡ false) × (k ≡ true)
told_blank true k is = cc
told_blank false true is = (refl, refl)
told_blank false false is = cc

told_inside : (e k : Bool) → (if e then End else (if k then Blank else Inside)) ≡ Inside → (e ≡ false) × (k ≡ false)
told_inside true k is = cc
told_inside false true is = cc
told_inside false false is = (refl, refl)

goes_left : (since : List ℕ) (b : ℕ) → ends since b ≡ false → left_by since (b ∷ []) ≡ since ++ b ∷ []
goes_left since b e = ap (λ (t : Bool). if t then [] else since ++ b ∷ []) e

goes_since : (since : List ℕ) (b : ℕ) → ends since b ≡ false → since_with since b ≡ since ++ b ∷ []
goes_since since b e = ap (λ (t : Bool). if t then [] else since ++ b ∷ []) e

none_ended : (since : List ℕ) (b : ℕ) → ends since b ≡ false → statements_in since (b ∷ []) ≡ []
none_ended since b e = ap (λ (t : Bool). map read_part (if t then part_of since ++ [] else [])) e

-- the byte ends what was held
pub ended_text : (part : Part) (since : List ℕ) (b : ℕ) (text : List ℕ) → Holds part since → split_of since b ≡ End → text ≡ part.kept → map read_part (as_part text) ≡ statements_in since (b ∷ [])
ended_text part since b text h told same =
    let e = told_end (ends since b) (is_blank (since ++ b ∷ [])) told in
    let kept : HasKept (read_piece start since) = read_holds start since (record { kept_is = refl }) in
    let whole : part_of since ≡ as_part (kept_of since) =
    ap as_part (text_is since (and_second (b == 59) (is_outside (place_behind since)) e)
    ∙ ap (λ x. Rattle.mr_lex.proofs.Blanks.kept_from Rattle.mr_lex.specs.declared.place.Place.TheVariants.Plain true [] x) (sym h.unended) ∙ sym kept.kept_is) in
    ap (λ x. map read_part (as_part x)) (same ∙ h.kept) ∙ part_kept (kept_of since) ∙ ap (map read_part) (sym whole ∙ sym (append-nil (part_of since)))
    ∙ ap (λ (t : Bool). map read_part (if t then part_of since ++ [] else [])) (sym e)

pub ended_holds : (part : Part) (since : List ℕ) (b : ℕ) → split_of since b ≡ End → HasRead part.splitter (since_with since b) → part.kept ≡ [] → part.begun ≡ false → Holds part (left_by since (b ∷ []))
ended_holds part since b told splitter kept begun =
    let e = told_end (ends since b) (is_blank (since ++ b ∷ [])) told in
    let none : left_by since (b ∷ []) ≡ [] = ap (λ (t : Bool). if t then [] else since ++ b ∷ []) e in
    subst (Holds part) (sym none) (record { unended = refl; splitter = splitter ∙ ap standing none; kept = kept; begun = begun })

pub blank_holds : (part : Part) (since : List ℕ) (b : ℕ) → (read_piece start since).since ≡ since → split_of since b ≡ Blank → HasRead part.splitter (since_with since b) → part.kept ≡ take most_kept (kept_where_blank (kept_of since ++ b ∷ [])) → part.begun ≡ false
    → Holds part (left_by since (b ∷ []))
blank_holds part since b whole told splitter kept begun =
    let t = told_blank (ends since b) (is_blank (since ++ b ∷ [])) told in
    let next = unended_blank since b whole told in
    subst (Holds part) (sym (goes_left since b t.0)) (record {
      unended = ap (λ (r : Reader). r.since) next ∙ ap (λ x. x ++ b ∷ []) whole;
      splitter = splitter ∙ ap standing (goes_since since b t.0);
      kept = kept ∙ ap (λ (r : Reader). take most_kept r.kept) (sym next);
      begun = begun ∙ ap not (sym t.1);
    })

pub inside_holds : (part : Part) (since : List ℕ) (b : ℕ) → (read_piece start since).since ≡ since → split_of since b ≡ Inside → HasRead part.splitter (since_with since b) → part.kept ≡ take most_kept (kept_of since ++ b ∷ []) → part.begun ≡ true
    → Holds part (left_by since (b ∷ []))
inside_holds part since b whole told splitter kept begun =
    let t = told_inside (ends since b) (is_blank (since ++ b ∷ [])) told in
    let next = unended_inside since b whole told in
    subst (Holds part) (sym (goes_left since b t.0)) (record {
      unended = ap (λ (r : Reader). r.since) next ∙ ap (λ x. x ++ b ∷ []) whole;
      splitter = splitter ∙ ap standing (goes_since since b t.0);
      kept = kept ∙ ap (λ (r : Reader). take most_kept r.kept) (sym next);
      begun = begun ∙ ap not (sym t.1);
    })

-- nothing is ended where that isn't told
pub blank_ends : (since : List ℕ) (b : ℕ) → split_of since b ≡ Blank → [] ≡ statements_in since (b ∷ [])
blank_ends since b told = sym (none_ended since b (told_blank (ends since b) (is_blank (since ++ b ∷ [])) told).0)

pub inside_ends : (since : List ℕ) (b : ℕ) → split_of since b ≡ Inside → [] ≡ statements_in since (b ∷ [])
inside_ends since b told = sym (none_ended since b (told_inside (ends since b) (is_blank (since ++ b ∷ [])) told).0)
