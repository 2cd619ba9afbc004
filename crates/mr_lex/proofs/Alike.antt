-- Pieces of a script cut like the whole of it.
use Rattle.std.proofs.Common.{◌≡◌, ℕ, List, [], ◌∷◌, ◌++◌, refl, ap, sym, ◌∙◌, Bool, true, false, ◌==◌, ◌&&◌, if◌then◌else◌, inl, inr, ◌⊎◌, append_assoc}
use Rattle.std.proofs.lemmas.Bool.{eqb-true}
use Rattle.mr_lex.specs.Bytes.{starts}
use Rattle.mr_lex.specs.Cutting.{next_place, place_from, place_behind, is_outside, is_blank, ends, split_of, as_part, part_of, parts_from}
use Rattle.mr_lex.specs.Resting.{next_blank, blank_from, is_whole}
use Rattle.mr_lex.specs.Pieces.{Reader, start, is_two_dashes, kept_where_blank, with_byte, read_byte, read_piece, read_pieces, joined, finished, PiecesCutAlike}
use Rattle.mr_lex.specs.declared.place.Place.{Place}
use Rattle.mr_lex.specs.declared.place.Place.TheVariants.{Plain, Dash, Dashes, Slash, Line, Block, Star, Quoted, Escaped}
use Rattle.mr_lex.specs.declared.place.Split.TheVariants.{End, Blank, Inside}
use Rattle.mr_lex.proofs.Lists.{tells, and_first, and_second, and_no, both_yes}
use Rattle.mr_lex.proofs.Blanks.{IsKept, is_clear, kept_with, kept_from, run_kept, text_is}
use Rattle.mr_lex.proofs.Feeding.{blank_with, blank_snoc, place_snoc}

kept_snoc : (p : Place) (blank : Bool) (kept since : List ℕ) (b : ℕ) → kept_from p blank kept (since ++ b ∷ []) ≡ kept_with (place_from p since) (blank_from p blank since) (kept_from p blank kept since) b
kept_snoc p blank kept [] b = refl
kept_snoc p blank kept (a ∷ since) b = kept_snoc (next_place p a) (next_blank p blank a) (kept_with p blank kept a) since b

no_dashes : (kept : List ℕ) (b : ℕ) → starts (λ c. c == 47) kept ≡ true → is_two_dashes (kept ++ b ∷ []) ≡ false
no_dashes [] b e = cc
no_dashes (a ∷ []) b e = let eq : a ≡ 47 = eqb-true a 47 e in ap (λ n. n == 45 && b == 45) eq
no_dashes (a ∷ c ∷ []) b e = refl
no_dashes (a ∷ c ∷ d ∷ kept) b e = refl

-- where all is blank again, two dashes alone aren't what was kept
clear_kept : (p : Place) (blank : Bool) (kept : List ℕ) (b : ℕ) → IsKept p blank kept → next_blank p blank b ≡ true → is_clear (next_place p b) ≡ true → is_two_dashes (kept ++ b ∷ []) ≡ false
clear_kept Plain false kept b k n c = cc
clear_kept Dash false kept b k n c = cc
clear_kept Dashes false kept b k n c = cc
clear_kept Slash false kept b k n c = cc
clear_kept Line false kept b k n c = cc
clear_kept Block false kept b k n c = cc
clear_kept Star false kept b k n c = cc
clear_kept (Quoted q) false kept b k n c = cc
clear_kept (Escaped q) false kept b k n c = cc
clear_kept Plain true kept b k n c = ap (λ t. is_two_dashes (t ++ b ∷ [])) k
clear_kept Dash true kept b k n c = let no : false ≡ true = sym (ap (λ t. is_clear (if t then Dashes else next_place Plain b)) n) ∙ c in cc
clear_kept Dashes true kept b k n c = ap (λ t. is_two_dashes (t ++ b ∷ [])) k
clear_kept Slash true kept b k n c = let no : false ≡ true = sym (ap (λ t. is_clear (if t then Block else next_place Plain b)) n) ∙ c in cc
clear_kept Line true kept b k n c = ap (λ t. is_two_dashes (t ++ b ∷ [])) k
clear_kept Block true kept b k n c = no_dashes kept b k
clear_kept Star true kept b k n c = no_dashes kept b k
clear_kept (Quoted q) true kept b k n c = absurd k
clear_kept (Escaped q) true kept b k n c = absurd k

whole_clear : (p : Place) → is_whole p ≡ false → is_clear p ≡ false
whole_clear Plain e = e
whole_clear Dash e = refl
whole_clear Dashes e = refl
whole_clear Slash e = refl
whole_clear Line e = e
whole_clear Block e = refl
whole_clear Star e = refl
whole_clear (Quoted q) e = refl
whole_clear (Escaped q) e = refl

-- of a place that is whole: nothing is kept, or two dashes
whole_is : (p : Place) → is_whole p ≡ true → (is_clear p ≡ true) ⊎ (p ≡ Dashes)
whole_is Plain e = inl refl
whole_is Dash e = cc
whole_is Dashes e = inr refl
whole_is Slash e = cc
whole_is Line e = inl refl
whole_is Block e = cc
whole_is Star e = cc
whole_is (Quoted q) e = cc
whole_is (Escaped q) e = cc

pub record Holds (r : Reader) : Type 0 where
  pub kept_is : r.kept ≡ kept_from Plain true [] r.since

pub record Follows (r : Reader) (b : ℕ) : Type 0 where
  pub holds : Holds (read_byte r b)
  pub same : (more : List ℕ) → r.parts ++ parts_from r.since (b ∷ more) ≡ (read_byte r b).parts ++ parts_from (read_byte r b).since more

module _ (r : Reader) (b : ℕ) (h : Holds r) where
  abbrev now : Place
  now = place_behind r.since

  abbrev blank_now : Bool
  blank_now = blank_from Plain true r.since

  abbrev kept_now : List ℕ
  kept_now = kept_from Plain true [] r.since

  kept_is_kept : IsKept now blank_now kept_now
  kept_is_kept = run_kept Plain true [] r.since refl

  at_end : ends r.since b ≡ true → Follows r b
  at_end e =
      let told : split_of r.since b ≡ End = ap (λ t. if t then End else (if is_blank (r.since ++ b ∷ []) then Blank else Inside)) e in
      let next : read_byte r b ≡ with_byte End r b = ap (λ s. with_byte s r b) told in
      let text : part_of r.since ≡ as_part r.kept = ap as_part (text_is r.since (and_second (b == 59) (is_outside now) e) ∙ sym h.kept_is) in
      record {
        holds = rw told (record { kept_is = refl });
        same = λ more. rw told (ap (λ t. r.parts ++ (if t then part_of r.since ++ parts_from [] more else parts_from (r.since ++ b ∷ []) more)) e
            ∙ ap (λ t. r.parts ++ (t ++ parts_from [] more)) text ∙ sym (append_assoc r.parts (as_part r.kept) (parts_from [] more)));
      }

  goes_on : ends r.since b ≡ false → (more : List ℕ) → r.parts ++ parts_from r.since (b ∷ more) ≡ r.parts ++ parts_from (r.since ++ b ∷ []) more
  goes_on e more = ap (λ t. r.parts ++ (if t then part_of r.since ++ parts_from [] more else parts_from (r.since ++ b ∷ []) more)) e

  at_inside : ends r.since b ≡ false → is_blank (r.since ++ b ∷ []) ≡ false → Follows r b
  at_inside e n =
      let told : split_of r.since b ≡ Inside = ap (λ t. if t then End else (if is_blank (r.since ++ b ∷ []) then Blank else Inside)) e ∙ ap (λ t. if t then Blank else Inside) n in
      let not_clear : (next_blank now blank_now b && is_clear (next_place now b)) ≡ false = clear_no (next_blank now blank_now b) (next_place now b) (sym (blank_with r.since b) ∙ n) in
      let kept : kept_from Plain true [] (r.since ++ b ∷ []) ≡ kept_now ++ b ∷ [] = kept_snoc Plain true [] r.since b ∙ ap (λ t. if t then [] else kept_now ++ b ∷ []) not_clear in
      record {
        holds = rw told (record { kept_is = ap (λ k. k ++ b ∷ []) h.kept_is ∙ sym kept });
        same = λ more. rw told (goes_on e more);
      }
    where
      clear_no : (x : Bool) (p : Place) → (x && is_whole p) ≡ false → (x && is_clear p) ≡ false
      clear_no true p e = whole_clear p e
      clear_no false p e = refl

  at_blank : ends r.since b ≡ false → is_blank (r.since ++ b ∷ []) ≡ true → Follows r b
  at_blank e y =
      let told : split_of r.since b ≡ Blank = ap (λ t. if t then End else (if is_blank (r.since ++ b ∷ []) then Blank else Inside)) e ∙ ap (λ t. if t then Blank else Inside) y in
      let both : (next_blank now blank_now b && is_whole (next_place now b)) ≡ true = sym (blank_with r.since b) ∙ y in
      let nb = and_first (next_blank now blank_now b) (is_whole (next_place now b)) both in
      let kept : kept_where_blank (kept_now ++ b ∷ []) ≡ kept_with now blank_now kept_now b = by_place nb (whole_is (next_place now b) (and_second (next_blank now blank_now b) (is_whole (next_place now b)) both)) in
      record {
        holds = rw told (record { kept_is = ap (λ k. kept_where_blank (k ++ b ∷ [])) h.kept_is ∙ kept ∙ sym (kept_snoc Plain true [] r.since b) });
        same = λ more. rw told (goes_on e more);
      }
    where
      two : (p : Place) (x : Bool) (k : List ℕ) → x ≡ true → p ≡ Dashes → IsKept p x k → k ≡ 45 ∷ 45 ∷ []
      two Dashes true k x p i = i
      two Dashes false k x p i = cc
      two Plain x k y p i = cc
      two Dash x k y p i = cc
      two Slash x k y p i = cc
      two Line x k y p i = cc
      two Block x k y p i = cc
      two Star x k y p i = cc
      two (Quoted q) x k y p i = cc
      two (Escaped q) x k y p i = cc

      by_place : next_blank now blank_now b ≡ true → (is_clear (next_place now b) ≡ true) ⊎ (next_place now b ≡ Dashes) → kept_where_blank (kept_now ++ b ∷ []) ≡ kept_with now blank_now kept_now b
      by_place nb (inl clear) =
          ap (λ t. if t then kept_now ++ b ∷ [] else []) (clear_kept now blank_now kept_now b kept_is_kept nb clear)
          ∙ sym (ap (λ t. if t then [] else kept_now ++ b ∷ []) (both_yes (next_blank now blank_now b) (is_clear (next_place now b)) nb clear))
      by_place nb (inr dashes) =
          let not_clear : (next_blank now blank_now b && is_clear (next_place now b)) ≡ false = and_no (next_blank now blank_now b) (is_clear (next_place now b)) (ap is_clear dashes) in
          let kept : kept_with now blank_now kept_now b ≡ kept_now ++ b ∷ [] = ap (λ t. if t then [] else kept_now ++ b ∷ []) not_clear in
          let still : IsKept (place_behind (r.since ++ b ∷ [])) (blank_from Plain true (r.since ++ b ∷ [])) (kept_from Plain true [] (r.since ++ b ∷ [])) = run_kept Plain true [] (r.since ++ b ∷ []) refl in
          let is : kept_from Plain true [] (r.since ++ b ∷ []) ≡ 45 ∷ 45 ∷ [] = two (place_behind (r.since ++ b ∷ [])) (blank_from Plain true (r.since ++ b ∷ [])) (kept_from Plain true [] (r.since ++ b ∷ [])) (blank_snoc Plain true r.since b ∙ nb) (place_snoc Plain r.since b ∙ dashes) still in
          let pair : kept_now ++ b ∷ [] ≡ 45 ∷ 45 ∷ [] = sym kept ∙ sym (kept_snoc Plain true [] r.since b) ∙ is in
          ap (λ t. if is_two_dashes t then kept_now ++ b ∷ [] else []) pair ∙ sym kept

  follows : Follows r b
  follows = by (tells (ends r.since b)) (tells (is_blank (r.since ++ b ∷ [])))
    where
      by : (ends r.since b ≡ true) ⊎ (ends r.since b ≡ false) → (is_blank (r.since ++ b ∷ []) ≡ true) ⊎ (is_blank (r.since ++ b ∷ []) ≡ false) → Follows r b
      by (inl e) o = at_end e
      by (inr e) (inl y) = at_blank e y
      by (inr e) (inr n) = at_inside e n

pub read_holds : (r : Reader) (piece : List ℕ) → Holds r → Holds (read_piece r piece)
read_holds r [] h = h
read_holds r (b ∷ bs) h = read_holds (read_byte r b) bs (follows r b h).holds

pub read_same : (r : Reader) (piece more : List ℕ) → Holds r → r.parts ++ parts_from r.since (piece ++ more) ≡ (read_piece r piece).parts ++ parts_from (read_piece r piece).since more
read_same r [] more h = refl
read_same r (b ∷ bs) more h = (follows r b h).same (bs ++ more) ∙ read_same (read_byte r b) bs more (follows r b h).holds

pieces_same : (r : Reader) (pieces : List (List ℕ)) → Holds r → r.parts ++ parts_from r.since (joined pieces) ≡ finished (read_pieces r pieces)
pieces_same r [] h = refl
pieces_same r (piece ∷ pieces) h = read_same r piece (joined pieces) h ∙ pieces_same (read_piece r piece) pieces (read_holds r piece h)

pub pieces_alike : PiecesCutAlike
pieces_alike pieces = sym (pieces_same start pieces (record { kept_is = refl }))
