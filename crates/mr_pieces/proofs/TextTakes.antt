-- What is read of a text was cut so.
use Rattle.std.proofs.Common.{◌≡◌, ◌≢◌, ℕ, zero, suc, ◌+◌, ◌-◌, ◌≤◌, List, [], ◌∷◌, ◌++◌, length, replicate, take, drop, get_or, refl, sym, ap, subst, ◌∙◌, arith, inl, inr, append_assoc, true, false, Option, Some, None, length-drop}
use Rattle.std.specs.List.{list_all}
use Rattle.std.specs.Prelude.{◌&&◌, nat_lt}
use Rattle.std.proofs.lemmas.Bool.{eq-eqb, ne_eqb, cases_lt, cases_eq, cases_Bool, and_from, and_parts}
use Rattle.std.proofs.lemmas.List.{take_at, drop_at, length-append, length-take}
use Rattle.mr_pieces.specs.declared.collation.Collation.{Collation}
use Rattle.mr_pieces.specs.Pieces.{text_from, mark, trimmed, trim_onto}
use Rattle.mr_pieces.specs.Reading.{is_text_byte, is_piece, mark_before, wanted_mark, judged, text_piece, text_read}
use Rattle.mr_pieces.proofs.Texts.{IsTrimmed, IsTrimmed-trimmed, mark_nil}
use Rattle.mr_pieces.proofs.Cutting.{text_last, text_step}
use Rattle.mr_pieces.proofs.Reading.{text_more, text_short, wanted_whole}
use Rattle.mr_pieces.proofs.RoundTrip.{done, with_front_ok, ok_parts, not_done, parts_of}
use Rattle.mr_pieces.proofs.TextTrip.{wanted_again, some_mark}

-- a list is its trimmed front and spaces
onto_split : (x : ℕ) (xs t : List ℕ) → xs ≡ t ++ replicate (length xs - length t) 32 → x ∷ xs ≡ trim_onto x t ++ replicate (suc (length xs) - length (trim_onto x t)) 32
onto_split x xs [] e =
    elim (cases_eq x 32) [
      | inl space ↦
          let whole : suc (length xs) - 0 ≡ suc (length xs) = omega arith in
          let none : length xs - 0 ≡ length xs = omega arith in
          rw (eq-eqb x 32 space, whole) (ap (λ (l : List ℕ). x ∷ l) (rw none at e) ∙ ap (λ (c : ℕ). c ∷ replicate (length xs) 32) space)
      | inr other ↦
          let less : suc (length xs) - 1 ≡ length xs - 0 = omega arith in
          rw (ne_eqb x 32 other, less) (ap (λ (l : List ℕ). x ∷ l) e)
    ]
onto_split x xs (y ∷ t) e =
    let less : suc (length xs) - suc (suc (length t)) ≡ length xs - suc (length t) = omega arith in
    rw less (ap (λ (l : List ℕ). x ∷ l) e)

pub trim_split : (xs : List ℕ) → xs ≡ trimmed xs ++ replicate (length xs - length (trimmed xs)) 32
trim_split [] = refl
trim_split (x ∷ xs) = onto_split x xs (trimmed xs) (trim_split xs)

onto_shorter : (x : ℕ) (t : List ℕ) → length (trim_onto x t) ≤ suc (length t)
onto_shorter x [] =
    elim (cases_eq x 32) [
      | inl space ↦ rw (eq-eqb x 32 space) (omega arith)
      | inr other ↦ rw (ne_eqb x 32 other) (omega arith)
    ]
onto_shorter x (y ∷ t) = omega arith

trimmed_shorter : (xs : List ℕ) → length (trimmed xs) ≤ length xs
trimmed_shorter [] = omega arith
trimmed_shorter (x ∷ xs) = let a = onto_shorter x (trimmed xs) in let b = trimmed_shorter xs in omega arith

good_front : (c : Collation) (xs ys : List ℕ) → list_all (is_text_byte c) (xs ++ ys) ≡ true → list_all (is_text_byte c) xs ≡ true
good_front c [] ys p = refl
good_front c (x ∷ xs) ys p =
    let parts = and_parts (is_text_byte c x) (list_all (is_text_byte c) (xs ++ ys)) p in
    and_from (is_text_byte c x) (list_all (is_text_byte c) xs) parts.0 (good_front c xs ys parts.1)

good_both : (c : Collation) (xs ys : List ℕ) → list_all (is_text_byte c) xs ≡ true → list_all (is_text_byte c) ys ≡ true → list_all (is_text_byte c) (xs ++ ys) ≡ true
good_both c [] ys p q = q
good_both c (x ∷ xs) ys p q =
    let parts = and_parts (is_text_byte c x) (list_all (is_text_byte c) xs) p in
    and_from (is_text_byte c x) (list_all (is_text_byte c) (xs ++ ys)) parts.0 (good_both c xs ys parts.1 q)

piece_bytes : (c : Collation) (piece : List ℕ) (m : ℕ) → is_piece c piece m ≡ true → list_all (is_text_byte c) piece ≡ true
piece_bytes c piece m h =
    let a = and_parts (nat_lt 0 m) (nat_lt m 4 && list_all (is_text_byte c) piece) h in
    (and_parts (nat_lt m 4) (list_all (is_text_byte c) piece) a.1).1

trimmed-append : (xs : List ℕ) (y : ℕ) (ys : List ℕ) → IsTrimmed (y ∷ ys) → IsTrimmed (xs ++ y ∷ ys)
trimmed-append [] y ys h = h
trimmed-append (x ∷ []) y ys h = h
trimmed-append (x ∷ z ∷ xs) y ys h = trimmed-append (z ∷ xs) y ys h

-- what a text that was read is
pub record WasCut (c : Collation) (bytes t rest : List ℕ) : Type 0 where
  pub spelled : bytes ≡ text_from 8 t ++ rest
  pub trim : IsTrimmed t
  pub good : list_all (is_text_byte c) t ≡ true

end_takes : (c : Collation) (piece after t rest : List ℕ) → length piece ≡ 8 → is_piece c piece 2 ≡ true → trimmed piece ≡ t → after ≡ rest → WasCut c (piece ++ 2 ∷ after) t rest
end_takes c piece after t rest len good t_is after_is =
    let split = trim_split piece in
    let last = text_last 8 (trimmed piece) (omega (arith, trimmed_shorter piece)) in
    let same : text_from 8 (trimmed piece) ≡ piece ++ 2 ∷ [] = last ∙ rw (← len) (ap (λ (l : List ℕ). l ++ 2 ∷ []) (sym split)) in
    record {
      spelled = rw (← t_is, same, after_is, append_assoc) refl;
      trim = subst IsTrimmed t_is (IsTrimmed-trimmed piece);
      good = rw (← t_is) (good_front c (trimmed piece) (replicate (length piece - length (trimmed piece)) 32) (rw (← split) (piece_bytes c piece 2 good)));
    }

some_is : (a b : ℕ) → some_mark a ≡ some_mark b → a ≡ b
some_is a b e = cc

none_some : (a : ℕ) → some_mark a ≡ None → ⊥
none_some a e = cc

more_takes : (c : Collation) (piece after ys t rest : List ℕ) (m : ℕ) → length piece ≡ 8 → is_piece c piece m ≡ true → m ≢ 2 → wanted_mark c after ≡ Some m → t ≡ piece ++ ys → WasCut c after ys rest → WasCut c (piece ++ m ∷ after) t rest
more_takes c piece after [] t rest m len good goes_on wanted t_is cut =
    absurd (goes_on (some_is m 2 (sym wanted ∙ ap (wanted_mark c) cut.spelled ∙ wanted_again c [] rest refl ∙ ap some_mark mark_nil)))
more_takes c piece after (y ∷ ys) t rest m len good goes_on wanted t_is cut =
    let marks : m ≡ mark (y ∷ ys) = some_is m (mark (y ∷ ys)) (sym wanted ∙ ap (wanted_mark c) cut.spelled ∙ wanted_again c (y ∷ ys) rest cut.good) in
    let step = text_step (piece ++ y ∷ ys) (omega (arith, length-append piece (y ∷ ys))) in
    let cut_up : text_from 8 (piece ++ y ∷ ys) ≡ piece ++ mark (y ∷ ys) ∷ text_from 8 (y ∷ ys) = step ∙ rw (take_at piece (y ∷ ys) 8 len, drop_at piece (y ∷ ys) 8 len) refl in
    record {
      spelled =
          ap (λ (l : List ℕ). piece ++ m ∷ l) cut.spelled
          ∙ ap (λ (k : ℕ). piece ++ k ∷ (text_from 8 (y ∷ ys) ++ rest)) marks
          ∙ sym (append_assoc piece (mark (y ∷ ys) ∷ text_from 8 (y ∷ ys)) rest)
          ∙ ap (λ (l : List ℕ). l ++ rest) (sym cut_up)
          ∙ ap (λ (l : List ℕ). text_from 8 l ++ rest) (sym t_is);
      trim = subst IsTrimmed (sym t_is) (trimmed-append piece y ys cut.trim);
      good = rw t_is (good_both c piece (y ∷ ys) (piece_bytes c piece m good) cut.good);
    }

offends : (c : Collation) (xs : List ℕ) (t rest : List ℕ) → 9 ≤ length xs → is_piece c (take 8 xs) (get_or xs 8 0) ≡ false → text_read c xs ≡ done t rest → ⊥
offends c xs t rest long bad e = not_done (9 + length (drop 9 xs)) t rest (sym (text_more c xs long ∙ rw bad refl) ∙ e)

broken : (c : Collation) (after ys rest : List ℕ) → wanted_mark c after ≡ None → text_read c after ≡ done ys rest → ⊥
broken c after ys rest none e =
    elim (cases_lt (length after) 9) [
      | inl short ↦ not_done (length after) ys rest (sym (text_short c after short) ∙ e)
      | inr long ↦ elim (cases_Bool (is_piece c (take 8 after) (get_or after 8 0))) [
        | inl good ↦ none_some (mark_before (take 8 after) (get_or after 8 0)) (sym (wanted_whole c after long ∙ rw good refl) ∙ none)
        | inr bad ↦ offends c after ys rest long bad e
      ]
    ]

judged_takes : (c : Collation) (piece : List ℕ) (m : ℕ) (after t rest : List ℕ) (wanted : Option ℕ) → length piece ≡ 8 → is_piece c piece m ≡ true → m ≢ 2 → wanted_mark c after ≡ wanted
    → ((ys : List ℕ) → text_read c after ≡ done ys rest → WasCut c after ys rest)
    → judged piece m (9 + length after) wanted (text_read c after) ≡ done t rest → WasCut c (piece ++ m ∷ after) t rest
judged_takes c piece m after t rest None len good goes_on none ih e = absurd (broken c after t rest none e)
judged_takes c piece m after t rest (Some w) len good goes_on wanted ih e =
    elim (cases_eq m w) [
      | inl same ↦
          let g = with_front_ok piece (text_read c after) t rest (rw (eq-eqb m w same) at e) in
          more_takes c piece after g.0 t rest m len good goes_on (wanted ∙ ap some_mark (sym same)) g.2 (ih g.0 g.1)
      | inr other ↦ absurd (not_done (9 + length after) t rest (rw (ne_eqb m w other) at e))
    ]

piece_takes : (c : Collation) (piece : List ℕ) (m : ℕ) (after t rest : List ℕ) → length piece ≡ 8 → is_piece c piece m ≡ true
    → ((ys : List ℕ) → text_read c after ≡ done ys rest → WasCut c after ys rest)
    → text_piece c piece m after (text_read c after) ≡ done t rest → WasCut c (piece ++ m ∷ after) t rest
piece_takes c piece m after t rest len good ih e =
    elim (cases_eq m 2) [
      | inl last ↦
          let parts = ok_parts (trimmed piece, after) (t, rest) (rw (good, eq-eqb m 2 last) at e) in
          let good_2 : is_piece c piece 2 ≡ true = rw last at good in
          rw last (end_takes c piece after t rest len good_2 (ap (λ (p : List ℕ × List ℕ). p.0) parts) (ap (λ (p : List ℕ × List ℕ). p.1) parts))
      | inr goes_on ↦ judged_takes c piece m after t rest (wanted_mark c after) len good goes_on refl ih (rw (good, ne_eqb m 2 goes_on) at e)
    ]

pub text_takes : (fuel : ℕ) (c : Collation) (bytes t rest : List ℕ) → length bytes ≤ fuel → text_read c bytes ≡ done t rest → WasCut c bytes t rest
text_takes zero c bytes t rest few e = absurd (not_done (length bytes) t rest (sym (text_short c bytes (omega arith)) ∙ e))
text_takes (suc fuel) c bytes t rest few e =
    elim (cases_lt (length bytes) 9) [
      | inl short ↦ absurd (not_done (length bytes) t rest (sym (text_short c bytes short) ∙ e))
      | inr long ↦ elim (cases_Bool (is_piece c (take 8 bytes) (get_or bytes 8 0))) [
        | inl good ↦
            subst (λ (l : List ℕ). WasCut c l t rest) (sym (parts_of bytes long))
            (piece_takes c (take 8 bytes) (get_or bytes 8 0) (drop 9 bytes) t rest (omega (arith, length-take 8 bytes)) good
            (λ ys read. text_takes fuel c (drop 9 bytes) ys rest (omega (arith, length-drop 9 bytes)) read)
            (sym (text_more c bytes long) ∙ e))
        | inr bad ↦ absurd (offends c bytes t rest long bad e)
      ]
    ]
