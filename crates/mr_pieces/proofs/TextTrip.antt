-- Texts that were cut into pieces are read again.
use Rattle.std.proofs.Common.{◌≡◌, ◌≢◌, ℕ, zero, suc, ◌-◌, ◌<◌, ◌≤◌, List, [], ◌∷◌, ◌++◌, length, replicate, take, drop, refl, sym, ap, ◌∙◌, arith, inl, inr, append_assoc, true, Option, Some, length-drop}
use Rattle.std.specs.List.{list_all}
use Rattle.std.specs.Prelude.{◌&&◌, nat_lt}
use Rattle.std.proofs.lemmas.Bool.{eq-eqb, ne_eqb, cases_lt, cases_eq, lt-ltb, and_from, and_parts}
use Rattle.std.proofs.lemmas.List.{take_at, drop_at, get_or_at, length-append, length-replicate, length-take, take-append-drop, append-nil}
use Rattle.mr_pieces.specs.declared.collation.Collation.{Collation}
use Rattle.mr_pieces.specs.declared.collation.Collation.TheVariants.{Bin, Ci}
use Rattle.mr_pieces.specs.Pieces.{text_from, mark, trimmed, trim_onto}
use Rattle.mr_pieces.specs.Reading.{with_front, is_text_byte, is_piece, mark_before, wanted_mark, text_piece, text_read}
use Rattle.mr_pieces.proofs.Compare.{cmp_same}
use Rattle.mr_pieces.proofs.Texts.{IsTrimmed, IsTrimmed-tail, not_tied, mark_nil, mark_space, mark_below, mark_above, mark_bounds, mark_cmp}
use Rattle.mr_pieces.proofs.Cutting.{text_last, text_step, push_space}
use Rattle.mr_pieces.proofs.Reading.{text_more, wanted_whole}
use Rattle.mr_pieces.proofs.RoundTrip.{done}

-- ---- marks over ++

mark_other : (c : ℕ) (xs ys : List ℕ) → c ≢ 32 → mark (c ∷ xs) ≡ mark (c ∷ ys)
mark_other c xs ys other =
    elim (cases_lt c 32) [
      | inl below ↦ mark_below c xs below ∙ sym (mark_below c ys below)
      | inr not_below ↦ mark_above c xs (omega arith) ∙ sym (mark_above c ys (omega arith))
    ]

pub mark-append : (piece more : List ℕ) → mark (piece ++ more) ≡ mark_before piece (mark more)
mark-append [] more = refl
mark-append (c ∷ piece) more =
    elim (cases_eq c 32) [
      | inl space ↦ mark_space c (piece ++ more) space ∙ mark-append piece more ∙ sym (rw (eq-eqb c 32 space, mark_space c piece space) refl)
      | inr other ↦ mark_other c (piece ++ more) piece other ∙ sym (rw (ne_eqb c 32 other) refl)
    ]

mark_apart : (x : ℕ) (xs : List ℕ) → IsTrimmed (x ∷ xs) → mark (x ∷ xs) ≢ 2
mark_apart x xs h e = not_tied x xs h (mark_cmp (x ∷ xs) ∙ rw e (cmp_same 2))

pub IsTrimmed-drop : (n : ℕ) (xs : List ℕ) → IsTrimmed xs → IsTrimmed (drop n xs)
IsTrimmed-drop zero xs h = h
IsTrimmed-drop (suc n) [] h = tt
IsTrimmed-drop (suc n) (x ∷ xs) h = IsTrimmed-drop n xs (IsTrimmed-tail x xs h)

pub trimmed_same : (xs : List ℕ) → IsTrimmed xs → trimmed xs ≡ xs
trimmed_same [] h = refl
trimmed_same (c ∷ []) h = rw (ne_eqb c 32 h) refl
trimmed_same (c ∷ d ∷ xs) h = ap (trim_onto c) (trimmed_same (d ∷ xs) h)

pub trimmed_pad : (k : ℕ) (xs : List ℕ) → trimmed (xs ++ replicate k 32) ≡ trimmed xs
trimmed_pad zero xs = ap trimmed (append-nil xs)
trimmed_pad (suc k) xs = ap trimmed (sym (append_assoc xs (32 ∷ []) (replicate k 32))) ∙ trimmed_pad k (xs ++ 32 ∷ []) ∙ push_space xs

-- ---- bytes in order

good-append : (c : Collation) (xs ys : List ℕ) → list_all (is_text_byte c) xs ≡ true → list_all (is_text_byte c) ys ≡ true → list_all (is_text_byte c) (xs ++ ys) ≡ true
good-append c [] ys p q = q
good-append c (x ∷ xs) ys p q =
    let parts = and_parts (is_text_byte c x) (list_all (is_text_byte c) xs) p in
    and_from (is_text_byte c x) (list_all (is_text_byte c) (xs ++ ys)) parts.0 (good-append c xs ys parts.1 q)

good_spaces : (c : Collation) (k : ℕ) → list_all (is_text_byte c) (replicate k 32) ≡ true
good_spaces c zero = refl
good_spaces Bin (suc k) = good_spaces Bin k
good_spaces Ci (suc k) = good_spaces Ci k

pub good-take : (c : Collation) (n : ℕ) (xs : List ℕ) → list_all (is_text_byte c) xs ≡ true → list_all (is_text_byte c) (take n xs) ≡ true
good-take c zero xs p = refl
good-take c (suc n) [] p = refl
good-take c (suc n) (x ∷ xs) p =
    let parts = and_parts (is_text_byte c x) (list_all (is_text_byte c) xs) p in
    and_from (is_text_byte c x) (list_all (is_text_byte c) (take n xs)) parts.0 (good-take c n xs parts.1)

pub good-drop : (c : Collation) (n : ℕ) (xs : List ℕ) → list_all (is_text_byte c) xs ≡ true → list_all (is_text_byte c) (drop n xs) ≡ true
good-drop c zero xs p = p
good-drop c (suc n) [] p = refl
good-drop c (suc n) (x ∷ xs) p = good-drop c n xs (and_parts (is_text_byte c x) (list_all (is_text_byte c) xs) p).1

piece_good : (c : Collation) (piece : List ℕ) (m : ℕ) → 1 ≤ m → m ≤ 3 → list_all (is_text_byte c) piece ≡ true → is_piece c piece m ≡ true
piece_good c piece m low high good =
    and_from (nat_lt 0 m) (nat_lt m 4 && list_all (is_text_byte c) piece) (lt-ltb 0 m low) (and_from (nat_lt m 4) (list_all (is_text_byte c) piece) (lt-ltb m 4 (omega arith)) good)

-- ---- a whole piece with its mark, and after it

pub text_parts : (c : Collation) (piece : List ℕ) (m : ℕ) (rest : List ℕ) → length piece ≡ 8 → text_read c (piece ++ m ∷ rest) ≡ text_piece c piece m rest (text_read c rest)
text_parts c piece m rest len =
    let long : 9 ≤ length (piece ++ m ∷ rest) = omega (arith, length-append piece (m ∷ rest)) in
    let nine : length (piece ++ m ∷ []) ≡ 9 = omega (arith, length-append piece (m ∷ [])) in
    let back : drop 9 (piece ++ m ∷ rest) ≡ rest = ap (drop 9) (sym (append_assoc piece (m ∷ []) rest)) ∙ drop_at (piece ++ m ∷ []) rest 9 nine in
    text_more c (piece ++ m ∷ rest) long ∙ rw (take_at piece (m ∷ rest) 8 len, get_or_at piece m rest 0 8 len, back) refl

wanted_parts : (c : Collation) (piece : List ℕ) (m : ℕ) (rest : List ℕ) → length piece ≡ 8 → is_piece c piece m ≡ true → wanted_mark c (piece ++ m ∷ rest) ≡ Some (mark_before piece m)
wanted_parts c piece m rest len good =
    let long : 9 ≤ length (piece ++ m ∷ rest) = omega (arith, length-append piece (m ∷ rest)) in
    wanted_whole c (piece ++ m ∷ rest) long ∙ rw (take_at piece (m ∷ rest) 8 len, get_or_at piece m rest 0 8 len, good) refl

-- ---- and back

pad_of : List ℕ → List ℕ
pad_of t = replicate (8 - length t) 32

pad_len : (t : List ℕ) → length t ≤ 8 → length (t ++ pad_of t) ≡ 8
unfolding pad_of
pad_len t short = omega (arith, length-append t (replicate (8 - length t) 32), length-replicate {A = ℕ} (8 - length t) 32)

end_spelled : (t rest : List ℕ) → length t ≤ 8 → text_from 8 t ++ rest ≡ (t ++ pad_of t) ++ 2 ∷ rest
unfolding pad_of
end_spelled t rest short = ap (λ (l : List ℕ). l ++ rest) (text_last 8 t short) ∙ append_assoc (t ++ replicate (8 - length t) 32) (2 ∷ []) rest

end_good : (c : Collation) (t : List ℕ) → list_all (is_text_byte c) t ≡ true → is_piece c (t ++ pad_of t) 2 ≡ true
unfolding pad_of
end_good c t good = piece_good c (t ++ replicate (8 - length t) 32) 2 (omega arith) (omega arith) (good-append c t (replicate (8 - length t) 32) good (good_spaces c (8 - length t)))

mark_spaces : (k : ℕ) → mark (replicate k 32) ≡ 2
mark_spaces zero = mark_nil
mark_spaces (suc k) = mark_space 32 (replicate k 32) refl ∙ mark_spaces k

mark_pad : (t : List ℕ) → mark_before (t ++ pad_of t) 2 ≡ mark t
unfolding pad_of
mark_pad t =
    let pad : List ℕ = replicate (8 - length t) 32 in
    ap (mark_before (t ++ pad)) (sym mark_nil) ∙ sym (mark-append (t ++ pad) []) ∙ ap mark (append-nil (t ++ pad))
    ∙ mark-append t pad ∙ ap (mark_before t) (mark_spaces (8 - length t) ∙ sym mark_nil) ∙ sym (mark-append t []) ∙ ap mark (append-nil t)

long_spelled : (t rest : List ℕ) → 8 < length t → text_from 8 t ++ rest ≡ take 8 t ++ mark (drop 8 t) ∷ (text_from 8 (drop 8 t) ++ rest)
long_spelled t rest long = ap (λ (l : List ℕ). l ++ rest) (text_step t long) ∙ append_assoc (take 8 t) (mark (drop 8 t) ∷ text_from 8 (drop 8 t)) rest

long_good : (c : Collation) (t : List ℕ) → list_all (is_text_byte c) t ≡ true → is_piece c (take 8 t) (mark (drop 8 t)) ≡ true
long_good c t good =
    let bounds = mark_bounds (drop 8 t) in
    piece_good c (take 8 t) (mark (drop 8 t)) bounds.0 bounds.1 (good-take c 8 t good)

abbrev pub some_mark : ℕ → Option ℕ
some_mark m = Some m

pad_gone : (t : List ℕ) → trimmed (t ++ pad_of t) ≡ trimmed t
unfolding pad_of
pad_gone t = trimmed_pad (8 - length t) t

pub some_apart : (xs : List ℕ) → 0 < length xs → IsTrimmed xs → mark xs ≢ 2
some_apart [] some h = absurd (omega arith)
some_apart (x ∷ xs) some h = mark_apart x xs h

-- what the piece in front of a text wants is its mark
pub wanted_again : (c : Collation) (t rest : List ℕ) → list_all (is_text_byte c) t ≡ true → wanted_mark c (text_from 8 t ++ rest) ≡ Some (mark t)
wanted_again c t rest good =
    elim (cases_lt 8 (length t)) [
      | inl long ↦
          let len : length (take 8 t) ≡ 8 = omega (arith, length-take 8 t) in
          ap (wanted_mark c) (long_spelled t rest long) ∙ wanted_parts c (take 8 t) (mark (drop 8 t)) (text_from 8 (drop 8 t) ++ rest) len (long_good c t good)
          ∙ ap (λ (m : ℕ). some_mark m) (sym (mark-append (take 8 t) (drop 8 t)) ∙ ap mark (take-append-drop 8 t))
      | inr short ↦
          ap (wanted_mark c) (end_spelled t rest short) ∙ wanted_parts c (t ++ pad_of t) 2 rest (pad_len t short) (end_good c t good) ∙ ap (λ (m : ℕ). some_mark m) (mark_pad t)
    ]

end_again : (c : Collation) (t rest : List ℕ) → length t ≤ 8 → IsTrimmed t → list_all (is_text_byte c) t ≡ true → text_read c (text_from 8 t ++ rest) ≡ done t rest
end_again c t rest short trim good =
    ap (text_read c) (end_spelled t rest short) ∙ text_parts c (t ++ pad_of t) 2 rest (pad_len t short) ∙ rw (end_good c t good) (ap (λ (l : List ℕ). done l rest) (pad_gone t ∙ trimmed_same t trim))

pub text_again : (n : ℕ) (c : Collation) (t rest : List ℕ) → length t ≤ n → IsTrimmed t → list_all (is_text_byte c) t ≡ true → text_read c (text_from 8 t ++ rest) ≡ done t rest
text_again zero c t rest few trim good = end_again c t rest (omega arith) trim good
text_again (suc n) c t rest few trim good =
    elim (cases_lt 8 (length t)) [
      | inl long ↦
          let len : length (take 8 t) ≡ 8 = omega (arith, length-take 8 t) in
          let some : 0 < length (drop 8 t) = omega (arith, length-drop 8 t) in
          let ih = text_again n c (drop 8 t) rest (omega (arith, length-drop 8 t)) (IsTrimmed-drop 8 t trim) (good-drop c 8 t good) in
          let apart : mark (drop 8 t) ≢ 2 = some_apart (drop 8 t) some (IsTrimmed-drop 8 t trim) in
          ap (text_read c) (long_spelled t rest long) ∙ text_parts c (take 8 t) (mark (drop 8 t)) (text_from 8 (drop 8 t) ++ rest) len
          ∙ rw (long_good c t good, ne_eqb (mark (drop 8 t)) 2 apart, wanted_again c (drop 8 t) rest (good-drop c 8 t good), eq-eqb (mark (drop 8 t)) (mark (drop 8 t)) refl)
          (ap (with_front (take 8 t)) ih ∙ ap (λ (l : List ℕ). done l rest) (take-append-drop 8 t))
      | inr short ↦ end_again c t rest short trim good
    ]
