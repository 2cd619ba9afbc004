-- What is read was cut so, and what was cut is read again.
use Rattle.std.proofs.Common.{◌≡◌, ◌≢◌, ℕ, ◌+◌, ◌<◌, ◌≤◌, List, ◌∷◌, ◌++◌, length, take, drop, get_or, refl, sym, ◌∙◌, arith, Bool, true, false, Result, Ok, Err, Some, None, cond, length-drop}
use Rattle.std.proofs.lemmas.Bool.{eq-eqb, ne_eqb}
use Rattle.std.proofs.lemmas.List.{drop-drop, take-append-drop}
use Rattle.mr_pieces.specs.declared.collation.Collation.{Collation}
use Rattle.mr_pieces.specs.Reading.{Read, with_front, rest_of, is_last, bytes_piece, bytes_read, text_read, text_piece, judged, is_piece, mark_before, wanted_mark}

front_kept : (piece : List ℕ) (more : Read) → rest_of (with_front piece more) ≡ rest_of more
front_kept piece (Ok x) = refl
front_kept piece (Err left) = refl

-- the cut behind the last piece
pub cut_at : (key : List ℕ) (at : ℕ) (read : Result (List ℕ) ℕ) (front back : List ℕ) {here : Result (List ℕ) ℕ} → here ≡ read → here ≡ Ok (drop 9 (drop at key)) → front ≡ take (at + 9) key → back ≡ drop (at + 9) key → (read ≡ Ok back) × (key ≡ front ++ back)
cut_at key at read front back same last front_is back_is =
    (rw (back_is, ← drop-drop 9 at key) (sym same ∙ last), rw (front_is, back_is) (sym (take-append-drop (at + 9) key)))

-- ---- bytes, piece by piece

pub bytes_more : (first : Bool) (xs : List ℕ) → 9 ≤ length xs → bytes_read first xs ≡ bytes_piece first (take 8 xs) (get_or xs 8 0) (drop 9 xs) (bytes_read false (drop 9 xs))
unfolding bytes_read
bytes_more first (a ∷ b ∷ c ∷ d ∷ e ∷ f ∷ g ∷ h ∷ n ∷ rest) long = refl
bytes_more first xs long = absurd (omega arith)

pub bytes_short : (first : Bool) (xs : List ℕ) → length xs < 9 → bytes_read first xs ≡ Err (length xs)
unfolding bytes_read
bytes_short first (a ∷ b ∷ c ∷ d ∷ e ∷ f ∷ g ∷ h ∷ n ∷ rest) short = absurd (omega arith)
bytes_short first xs short = refl

pub bytes_goes_on : (first : Bool) (xs : List ℕ) → 9 ≤ length xs → get_or xs 8 0 ≡ 9 → rest_of (bytes_read first xs) ≡ rest_of (bytes_read false (drop 9 xs))
bytes_goes_on first xs long count = rw (bytes_more first xs long, eq-eqb (get_or xs 8 0) 9 count) (front_kept (take 8 xs) (bytes_read false (drop 9 xs)))

pub bytes_ends : (first : Bool) (xs : List ℕ) → 9 ≤ length xs → get_or xs 8 0 ≢ 9 → is_last first (take 8 xs) (get_or xs 8 0) ≡ true → rest_of (bytes_read first xs) ≡ Ok (drop 9 xs)
bytes_ends first xs long count last = rw (bytes_more first xs long, ne_eqb (get_or xs 8 0) 9 count, last) refl

pub bytes_offends : (first : Bool) (xs : List ℕ) → 9 ≤ length xs → get_or xs 8 0 ≢ 9 → is_last first (take 8 xs) (get_or xs 8 0) ≡ false → rest_of (bytes_read first xs) ≡ Err (length xs)
bytes_offends first xs long count last =
    let all : 9 + length (drop 9 xs) ≡ length xs = omega (arith, length-drop 9 xs) in
    rw (bytes_more first xs long, ne_eqb (get_or xs 8 0) 9 count, last, all) refl

-- ---- texts, piece by piece

pub text_more : (c : Collation) (xs : List ℕ) → 9 ≤ length xs → text_read c xs ≡ text_piece c (take 8 xs) (get_or xs 8 0) (drop 9 xs) (text_read c (drop 9 xs))
unfolding text_read
text_more c (a ∷ b ∷ d ∷ e ∷ f ∷ g ∷ h ∷ i ∷ m ∷ rest) long = refl
text_more c xs long = absurd (omega arith)

pub text_short : (c : Collation) (xs : List ℕ) → length xs < 9 → text_read c xs ≡ Err (length xs)
unfolding text_read
text_short c (a ∷ b ∷ d ∷ e ∷ f ∷ g ∷ h ∷ i ∷ m ∷ rest) short = absurd (omega arith)
text_short c xs short = refl

pub wanted_whole : (c : Collation) (xs : List ℕ) → 9 ≤ length xs → wanted_mark c xs ≡ cond (is_piece c (take 8 xs) (get_or xs 8 0)) (Some (mark_before (take 8 xs) (get_or xs 8 0))) None
unfolding wanted_mark
wanted_whole c (a ∷ b ∷ d ∷ e ∷ f ∷ g ∷ h ∷ i ∷ m ∷ rest) long = refl
wanted_whole c xs long = absurd (omega arith)

pub wanted_short : (c : Collation) (xs : List ℕ) → length xs < 9 → wanted_mark c xs ≡ None
unfolding wanted_mark
wanted_short c (a ∷ b ∷ d ∷ e ∷ f ∷ g ∷ h ∷ i ∷ m ∷ rest) short = absurd (omega arith)
wanted_short c xs short = refl

pub text_offends : (c : Collation) (xs : List ℕ) → 9 ≤ length xs → is_piece c (take 8 xs) (get_or xs 8 0) ≡ false → rest_of (text_read c xs) ≡ Err (length xs)
text_offends c xs long bad =
    let all : 9 + length (drop 9 xs) ≡ length xs = omega (arith, length-drop 9 xs) in
    rw (text_more c xs long, bad, all) refl

pub text_ends : (c : Collation) (xs : List ℕ) → 9 ≤ length xs → is_piece c (take 8 xs) (get_or xs 8 0) ≡ true → get_or xs 8 0 ≡ 2 → rest_of (text_read c xs) ≡ Ok (drop 9 xs)
text_ends c xs long good last = rw (text_more c xs long, good, eq-eqb (get_or xs 8 0) 2 last) refl

-- a piece that isn't the last is judged
pub text_judged : (c : Collation) (xs : List ℕ) → 9 ≤ length xs → is_piece c (take 8 xs) (get_or xs 8 0) ≡ true → get_or xs 8 0 ≢ 2 → text_read c xs ≡ judged (take 8 xs) (get_or xs 8 0) (length xs) (wanted_mark c (drop 9 xs)) (text_read c (drop 9 xs))
text_judged c xs long good goes_on =
    let all : 9 + length (drop 9 xs) ≡ length xs = omega (arith, length-drop 9 xs) in
    rw (text_more c xs long, good, ne_eqb (get_or xs 8 0) 2 goes_on, all) refl

pub text_goes_on : (c : Collation) (xs : List ℕ) → 9 ≤ length xs → is_piece c (take 8 xs) (get_or xs 8 0) ≡ true → get_or xs 8 0 ≢ 2 → wanted_mark c (drop 9 xs) ≡ None → rest_of (text_read c xs) ≡ rest_of (text_read c (drop 9 xs))
text_goes_on c xs long good goes_on none = rw (text_judged c xs long good goes_on, none) refl

pub text_agrees : (c : Collation) (xs : List ℕ) (wanted : ℕ) → 9 ≤ length xs → is_piece c (take 8 xs) (get_or xs 8 0) ≡ true → get_or xs 8 0 ≢ 2 → wanted_mark c (drop 9 xs) ≡ Some wanted → get_or xs 8 0 ≡ wanted → rest_of (text_read c xs) ≡ rest_of (text_read c (drop 9 xs))
text_agrees c xs wanted long good goes_on some same = rw (text_judged c xs long good goes_on, some, eq-eqb (get_or xs 8 0) wanted same) (front_kept (take 8 xs) (text_read c (drop 9 xs)))

pub text_differs : (c : Collation) (xs : List ℕ) (wanted : ℕ) → 9 ≤ length xs → is_piece c (take 8 xs) (get_or xs 8 0) ≡ true → get_or xs 8 0 ≢ 2 → wanted_mark c (drop 9 xs) ≡ Some wanted → get_or xs 8 0 ≢ wanted → rest_of (text_read c xs) ≡ Err (length xs)
text_differs c xs wanted long good goes_on some other = rw (text_judged c xs long good goes_on, some, ne_eqb (get_or xs 8 0) wanted other) refl
