-- Bytes that were cut into pieces are read again, and what is read was cut so.
use Rattle.std.proofs.Common.{◌≡◌, ◌≢◌, ◌⊎◌, ℕ, zero, suc, ◌+◌, ◌-◌, ◌<◌, ◌≤◌, List, [], ◌∷◌, ◌++◌, length, replicate, take, drop, get_or, refl, sym, ap, subst, ◌∙◌, arith, inl, inr, append_assoc, Bool, true, false, Ok, Err, cond, length-drop}
use Rattle.std.specs.List.{list_all}
use Rattle.std.specs.Prelude.{◌==◌, ◌&&◌, ◌||◌, nat_lt, nat_le}
use Rattle.std.proofs.lemmas.Bool.{eq-eqb, ne_eqb, cases_lt, cases_eq, le-leb, lt-ltb, and_from, or_right, or_left, and_parts, or_cases, eqb-true, leb-true, ltb-true, false≢true}
use Rattle.std.proofs.lemmas.List.{take_at, drop_at, get_or_at, length-append, length-replicate, length-take, take-append-drop, drop_more}
use Rattle.mr_pieces.specs.Pieces.{bytes_from}
use Rattle.mr_pieces.specs.Reading.{Read, with_front, is_last, bytes_piece, bytes_read}
use Rattle.mr_pieces.proofs.Cutting.{bytes_end, bytes_step}
use Rattle.mr_pieces.proofs.Reading.{bytes_more, bytes_short}

abbrev pub done : List ℕ → List ℕ → Read
done xs rest = Ok (xs, rest)

-- what stands in a whole piece with its count, and after it
piece_parts : (first : Bool) (piece : List ℕ) (n : ℕ) (rest : List ℕ) → length piece ≡ 8 → bytes_read first (piece ++ n ∷ rest) ≡ bytes_piece first piece n rest (bytes_read false rest)
piece_parts first piece n rest len =
    let long : 9 ≤ length (piece ++ n ∷ rest) = omega (arith, length-append piece (n ∷ rest)) in
    let nine : length (piece ++ n ∷ []) ≡ 9 = omega (arith, length-append piece (n ∷ [])) in
    let back : drop 9 (piece ++ n ∷ rest) ≡ rest = ap (drop 9) (sym (append_assoc piece (n ∷ []) rest)) ∙ drop_at (piece ++ n ∷ []) rest 9 nine in
    bytes_more first (piece ++ n ∷ rest) long ∙ rw (take_at piece (n ∷ rest) 8 len, get_or_at piece n rest 0 8 len, back) refl

all_zero : (n : ℕ) → list_all (λ b. b == 0) (replicate n 0) ≡ true
all_zero zero = refl
all_zero (suc n) = all_zero n

-- an empty list is cut into one piece, the only one
abbrev pub IsSome-or : Bool → List ℕ → Type 0
IsSome-or first xs = (first ≡ true) ⊎ (0 < length xs)

last_again : (first : Bool) (xs rest : List ℕ) → length xs ≤ 8 → IsSome-or first xs → bytes_read first (bytes_from 8 xs ++ rest) ≡ Ok (xs, rest)
last_again first xs rest short some =
    let n : ℕ = length xs in
    let pad : List ℕ = replicate (8 - n) 0 in
    let piece : List ℕ = xs ++ pad in
    let len : length piece ≡ 8 = omega (arith, length-append xs pad, length-replicate {A = ℕ} (8 - n) 0) in
    let spelled : bytes_from 8 xs ++ rest ≡ piece ++ n ∷ rest = ap (λ (l : List ℕ). l ++ rest) (bytes_end xs short) ∙ append_assoc piece (n ∷ []) rest in
    let other : n ≢ 9 = omega arith in
    let one : (first || nat_lt 0 n) ≡ true = elim some [ inl e ↦ or_left first (nat_lt 0 n) e | inr e ↦ or_right first (nat_lt 0 n) (lt-ltb 0 n e) ] in
    let last : is_last first piece n ≡ true =
    and_from (nat_le n 8) ((first || nat_lt 0 n) && list_all (λ b. b == 0) (drop n piece)) (le-leb n 8 short)
    (and_from (first || nat_lt 0 n) (list_all (λ b. b == 0) (drop n piece)) one (ap (list_all (λ b. b == 0)) (drop_at xs pad n refl) ∙ all_zero (8 - n))) in
    ap (bytes_read first) spelled ∙ piece_parts first piece n rest len ∙ rw (ne_eqb n 9 other, last) (ap (λ (l : List ℕ). done l rest) (take_at xs pad n refl))

pub bytes_again : (n : ℕ) (first : Bool) (xs rest : List ℕ) → length xs ≤ n → IsSome-or first xs → bytes_read first (bytes_from 8 xs ++ rest) ≡ Ok (xs, rest)
bytes_again zero first xs rest few some = last_again first xs rest (omega arith) some
bytes_again (suc n) first xs rest few some =
    elim (cases_lt 8 (length xs)) [
      | inl long ↦
          let len : length (take 8 xs) ≡ 8 = omega (arith, length-take 8 xs) in
          let ih = bytes_again n false (drop 8 xs) rest (omega (arith, length-drop 8 xs)) (inr (omega (arith, length-drop 8 xs))) in
          rw (bytes_step xs long, append_assoc (take 8 xs) (9 ∷ bytes_from 8 (drop 8 xs)) rest)
          (piece_parts first (take 8 xs) 9 (bytes_from 8 (drop 8 xs) ++ rest) len
          ∙ ap (with_front (take 8 xs)) ih ∙ ap (λ (l : List ℕ). done l rest) (take-append-drop 8 xs))
      | inr few_left ↦ last_again first xs rest few_left some
    ]

-- ---- what is read was cut so

abbrev pub read_ok : List ℕ × List ℕ → Read
read_ok x = Ok x

pub ok_parts : (x y : List ℕ × List ℕ) → read_ok x ≡ read_ok y → x ≡ y
ok_parts x y e = cc

pub with_front_ok : (piece : List ℕ) (more : Read) (xs rest : List ℕ) → with_front piece more ≡ done xs rest → (ys : List ℕ) × (more ≡ done ys rest) × (xs ≡ piece ++ ys)
with_front_ok piece (Ok x) xs rest e =
    let parts = ok_parts (piece ++ x.0, x.1) (xs, rest) e in
    (x.0, ap (λ (l : List ℕ). done x.0 l) (ap (λ (p : List ℕ × List ℕ). p.1) parts), sym (ap (λ (p : List ℕ × List ℕ). p.0) parts))
with_front_ok piece (Err left) xs rest e = absurd cc

zeros_are : (xs : List ℕ) → list_all (λ b. b == 0) xs ≡ true → xs ≡ replicate (length xs) 0
zeros_are [] e = refl
zeros_are (x ∷ xs) e =
    let parts = and_parts (x == 0) (list_all (λ b. b == 0) xs) e in
    let zero_first = eqb-true x 0 parts.0 in
    let zeros_after = zeros_are xs parts.1 in
    cc

last_takes : (first : Bool) (piece : List ℕ) (n : ℕ) → length piece ≡ 8 → is_last first piece n ≡ true → (bytes_from 8 (take n piece) ≡ piece ++ n ∷ []) × IsSome-or first (take n piece)
last_takes first piece n len last =
    let whole = and_parts (nat_le n 8) ((first || nat_lt 0 n) && list_all (λ b. b == 0) (drop n piece)) last in
    let parts = and_parts (first || nat_lt 0 n) (list_all (λ b. b == 0) (drop n piece)) whole.1 in
    let few : n ≤ 8 = leb-true n 8 whole.0 in
    let front_len : length (take n piece) ≡ n = omega (arith, length-take n piece) in
    let back_len : length (drop n piece) ≡ 8 - n = omega (arith, length-drop n piece) in
    let zeros : drop n piece ≡ replicate (8 - n) 0 = zeros_are (drop n piece) parts.1 ∙ ap (λ (k : ℕ). replicate k 0) back_len in
    let spelled = bytes_end (take n piece) (omega arith) in (
      rw front_len at spelled ∙ ap (λ (l : List ℕ). take n piece ++ l ++ n ∷ []) (sym zeros) ∙ ap (λ (l : List ℕ). l ++ n ∷ []) (take-append-drop n piece),
      elim (or_cases first (nat_lt 0 n) parts.0) [
        | inl e ↦ inl e
        | inr e ↦ let some : 0 < n = ltb-true 0 n e in inr (omega arith)
      ],
    )

pub parts_of : (bytes : List ℕ) → 9 ≤ length bytes → bytes ≡ take 8 bytes ++ get_or bytes 8 0 ∷ drop 9 bytes
parts_of bytes long = sym (take-append-drop 8 bytes) ∙ ap (λ (l : List ℕ). take 8 bytes ++ l) (drop_more bytes 8 0 (omega arith))

some_false : (xs : List ℕ) → IsSome-or false xs → 0 < length xs
some_false xs (inl e) = absurd (false≢true e)
some_false xs (inr h) = h

-- more than a piece is cut after the first 8
longer : (piece ys : List ℕ) → length piece ≡ 8 → 0 < length ys → bytes_from 8 (piece ++ ys) ≡ piece ++ 9 ∷ bytes_from 8 ys
longer piece ys len some =
    bytes_step (piece ++ ys) (omega (arith, length-append piece ys)) ∙ rw (take_at piece ys 8 len, drop_at piece ys 8 len) refl

nine_case : (first : Bool) (piece : List ℕ) (n : ℕ) (after xs ys rest : List ℕ) → length piece ≡ 8 → n ≡ 9 → xs ≡ piece ++ ys → after ≡ bytes_from 8 ys ++ rest → 0 < length ys → (piece ++ n ∷ after ≡ bytes_from 8 xs ++ rest) × IsSome-or first xs
nine_case first piece n after xs ys rest len nine xs_is after_is some =
    (rw (nine, xs_is, longer piece ys len some, after_is, append_assoc) refl, inr (rw xs_is (omega (arith, length-append piece ys))))

last_case : (first : Bool) (piece : List ℕ) (n : ℕ) (after xs rest : List ℕ) → length piece ≡ 8 → is_last first piece n ≡ true → take n piece ≡ xs → after ≡ rest → (piece ++ n ∷ after ≡ bytes_from 8 xs ++ rest) × IsSome-or first xs
last_case first piece n after xs rest len last xs_is after_is =
    let t = last_takes first piece n len last in
    (rw (← xs_is, t.0, after_is, append_assoc) refl, subst (λ (l : List ℕ). IsSome-or first l) xs_is t.1)

pub not_done : (left : ℕ) (xs rest : List ℕ) → let r : Read = Err left in r ≡ done xs rest → ⊥
not_done left xs rest e = cc

last_or_not : (first : Bool) (piece : List ℕ) (n : ℕ) (after xs rest : List ℕ) (b : Bool) → length piece ≡ 8 → is_last first piece n ≡ b → cond b (done (take n piece) after) (Err (9 + length after)) ≡ done xs rest → (piece ++ n ∷ after ≡ bytes_from 8 xs ++ rest) × IsSome-or first xs
last_or_not first piece n after xs rest true len last e =
    let parts = ok_parts (take n piece, after) (xs, rest) e in
    last_case first piece n after xs rest len last (ap (λ (p : List ℕ × List ℕ). p.0) parts) (ap (λ (p : List ℕ × List ℕ). p.1) parts)
last_or_not first piece n after xs rest false len last e = absurd (not_done (9 + length after) xs rest e)

takes_case : (first : Bool) (piece : List ℕ) (n : ℕ) (after xs rest : List ℕ) (more : Read) → length piece ≡ 8
    → ((ys : List ℕ) → more ≡ done ys rest → (after ≡ bytes_from 8 ys ++ rest) × (0 < length ys))
    → bytes_piece first piece n after more ≡ done xs rest → (piece ++ n ∷ after ≡ bytes_from 8 xs ++ rest) × IsSome-or first xs
takes_case first piece n after xs rest more len ih e =
    elim (cases_eq n 9) [
      | inl nine ↦
          let g = with_front_ok piece more xs rest (rw (eq-eqb n 9 nine) at e) in
          let deep = ih g.0 g.1 in
          nine_case first piece n after xs g.0 rest len nine g.2 deep.0 deep.1
      | inr other ↦ last_or_not first piece n after xs rest (is_last first piece n) len refl (rw (ne_eqb n 9 other) at e)
    ]

pub bytes_takes : (fuel : ℕ) (first : Bool) (bytes xs rest : List ℕ) → length bytes ≤ fuel → bytes_read first bytes ≡ done xs rest → (bytes ≡ bytes_from 8 xs ++ rest) × IsSome-or first xs
bytes_takes zero first bytes xs rest few e = absurd (not_done (length bytes) xs rest (sym (bytes_short first bytes (omega arith)) ∙ e))
bytes_takes (suc fuel) first bytes xs rest few e =
    elim (cases_lt (length bytes) 9) [
      | inl short ↦ absurd (not_done (length bytes) xs rest (sym (bytes_short first bytes short) ∙ e))
      | inr long ↦
          let t = takes_case first (take 8 bytes) (get_or bytes 8 0) (drop 9 bytes) xs rest (bytes_read false (drop 9 bytes)) (omega (arith, length-take 8 bytes))
          (λ ys more. let deep = bytes_takes fuel false (drop 9 bytes) ys rest (omega (arith, length-drop 9 bytes)) more in (deep.0, some_false ys deep.1))
          (sym (bytes_more first bytes long) ∙ e) in
          (parts_of bytes long ∙ t.0, t.1)
    ]
