-- Pieces of bytes that go on.
use Rattle.std.proofs.Common.{false, ◌==◌, ◌≡◌, ℕ, ◌+◌, ◌-◌, ◌<◌, ◌≤◌, List, [], ◌∷◌, ◌++◌, length, get_or, set, take, drop, suc, zero, refl, sym, ◌∙◌, ap, subst, arith, vec_capacity, length-drop}
use Rattle.std.proofs.lemmas.List.{take-append-le, drop-append-le}
use Rattle.mr_memtable.specs.declared.piece.Piece.{Piece}
use Rattle.mr_memtable.specs.declared.slot.Slot.{Slot}
use Rattle.mr_memtable.specs.Slots.{part, text_in, room_in, GoOn, front_of, version_at, Fits, AreBytes}

-- more bytes behind those of a piece

part_more : (text more : List ℕ) (from to : ℕ) → from ≤ to → to ≤ length text → part (text ++ more) from to ≡ part text from to
part_more text more from to le within =
    ap (take (to - from)) (drop-append-le from text more (omega (arith, le, within)))
    ∙ take-append-le (to - from) (drop from text) more (omega (arith, le, within, length-drop from text))

split_at : (n : ℕ) (xs : List ℕ) → take n xs ++ drop n xs ≡ xs
split_at zero xs = refl
split_at (suc n) [] = refl
split_at (suc n) (x ∷ xs) = ap (λ (ys : List ℕ). x ∷ ys) (split_at n xs)

part_on : (old new : List ℕ) (from to : ℕ) → take (length old) new ≡ old → from ≤ to → to ≤ length old → part new from to ≡ part old from to
part_on old new from to begun le within =
    let e : new ≡ old ++ drop (length old) new = sym (split_at (length old) new) ∙ ap (λ (xs : List ℕ). xs ++ drop (length old) new) begun in
    ap (λ (xs : List ℕ). part xs from to) e ∙ part_more old (drop (length old) new) from to le within

length-on : (old new : List ℕ) → take (length old) new ≡ old → length old ≤ length new
length-on [] new begun = omega arith
length-on (x ∷ old) [] begun = let n = ap length begun in absurd (omega (arith, n))
length-on (x ∷ old) (y ∷ new) begun = omega (arith, length-on old new (ap (drop 1) begun))

begun_append : (old more : List ℕ) → take (length old) (old ++ more) ≡ old
begun_append [] more = refl
begun_append (x ∷ old) more = ap (λ (xs : List ℕ). x ∷ xs) (begun_append old more)

begun_same : (xs : List ℕ) → take (length xs) xs ≡ xs
begun_same [] = refl
begun_same (x ∷ xs) = ap (λ (ys : List ℕ). x ∷ ys) (begun_same xs)

-- where they go on, the slots stay as they are

text_on : (old new : List Piece) (i : ℕ) → GoOn old new → i < length old → take (length (text_in old i)) (text_in new i) ≡ text_in old i
text_on [] new i on lt = absurd (omega (arith, lt))
text_on (p ∷ ps) [] i on lt = absurd on
text_on (p ∷ ps) (q ∷ qs) zero on lt = on.0
text_on (p ∷ ps) (q ∷ qs) (suc i) on lt = text_on ps qs i on.1 (omega (arith, lt))

count_on : (old new : List Piece) → GoOn old new → length old ≤ length new
count_on [] new on = omega arith
count_on (p ∷ ps) [] on = absurd on
count_on (p ∷ ps) (q ∷ qs) on = omega (arith, count_on ps qs on.1)

module _ (old new : List Piece) (s : Slot) (on : GoOn old new) (fit : Fits old s) where
  key_on : part (text_in new s.piece) s.start s.middle ≡ part (text_in old s.piece) s.start s.middle
  key_on = part_on (text_in old s.piece) (text_in new s.piece) s.start s.middle (text_on old new s.piece on fit.piece) fit.places.key (omega (arith, fit.places.value, fit.places.within))

  value_on : part (text_in new s.piece) s.middle s.end ≡ part (text_in old s.piece) s.middle s.end
  value_on = part_on (text_in old s.piece) (text_in new s.piece) s.middle s.end (text_on old new s.piece on fit.piece) fit.places.value fit.places.within

  pub version_on : version_at new s ≡ version_at old s
  version_on = let k = key_on in let v = value_on in rw (k, v) refl

  pub fits_on : Fits new s
  fits_on = record {
    piece = omega (arith, fit.piece, count_on old new on);
    places = record {
      key = fit.places.key;
      value = fit.places.value;
      within = omega (arith, fit.places.within, length-on (text_in old s.piece) (text_in new s.piece) (text_on old new s.piece on fit.piece));
      sequence = fit.places.sequence;
      front = fit.places.front ∙ ap front_of (sym key_on);
    };
    bytes = subst AreBytes (sym key_on) fit.bytes;
  }

pub same_pieces : (ps : List Piece) → GoOn ps ps
same_pieces [] = tt
same_pieces (p ∷ ps) = (begun_same p.bytes.items, same_pieces ps)

pub more_pieces : (ps qs : List Piece) → GoOn ps (ps ++ qs)
more_pieces [] qs = tt
more_pieces (p ∷ ps) qs = (begun_same p.bytes.items, more_pieces ps qs)

-- more bytes in piece i
pub longer_piece : (ps : List Piece) (i : ℕ) (p q : Piece) (more : List ℕ) → p ≡ get_or ps i p → q.bytes.items ≡ p.bytes.items ++ more → GoOn ps (set ps i q)
longer_piece [] i p q more at is = tt
longer_piece (o ∷ ps) zero p q more at is =
    (ap (take (length o.bytes.items)) (is ∙ ap (λ (x : Piece). x.bytes.items ++ more) at) ∙ begun_append o.bytes.items more, same_pieces ps)
longer_piece (o ∷ ps) (suc i) p q more at is = (begun_same o.bytes.items, longer_piece ps i p q more at is)

pub text_is : (ps : List Piece) (i : ℕ) (p : Piece) → i < length ps → p ≡ get_or ps i p → text_in ps i ≡ p.bytes.items
text_is [] i p lt at = absurd (omega (arith, lt))
text_is (o ∷ ps) zero p lt at = ap (λ (x : Piece). x.bytes.items) (sym at)
text_is (o ∷ ps) (suc i) p lt at = text_is ps i p (omega (arith, lt)) at

pub text_got : (ps : List Piece) (i : ℕ) (p : Piece) → i < length ps → text_in ps i ≡ (get_or ps i p).bytes.items
text_got [] i p lt = absurd (omega (arith, lt))
text_got (o ∷ ps) zero p lt = refl
text_got (o ∷ ps) (suc i) p lt = text_got ps i p (omega (arith, lt))

pub text_set : (ps : List Piece) (i : ℕ) (q : Piece) → i < length ps → text_in (set ps i q) i ≡ q.bytes.items
text_set [] i q lt = absurd (omega (arith, lt))
text_set (o ∷ ps) zero q lt = refl
text_set (o ∷ ps) (suc i) q lt = text_set ps i q (omega (arith, lt))

-- the room in the last piece

pub some_piece : (ps : List Piece) → false ≡ (length ps == 0) → 0 < length ps
some_piece [] is = cc
some_piece (p ∷ ps) is = omega arith

pub room_is : (ps : List Piece) (i : ℕ) (p : Piece) → i + 1 ≡ length ps → p ≡ get_or ps i p → room_in ps ≡ vec_capacity p.bytes - length p.bytes.items
room_is [] i p last at = absurd (omega (arith, last))
room_is (o ∷ []) zero p last at = ap (λ (x : Piece). vec_capacity x.bytes - length x.bytes.items) (sym at)
room_is (o ∷ []) (suc i) p last at = absurd (omega (arith, last))
room_is (o ∷ n ∷ ps) zero p last at = absurd (omega (arith, last))
room_is (o ∷ n ∷ ps) (suc i) p last at = room_is (n ∷ ps) i p (omega (arith, last)) at

pub room_set : (ps : List Piece) (i : ℕ) (q : Piece) → i + 1 ≡ length ps → room_in (set ps i q) ≡ vec_capacity q.bytes - length q.bytes.items
room_set [] i q last = absurd (omega (arith, last))
room_set (o ∷ []) zero q last = refl
room_set (o ∷ []) (suc i) q last = absurd (omega (arith, last))
room_set (o ∷ n ∷ ps) zero q last = absurd (omega (arith, last))
room_set (o ∷ n ∷ []) (suc zero) q last = refl
room_set (o ∷ n ∷ []) (suc (suc i)) q last = absurd (omega (arith, last))
room_set (o ∷ n ∷ m ∷ ps) (suc zero) q last = absurd (omega (arith, last))
room_set (o ∷ n ∷ m ∷ ps) (suc (suc i)) q last = room_set (n ∷ m ∷ ps) (suc i) q (omega (arith, last))

pub room_push : (ps : List Piece) (q : Piece) → room_in (ps ++ q ∷ []) ≡ vec_capacity q.bytes - length q.bytes.items
room_push [] q = refl
room_push (o ∷ []) q = refl
room_push (o ∷ n ∷ ps) q = room_push (n ∷ ps) q
