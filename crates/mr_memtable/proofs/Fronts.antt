-- A key with a smaller front is smaller.
use Rattle.std.proofs.Common.{◌≡◌, ◌≢◌, ℕ, None, get_or, ◌+◌, ◌*◌, ◌<◌, ◌≤◌, List, [], ◌∷◌, length, take, drop, suc, zero, refl, sym, ◌∙◌, ap, subst, inl, inr, arith}
use Rattle.std.specs.Prelude.{slice_index}
use Rattle.std.specs.List.{insert}
use Rattle.std.specs.declared.cmp.Ordering.{Ordering}
use Rattle.std.specs.declared.cmp.Ordering.TheVariants.{Less, Equal, Greater}
use Rattle.std.specs.Ordering.{nat_cmp, is_gt, ordering_then, ordering_reverse}
use Rattle.std.specs.Cmp.{nat_cmp_is}
use Rattle.std.specs.Cmp.Lexicographic.{slice_cmp}
use Rattle.std.proofs.lemmas.Bool.{cases_lt}
use Rattle.mr_base.specs.declared.stop.Direction.{Direction}
use Rattle.mr_base.specs.declared.stop.Direction.TheVariants.{Forward, Reverse}
use Rattle.mr_iter.specs.Versions.{key_cmp}
use Rattle.mr_iter.specs.Order.{key_total}
use Rattle.mr_iter.specs.Versions.{as_version}
use Rattle.mr_memtable.specs.declared.piece.Piece.{Piece}
use Rattle.mr_memtable.specs.declared.slot.Slot.{Slot}
use Rattle.mr_memtable.specs.Slots.{part, text_in, AreBytes, front_of, front_cmp, Fits, IsFirst, fronts_of, goes_before, no_slot}

pub all_bytes : (xs : List ℕ) → ((i : ℕ) → slice_index xs i < 256) → AreBytes xs
all_bytes [] each = tt
all_bytes (x ∷ xs) each = (each 0, all_bytes xs (λ i. each (suc i)))

-- the number of n more bytes behind those of a number
abbrev fronted : ℕ → ℕ → List ℕ → ℕ
fronted zero acc xs = acc
fronted (suc n) acc [] = fronted n (acc * 256) []
fronted (suc n) acc (x ∷ xs) = fronted n (acc * 256 + x) xs

-- what stands in front decides
less : (n a b : ℕ) (xs ys : List ℕ) → AreBytes xs → AreBytes ys → a < b → fronted n a xs < fronted n b ys
less zero a b xs ys all_x all_y lt = lt
less (suc n) a b [] [] all_x all_y lt = less n (a * 256) (b * 256) [] [] tt tt (omega (arith, lt))
less (suc n) a b [] (y ∷ ys) all_x all_y lt = less n (a * 256) (b * 256 + y) [] ys tt all_y.1 (omega (arith, lt))
less (suc n) a b (x ∷ xs) [] all_x all_y lt = less n (a * 256 + x) (b * 256) xs [] all_x.1 tt (omega (arith, lt, all_x.0))
less (suc n) a b (x ∷ xs) (y ∷ ys) all_x all_y lt = less n (a * 256 + x) (b * 256 + y) xs ys all_x.1 all_y.1 (omega (arith, lt, all_x.0))

-- no text is less than the empty one
none_less : (xs : List ℕ) → slice_cmp nat_cmp xs [] ≡ Less → ⊥
none_less [] e = cc
none_less (x ∷ xs) e = cc

decides : (n a : ℕ) (xs ys : List ℕ) → AreBytes xs → AreBytes ys → fronted n a xs < fronted n a ys → slice_cmp nat_cmp xs ys ≡ Less
decides zero a xs ys all_x all_y lt = absurd (omega (arith, lt))
decides (suc n) a [] [] all_x all_y lt = absurd (omega (arith, lt))
decides (suc n) a [] (y ∷ ys) all_x all_y lt = refl
decides (suc n) a (x ∷ xs) [] all_x all_y lt = elim (cases_lt 0 x) [
  | inl some ↦ absurd (omega (arith, lt, less n (a * 256) (a * 256 + x) [] xs tt all_x.1 (omega (arith, some))))
  | inr none ↦
      let e : a * 256 + x ≡ a * 256 = omega (arith, none) in
      absurd (none_less xs (decides n (a * 256) xs [] all_x.1 tt (subst (λ (m : ℕ). fronted n m xs < fronted n (a * 256) []) e lt)))
]
decides (suc n) a (x ∷ xs) (y ∷ ys) all_x all_y lt = elim (cases_lt x y) [
  | inl below ↦ rw (nat_less x y below) refl
  | inr not_below ↦ elim (cases_lt y x) [
    | inl above ↦ absurd (omega (arith, lt, less n (a * 256 + y) (a * 256 + x) ys xs all_y.1 all_x.1 (omega (arith, above))))
    | inr not_above ↦
        let e : x ≡ y = omega (arith, not_below, not_above) in
        rw (nat_same x y e) (decides n (a * 256 + x) xs ys all_x.1 all_y.1 (subst (λ (m : ℕ). fronted n (a * 256 + x) xs < fronted n (a * 256 + m) ys) (sym e) lt))
  ]
]
  where
    nat_less : (x y : ℕ) → x < y → nat_cmp x y ≡ Less
    nat_less x y lt = sym (nat_cmp_is x y Less lt)

    nat_same : (x y : ℕ) → x ≡ y → nat_cmp x y ≡ Equal
    nat_same x y e = sym (nat_cmp_is x y Equal e)

bridge : (xs : List ℕ) → front_of xs ≡ fronted 16 0 xs
bridge [] = refl
bridge (x1 ∷ []) = omega arith
bridge (x1 ∷ x2 ∷ []) = omega arith
bridge (x1 ∷ x2 ∷ x3 ∷ []) = omega arith
bridge (x1 ∷ x2 ∷ x3 ∷ x4 ∷ []) = omega arith
bridge (x1 ∷ x2 ∷ x3 ∷ x4 ∷ x5 ∷ []) = omega arith
bridge (x1 ∷ x2 ∷ x3 ∷ x4 ∷ x5 ∷ x6 ∷ []) = omega arith
bridge (x1 ∷ x2 ∷ x3 ∷ x4 ∷ x5 ∷ x6 ∷ x7 ∷ []) = omega arith
bridge (x1 ∷ x2 ∷ x3 ∷ x4 ∷ x5 ∷ x6 ∷ x7 ∷ x8 ∷ []) = omega arith
bridge (x1 ∷ x2 ∷ x3 ∷ x4 ∷ x5 ∷ x6 ∷ x7 ∷ x8 ∷ x9 ∷ []) = omega arith
bridge (x1 ∷ x2 ∷ x3 ∷ x4 ∷ x5 ∷ x6 ∷ x7 ∷ x8 ∷ x9 ∷ x10 ∷ []) = omega arith
bridge (x1 ∷ x2 ∷ x3 ∷ x4 ∷ x5 ∷ x6 ∷ x7 ∷ x8 ∷ x9 ∷ x10 ∷ x11 ∷ []) = omega arith
bridge (x1 ∷ x2 ∷ x3 ∷ x4 ∷ x5 ∷ x6 ∷ x7 ∷ x8 ∷ x9 ∷ x10 ∷ x11 ∷ x12 ∷ []) = omega arith
bridge (x1 ∷ x2 ∷ x3 ∷ x4 ∷ x5 ∷ x6 ∷ x7 ∷ x8 ∷ x9 ∷ x10 ∷ x11 ∷ x12 ∷ x13 ∷ []) = omega arith
bridge (x1 ∷ x2 ∷ x3 ∷ x4 ∷ x5 ∷ x6 ∷ x7 ∷ x8 ∷ x9 ∷ x10 ∷ x11 ∷ x12 ∷ x13 ∷ x14 ∷ []) = omega arith
bridge (x1 ∷ x2 ∷ x3 ∷ x4 ∷ x5 ∷ x6 ∷ x7 ∷ x8 ∷ x9 ∷ x10 ∷ x11 ∷ x12 ∷ x13 ∷ x14 ∷ x15 ∷ []) = omega arith
bridge (x1 ∷ x2 ∷ x3 ∷ x4 ∷ x5 ∷ x6 ∷ x7 ∷ x8 ∷ x9 ∷ x10 ∷ x11 ∷ x12 ∷ x13 ∷ x14 ∷ x15 ∷ x16 ∷ xs) = omega arith

smaller : (xs ys : List ℕ) → AreBytes xs → AreBytes ys → front_of xs < front_of ys → slice_cmp nat_cmp xs ys ≡ Less
smaller xs ys all_x all_y lt = decides 16 0 xs ys all_x all_y (subst (λ (m : ℕ). m < fronted 16 0 ys) (bridge xs) (subst (λ (m : ℕ). front_of xs < m) (bridge ys) lt))

-- where two keys have different fronts, these decide
module _ (a b : List ℕ) (all_a : AreBytes a) (all_b : AreBytes b) (differ : front_of a ≢ front_of b) where
  a_first : front_of a < front_of b → (slice_cmp nat_cmp a b ≡ Less) × (slice_cmp nat_cmp b a ≡ Greater)
  a_first lt = let e = smaller a b all_a all_b lt in (e, (key_total Forward).antisymm b a ∙ ap ordering_reverse e)

  b_first : (front_of a < front_of b → ⊥) → (slice_cmp nat_cmp a b ≡ Greater) × (slice_cmp nat_cmp b a ≡ Less)
  b_first no_less =
      let lt : front_of b < front_of a = elim (cases_lt (front_of b) (front_of a)) [
        | inl is ↦ is
        | inr not_below ↦ elim (cases_lt (front_of a) (front_of b)) [
          | inl is ↦ absurd (no_less is)
          | inr same ↦ absurd (differ (omega (arith, not_below, same)))
        ]
      ] in
      let e = smaller b a all_b all_a lt in ((key_total Forward).antisymm a b ∙ ap ordering_reverse e, e)

  pub decided : (d : Direction) (o : Ordering) → is_gt (ordering_then (key_cmp d a b) o) ≡ is_gt (front_cmp d (front_of a) (front_of b))
  decided Forward o = elim (cases_lt (front_of a) (front_of b)) [
    | inl lt ↦ rw ((a_first lt).0, sym (nat_cmp_is (front_of a) (front_of b) Less lt)) refl
    | inr more ↦ rw ((b_first (λ lt. omega (arith, lt, more))).0, sym (nat_cmp_is (front_of a) (front_of b) Greater (above more))) refl
  ]
    where
      above : front_of b ≤ front_of a → front_of b < front_of a
      above le = elim (cases_lt (front_of b) (front_of a)) [
        | inl is ↦ is
        | inr not_above ↦ absurd (differ (omega (arith, le, not_above)))
      ]
  decided Reverse o = elim (cases_lt (front_of a) (front_of b)) [
    | inl lt ↦ rw ((a_first lt).1, sym (nat_cmp_is (front_of b) (front_of a) Greater lt)) refl
    | inr more ↦ rw ((b_first (λ lt. omega (arith, lt, more))).1, sym (nat_cmp_is (front_of b) (front_of a) Less (above more))) refl
  ]
    where
      above : front_of b ≤ front_of a → front_of b < front_of a
      above le = elim (cases_lt (front_of b) (front_of a)) [
        | inl is ↦ is
        | inr not_above ↦ absurd (differ (omega (arith, le, not_above)))
      ]

-- and of a key and a slot
pub by_front : (d : Direction) (pieces : List Piece) (key : List ℕ) (sequence : ℕ) (s : Slot) → ((i : ℕ) → slice_index key i < 256) → Fits pieces s → front_of key ≢ s.front → is_gt (front_cmp d (front_of key) s.front) ≡ goes_before d pieces (as_version key sequence None) s
by_front d pieces key sequence s all_key_below fits differ =
    ap (λ (m : ℕ). is_gt (front_cmp d (front_of key) m)) fits.places.front
    ∙ sym (decided key (part (text_in pieces s.piece) s.start s.middle) (all_bytes key all_key_below) fits.bytes (λ same. differ (same ∙ sym fits.places.front)) d (nat_cmp s.sequence sequence))

-- the front at a place is that of the slot there
pub front_at : (fronts : List ℕ) (ss : List Slot) (at front : ℕ) → fronts ≡ fronts_of ss → at < length ss → front ≡ get_or fronts at front → front ≡ (get_or ss at no_slot).front
front_at fronts ss at front same lt is = is ∙ ap (λ (fs : List ℕ). get_or fs at front) same ∙ go ss at lt
  where
    go : (ss : List Slot) (at : ℕ) → at < length ss → get_or (fronts_of ss) at front ≡ (get_or ss at no_slot).front
    go [] at lt = absurd (omega (arith, lt))
    go (s ∷ ss) zero lt = refl
    go (s ∷ ss) (suc at) lt = go ss at (omega (arith, lt))

pub fronts-length : (ss : List Slot) → length (fronts_of ss) ≡ length ss
fronts-length [] = refl
fronts-length (s ∷ ss) = ap suc (fronts-length ss)

pub fronts-insert : (ss : List Slot) (n : ℕ) (s : Slot) → fronts_of (insert ss n s) ≡ insert (fronts_of ss) n s.front
fronts-insert ss zero s = refl
fronts-insert [] (suc n) s = refl
fronts-insert (t ∷ ss) (suc n) s = ap (λ fs. t.front ∷ fs) (fronts-insert ss n s)

pub fronts-take : (n : ℕ) (ss : List Slot) → fronts_of (take n ss) ≡ take n (fronts_of ss)
fronts-take zero ss = refl
fronts-take (suc n) [] = refl
fronts-take (suc n) (s ∷ ss) = ap (λ fs. s.front ∷ fs) (fronts-take n ss)

pub fronts-drop : (n : ℕ) (ss : List Slot) → fronts_of (drop n ss) ≡ drop n (fronts_of ss)
fronts-drop zero ss = refl
fronts-drop (suc n) [] = refl
fronts-drop (suc n) (s ∷ ss) = fronts-drop n ss

-- a chunk's front is its first slot's
pub front_is : (front : ℕ) (fronts : List ℕ) (ss : List Slot) → 0 < length ss → fronts ≡ fronts_of ss → IsFirst front fronts → front ≡ (get_or ss 0 no_slot).front
front_is front fronts [] some same is = absurd (omega (arith, some))
front_is front fronts (s ∷ ss) some same is = subst (IsFirst front) same is

-- the item at a place is the first behind those before it
pub first-dropped : (n : ℕ) (fs : List ℕ) (f : ℕ) → f ≡ get_or fs n f → IsFirst f (drop n fs)
first-dropped zero [] f is = tt
first-dropped zero (g ∷ fs) f is = is
first-dropped (suc n) [] f is = tt
first-dropped (suc n) (g ∷ fs) f is = first-dropped n fs f is

pub first-taken : (n : ℕ) (fs : List ℕ) (f : ℕ) → IsFirst f fs → IsFirst f (take (suc n) fs)
first-taken n [] f is = tt
first-taken n (g ∷ fs) f is = is
