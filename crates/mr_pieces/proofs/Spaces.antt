-- Spaces that a text begins with.
use Rattle.std.proofs.Common.{◌≡◌, ℕ, zero, suc, ◌+◌, ◌-◌, ◌<◌, ◌≤◌, List, [], ◌∷◌, Bool, true, false, cond, length, drop, get_or, refl, sym, subst, ap, ◌∙◌, arith}
use Rattle.std.specs.List.{prefix_len}
use Rattle.std.proofs.lemmas.List.{drop_more, drop_all}
use Rattle.std.proofs.lemmas.List.Sums.{prefix_len-drop_yes, prefix_len-drop_no, prefix_len-drop_all, prefix_len_stops, prefix_len-le-length}
use Rattle.mr_lanes.specs.Kernels.{is_space}
use Rattle.mr_pieces.specs.Pieces.{mark}
use Rattle.mr_pieces.proofs.Texts.{mark_nil, mark_below, mark_space, mark_above}

abbrev front : List ℕ → ℕ
front xs = prefix_len is_space xs

-- those known, and those behind them
pub known_front : (k : ℕ) (xs : List ℕ) → k ≤ front xs → front xs ≡ k + front (drop k xs)
known_front zero xs le = omega arith
known_front (suc k) [] le = absurd (omega arith)
known_front (suc k) (x ∷ xs) le = by (is_space x) (known_front k xs) le
  where
    by : (b : Bool) → (k ≤ front xs → front xs ≡ k + front (drop k xs)) → suc k ≤ cond b (1 + front xs) 0 → cond b (1 + front xs) 0 ≡ suc k + front (drop k xs)
    by true rest le = let e = rest (omega (arith, le)) in omega (arith, e)
    by false rest le = absurd (omega (arith, le))

-- of the spaces in front all but k stand behind the first k bytes
pub behind_known : (k : ℕ) (xs : List ℕ) → front xs ≤ k + front (drop k xs)
behind_known zero xs = omega arith
behind_known (suc k) [] = omega arith
behind_known (suc k) (x ∷ xs) = by (is_space x) (behind_known k xs)
  where
    by : (b : Bool) → front xs ≤ k + front (drop k xs) → cond b (1 + front xs) 0 ≤ suc k + front (drop k xs)
    by true le = omega (arith, le)
    by false le = omega arith

is_32 : (x : ℕ) → is_space x ≡ true → x ≡ 32
is_32 x h = grind arith

-- a mark says of what begins with spaces what it says behind them
pub mark_skips : (xs : List ℕ) → mark xs ≡ mark (drop (front xs) xs)
mark_skips [] = refl
mark_skips (x ∷ xs) = by (is_space x) refl (mark_skips xs)
  where
    by : (b : Bool) → is_space x ≡ b → mark xs ≡ mark (drop (front xs) xs) → mark (x ∷ xs) ≡ mark (drop (cond b (1 + front xs) 0) (x ∷ xs))
    by true e rest = let on : 1 + front xs ≡ suc (front xs) = omega arith in mark_space x xs (is_32 x e) ∙ rest ∙ ap (λ (n : ℕ). mark (drop n (x ∷ xs))) (sym on)
    by false e rest = refl

pub mark_none : (xs : List ℕ) → length xs ≤ front xs → mark xs ≡ 2
mark_none xs le = mark_skips xs ∙ ap mark (drop_all (front xs) xs le) ∙ mark_nil

pub mark_is_low : (xs : List ℕ) → front xs < length xs → get_or xs (front xs) 0 < 32 → mark xs ≡ 1
mark_is_low xs lt below = mark_skips xs ∙ ap mark (drop_more xs (front xs) 0 lt) ∙ mark_below (get_or xs (front xs) 0) (drop (front xs + 1) xs) below

no_space : (x : ℕ) → is_space x ≡ false → 32 ≤ x → 32 < x
no_space x h le = grind arith

pub mark_is_high : (xs : List ℕ) → front xs < length xs → 32 ≤ get_or xs (front xs) 0 → mark xs ≡ 3
mark_is_high xs lt above =
    mark_skips xs ∙ ap mark (drop_more xs (front xs) 0 lt)
    ∙ mark_above (get_or xs (front xs) 0) (drop (front xs + 1) xs) (no_space (get_or xs (front xs) 0) (prefix_len_stops is_space xs 0 lt) above)

-- one more, or none
pub one_space : (xs : List ℕ) (i : ℕ) → i < length xs → get_or xs i 0 ≡ 32 → front (drop i xs) ≡ 1 + front (drop (i + 1) xs)
one_space xs i lt e = prefix_len-drop_yes is_space xs i 0 lt (rw e refl)

other : (x : ℕ) → (x ≡ 32 → ⊥) → is_space x ≡ false
other x n = grind arith

pub no_more : (xs : List ℕ) (i : ℕ) → i < length xs → (get_or xs i 0 ≡ 32 → ⊥) → front (drop i xs) ≡ 0
no_more xs i lt n = prefix_len-drop_no is_space xs i 0 lt (other (get_or xs i 0) n)

pub at_end : (xs : List ℕ) (i : ℕ) → length xs ≤ i → front (drop i xs) ≡ 0
at_end xs i le = ap front (drop_all i xs le)

-- what is known of the spaces in front of the rest stays known behind a piece
pub known_behind : (spaces : ℕ) (rest after : List ℕ) → spaces ≤ front rest → after ≡ drop 8 rest → spaces - 8 ≤ front after
known_behind spaces rest after le e = let h = behind_known 8 rest in rw e (omega (arith, le, h))

-- the same with a name for the count
pub none_at : (n : ℕ) (xs : List ℕ) → n ≡ front xs → length xs ≤ n → 2 ≡ mark xs
none_at n xs is le = sym (mark_none xs (omega (arith, is, le)))

pub low_at : (n : ℕ) (xs : List ℕ) → n ≡ front xs → n < length xs → get_or xs n 0 < 32 → 1 ≡ mark xs
low_at n xs is lt below = sym (mark_is_low xs (omega (arith, is, lt)) (subst (λ (k : ℕ). get_or xs k 0 < 32) is below))

pub high_at : (n : ℕ) (xs : List ℕ) → n ≡ front xs → n < length xs → 32 ≤ get_or xs n 0 → 3 ≡ mark xs
high_at n xs is lt above = sym (mark_is_high xs (omega (arith, is, lt)) (subst (λ (k : ℕ). 32 ≤ get_or xs k 0) is above))
