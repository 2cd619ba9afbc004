-- Bits that stand at upper-case letters alone are those of the text that they restore.
use Rattle.std.proofs.Common.{◌≡◌, ◌⊎◌, ℕ, zero, suc, ◌+◌, ◌-◌, ◌*◌, ◌/◌, ◌%◌, ◌^◌, ◌<◌, ◌≤◌, List, [], ◌∷◌, ◌++◌, length, map, take, drop, get_or, refl, sym, ap, ◌∙◌, arith, inl, inr, Bool, true, false, append_assoc, nat_eq, length-drop, pow-suc, add-one}
use Rattle.std.proofs.Math.Nat.{div-div-eq-div-mul}
use Rattle.std.specs.List.{list_all}
use Rattle.std.specs.Prelude.{◌&&◌}
use Rattle.std.specs.Cmp.Lexicographic.{pointwise}
use Rattle.std.proofs.lemmas.Bool.{cases_lt, and_parts, eqb-true, false≢true}
use Rattle.std.proofs.lemmas.Bool.Decides.{nat_tests}
use Rattle.std.proofs.lemmas.List.{take_at, drop_at, length-append, length-take, append-nil, drop-drop, drop_more, drop_all, take_all, take-append-drop}
use Rattle.mr_lanes.specs.Kernels.{upper}
use Rattle.mr_pieces.specs.declared.collation.Collation.TheVariants.{Ci}
use Rattle.mr_pieces.specs.Pieces.{text_from, mark}
use Rattle.mr_pieces.specs.Reading.{is_text_byte}
use Rattle.mr_pieces.specs.Unpack.{lower_bit, lower_one, lower_by, bits_value, bits_of, restored}
use Rattle.mr_pieces.specs.UnpackReading.{are_bits_of}
use Rattle.mr_pieces.proofs.Restoring.{bits_step, bits_small, lower_bit_small}
use Rattle.mr_pieces.proofs.Cutting.{text_step}
use Rattle.mr_pieces.proofs.TextTrip.{good-take, good-drop}

-- ---- piece by piece

restored_nil : (bits : List ℕ) → restored bits [] ≡ []
unfolding restored
restored_nil [] = refl
restored_nil (v ∷ bits) = refl

restored_step : (v : ℕ) (bits t : List ℕ) → 0 < length t → restored (v ∷ bits) t ≡ lower_by v (take 8 t) ++ restored bits (drop 8 t)
unfolding restored
restored_step v bits (a ∷ b ∷ c ∷ d ∷ e ∷ f ∷ g ∷ h ∷ t) some = refl
restored_step v bits [] some = absurd (omega arith)
restored_step v bits t some = rw (restored_nil bits) refl

lower_size : (v : ℕ) (t : List ℕ) → length (lower_by v t) ≡ length t
lower_size v [] = refl
lower_size v (c ∷ t) = ap suc (lower_size (v / 2) t)

-- the first 8 of what is restored, and the rest
first_eight : (v : ℕ) (bits t : List ℕ) → 0 < length t → take 8 (restored (v ∷ bits) t) ≡ lower_by v (take 8 t)
first_eight v bits t some =
    let front = lower_by v (take 8 t) in
    elim (cases_lt (length t) 8) [
      | inl short ↦
          let none : drop 8 t ≡ [] = drop_all 8 t (omega arith) in
          let is : restored (v ∷ bits) t ≡ front = restored_step v bits t some ∙ ap (λ (l : List ℕ). front ++ restored bits l) none ∙ ap (λ (l : List ℕ). front ++ l) (restored_nil bits) ∙ append-nil front in
          ap (take 8) is ∙ take_all 8 front (omega (arith, lower_size v (take 8 t), length-take 8 t))
      | inr long ↦ ap (take 8) (restored_step v bits t some) ∙ take_at front (restored bits (drop 8 t)) 8 (omega (arith, lower_size v (take 8 t), length-take 8 t))
    ]

later_ones : (v : ℕ) (bits t : List ℕ) → 0 < length t → drop 8 (restored (v ∷ bits) t) ≡ restored bits (drop 8 t)
later_ones v bits t some =
    let front = lower_by v (take 8 t) in
    elim (cases_lt (length t) 8) [
      | inl short ↦
          let none : drop 8 t ≡ [] = drop_all 8 t (omega arith) in
          let is : restored (v ∷ bits) t ≡ front = restored_step v bits t some ∙ ap (λ (l : List ℕ). front ++ restored bits l) none ∙ ap (λ (l : List ℕ). front ++ l) (restored_nil bits) ∙ append-nil front in
          ap (drop 8) is ∙ drop_all 8 front (omega (arith, lower_size v (take 8 t), length-take 8 t)) ∙ sym (ap (restored bits) none ∙ restored_nil bits)
      | inr long ↦ ap (drop 8) (restored_step v bits t some) ∙ drop_at front (restored bits (drop 8 t)) 8 (omega (arith, lower_size v (take 8 t), length-take 8 t))
    ]

pub bits_piece : (v : ℕ) (bits t : List ℕ) → 0 < length t → are_bits_of t (v ∷ bits) ≡ (nat_eq (bits_value (lower_by v (take 8 t))) v && are_bits_of (drop 8 t) bits)
bits_piece v bits t some =
    let size : 0 < length (restored (v ∷ bits) t) = let e : length (restored (v ∷ bits) t) ≡ length (lower_by v (take 8 t) ++ restored bits (drop 8 t)) = ap (λ (l : List ℕ). length l) (restored_step v bits t some) in omega (arith, e, length-append (lower_by v (take 8 t)) (restored bits (drop 8 t)), lower_size v (take 8 t), length-take 8 t) in
    ap (λ (l : List ℕ). pointwise nat_eq l (v ∷ bits)) (bits_step (restored (v ∷ bits) t) size ∙ ap (λ (l : List ℕ). bits_value l ∷ bits_of (drop 8 (restored (v ∷ bits) t))) (first_eight v bits t some) ∙ ap (λ (l : List ℕ). bits_value (lower_by v (take 8 t)) ∷ bits_of l) (later_ones v bits t some))

-- ---- folding gives the kept text back

upper_one : (v c b : ℕ) → is_text_byte Ci c ≡ true → lower_bit (lower_one (v % 2) c) + 2 * b ≡ v → upper (lower_one (v % 2) c) ≡ c
upper_one v c b good e = grind (arith, nat_tests)

folds_back : (v : ℕ) (t : List ℕ) → list_all (is_text_byte Ci) t ≡ true → bits_value (lower_by v t) ≡ v → map upper (lower_by v t) ≡ t
folds_back v [] good is = refl
folds_back v (c ∷ t) good is =
    let parts = and_parts (is_text_byte Ci c) (list_all (is_text_byte Ci) t) good in
    let small = lower_bit_small (lower_one (v % 2) c) in
    let rest : bits_value (lower_by (v / 2) t) ≡ v / 2 = omega arith in
    let head = upper_one v c (bits_value (lower_by (v / 2) t)) parts.0 is in
    let tail = folds_back (v / 2) t parts.1 rest in
    ap (λ (b : ℕ). b ∷ map upper (lower_by (v / 2) t)) head ∙ ap (λ (l : List ℕ). c ∷ l) tail

plain_one : (c : ℕ) → is_text_byte Ci c ≡ true → upper c ≡ c
plain_one c good = grind (arith, nat_tests)

plain : (t : List ℕ) → list_all (is_text_byte Ci) t ≡ true → map upper t ≡ t
plain [] good = refl
plain (c ∷ t) good =
    let parts = and_parts (is_text_byte Ci c) (list_all (is_text_byte Ci) t) good in
    ap (λ (b : ℕ). b ∷ map upper t) (plain_one c parts.0) ∙ ap (λ (l : List ℕ). c ∷ l) (plain t parts.1)

restored_none : (t : List ℕ) → restored [] t ≡ t
unfolding restored
restored_none t = refl

map_both : (xs ys : List ℕ) → map upper (xs ++ ys) ≡ map upper xs ++ map upper ys
map_both [] ys = refl
map_both (x ∷ xs) ys = ap (λ (l : List ℕ). upper x ∷ l) (map_both xs ys)

pub bits_fold_back : (bits t : List ℕ) → list_all (is_text_byte Ci) t ≡ true → are_bits_of t bits ≡ true → map upper (restored bits t) ≡ t
bits_fold_back [] t good are = ap (map upper) (restored_none t) ∙ plain t good
bits_fold_back (v ∷ bits) [] good are = ap (map upper) (restored_nil (v ∷ bits))
bits_fold_back (v ∷ bits) (c ∷ t) good are =
    let text = c ∷ t in
    let split = and_parts (nat_eq (bits_value (lower_by v (take 8 text))) v) (are_bits_of (drop 8 text) bits) (sym (bits_piece v bits text (omega arith)) ∙ are) in
    let front = folds_back v (take 8 text) (good-take Ci 8 text good) (eqb-true (bits_value (lower_by v (take 8 text))) v split.0) in
    let back = bits_fold_back bits (drop 8 text) (good-drop Ci 8 text good) split.1 in
    ap (map upper) (restored_step v bits text (omega arith)) ∙ map_both (lower_by v (take 8 text)) (restored bits (drop 8 text))
    ∙ ap (λ (l : List ℕ). l ++ map upper (restored bits (drop 8 text))) front ∙ ap (λ (l : List ℕ). take 8 text ++ l) back ∙ take-append-drop 8 text

pub pointwise_are : (xs ys : List ℕ) → pointwise nat_eq xs ys ≡ true → xs ≡ ys
pointwise_are [] [] e = refl
pointwise_are [] (y ∷ ys) e = absurd (false≢true e)
pointwise_are (x ∷ xs) [] e = absurd (false≢true e)
pointwise_are (x ∷ xs) (y ∷ ys) e =
    let parts = and_parts (nat_eq x y) (pointwise nat_eq xs ys) e in
    let head = eqb-true x y parts.0 in
    let tail = pointwise_are xs ys parts.1 in
    cc

-- ---- in loops

lower_small : (v : ℕ) (t : List ℕ) → length t ≤ 7 → bits_value (lower_by v t) < 128
lower_small v t few = bits_small (lower_by v t) (omega (arith, lower_size v t))

abbrev pub again_from : ℕ → List ℕ → ℕ → ℕ
again_from bits piece i = bits_value (lower_by (bits / 2 ^ i) (drop i piece))

pub again_step : (bits : ℕ) (piece : List ℕ) (i : ℕ) → i < length piece → again_from bits piece i ≡ lower_bit (lower_one (bits / 2 ^ i % 2) (get_or piece i 0)) + 2 * again_from bits piece (i + 1)
again_step bits piece i within =
    let half : bits / 2 ^ i / 2 ≡ bits / 2 ^ (i + 1) = div-div-eq-div-mul bits (2 ^ i) 2 ∙ ap (λ (k : ℕ). bits / k) (sym (pow-suc 2 i) ∙ ap (λ (k : ℕ). 2 ^ k) (sym (add-one i))) in
    ap (λ (l : List ℕ). bits_value (lower_by (bits / 2 ^ i) l)) (drop_more piece i 0 within)
    ∙ ap (λ (v : ℕ). lower_bit (lower_one (bits / 2 ^ i % 2) (get_or piece i 0)) + 2 * bits_value (lower_by v (drop (i + 1) piece))) half

pub again_small : (bits : ℕ) (piece : List ℕ) (i : ℕ) → length piece ≤ 8 → 0 < i → again_from bits piece i < 128
again_small bits piece i few later = lower_small (bits / 2 ^ i) (drop i piece) (omega (arith, length-drop i piece))

take_from : (left size : ℕ) (t : List ℕ) → size ≤ left → size ≤ length t → take size (text_from left t) ≡ take size t
take_from left zero t p q = refl
take_from left (suc size) [] p q = absurd (omega arith)
take_from zero (suc size) (c ∷ t) p q = absurd (omega arith)
take_from (suc left) (suc size) (c ∷ t) p q = ap (λ (l : List ℕ). c ∷ l) (take_from left size t (omega arith) (omega arith))

pub piece_at : (k size : ℕ) (t : List ℕ) → size ≤ 8 → size ≤ length t - 8 * k → take size (drop (9 * k) (text_from 8 t)) ≡ take size (drop (8 * k) t)
piece_at k zero t p q = refl
piece_at zero (suc size) t p q = take_from 8 (suc size) t p (omega arith)
piece_at (suc k) (suc size) t p q =
    let eight : length (take 8 t) ≡ 8 = omega (arith, length-take 8 t) in
    let nine : length (take 8 t ++ mark (drop 8 t) ∷ []) ≡ 9 = omega (arith, length-append (take 8 t) (mark (drop 8 t) ∷ [])) in
    let behind : drop 9 (text_from 8 t) ≡ text_from 8 (drop 8 t) = ap (drop 9) (text_step t (omega arith) ∙ sym (append_assoc (take 8 t) (mark (drop 8 t) ∷ []) (text_from 8 (drop 8 t)))) ∙ drop_at (take 8 t ++ mark (drop 8 t) ∷ []) (text_from 8 (drop 8 t)) 9 nine in
    let nines : 9 * suc k ≡ 9 + 9 * k = omega arith in
    let eights : 8 * suc k ≡ 8 + 8 * k = omega arith in
    ap (λ (n : ℕ). take (suc size) (drop n (text_from 8 t))) nines ∙ ap (take (suc size)) (sym (drop-drop (9 * k) 9 (text_from 8 t)) ∙ ap (drop (9 * k)) behind)
    ∙ piece_at k (suc size) (drop 8 t) p (omega (arith, length-drop 8 t)) ∙ ap (take (suc size)) (drop-drop (8 * k) 8 t ∙ ap (λ (n : ℕ). drop n t) (sym eights))

pub case_step : (t bits : List ℕ) (k : ℕ) → k < length bits → (length t + 7) / 8 ≡ length bits → are_bits_of (drop (8 * k) t) (drop k bits) ≡ (nat_eq (bits_value (lower_by (get_or bits k 0) (take 8 (drop (8 * k) t)))) (get_or bits k 0) && are_bits_of (drop (8 * (k + 1)) t) (drop (k + 1) bits))
case_step t bits k within room =
    let v = get_or bits k 0 in
    let rest : drop 8 (drop (8 * k) t) ≡ drop (8 * (k + 1)) t = drop-drop 8 (8 * k) t ∙ ap (λ (n : ℕ). drop n t) (omega arith) in
    ap (are_bits_of (drop (8 * k) t)) (drop_more bits k 0 within) ∙ bits_piece v (drop (k + 1) bits) (drop (8 * k) t) (omega (arith, length-drop (8 * k) t))
    ∙ ap (λ (l : List ℕ). nat_eq (bits_value (lower_by v (take 8 (drop (8 * k) t)))) v && are_bits_of l (drop (k + 1) bits)) rest

none_left : are_bits_of [] [] ≡ true
unfolding bits_of restored
none_left = refl

pub case_ends : (t bits : List ℕ) (k : ℕ) → length bits ≤ k → (length t + 7) / 8 ≡ length bits → are_bits_of (drop (8 * k) t) (drop k bits) ≡ true
case_ends t bits k past room = ap (λ (l : List ℕ). are_bits_of l (drop k bits)) (drop_all (8 * k) t (omega arith)) ∙ ap (are_bits_of []) (drop_all k bits past) ∙ none_left

same_taken : (size : ℕ) (ys : List ℕ) → size ≤ 8 → (8 ≤ size) ⊎ (length ys ≤ size) → take size ys ≡ take 8 ys
same_taken size ys few (inl full) = let e : size ≡ 8 = omega arith in ap (λ (n : ℕ). take n ys) e
same_taken size ys few (inr all) = take_all size ys all ∙ sym (take_all 8 ys (omega arith))

pub piece_of : (t pieces : List ℕ) (k size : ℕ) → pieces ≡ text_from 8 t → size ≤ 8 → size ≤ length t - 8 * k → (8 ≤ size) ⊎ (length t - 8 * k ≤ size) → take (9 * k + size - 9 * k) (drop (9 * k) pieces) ≡ take 8 (drop (8 * k) t)
piece_of t pieces k size is few within all =
    let only : 9 * k + size - 9 * k ≡ size = omega arith in
    let whole : (8 ≤ size) ⊎ (length (drop (8 * k) t) ≤ size) = elim all [ inl h ↦ inl h | inr h ↦ inr (omega (arith, length-drop (8 * k) t)) ] in
    ap (λ (n : ℕ). take n (drop (9 * k) pieces)) only ∙ ap (λ (l : List ℕ). take size (drop (9 * k) l)) is ∙ piece_at k size t few within ∙ same_taken size (drop (8 * k) t) few whole

piece_test : (t bits piece : List ℕ) (k : ℕ) (result : Bool) → piece ≡ take 8 (drop (8 * k) t) → result ≡ nat_eq (bits_value (lower_by (get_or bits k 0) piece)) (get_or bits k 0) → nat_eq (bits_value (lower_by (get_or bits k 0) (take 8 (drop (8 * k) t)))) (get_or bits k 0) ≡ result
piece_test t bits piece k result is says = ap (λ (l : List ℕ). nat_eq (bits_value (lower_by (get_or bits k 0) l)) (get_or bits k 0)) (sym is) ∙ sym says

pub case_no : (t bits piece : List ℕ) (k : ℕ) (result : Bool) → k < length bits → (length t + 7) / 8 ≡ length bits → piece ≡ take 8 (drop (8 * k) t) → result ≡ nat_eq (bits_value (lower_by (get_or bits k 0) piece)) (get_or bits k 0) → result ≡ false → are_bits_of (drop (8 * k) t) (drop k bits) ≡ are_bits_of t bits → false ≡ are_bits_of t bits
case_no t bits piece k result within room is says fails so_far =
    let rest = are_bits_of (drop (8 * (k + 1)) t) (drop (k + 1) bits) in
    sym (ap (λ (b : Bool). b && rest) (piece_test t bits piece k result is says ∙ fails)) ∙ sym (case_step t bits k within room) ∙ so_far

pub case_yes : (t bits piece : List ℕ) (k : ℕ) (result : Bool) → k < length bits → (length t + 7) / 8 ≡ length bits → piece ≡ take 8 (drop (8 * k) t) → result ≡ nat_eq (bits_value (lower_by (get_or bits k 0) piece)) (get_or bits k 0) → result ≡ true → are_bits_of (drop (8 * k) t) (drop k bits) ≡ are_bits_of t bits → are_bits_of (drop (8 * (k + 1)) t) (drop (k + 1) bits) ≡ are_bits_of t bits
case_yes t bits piece k result within room is says holds so_far =
    let rest = are_bits_of (drop (8 * (k + 1)) t) (drop (k + 1) bits) in
    sym (ap (λ (b : Bool). b && rest) (piece_test t bits piece k result is says ∙ holds)) ∙ sym (case_step t bits k within room) ∙ so_far
