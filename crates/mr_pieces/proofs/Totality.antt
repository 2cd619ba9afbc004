-- The order of texts is a total order, and that of padded texts.
use Rattle.std.proofs.Common.{◌≡◌, ℕ, zero, suc, ◌-◌, ◌≤◌, List, [], ◌∷◌, ◌++◌, length, replicate, sym, ap, ◌∙◌, arith}
use Rattle.std.specs.Ordering.{nat_cmp, ordering_then, ordering_reverse}
use Rattle.std.specs.Cmp.{IsTotalOrder}
use Rattle.std.proofs.lemmas.Cmp.{nat_list_cmp_total}
use Rattle.std.proofs.lemmas.List.{append-nil}
use Rattle.mr_pieces.specs.Order.{filler_cmp, filled_cmp}
use Rattle.mr_pieces.specs.Order.{bytes_cmp}
use Rattle.mr_pieces.specs.Pieces.{text_from, trimmed}
use Rattle.mr_pieces.specs.Promises.{padded}
use Rattle.mr_pieces.proofs.Compare.{then_equal, bytes_equal}
use Rattle.mr_pieces.proofs.Texts.{text_lead, filled_turned}

abbrev key : List ℕ → List ℕ
key text = text_from 8 (trimmed text)

by_keys : (xs ys : List ℕ) → filled_cmp 32 xs ys ≡ bytes_cmp (key xs) (key ys)
by_keys xs ys = sym (then_equal (filled_cmp 32 xs ys)) ∙ sym (text_lead xs ys [] []) ∙ ap (λ (l : List ℕ). bytes_cmp l (key ys ++ [])) (append-nil (key xs)) ∙ ap (bytes_cmp (key xs)) (append-nil (key ys))

pub texts_total : IsTotalOrder (filled_cmp 32)
texts_total = record {
  antisymm = λ x y. filled_turned 32 x y;
  trans = λ x y z p q. by_keys x z ∙ nat_list_cmp_total.trans (key x) (key y) (key z) (sym (by_keys x y) ∙ p) (sym (by_keys y z) ∙ q);
  congr = λ x y z p. by_keys x z ∙ nat_list_cmp_total.congr (key x) (key y) (key z) (sym (by_keys x y) ∙ p) ∙ sym (by_keys y z);
}

-- ---- with fillers written out

against_fillers : (filler n : ℕ) (xs : List ℕ) → length xs ≤ n → bytes_cmp (padded filler n xs) (replicate n filler) ≡ filler_cmp filler xs
against_fillers filler n [] fits = let e : n - 0 ≡ n = omega arith in rw e (bytes_equal (replicate n filler))
against_fillers filler zero (x ∷ xs) fits = absurd (omega arith)
against_fillers filler (suc n) (x ∷ xs) fits =
    let e : suc n - suc (length xs) ≡ n - length xs = omega arith in
    rw e (ap (ordering_then (nat_cmp x filler)) (against_fillers filler n xs (omega arith)))

pub filled_is_padded : (filler n : ℕ) (xs ys : List ℕ) → length xs ≤ n → length ys ≤ n → bytes_cmp (padded filler n xs) (padded filler n ys) ≡ filled_cmp filler xs ys
filled_is_padded filler n [] ys p q =
    let e : n - 0 ≡ n = omega arith in
    rw e (nat_list_cmp_total.antisymm (replicate n filler) (padded filler n ys) ∙ ap ordering_reverse (against_fillers filler n ys q))
filled_is_padded filler n (x ∷ xs) [] p q =
    let e : n - 0 ≡ n = omega arith in
    rw e (against_fillers filler n (x ∷ xs) p)
filled_is_padded filler zero (x ∷ xs) (y ∷ ys) p q = absurd (omega arith)
filled_is_padded filler (suc n) (x ∷ xs) (y ∷ ys) p q =
    let e : suc n - suc (length xs) ≡ n - length xs = omega arith in
    let f : suc n - suc (length ys) ≡ n - length ys = omega arith in
    rw (e, f) (ap (ordering_then (nat_cmp x y)) (filled_is_padded filler n xs ys (omega arith) (omega arith)))
