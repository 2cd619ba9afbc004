-- Pieces stand in the order of what was cut.
use Rattle.std.proofs.Common.{◌≡◌, ℕ, zero, suc, ◌+◌, ◌-◌, ◌≤◌, List, [], ◌∷◌, ◌++◌, replicate, refl, sym, ap, ◌∙◌, arith, inl, inr, append_assoc}
use Rattle.std.specs.declared.cmp.Ordering.{Ordering}
use Rattle.std.specs.declared.cmp.Ordering.TheVariants.{Less, Greater}
use Rattle.std.specs.Ordering.{nat_cmp, ordering_then, ordering_reverse}
use Rattle.std.specs.Cmp.Lexicographic.{slice_cmp}
use Rattle.std.proofs.lemmas.Bool.{cases_lt}
use Rattle.std.proofs.lemmas.Cmp.{nat_list_cmp_total}
use Rattle.mr_pieces.specs.Order.{bytes_cmp}
use Rattle.mr_pieces.specs.Pieces.{bytes_from}
use Rattle.mr_pieces.proofs.Compare.{then_assoc, cmp_same, cmp_less, same_front}

-- turned round
pub turned : (a b : List ℕ) → bytes_cmp a b ≡ Less → bytes_cmp b a ≡ Greater
turned a b h = nat_list_cmp_total.antisymm b a ∙ ap ordering_reverse h

-- a filler against a byte that is not below it
filler_first : (filler x : ℕ) (rest : Ordering) → filler ≤ x → rest ≡ Less → ordering_then (nat_cmp filler x) rest ≡ Less
filler_first filler x rest above h =
    elim (cases_lt filler x) [
      | inl less ↦ rw (cmp_less filler x less) refl
      | inr equal ↦ let same : filler ≡ x = omega arith in rw (same, cmp_same x) h
    ]

-- padding with its count stands before the same place with more bytes
padding_below : (left count : ℕ) (a b bytes : List ℕ) (x : ℕ) → left ≤ 8 → count + left ≤ 8 → bytes_cmp (replicate left 0 ++ count ∷ a) (bytes_from left (x ∷ bytes) ++ b) ≡ Less
padding_below zero count a b bytes x fits small = rw (cmp_less count 9 (omega arith)) refl
padding_below (suc left) count a b [] x fits small =
    filler_first 0 x _ (omega arith)
    (rw append_assoc (same_front (replicate left 0) (count ∷ a) ((8 - left) ∷ b) ∙ rw (cmp_less count (8 - left) (omega arith)) refl))
padding_below (suc left) count a b (y ∷ bytes) x fits small =
    filler_first 0 x _ (omega arith) (padding_below left count a b bytes y (omega arith) (omega arith))

pub bytes_lead : (left : ℕ) (xs ys a b : List ℕ) → left ≤ 8 → bytes_cmp (bytes_from left xs ++ a) (bytes_from left ys ++ b) ≡ ordering_then (slice_cmp nat_cmp xs ys) (bytes_cmp a b)
bytes_lead left [] [] a b fits = same_front (replicate left 0 ++ (8 - left) ∷ []) a b
bytes_lead left [] (y ∷ ys) a b fits =
    rw append_assoc (padding_below left (8 - left) a b ys y fits (omega arith))
bytes_lead left (x ∷ xs) [] a b fits =
    rw append_assoc (turned (replicate left 0 ++ (8 - left) ∷ b) (bytes_from left (x ∷ xs) ++ a) (padding_below left (8 - left) b a xs x fits (omega arith)))
bytes_lead zero (x ∷ xs) (y ∷ ys) a b fits =
    ap (ordering_then (nat_cmp x y)) (bytes_lead 7 xs ys a b (omega arith)) ∙ sym (then_assoc (nat_cmp x y) (slice_cmp nat_cmp xs ys) (bytes_cmp a b))
bytes_lead (suc left) (x ∷ xs) (y ∷ ys) a b fits =
    ap (ordering_then (nat_cmp x y)) (bytes_lead left xs ys a b (omega arith)) ∙ sym (then_assoc (nat_cmp x y) (slice_cmp nat_cmp xs ys) (bytes_cmp a b))
