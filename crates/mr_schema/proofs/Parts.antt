-- The parts of a comment, byte by byte.
use Rattle.std.proofs.Common.{◌≡◌, ℕ, ◌+◌, ◌-◌, ◌<◌, ◌≤◌, List, [], ◌∷◌, ◌++◌, length, take, drop, get_or, Result, Ok, false, nat_eq, sym, ap, ◌∙◌, arith, cond}
use Rattle.std.proofs.lemmas.List.{at_drop_more, take_more, get_or-drop, length-drop}
use Rattle.mr_types.specs.Refusals.{in_turn, ◌>>=◌}
use Rattle.mr_spec.specs.TtlOptions.{Options, with_part, parts_from}

-- a `;` ends a part
pub ended : (o p : Options) (front text : List ℕ) (i : ℕ) (r : Result Options ℕ) → i < length text → get_or text i 0 ≡ 59 → with_part o front ≡ Ok p
    → in_turn with_part o (parts_from front (drop i text)) ≡ r → in_turn with_part p (parts_from [] (drop (i + 1) text)) ≡ r
ended o p front text i r within semi done h =
    let rest : List ℕ = drop (i + 1) text in
    let split : in_turn with_part o (parts_from front (get_or text i 0 ∷ rest)) ≡ r = sym (at_drop_more (λ xs. in_turn with_part o (parts_from front xs)) text i 0 within) ∙ h in
    let cut : in_turn with_part o (parts_from front (59 ∷ rest)) ≡ r = rw semi at split in
    sym (ap (λ m. m >>= (λ next. in_turn with_part next (parts_from [] rest))) done) ∙ cut

-- any other byte goes on with it
pub goes_on : (o : Options) (front text : List ℕ) (i : ℕ) (r : Result Options ℕ) → i < length text → nat_eq (get_or text i 0) 59 ≡ false
    → in_turn with_part o (parts_from front (drop i text)) ≡ r → in_turn with_part o (parts_from (front ++ get_or text i 0 ∷ []) (drop (i + 1) text)) ≡ r
goes_on o front text i r within other h =
    let rest : List ℕ = drop (i + 1) text in
    let split : in_turn with_part o (parts_from front (get_or text i 0 ∷ rest)) ≡ r = sym (at_drop_more (λ xs. in_turn with_part o (parts_from front xs)) text i 0 within) ∙ h in
    sym (ap (λ t. in_turn with_part o (cond t (front ∷ parts_from [] rest) (parts_from (front ++ get_or text i 0 ∷ []) rest))) other) ∙ split

-- the part so far, with one byte more
pub part_more : (text : List ℕ) (start i : ℕ) → start ≤ i → i < length text → take (i + 1 - start) (drop start text) ≡ take (i - start) (drop start text) ++ get_or text i 0 ∷ []
part_more text start i le within =
    let n : ℕ = i - start in
    let short : n < length (drop start text) = omega (arith, length-drop start text) in
    let one : i + 1 - start ≡ n + 1 = omega arith in
    let there : start + n ≡ i = omega arith in
    let at : get_or (drop start text) n 0 ≡ get_or text i 0 = get_or-drop start text n 0 ∙ ap (λ (k : ℕ). get_or text k 0) there in
    rw one (take_more (drop start text) n 0 short ∙ ap (λ b. take n (drop start text) ++ b ∷ []) at)
