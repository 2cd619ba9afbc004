-- Families by the places of their numbers.
use Rattle.std.proofs.Common.{◌≡◌, ◌≢◌, ◌==◌, ℕ, zero, suc, ◌+◌, ◌<◌, ◌≤◌, if◌then◌else◌, Bool, true, false, List, [], ◌∷◌, length, set, Result, Ok, Err, IfOk, IfErr, is_ok, refl, sym, ◌∙◌, ap, subst, inl, inr, arith}
use Rattle.std.specs.List.{insert}
use Rattle.std.proofs.lemmas.Bool.{cases_Bool}
use Rattle.std.proofs.lemmas.Bool.Decides.{nat_tests}
use Rattle.std.proofs.lemmas.List.{length-set, get_or-set_same, get_or-set_other}
use Rattle.std.proofs.lemmas.List.Edits.{length-insert}
use Rattle.mr_base.specs.declared.stop.Direction.TheVariants.{Forward}
use Rattle.mr_family.specs.Family.{FamilyState}
use Rattle.mr_families.specs.declared.numbered.Numbered.{Numbered}
use Rattle.mr_families.specs.Known.{family_at, empty_family, numbers, is_known, one_at, no_one, AreAscending, AreKept, IsTold, IsAt, IsGapFor}

abbrev pub number_at : List Numbered → ℕ → ℕ
number_at ns i = (one_at ns i).number

pub same_of : (m n : ℕ) → (m == n) ≡ true → m ≡ n
same_of m n is = grind (arith, nat_tests)

pub itself : (n : ℕ) → (n == n) ≡ true
itself n = grind (arith, nat_tests)

pub differ : (m n : ℕ) → m ≢ n → (m == n) ≡ false
differ m n ne = grind (arith, nat_tests)

-- ---- what stands at a place

family_here : (ns : List Numbered) (k i : ℕ) → i < length ns → number_at ns i ≡ k → ((j : ℕ) → j < i → number_at ns j ≢ k) → family_at ns k ≡ (one_at ns i).family
family_here [] k i lt here none = absurd (omega (arith, lt))
family_here (n ∷ ns) k zero lt here none = let e : (n.number == k) ≡ true = grind (arith, nat_tests, here) in rw e
family_here (n ∷ ns) k (suc i) lt here none =
    let e : (n.number == k) ≡ false = differ n.number k (none 0 (omega arith)) in
    rw e (family_here ns k i (omega (arith, lt)) here (λ j l. none (suc j) (omega (arith, l))))

known_here : (ns : List Numbered) (k i : ℕ) → i < length ns → number_at ns i ≡ k → is_known ns k ≡ true
known_here [] k i lt here = absurd (omega (arith, lt))
known_here (n ∷ ns) k zero lt here = let e : (n.number == k) ≡ true = grind (arith, nat_tests, here) in rw e
known_here (n ∷ ns) k (suc i) lt here = elim (n.number == k) as (λ b. (if b then true else is_known ns k) ≡ true) [
  | true ↦ refl
  | false ↦ known_here ns k i (omega (arith, lt)) here
]

family_nowhere : (ns : List Numbered) (k : ℕ) → ((j : ℕ) → j < length ns → number_at ns j ≢ k) → family_at ns k ≡ empty_family Forward
family_nowhere [] k none = refl
family_nowhere (n ∷ ns) k none =
    let e : (n.number == k) ≡ false = differ n.number k (none 0 (omega arith)) in
    rw e (family_nowhere ns k (λ j lt. none (suc j) (omega (arith, lt))))

known_nowhere : (ns : List Numbered) (k : ℕ) → ((j : ℕ) → j < length ns → number_at ns j ≢ k) → is_known ns k ≡ false
known_nowhere [] k none = refl
known_nowhere (n ∷ ns) k none =
    let e : (n.number == k) ≡ false = differ n.number k (none 0 (omega arith)) in
    rw e (known_nowhere ns k (λ j lt. none (suc j) (omega (arith, lt))))

-- numbers that rise are another before their place
others_before : (ns : List Numbered) (k i : ℕ) → AreAscending ns → IsAt ns k i → (j : ℕ) → j < i → number_at ns j ≢ k
others_before ns k i rising here j lt same = omega (arith, rising j i lt here.in_range, here.has_number, same)

pub at_place : (ns : List Numbered) (k i : ℕ) → AreAscending ns → IsAt ns k i → family_at ns k ≡ (one_at ns i).family
at_place ns k i rising here = family_here ns k i here.in_range here.has_number (others_before ns k i rising here)

pub known_at_place : (ns : List Numbered) (k i : ℕ) → IsAt ns k i → is_known ns k ≡ true
known_at_place ns k i here = known_here ns k i here.in_range here.has_number

pub gap_is_nowhere : (ns : List Numbered) (k i : ℕ) → IsGapFor ns k i → (j : ℕ) → j < length ns → number_at ns j ≢ k
gap_is_nowhere ns k i gap j lt same = grind (arith, gap.smaller_before j, gap.greater_after j)

pub none_in_gap : (ns : List Numbered) (k i : ℕ) → IsGapFor ns k i → family_at ns k ≡ empty_family Forward
none_in_gap ns k i gap = family_nowhere ns k (gap_is_nowhere ns k i gap)

pub not_known_in_gap : (ns : List Numbered) (k i : ℕ) → IsGapFor ns k i → is_known ns k ≡ false
not_known_in_gap ns k i gap = known_nowhere ns k (gap_is_nowhere ns k i gap)

pub known_is_not_absent : (ns : List Numbered) (k i : ℕ) → is_known ns k ≡ true → IsGapFor ns k i → ⊥
known_is_not_absent ns k i known gap = let low : is_known ns k ≡ false = not_known_in_gap ns k i gap in cc

-- whether a search found the number is whether it is known
pub told : (ns : List Numbered) (k : ℕ) (r : Result ℕ ℕ) → IfOk r (IsAt ns k) → IfErr r (IsGapFor ns k) → is_ok r ≡ is_known ns k
told ns k (Ok i) at gap = sym (known_at_place ns k i at)
told ns k (Err i) at gap = sym (not_known_in_gap ns k i gap)

-- ---- one in the place of another of the same number

pub numbers-set : (ns : List Numbered) (i : ℕ) (m : Numbered) → m.number ≡ number_at ns i → numbers (set ns i m) ≡ numbers ns
numbers-set [] i m same = refl
numbers-set (n ∷ ns) zero m same = ap (λ (k : ℕ). k ∷ numbers ns) same
numbers-set (n ∷ ns) (suc i) m same = ap (λ (ks : List ℕ). n.number ∷ ks) (numbers-set ns i m same)

pub others-set : (ns : List Numbered) (i : ℕ) (m : Numbered) (f : ℕ) → m.number ≡ number_at ns i → (m.number == f) ≡ false → family_at (set ns i m) f ≡ family_at ns f
others-set [] i m f same other = refl
others-set (n ∷ ns) zero m f same other =
    let e : (n.number == f) ≡ false = subst (λ (k : ℕ). (k == f) ≡ false) same other in
    rw (other, e) refl
others-set (n ∷ ns) (suc i) m f same other = ap (λ (x : FamilyState). if n.number == f then n.family else x) (others-set ns i m f same other)

pub own-set : (ns : List Numbered) (i : ℕ) (m : Numbered) → i < length ns → ((j : ℕ) → j < i → number_at ns j ≢ m.number) → family_at (set ns i m) m.number ≡ m.family
own-set [] i m lt none = absurd (omega (arith, lt))
own-set (n ∷ ns) zero m lt none = rw (itself m.number) refl
own-set (n ∷ ns) (suc i) m lt none =
    let e : (n.number == m.number) ≡ false = differ n.number m.number (none 0 (omega arith)) in
    rw e (own-set ns i m (omega (arith, lt)) (λ j l. none (suc j) (omega (arith, l))))

pub own-at : (ns : List Numbered) (k i : ℕ) (m : Numbered) → AreAscending ns → IsAt ns k i → m.number ≡ k → family_at (set ns i m) k ≡ m.family
own-at ns k i m rising here number = subst (λ (n : ℕ). family_at (set ns i m) n ≡ m.family) number (own-set ns i m here.in_range (λ j lt e. others_before ns k i rising here j lt (e ∙ number)))

-- What holds of the one, before and after, and of each other family, which stays, holds of each family.
pub each-set : (P : ℕ → FamilyState → FamilyState → Type 0) (ns : List Numbered) (i : ℕ) (m : Numbered) → AreAscending ns → i < length ns → m.number ≡ number_at ns i → ((f : ℕ) (x : FamilyState) → (m.number == f) ≡ false → P f x x) → P m.number (one_at ns i).family m.family →
    (f : ℕ) → P f (family_at ns f) (family_at (set ns i m) f)
each-set P ns i m rising lt same stays own f = elim (cases_Bool (m.number == f)) [
  | inl is ↦ subst (λ (k : ℕ). P k (family_at ns k) (family_at (set ns i m) k)) (same_of m.number f is) here
  | inr other ↦ subst (λ (x : FamilyState). P f (family_at ns f) x) (sym (others-set ns i m f same other)) (stays f (family_at ns f) other)
]
  where
    place : IsAt ns m.number i
    place = record { in_range = lt; has_number = sym same }

    before : family_at ns m.number ≡ (one_at ns i).family
    before = at_place ns m.number i rising place

    after : family_at (set ns i m) m.number ≡ m.family
    after = own-set ns i m lt (others_before ns m.number i rising place)

    here : P m.number (family_at ns m.number) (family_at (set ns i m) m.number)
    here = subst (λ (x : FamilyState). P m.number x (family_at (set ns i m) m.number)) (sym before) (subst (λ (y : FamilyState). P m.number (one_at ns i).family y) (sym after) own)

numbers_stand : (ns : List Numbered) (i : ℕ) (m : Numbered) → i < length ns → m.number ≡ number_at ns i → (j : ℕ) → number_at (set ns i m) j ≡ number_at ns j
numbers_stand ns i m lt same j = elim (cases_Bool (j == i)) [
  | inl is ↦
      let e : j ≡ i = same_of j i is in
      subst (λ (k : ℕ). number_at (set ns i m) k ≡ number_at ns k) (sym e) (ap (λ (n : Numbered). n.number) (get_or-set_same ns i m no_one lt) ∙ same)
  | inr other ↦ ap (λ (n : Numbered). n.number) (get_or-set_other ns i j m no_one (grind (arith, nat_tests, other)))
]

pub kept-set : (ns : List Numbered) (i : ℕ) (m : Numbered) → i < length ns → m.number ≡ number_at ns i → IsTold m → AreKept ns → AreKept (set ns i m)
kept-set ns i m lt same told kept = record { ascending = rise; told = each }
  where
    size : length (set ns i m) ≡ length ns
    size = length-set ns i m

    rise : AreAscending (set ns i m)
    rise j k less within = omega (arith, kept.ascending j k less (omega (arith, size, within)), numbers_stand ns i m lt same j, numbers_stand ns i m lt same k)

    each : (j : ℕ) → j < length (set ns i m) → IsTold (one_at (set ns i m) j)
    each j within = elim (cases_Bool (j == i)) [
      | inl is ↦ subst (λ (k : ℕ). IsTold (one_at (set ns i m) k)) (sym (same_of j i is)) (subst IsTold (sym (get_or-set_same ns i m no_one lt)) told)
      | inr other ↦ subst IsTold (sym (get_or-set_other ns i j m no_one (grind (arith, nat_tests, other)))) (kept.told j (omega (arith, size, within)))
    ]

-- ---- one more

either_first : (a b c : Bool) → (if a then true else (if b then true else c)) ≡ (if b then true else (if a then true else c))
either_first true true c = refl
either_first true false c = refl
either_first false b c = refl

pub known-insert : (ns : List Numbered) (i : ℕ) (m : Numbered) (f : ℕ) → is_known (insert ns i m) f ≡ (if m.number == f then true else is_known ns f)
known-insert ns zero m f = refl
known-insert [] (suc i) m f = refl
known-insert (n ∷ ns) (suc i) m f = ap (λ (b : Bool). if n.number == f then true else b) (known-insert ns i m f) ∙ either_first (n.number == f) (m.number == f) (is_known ns f)

pub others-insert : (ns : List Numbered) (i : ℕ) (m : Numbered) (f : ℕ) → (m.number == f) ≡ false → family_at (insert ns i m) f ≡ family_at ns f
others-insert ns zero m f other = rw other refl
others-insert [] (suc i) m f other = rw other refl
others-insert (n ∷ ns) (suc i) m f other = ap (λ (x : FamilyState). if n.number == f then n.family else x) (others-insert ns i m f other)

own_inserted : (ns : List Numbered) (i : ℕ) (m : Numbered) → i ≤ length ns → ((j : ℕ) → j < i → number_at ns j ≢ m.number) → family_at (insert ns i m) m.number ≡ m.family
own_inserted ns zero m le none = rw (itself m.number) refl
own_inserted [] (suc i) m le none = absurd (omega (arith, le))
own_inserted (n ∷ ns) (suc i) m le none =
    let e : (n.number == m.number) ≡ false = differ n.number m.number (none 0 (omega arith)) in
    rw e (own_inserted ns i m (omega (arith, le)) (λ j l. none (suc j) (omega (arith, l))))

pub own-insert : (ns : List Numbered) (i : ℕ) (m : Numbered) → IsGapFor ns m.number i → family_at (insert ns i m) m.number ≡ m.family
own-insert ns i m gap = own_inserted ns i m gap.in_range (λ j lt same. omega (arith, gap.smaller_before j lt, same))

-- P of each, where it is of the new one and of those that were there, each at its place
inserted_each : (P : ℕ → Numbered → Type 0) (ns : List Numbered) (i : ℕ) (m : Numbered) → i ≤ length ns → ((j : ℕ) → j < i → P j (one_at ns j)) → P i m → ((j : ℕ) → i ≤ j → j < length ns → P (j + 1) (one_at ns j)) →
    (j : ℕ) → j < length ns + 1 → P j (one_at (insert ns i m) j)
inserted_each P ns zero m le before here behind zero lt = here
inserted_each P ns zero m le before here behind (suc j) lt = subst (λ (k : ℕ). P k (one_at ns j)) (omega arith) (behind j (omega arith) (omega (arith, lt)))
inserted_each P [] (suc i) m le before here behind j lt = absurd (omega (arith, le))
inserted_each P (n ∷ ns) (suc i) m le before here behind zero lt = before 0 (omega arith)
inserted_each P (n ∷ ns) (suc i) m le before here behind (suc j) lt =
    inserted_each (λ k. P (suc k)) ns i m (omega (arith, le)) (λ k l. before (suc k) (omega (arith, l))) here
    (λ k from l. subst (λ (e : ℕ). P e (one_at ns k)) (omega arith) (behind (suc k) (omega (arith, from)) (omega (arith, l)))) j (omega (arith, lt))

-- all the numbers that come behind are greater
greater_behind : (ns : List Numbered) (i : ℕ) (m : Numbered) → IsGapFor ns m.number i → (x j : ℕ) → ((k : ℕ) → k < i → j < k → x < number_at ns k) → (j < i → x < m.number) → ((k : ℕ) → i ≤ k → k < length ns → j < k + 1 → x < number_at ns k) →
    (k : ℕ) → k < length ns + 1 → j < k → x < number_at (insert ns i m) k
greater_behind ns i m gap x j before here behind = inserted_each (λ k n. j < k → x < n.number) ns i m gap.in_range before here behind

still_rising : (ns : List Numbered) (i : ℕ) (m : Numbered) → IsGapFor ns m.number i → AreAscending ns → (j : ℕ) → j < length ns + 1 → (k : ℕ) → k < length ns + 1 → j < k → number_at (insert ns i m) j < number_at (insert ns i m) k
still_rising ns i m gap rising = inserted_each (λ j n. (k : ℕ) → k < length ns + 1 → j < k → n.number < number_at (insert ns i m) k) ns i m gap.in_range
    (λ j lt. greater_behind ns i m gap (number_at ns j) j (λ k l less. rising j k less (omega (arith, l, gap.in_range))) (λ l. gap.smaller_before j lt) (λ k from l less. rising j k (omega (arith, lt, from)) l))
    (greater_behind ns i m gap m.number i (λ k l less. absurd (omega (arith, l, less))) (λ l. absurd (omega (arith, l))) (λ k from l less. gap.greater_after k from l))
    (λ j from lt. greater_behind ns i m gap (number_at ns j) (j + 1) (λ k l less. absurd (omega (arith, from, l, less))) (λ l. absurd (omega (arith, from, l))) (λ k from' l less. rising j k (omega (arith, less)) l))

pub kept-insert : (ns : List Numbered) (i : ℕ) (m : Numbered) → IsGapFor ns m.number i → IsTold m → AreKept ns → AreKept (insert ns i m)
kept-insert ns i m gap told kept = record { ascending = rise; told = each }
  where
    size : length (insert ns i m) ≡ length ns + 1
    size = length-insert ns i m gap.in_range

    rise : AreAscending (insert ns i m)
    rise j k less within = still_rising ns i m gap kept.ascending j (omega (arith, less, size, within)) k (omega (arith, size, within)) less

    each : (j : ℕ) → j < length (insert ns i m) → IsTold (one_at (insert ns i m) j)
    each j within = inserted_each (λ k. IsTold) ns i m gap.in_range (λ j lt. kept.told j (omega (arith, gap.in_range, lt))) told (λ j from lt. kept.told j lt) j (omega (arith, size, within))
