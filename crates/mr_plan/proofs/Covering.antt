-- Whether an index covers, as a test.
use Rattle.std.proofs.Common.{◌≡◌, ℕ, zero, suc, ◌<◌, Bool, true, false, refl, sym, ap, subst, ◌∙◌, arith, eq-eqb, inl, inr}
use Rattle.std.specs.Prelude.{◌↔◌, not, ◌&&◌, ◌||◌, ◌==◌, ◌/◌, ◌%◌, ◌^◌}
use Rattle.std.proofs.lemmas.Bool.{cases_eq, ne_eqb}
use Rattle.mr_types.specs.declared.definition.TableDef.{TableDef}
use Rattle.mr_entry.specs.Entry.{is_reached, IsNeeded}
use Rattle.mr_plan.specs.Choice.{needed_below, is_covering, Covers}

and-both : (a b : Bool) → a ≡ true → b ≡ true → (a && b) ≡ true
and-both true b h k = k
and-both false b h k = cc

module _ (def : TableDef) (index needed : ℕ) where
  needs : ℕ → Bool
  needs p = needed / 2 ^ p % 2 == 1

  one : (p : ℕ) → (IsNeeded needed p → is_reached def index p ≡ true) → (not (needed / 2 ^ p % 2 == 1) || is_reached def index p) ≡ true
  one p h = elim (cases_eq (needed / 2 ^ p % 2) 1) [
    | inl same ↦ right (not (needed / 2 ^ p % 2 == 1)) (is_reached def index p) (h same)
    | inr other ↦ ap (λ (b : Bool). not b || is_reached def index p) (ne_eqb (needed / 2 ^ p % 2) 1 other)
  ]
    where
      right : (a b : Bool) → b ≡ true → (a || b) ≡ true
      right true b h = refl
      right false b h = h

  all-below : (n : ℕ) → ((p : ℕ) → p < n → IsNeeded needed p → is_reached def index p ≡ true) → needed_below def index needed n ≡ true
  all-below zero h = refl
  all-below (suc n) h = and-both (not (needed / 2 ^ n % 2 == 1) || is_reached def index n) (needed_below def index needed n) (one n (h n (omega arith))) (all-below n (λ p k. h p (omega arith)))

  missing : (p : ℕ) → IsNeeded needed p → is_reached def index p ≡ false → (not (needed / 2 ^ p % 2 == 1) || is_reached def index p) ≡ false
  missing p h k = ap (λ (b : Bool). not b || is_reached def index p) (eq-eqb (needed / 2 ^ p % 2) 1 h) ∙ k

  and-none : (a b : Bool) → b ≡ false → (a && b) ≡ false
  and-none true b h = h
  and-none false b h = refl

  not-below : (n p : ℕ) → p < n → IsNeeded needed p → is_reached def index p ≡ false → needed_below def index needed n ≡ false
  not-below zero p h k r = absurd (omega arith)
  not-below (suc n) p h k r = elim (cases_eq p n) [
    | inl same ↦ rw (← same) (ap (λ (b : Bool). b && needed_below def index needed p) (missing p k r))
    | inr other ↦ and-none (not (needed / 2 ^ n % 2 == 1) || is_reached def index n) (needed_below def index needed n) (not-below n p (omega arith) k r)
  ]

  or-true : (a b : Bool) → b ≡ true → (a || b) ≡ true
  or-true true b h = refl
  or-true false b h = h

  by-index : (i : ℕ) (result : Bool) → i ≡ index → (index ≡ 0 → result ≡ true)
      → (0 < index → result ≡ true → (p : ℕ) → p < 64 → IsNeeded needed p → is_reached def index p ≡ true)
      → (result ≡ false → (p : ℕ) × (p < 64) × IsNeeded needed p × (is_reached def index p ≡ false))
      → result ≡ is_covering def index needed
  unfolding is_covering
  by-index zero result e primary all some = primary (sym e) ∙ sym (ap (λ (b : Bool). b || needed_below def index needed 64) (eq-eqb index 0 (sym e)))
  by-index (suc i) true e primary all some = sym (or-true (index == 0) (needed_below def index needed 64) (all-below 64 (all (omega arith) refl)))
  by-index (suc i) false e primary all some =
      let found = some refl in
      sym (ap (λ (b : Bool). b || needed_below def index needed 64) (ne_eqb index 0 (λ z. (let w : suc i ≡ 0 = e ∙ z in omega arith))) ∙ not-below 64 found.0 found.1 found.2 found.3)

pub covers_by : (def : TableDef) (index needed : ℕ) (result : Bool) → (index ≡ 0 → result ≡ true)
    → (0 < index → result ≡ true → (p : ℕ) → p < 64 → IsNeeded needed p → is_reached def index p ≡ true)
    → (result ≡ false → (p : ℕ) × (p < 64) × IsNeeded needed p × (is_reached def index p ≡ false))
    → result ≡ is_covering def index needed
covers_by def index needed result primary all some = by-index def index needed index result refl primary all some

-- ---- and as a fact

needed-true : (b c : Bool) → b ≡ true → (not b || c) ≡ true → c ≡ true
needed-true true c h e = e
needed-true false c h e = cc

each-below : (def : TableDef) (index needed n : ℕ) → needed_below def index needed n ≡ true → (p : ℕ) → p < n → IsNeeded needed p → is_reached def index p ≡ true
each-below def index needed zero h p k is = absurd (omega arith)
each-below def index needed (suc n) h p k is = elim (cases_eq p n) [
  | inl same ↦ needed-true (needed / 2 ^ p % 2 == 1) (is_reached def index p) (eq-eqb (needed / 2 ^ p % 2) 1 is) (subst (λ (m : ℕ). (not (needed / 2 ^ m % 2 == 1) || is_reached def index m) ≡ true) (sym same) (and-left (not (needed / 2 ^ n % 2 == 1) || is_reached def index n) (needed_below def index needed n) h))
  | inr other ↦ each-below def index needed n (and-right (not (needed / 2 ^ n % 2 == 1) || is_reached def index n) (needed_below def index needed n) h) p (omega arith) is
]
  where
    and-left : (a b : Bool) → (a && b) ≡ true → a ≡ true
    and-left true b h = refl
    and-left false b h = cc

    and-right : (a b : Bool) → (a && b) ≡ true → b ≡ true
    and-right true b h = h
    and-right false b h = cc

pub covers-is : (def : TableDef) (index needed : ℕ) → (is_covering def index needed ≡ true) ↔ Covers def index needed
unfolding is_covering
covers-is def zero needed = (λ h. tt, λ h. refl)
covers-is def (suc i) needed =
    let other : (suc i == 0) ≡ false = ne_eqb (suc i) 0 (λ z. omega arith) in
    let same : (suc i == 0 || needed_below def (suc i) needed 64) ≡ needed_below def (suc i) needed 64 = ap (λ (b : Bool). b || needed_below def (suc i) needed 64) other in
    (λ h. each-below def (suc i) needed 64 (sym same ∙ h), λ h. same ∙ all-below def (suc i) needed 64 h)
