-- What is dropped when commits are forgotten.
use Rattle.std.proofs.Common.{◌≡◌, ℕ, ◌<◌, ◌≤◌, ◌==◌, ◌||◌, Bool, true, false, cond, Option, Some, None, is_some, refl, sym, ◌∙◌, ap, arith, inl, inr, nat_lt}
use Rattle.std.proofs.lemmas.Bool.{cases_Bool, ltb-false, lt-ltb}
use Rattle.std.proofs.lemmas.Bool.Decides.{nat_tests}
use Rattle.mr_claims.specs.declared.entry.Entry.{Entry}
use Rattle.mr_claims.specs.Kept.{count_of, noted, says_more, is_needed, needed_only, unless_forgotten}
use Rattle.mr_claims.specs.Commits.{or_earlier}

none_left : (a b : Bool) → (a || b) ≡ false → (a ≡ false) × (b ≡ false)
none_left true b h = cc
none_left false b h = (refl, h)

or_true : (a : Bool) → (a || true) ≡ true
or_true true = refl
or_true false = refl

nothing : (o : Option ℕ) → is_some o ≡ false → o ≡ None
nothing None h = refl
nothing (Some x) h = cc

no_count : (n : ℕ) → nat_lt 0 n ≡ false → n ≡ 0
no_count n h = let z : n ≤ 0 = ltb-false 0 n h in omega (arith, z)

no_holds : (b : Bool) (n : ℕ) → n ≡ 0 → 0 ≡ cond b n 0
no_holds true n h = sym h
no_holds false n h = refl

pub same_count : (s before : ℕ) (o : Option Entry) → count_of s (needed_only before o) ≡ count_of s o
same_count s before None = refl
same_count s before (Some e) = elim (cases_Bool (says_more before e)) [
  | inl y ↦ ap (λ b. count_of s (cond b (Some e) None)) y
  | inr n ↦ ap (λ b. count_of s (cond b (Some e) None)) n ∙ no_holds (e.session == s) e.count (no_count e.count (none_left _ _ n).0)
]

pub same_note : (before : ℕ) (o : Option Entry) → unless_forgotten before (noted (needed_only before o)) ≡ unless_forgotten before (noted o)
same_note before None = refl
same_note before (Some e) = elim (cases_Bool (says_more before e)) [
  | inl y ↦ ap (λ b. unless_forgotten before (noted (cond b (Some e) None))) y
  | inr n ↦ ap (λ b. unless_forgotten before (noted (cond b (Some e) None))) n ∙ sym (nothing (unless_forgotten before e.changed) (none_left _ _ n).1)
]

pub now_needed : (before : ℕ) (o : Option Entry) → is_needed before (needed_only before o) ≡ true
now_needed before None = refl
now_needed before (Some e) = elim (cases_Bool (says_more before e)) [
  | inl y ↦ ap (λ b. is_needed before (cond b (Some e) None)) y ∙ y
  | inr n ↦ ap (λ b. is_needed before (cond b (Some e) None)) n
]

needed_twice : (before : ℕ) (o : Option Entry) → needed_only before (needed_only before o) ≡ needed_only before o
needed_twice before None = refl
needed_twice before (Some e) = elim (cases_Bool (says_more before e)) [
  | inl y ↦ ap (λ b. needed_only before (cond b (Some e) None)) y
  | inr n ↦ ap (λ b. needed_only before (cond b (Some e) None)) n ∙ ap (λ b. cond b (Some e) None) (sym n)
]

pub drop_step : (before : ℕ) (h eq g : Bool) (o cur new : Option Entry) → cur ≡ cond h (needed_only before o) o → new ≡ cond eq (needed_only before cur) cur → g ≡ (h || eq) → new ≡ cond g (needed_only before o) o
drop_step before true true g o cur new p q r = q ∙ ap (needed_only before) p ∙ needed_twice before o ∙ ap (λ b. cond b (needed_only before o) o) (sym r)
drop_step before true false g o cur new p q r = q ∙ p ∙ ap (λ b. cond b (needed_only before o) o) (sym r)
drop_step before false true g o cur new p q r = q ∙ ap (needed_only before) p ∙ ap (λ b. cond b (needed_only before o) o) (sym r)
drop_step before false false g o cur new p q r = q ∙ p ∙ ap (λ b. cond b (needed_only before o) o) (sym r)

-- what is dropped where it isn't needed counts and notes what it did
pub dropped_count : (s before : ℕ) (h : Bool) (o new : Option Entry) → new ≡ cond h (needed_only before o) o → count_of s new ≡ count_of s o
dropped_count s before true o new e = ap (count_of s) e ∙ same_count s before o
dropped_count s before false o new e = ap (count_of s) e

-- the entries of a commit that is taken out are needed, or gone
pub forgotten : (before k : ℕ) (h : Bool) (l : Option ℕ) (o new : Option Entry) → (is_needed before o || is_some (or_earlier l h k)) ≡ true → new ≡ cond h (needed_only before o) o → (is_needed before new || is_some l) ≡ true
forgotten before k true l o new n e = ap (λ p. is_needed before p || is_some l) e ∙ ap (λ b. b || is_some l) (now_needed before o)
forgotten before k false None o new n e = ap (λ p. is_needed before p || false) e ∙ n
forgotten before k false (Some j) o new n e = or_true (is_needed before new)

pub needed_or_last : (a b : ℕ) (l : Option ℕ) (o : Option Entry) → unless_forgotten a (noted o) ≡ l → is_needed a o ≡ true → (is_needed b o || is_some l) ≡ true
needed_or_last a b l None e n = refl
needed_or_last a b l (Some x) e n = elim (cases_Bool (nat_lt 0 x.count)) [
  | inl y ↦ ap (λ c. (c || is_some (unless_forgotten b x.changed)) || is_some l) y
  | inr f ↦
      let there : is_some l ≡ true = ap is_some (sym e) ∙ sym (ap (λ c. c || is_some (unless_forgotten a x.changed)) f) ∙ n in
      ap (λ c. says_more b x || c) there ∙ or_true (says_more b x)
]

pub needed_by_last : (b : ℕ) (l : Option ℕ) (o : Option Entry) → unless_forgotten b (noted o) ≡ l → (is_needed b o || is_some l) ≡ true → is_needed b o ≡ true
needed_by_last b l None e n = refl
needed_by_last b l (Some x) e n = elim (cases_Bool (says_more b x)) [
  | inl y ↦ y
  | inr f ↦
      let there : is_some l ≡ true = sym (ap (λ c. c || is_some l) f) ∙ n in
      let none : is_some l ≡ false = ap is_some (sym e) ∙ (none_left (nat_lt 0 x.count) (is_some (unless_forgotten b x.changed)) f).1 in
      (let no : true ≡ false = sym there ∙ none in cc)
]

pub needed_by_commit : (a k : ℕ) (o : Option Entry) → a < k → noted o ≡ Some k → is_needed a o ≡ true
needed_by_commit a k None lt e = refl
needed_by_commit a k (Some x) lt e =
    let there : is_some (unless_forgotten a x.changed) ≡ true = ap (λ p. is_some (unless_forgotten a p)) e ∙ ap (λ b. is_some (cond b (Some k) None)) (lt-ltb a k lt) in
    ap (λ c. nat_lt 0 x.count || c) there ∙ or_true (nat_lt 0 x.count)

pub needed_by_hold : (a : ℕ) (e : Entry) → 0 < e.count → says_more a e ≡ true
needed_by_hold a e lt = ap (λ b. b || is_some (unless_forgotten a e.changed)) (lt-ltb 0 e.count lt)

pub unless_later : (a b : ℕ) (o : Option ℕ) → a ≤ b → unless_forgotten b (unless_forgotten a o) ≡ unless_forgotten b o
unless_later a b None le = refl
unless_later a b (Some k) le = grind (arith, nat_tests)

pub note_commit : (a k : ℕ) (h : Bool) (o new : Option ℕ) → a < k → new ≡ cond h (Some k) o → unless_forgotten a new ≡ cond h (Some k) (unless_forgotten a o)
note_commit a k true o new lt e = ap (unless_forgotten a) e ∙ ap (λ b. cond b (Some k) None) (lt-ltb a k lt)
note_commit a k false o new lt e = ap (unless_forgotten a) e
