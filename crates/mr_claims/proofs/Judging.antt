-- What the entries say of a claim is what the lists say.
use Rattle.std.proofs.Common.{◌≡◌, ◌≢◌, ℕ, ◌<◌, ◌≤◌, ◌==◌, ◌&&◌, not, List, Bool, true, false, cond, Option, Some, None, refl, sym, ◌∙◌, ap, subst, arith, nat_lt, inl, inr}
use Rattle.std.specs.Option.{IfSome}
use Rattle.std.proofs.lemmas.Bool.{cases_Bool, ltb-true, ltb-false, lt-ltb}
use Rattle.mr_claims.specs.declared.entry.Entry.{Entry}
use Rattle.mr_claims.specs.declared.claimed.Claimed.TheVariants.{Free, Held, Changed}
use Rattle.mr_claims.specs.Lists.{has, times}
use Rattle.mr_claims.specs.Kept.{count_of, noted, unless_forgotten, judged, changed_since}
use Rattle.mr_claims.specs.Claims.{ClaimState, IsClaimed, IsNotHeldByOthers}
use Rattle.mr_claims.proofs.Counts.{not_held, some_held, held_some, same_number, other_number, number_itself}

abbrev after : ClaimState → ℕ → ℕ → List ℕ → Option ℕ → Type 0
after m session since claim o = m.changed claim ≡ unless_forgotten m.before o → IsNotHeldByOthers m session claim → IsClaimed m session since claim (changed_since since o)

judge_change : (m : ClaimState) (session since : ℕ) (claim : List ℕ) (o : Option ℕ) → m.before ≤ since → after m session since claim o
judge_change m session since claim None le is alone = (alone, subst (λ p. IfSome p (λ k. k ≤ since)) (sym is) tt)
judge_change m session since claim (Some k) le is alone = elim (cases_Bool (nat_lt since k)) [
  | inl y ↦
      let behind : since < k = ltb-true since k y in
      let shown : m.changed claim ≡ Some k = is ∙ ap (λ b. cond b (Some k) None) (lt-ltb m.before k (omega (arith, le, behind))) in
      subst (IsClaimed m session since claim) (sym (ap (λ b. cond b (Changed k) Free) y)) (alone, shown, behind)
  | inr n ↦
      let upto : k ≤ since = ltb-false since k n in
      let known : IfSome (m.changed claim) (λ k. k ≤ since) = subst (λ p. IfSome p (λ k. k ≤ since)) (sym is) (elim (cases_Bool (nat_lt m.before k)) [
        | inl a ↦ subst (λ p. IfSome p (λ k. k ≤ since)) (sym (ap (λ b. cond b (Some k) None) a)) upto
        | inr a ↦ subst (λ p. IfSome p (λ k. k ≤ since)) (sym (ap (λ b. cond b (Some k) None) a)) tt
      ]) in
      subst (IsClaimed m session since claim) (sym (ap (λ b. cond b (Changed k) Free) n)) (alone, known)
]

both : (a b : Bool) → (a && b) ≡ true → (a ≡ true) × (b ≡ true)
both true b e = (refl, e)
both false b e = cc

is_false : (b : Bool) → not b ≡ true → b ≡ false
is_false true e = cc
is_false false e = refl

module _ (m : ClaimState) (session since : ℕ) (claim : List ℕ) (le : m.before ≤ since) where
  pub judged_right : (o : Option Entry) → ((s : ℕ) → times claim (m.held s) ≡ count_of s o) → m.changed claim ≡ unless_forgotten m.before (noted o) → IsClaimed m session since claim (judged o session since)
  judged_right None counts is = (λ other apart. not_held claim (m.held other) (counts other), subst (λ p. IfSome p (λ k. k ≤ since)) (sym is) tt)
  judged_right (Some e) counts is = elim (cases_Bool (nat_lt 0 e.count && not (e.session == session))) [
    | inl y ↦
        let parts = both (nat_lt 0 e.count) (not (e.session == session)) y in
        let apart : e.session ≢ session = λ g. (let no : true ≡ false = sym (ap (λ (t : ℕ). t == session) g ∙ number_itself session) ∙ is_false (e.session == session) parts.1 in cc) in
        let many : times claim (m.held e.session) ≡ e.count = counts e.session ∙ ap (λ b. cond b e.count 0) (number_itself e.session) in
        let there : has claim (m.held e.session) ≡ true = some_held claim (m.held e.session) (subst (λ (n : ℕ). 0 < n) (sym many) (ltb-true 0 e.count parts.0)) in
        subst (IsClaimed m session since claim) (sym (ap (λ b. cond b (Held e.session) (changed_since since e.changed)) y)) (apart, there)
    | inr n ↦
        let alone : IsNotHeldByOthers m session claim = λ other apart. not_held claim (m.held other) (counts other ∙ none other apart n) in
        subst (IsClaimed m session since claim) (sym (ap (λ b. cond b (Held e.session) (changed_since since e.changed)) n)) (judge_change m session since claim e.changed le is alone)
  ]
    where
      none : (other : ℕ) → other ≢ session → (nat_lt 0 e.count && not (e.session == session)) ≡ false → cond (e.session == other) e.count 0 ≡ 0
      none other apart f = elim (cases_Bool (e.session == other)) [
        | inl y ↦
            let there : e.session ≡ other = same_number e.session other y in
            let differs : (e.session == session) ≡ false = other_number e.session session (λ g. apart (sym there ∙ g)) in
            elim (cases_Bool (nat_lt 0 e.count)) [
              | inl z ↦ (let no : true ≡ false = sym (ap (λ b. b && not (e.session == session)) z ∙ ap not differs) ∙ f in cc)
              | inr z ↦ let few : e.count ≤ 0 = ltb-false 0 e.count z in ap (λ b. cond b e.count 0) y ∙ omega (arith, few)
            ]
        | inr y ↦ ap (λ b. cond b e.count 0) y
      ]

  pub judged_held : (o : Option Entry) → ((s : ℕ) → times claim (m.held s) ≡ count_of s o) → (s : ℕ) → s ≢ session → has claim (m.held s) ≡ true → judged o session since ≡ Held s
  judged_held None counts s apart h = absurd (omega (arith, held_some claim (m.held s) h, counts s))
  judged_held (Some e) counts s apart h = elim (cases_Bool (e.session == s)) [
    | inl y ↦
        let there : e.session ≡ s = same_number e.session s y in
        let many : times claim (m.held s) ≡ e.count = counts s ∙ ap (λ b. cond b e.count 0) y in
        let some : nat_lt 0 e.count ≡ true = lt-ltb 0 e.count (subst (λ (n : ℕ). 0 < n) many (held_some claim (m.held s) h)) in
        let differs : (e.session == session) ≡ false = other_number e.session session (λ g. apart (sym there ∙ g)) in
        ap (λ b. cond b (Held e.session) (changed_since since e.changed)) (ap (λ b. b && not (e.session == session)) some ∙ ap not differs) ∙ ap Held there
    | inr n ↦ let none : times claim (m.held s) ≡ 0 = counts s ∙ ap (λ b. cond b e.count 0) n in absurd (omega (arith, held_some claim (m.held s) h, none))
  ]
