-- How many sessions hold claims.
use Rattle.std.proofs.Common.{◌≡◌, ◌≢◌, ℕ, zero, suc, ◌+◌, ◌<◌, ◌≤◌, List, [], length, Bool, true, false, cond, refl, sym, ◌∙◌, ap, subst, arith, inl, inr, nat_lt}
use Rattle.std.proofs.lemmas.Bool.{lt-ltb, cases_lt}
use Rattle.std.proofs.lemmas.Bool.Decides.{nat_tests}
use Rattle.mr_claims.specs.Kept.{Lists, held_in, holding}

one_at_most : (b : Bool) (m n : ℕ) → m ≤ n → cond b (suc m) m ≤ suc n
one_at_most true m n le = omega (arith, le)
one_at_most false m n le = omega (arith, le)

-- no more than there are
pub holding_at_most : (n : ℕ) (lists : Lists) → holding n lists ≤ n
unfolding holding
holding_at_most zero lists = omega arith
holding_at_most (suc n) lists = one_at_most (nat_lt 0 (length (held_in lists n))) (holding n lists) n (holding_at_most n lists)

fewer : (a b m n : ℕ) → a ≤ b → m ≤ n → cond (nat_lt 0 a) (suc m) m ≤ cond (nat_lt 0 b) (suc n) n
fewer a b m n l k = grind (arith, nat_tests)

-- no more where each session holds no more
pub holding_fewer : (n : ℕ) (old new : Lists) → ((s : ℕ) → length (held_in new s) ≤ length (held_in old s)) → holding n new ≤ holding n old
unfolding holding
holding_fewer zero old new h = omega arith
holding_fewer (suc n) old new h = fewer _ _ _ _ (h n) (holding_fewer n old new h)

holding_same : (n : ℕ) (old new : Lists) → ((s : ℕ) → s < n → held_in new s ≡ held_in old s) → holding n new ≡ holding n old
unfolding holding
holding_same zero old new h = refl
holding_same (suc n) old new h =
    ap (λ (cs : List (List ℕ)). cond (nat_lt 0 (length cs)) (suc (holding n new)) (holding n new)) (h n (omega arith))
    ∙ ap (λ (m : ℕ). cond (nat_lt 0 (length (held_in old n))) (suc m) m) (holding_same n old new (λ s lt. h s (omega (arith, lt))))

pub holding_none : (n : ℕ) (lists : Lists) → ((s : ℕ) → held_in lists s ≡ []) → holding n lists ≡ 0
unfolding holding
holding_none zero lists h = refl
holding_none (suc n) lists h =
    ap (λ (cs : List (List ℕ)). cond (nat_lt 0 (length cs)) (suc (holding n lists)) (holding n lists)) (h n)
    ∙ holding_none n lists h

suc_both : (b : Bool) (m n : ℕ) → suc m ≡ n → suc (cond b (suc m) m) ≡ cond b (suc n) n
suc_both true m n e = ap suc e
suc_both false m n e = e

-- one less where one session no longer holds claims
pub holding_one_less : (n s : ℕ) (old new : Lists) → s < n → 0 < length (held_in old s) → held_in new s ≡ [] → ((t : ℕ) → t ≢ s → held_in new t ≡ held_in old t) → suc (holding n new) ≡ holding n old
unfolding holding
holding_one_less zero s old new lt some none others = absurd (omega (arith, lt))
holding_one_less (suc n) s old new lt some none others = elim (cases_lt s n) [
  | inl l ↦
      ap (λ (cs : List (List ℕ)). suc (cond (nat_lt 0 (length cs)) (suc (holding n new)) (holding n new))) (others n (λ e. omega (arith, l, e)))
      ∙ suc_both (nat_lt 0 (length (held_in old n))) (holding n new) (holding n old) (holding_one_less n s old new l some none others)
  | inr m ↦
      let same : s ≡ n = omega (arith, lt, m) in
      let here : held_in new n ≡ [] = ap (held_in new) (sym same) ∙ none in
      let there : 0 < length (held_in old n) = subst (λ (t : ℕ). 0 < length (held_in old t)) same some in
      ap (λ (cs : List (List ℕ)). suc (cond (nat_lt 0 (length cs)) (suc (holding n new)) (holding n new))) here
      ∙ ap suc (holding_same n old new (λ t l. others t (λ e. omega (arith, l, e, same))))
      ∙ sym (ap (λ b. cond b (suc (holding n old)) (holding n old)) (lt-ltb 0 (length (held_in old n)) there))
]

grown : (b : Bool) (m : ℕ) → 0 < m → 0 < cond b (suc m) m
grown true m h = omega (arith, h)
grown false m h = h

one_holds : (n s : ℕ) (lists : Lists) → s < n → 0 < length (held_in lists s) → 0 < holding n lists
unfolding holding
one_holds zero s lists lt some = absurd (omega (arith, lt))
one_holds (suc n) s lists lt some = elim (cases_lt s n) [
  | inl l ↦ grown (nat_lt 0 (length (held_in lists n))) (holding n lists) (one_holds n s lists l some)
  | inr m ↦
      let same : s ≡ n = omega (arith, lt, m) in
      let there : 0 < length (held_in lists n) = subst (λ (t : ℕ). 0 < length (held_in lists t)) same some in
      subst (λ b. 0 < cond b (suc (holding n lists)) (holding n lists)) (sym (lt-ltb 0 (length (held_in lists n)) there)) (omega arith)
]

-- there is room for a commit of a session that holds claims
pub room_for_one : (n s : ℕ) (lists : Lists) (len capacity : ℕ) → s < n → 0 < length (held_in lists s) → holding n lists + len ≤ capacity → len < capacity
room_for_one n s lists len capacity lt some room = let one : 0 < holding n lists = one_holds n s lists lt some in omega (arith, one, room)
