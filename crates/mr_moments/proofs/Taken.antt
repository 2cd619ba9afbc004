-- What `clap` finds in one option with a value.
use Rattle.std.proofs.Common.{◌≡◌, ℕ, List, [], ◌∷◌, ◌++◌, refl, sym, ap₂, subst, codes, true, false, Some, None, inl, inr}
use Rattle.std.proofs.lemmas.Bool.{or_cases}
use Rattle.std.proofs.lemmas.Bool.Decides.{eqb_tells}
use Rattle.clap.specs.Words.{takes, is_simple, matches_of, first_of}
use Rattle.clap.proofs.OnLiterals.{clap_on_literals}
use Rattle.mr_moments.specs.Command.{app}
use Rattle.mr_moments.specs.Form.{has_behind, are_option, value_of}

pub simple_app : is_simple app ≡ true
unfolding clap_on_literals
simple_app = refl

now_taken : (b : ℕ) (bs : List ℕ) → takes app ((codes "--now=" ++ b ∷ bs) ∷ []) ≡ true
unfolding clap_on_literals
now_taken b bs = refl

now_found : (b : ℕ) (bs : List ℕ) → first_of (codes "now") (matches_of app ((codes "--now=" ++ b ∷ bs) ∷ [])) ≡ Some (b ∷ bs)
unfolding clap_on_literals
now_found b bs = refl

no_clock : (b : ℕ) (bs : List ℕ) → first_of (codes "clock") (matches_of app ((codes "--now=" ++ b ∷ bs) ∷ [])) ≡ None
unfolding clap_on_literals
no_clock b bs = refl

clock_taken : (b : ℕ) (bs : List ℕ) → takes app ((codes "--clock=" ++ b ∷ bs) ∷ []) ≡ true
unfolding clap_on_literals
clock_taken b bs = refl

clock_found : (b : ℕ) (bs : List ℕ) → first_of (codes "clock") (matches_of app ((codes "--clock=" ++ b ∷ bs) ∷ [])) ≡ Some (b ∷ bs)
unfolding clap_on_literals
clock_found b bs = refl

no_now : (b : ℕ) (bs : List ℕ) → first_of (codes "now") (matches_of app ((codes "--clock=" ++ b ∷ bs) ∷ [])) ≡ None
unfolding clap_on_literals
no_now b bs = refl

-- ---- words in form

abbrev Fronted : List ℕ → List ℕ → Type 0
Fronted front word = (b : ℕ) × (bs : List ℕ) × (word ≡ front ++ b ∷ bs)

fronted : (front word : List ℕ) → has_behind front word ≡ true → Fronted front word
fronted [] [] h = cc
fronted [] (b ∷ bs) h = (b, bs, refl)
fronted (f ∷ fs) [] h = cc
fronted (f ∷ fs) (c ∷ cs) h = elim (eqb_tells c f) [
  | inl (t, same) ↦ let h' : has_behind fs cs ≡ true = rw t at h in let r : Fronted fs cs = fronted fs cs h' in (r.0, r.1, ap₂ (λ (x : ℕ) (xs : List ℕ). x ∷ xs) same r.2)
  | inr (t, other) ↦ let e : false ≡ true = rw t at h in cc
]

-- what `clap` finds in these words
pub record Found (words : List (List ℕ)) : Type 0 where
  pub taken : takes app words ≡ true
  pub now : first_of (codes "now") (matches_of app words) ≡ value_of (codes "--now=") words
  pub clock : first_of (codes "clock") (matches_of app words) ≡ value_of (codes "--clock=") words

pub found_in : (words : List (List ℕ)) → are_option words ≡ true → Found words
found_in [] h = cc
found_in (word ∷ []) h = elim (or_cases (has_behind (codes "--now=") word) (has_behind (codes "--clock=") word) h) [
  | inl is ↦ let r : Fronted (codes "--now=") word = fronted (codes "--now=") word is in
      subst (λ (w : List ℕ). Found (w ∷ [])) (sym r.2) (record { taken = now_taken r.0 r.1; now = now_found r.0 r.1; clock = no_clock r.0 r.1 })
  | inr is ↦ let r : Fronted (codes "--clock=") word = fronted (codes "--clock=") word is in
      subst (λ (w : List ℕ). Found (w ∷ [])) (sym r.2) (record { taken = clock_taken r.0 r.1; now = no_now r.0 r.1; clock = clock_found r.0 r.1 })
]
found_in (a ∷ b ∷ words) h = cc
