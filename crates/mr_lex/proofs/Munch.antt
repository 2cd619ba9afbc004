-- The longest front that is a token.
use Rattle.std.proofs.Common.{◌≡◌, ℕ, zero, suc, ◌+◌, ◌<◌, ◌≤◌, List, [], ◌∷◌, length, take, Some, None, Option, refl, ap, sym, ◌∙◌, Bool, true, false, arith, inl, inr, ◌==◌, is_some, if◌then◌else◌}
use Rattle.std.proofs.lemmas.Bool.{eqb-true, eqb-false}
use Rattle.std.proofs.lemmas.Bool.Decides.{nat_tests}
use Rattle.std.specs.List.{prefix_len, list_all}
use Rattle.std.specs.Option.{option_map}
use Rattle.mr_lex.specs.Tokens.{kind_at, longest, first_token}
use Rattle.mr_lex.specs.declared.token.TokenKind.{TokenKind}
use Rattle.mr_lex.proofs.Lists.{tells, same}

pub all_prefix : (p : ℕ → Bool) (bs : List ℕ) (m : ℕ) → m ≤ prefix_len p bs → list_all p (take m bs) ≡ true
all_prefix p bs zero l = refl
all_prefix p [] (suc m) l = refl
all_prefix p (b ∷ bs) (suc m) l = elim (tells (p b)) [
  | inl y ↦ rw y (all_prefix p bs m (let l' = rw y at l in omega (arith, l')))
  | inr n ↦ let l' = rw n at l in absurd (omega (arith, l'))
]

pub all_prefix_of : (p : ℕ → Bool) (bs : List ℕ) → list_all p (take (prefix_len p bs) bs) ≡ true
all_prefix_of p bs = all_prefix p bs (prefix_len p bs) (let e : prefix_len p bs ≤ prefix_len p bs = omega arith in e)

pub past_prefix : (p : ℕ → Bool) (bs : List ℕ) (m : ℕ) → prefix_len p bs < m → m ≤ length bs → list_all p (take m bs) ≡ false
past_prefix p bs zero l f = absurd (omega (arith, l))
past_prefix p [] (suc m) l f = absurd (omega (arith, f))
past_prefix p (b ∷ bs) (suc m) l f = elim (tells (p b)) [
  | inl y ↦ rw y (past_prefix p bs m (let l' = rw y at l in omega (arith, l')) (omega (arith, f)))
  | inr n ↦ rw n refl
]

-- a front has the same run, where it holds all of it
pub prefix_taken : (p : ℕ → Bool) (bs : List ℕ) (m : ℕ) → prefix_len p bs ≤ m → prefix_len p (take m bs) ≡ prefix_len p bs
prefix_taken p [] zero l = refl
prefix_taken p [] (suc m) l = refl
prefix_taken p (b ∷ bs) zero l = elim (tells (p b)) [
  | inl y ↦ let l' = rw y at l in absurd (omega (arith, l'))
  | inr n ↦ rw n refl
]
prefix_taken p (b ∷ bs) (suc m) l = elim (tells (p b)) [
  | inl y ↦ rw y (ap (λ k. 1 + k) (prefix_taken p bs m (let l' = rw y at l in omega (arith, l'))))
  | inr n ↦ rw n refl
]

-- and all of it is the run, where the run is longer
pub prefix_within : (p : ℕ → Bool) (bs : List ℕ) (m : ℕ) → m ≤ prefix_len p bs → prefix_len p (take m bs) ≡ m
prefix_within p bs zero l = refl
prefix_within p [] (suc m) l = absurd (omega (arith, l))
prefix_within p (b ∷ bs) (suc m) l = elim (tells (p b)) [
  | inl y ↦ rw y (let e : prefix_len p (take m bs) ≡ m = prefix_within p bs m (let l' = rw y at l in omega (arith, l')) in omega (arith, e))
  | inr n ↦ let l' = rw n at l in absurd (omega (arith, l'))
]

below : (n k : ℕ) → n ≤ k → (n ≡ k → ⊥) → n < k
below n k l d = grind (arith, d)

longest_is : (k n : ℕ) (text : List ℕ) → n ≤ k → is_some (kind_at n text) ≡ true → ((m : ℕ) → n < m → m ≤ k → is_some (kind_at m text) ≡ false) → longest k text ≡ n
longest_is zero n text l found past = omega (arith, l)
longest_is (suc k) n text l found past = elim (tells (n == suc k)) [
  | inl is_same ↦ let e : n ≡ suc k = eqb-true n (suc k) is_same in let found' = rw e at found in rw found' (sym e)
  | inr other ↦ let apart : n < suc k = below n (suc k) l (eqb-false n (suc k) other) in rw (past (suc k) apart (omega arith)) (longest_is k n text (omega (arith, apart)) found (λ m a b. past m a (omega (arith, b))))
]

longest_none : (k : ℕ) (text : List ℕ) → ((m : ℕ) → m ≤ k → is_some (kind_at m text) ≡ false) → longest k text ≡ 0
longest_none zero text past = refl
longest_none (suc k) text past = rw (past (suc k) (omega arith)) (longest_none k text (λ m b. past m (omega (arith, b))))

pub is_first : (text : List ℕ) (n : ℕ) (kind : TokenKind) → n ≤ length text → kind_at n text ≡ Some kind → ((m : ℕ) → n < m → m ≤ length text → kind_at m text ≡ None) → first_token text ≡ Some (kind, n)
is_first text n kind l found past =
    let long : longest (length text) text ≡ n = longest_is (length text) n text l (ap is_some found) (λ m a b. ap is_some (past m a b)) in
    ap (λ k. option_map (λ (x : TokenKind). (x, k)) (kind_at k text)) long ∙ ap (λ o. option_map (λ (x : TokenKind). (x, n)) o) found

pub no_first : (text : List ℕ) → ((m : ℕ) → m ≤ length text → kind_at m text ≡ None) → first_token text ≡ None
no_first text past =
    let long : longest (length text) text ≡ 0 = longest_none (length text) text (λ m b. ap is_some (past m b)) in
    ap (λ k. option_map (λ (x : TokenKind). (x, k)) (kind_at k text)) long ∙ ap (λ o. option_map (λ (x : TokenKind). (x, 0)) o) (past 0 (omega arith))

-- the kind at the one length at which there is a token
abbrev pub at_length : ℕ → Option (TokenKind × ℕ) → Option TokenKind
at_length m None = None
at_length m (Some x) = if m == x.1 then Some x.0 else None

abbrev pub IsWithin : ℕ → Option (TokenKind × ℕ) → Type 0
IsWithin most None = Unit {0}
IsWithin most (Some x) = x.1 ≤ most

pub only_first : (text : List ℕ) (o : Option (TokenKind × ℕ)) → ((m : ℕ) → m ≤ length text → kind_at m text ≡ at_length m o) → IsWithin (length text) o → first_token text ≡ o
only_first text None all l = no_first text (λ m b. all m b)
only_first text (Some x) all l = is_first text x.1 x.0 l (all x.1 l ∙ ap (λ t. if t then Some x.0 else None) (same x.1 x.1 refl))
    (λ m a b. all m b ∙ ap (λ t. if t then Some x.0 else None) (apart m x.1 a))
  where
    apart : (m n : ℕ) → n < m → (m == n) ≡ false
    apart m n l = grind (arith, nat_tests)

-- a token has a byte, and stands in the text
pub first_past : (text : List ℕ) (x : TokenKind × ℕ) → first_token text ≡ Some x → (0 < x.1) × (x.1 ≤ length text)
first_past text x e = by (longest (length text) text) refl e
  where
    least_length : (k : ℕ) → longest k text ≤ k
    least_length zero = omega arith
    least_length (suc k) = elim (tells (is_some (kind_at (suc k) text))) [
      | inl y ↦ rw y (omega arith)
      | inr n ↦ let h = least_length k in rw n (omega (arith, h))
    ]

    some : (n : ℕ) (o : Option TokenKind) → n ≤ length text → option_map (λ (k : TokenKind). (k, suc n)) o ≡ Some x → suc n ≤ length text → (0 < x.1) × (x.1 ≤ length text)
    some n None l e r = cc
    some n (Some k) l e r = let is : suc n ≡ x.1 = cc in (omega (arith, is), omega (arith, is, r))

    by : (n : ℕ) → longest (length text) text ≡ n → option_map (λ (k : TokenKind). (k, n)) (kind_at n text) ≡ Some x → (0 < x.1) × (x.1 ≤ length text)
    by zero l e = cc
    by (suc n) l e = let h = least_length (length text) in some n (kind_at (suc n) text) (omega (arith, h, l)) e (omega (arith, h, l))
