-- A claim's last commit is behind the first n exactly where one behind them has it.
use Rattle.std.proofs.Common.{◌≡◌, ℕ, zero, suc, ◌-◌, ◌<◌, ◌≤◌, Bool, true, false, true≢false, List, [], ◌∷◌, ◌++◌, drop, filter, refl, ap, sym, ◌∙◌, inl, inr, nat_lt, arith}
use Rattle.std.specs.Prelude.{◌||◌, if◌then◌else◌, cond}
use Rattle.std.specs.List.{list_any}
use Rattle.std.proofs.lemmas.Bool.Decides.{nat_tests}
use Rattle.mr_types.specs.declared.definition.TableDef.{TableDef}
use Rattle.mr_types.specs.declared.row.Change.{Change}
use Rattle.mr_types.specs.declared.row.Commit.{Commit}
use Rattle.mr_types.specs.Values.{same_bytes}
use Rattle.mr_spec.specs.Claims.{has_claim_in}
use Rattle.mr_spec.specs.Database.{changes_in, changes_of, on_table}
use Rattle.mr_spec.specs.Rows.{table_name}
use Rattle.mr_key_claims.specs.Claim.{Claim, claims_of, claims_of_all, same_claim, commit_has, last_from, last_commit, IsClaimOf, HaveCommon}
use Rattle.mr_key_claims.specs.Promises.{IsChangedSince, ChangedByLastCommits}
use Rattle.mr_key_claims.proofs.Claims.{told-apart, or-left, or-right, some-of}
use Rattle.mr_key_claims.proofs.Shares.{held-by-claims}

-- ---- one claim among those of commits

or-assoc : (a b c : Bool) → ((a || b) || c) ≡ (a || (b || c))
or-assoc true b c = refl
or-assoc false b c = refl

any-append : {A : Type 0} (p : A → Bool) (xs ys : List A) → list_any p (xs ++ ys) ≡ (list_any p xs || list_any p ys)
any-append p [] ys = refl
any-append p (x ∷ xs) ys = ap (λ b. p x || b) (any-append p xs ys) ∙ sym (or-assoc (p x) (list_any p xs) (list_any p ys))

kept-append : {A : Type 0} (p : A → Bool) (xs ys : List A) → filter p (xs ++ ys) ≡ filter p xs ++ filter p ys
kept-append p [] ys = refl
kept-append p (x ∷ xs) ys = elim (p x) as (λ b. cond b (x ∷ filter p (xs ++ ys)) (filter p (xs ++ ys)) ≡ cond b (x ∷ filter p xs) (filter p xs) ++ filter p ys) [
  | true ↦ ap (λ zs. x ∷ zs) (kept-append p xs ys)
  | false ↦ kept-append p xs ys
]

append-assoc : {A : Type 0} (xs ys zs : List A) → (xs ++ ys) ++ zs ≡ xs ++ (ys ++ zs)
append-assoc [] ys zs = refl
append-assoc (x ∷ xs) ys zs = ap (λ us. x ∷ us) (append-assoc xs ys zs)

all-append : (def : TableDef) (cs ds : List Change) → claims_of_all def (cs ++ ds) ≡ claims_of_all def cs ++ claims_of_all def ds
all-append def [] ds = refl
all-append def (c ∷ cs) ds = ap (λ l. claims_of def c ++ l) (all-append def cs ds) ∙ sym (append-assoc (claims_of def c) (claims_of_all def cs) (claims_of_all def ds))

of-commits : (def : TableDef) (name : List ℕ) (k : Claim) (cs : List Commit) → list_any (same_claim k) (claims_of_all def (on_table name (changes_of cs))) ≡ list_any (commit_has def name k) cs
of-commits def name k [] = refl
of-commits def name k (c ∷ cs) =
    ap (λ l. list_any (same_claim k) (claims_of_all def l)) (kept-append (λ (d : Change). same_bytes (table_name d) name) (changes_in c.body) (changes_of cs))
    ∙ ap (list_any (same_claim k)) (all-append def (on_table name (changes_in c.body)) (on_table name (changes_of cs)))
    ∙ any-append (same_claim k) (claims_of_all def (on_table name (changes_in c.body))) (claims_of_all def (on_table name (changes_of cs)))
    ∙ ap (λ b. commit_has def name k c || b) (of-commits def name k cs)

is-there : (k : Claim) (ls : List Claim) → IsClaimOf k ls → list_any (same_claim k) ls ≡ true
is-there k [] h = absurd h
is-there k (l ∷ ls) (inl e) = or-left (same_claim k l) (list_any (same_claim k) ls) ((told-apart k l).1 e)
is-there k (l ∷ ls) (inr h) = or-right (same_claim k l) (list_any (same_claim k) ls) (is-there k ls h)

there-is : (k : Claim) (ls : List Claim) → list_any (same_claim k) ls ≡ true → IsClaimOf k ls
there-is k [] e = absurd (true≢false (sym e))
there-is k (l ∷ ls) e = elim (some-of (same_claim k l) (list_any (same_claim k) ls) e) [ inl h ↦ inl ((told-apart k l).0 h) | inr h ↦ inr (there-is k ls h) ]

-- ---- the last commit

over : (n m : ℕ) → n < m → nat_lt n m ≡ true
over n m h = grind (arith, nat_tests)

not-over : (n m : ℕ) → m ≤ n → nat_lt n m ≡ false
not-over n m h = grind (arith, nat_tests)

is-over : (n m : ℕ) → nat_lt n m ≡ true → n < m
is-over n m e = grind (arith, nat_tests)

or-true : (b : Bool) → (b || true) ≡ true
or-true true = refl
or-true false = refl

or-false : (b : Bool) → (b || false) ≡ b
or-false true = refl
or-false false = refl

found-within : (b : Bool) (found before : ℕ) → found ≤ before → (if b then suc before else found) ≤ suc before
found-within true found before h = omega arith
found-within false found before h = omega arith

-- what was found is told, and each commit behind n that is still to come
last-is : (def : TableDef) (name : List ℕ) (k : Claim) (n found before : ℕ) (cs : List Commit) → found ≤ before → nat_lt n (last_from def name k found before cs) ≡ (nat_lt n found || list_any (commit_has def name k) (drop (n - before) cs))
last-is def name k n found before [] h = sym (or-false (nat_lt n found)) ∙ ap (λ (l : List Commit). nat_lt n found || list_any (commit_has def name k) l) (none-left (n - before))
  where
    none-left : (m : ℕ) → ◌≡◌ {A = List Commit} [] (drop m [])
    none-left zero = refl
    none-left (suc m) = refl
last-is def name k n found before (c ∷ cs) h = last-is def name k n (if commit_has def name k c then suc before else found) (suc before) cs (found-within (commit_has def name k c) found before h) ∙ by-place (n - before) refl
  where
    by-place : (m : ℕ) → n - before ≡ m → (nat_lt n (if commit_has def name k c then suc before else found) || list_any (commit_has def name k) (drop (n - suc before) cs)) ≡ (nat_lt n found || list_any (commit_has def name k) (drop m (c ∷ cs)))
    by-place zero e =
        let here : n - suc before ≡ 0 = omega arith in
        let le : n ≤ before = omega arith in
        ap (λ (m : ℕ). nat_lt n (if commit_has def name k c then suc before else found) || list_any (commit_has def name k) (drop m cs)) here
        ∙ (elim (commit_has def name k c) as (λ b. (nat_lt n (if b then suc before else found) || list_any (commit_has def name k) cs) ≡ (nat_lt n found || (b || list_any (commit_has def name k) cs))) [
          | true ↦ ap (λ b. b || list_any (commit_has def name k) cs) (over n (suc before) (omega arith)) ∙ sym (or-true (nat_lt n found))
          | false ↦ refl
        ])
    by-place (suc m) e =
        let here : n - suc before ≡ m = omega arith in
        let le : suc before ≤ n = omega arith in
        let within : (if commit_has def name k c then suc before else found) ≤ suc before = found-within (commit_has def name k c) found before h in
        ap (λ (m : ℕ). nat_lt n (if commit_has def name k c then suc before else found) || list_any (commit_has def name k) (drop m cs)) here
        ∙ ap (λ b. b || list_any (commit_has def name k) (drop m cs)) (not-over n (if commit_has def name k c then suc before else found) (omega arith) ∙ sym (not-over n found (omega arith)))

last-of : (def : TableDef) (name : List ℕ) (k : Claim) (n : ℕ) (cs : List Commit) → nat_lt n (last_commit def name cs k) ≡ list_any (commit_has def name k) (drop n cs)
last-of def name k n cs =
    let all : n - 0 ≡ n = omega arith in
    last-is def name k n 0 0 cs (omega arith) ∙ ap (λ b. b || list_any (commit_has def name k) (drop (n - 0) cs)) (not-over n 0 (omega arith)) ∙ ap (λ (m : ℕ). list_any (commit_has def name k) (drop m cs)) all

pub changed-by-last-commits : (def : TableDef) (name : List ℕ) (commits : List Commit) (n : ℕ) (c : Change) → ChangedByLastCommits def name commits n c
changed-by-last-commits def name commits n c = (there, back)
  where
    there : has_claim_in def (on_table name (changes_of (drop n commits))) c ≡ true → IsChangedSince def name commits n c
    there e =
        let h : HaveCommon (claims_of def c) (claims_of_all def (on_table name (changes_of (drop n commits)))) = (held-by-claims def (on_table name (changes_of (drop n commits))) c).0 e in
        record {
          claim = h.claim;
          of_change = h.of_one;
          later = is-over n (last_commit def name commits h.claim) (last-of def name h.claim n commits ∙ sym (of-commits def name h.claim (drop n commits)) ∙ is-there h.claim (claims_of_all def (on_table name (changes_of (drop n commits)))) h.of_other);
        }

    back : IsChangedSince def name commits n c → has_claim_in def (on_table name (changes_of (drop n commits))) c ≡ true
    back h = (held-by-claims def (on_table name (changes_of (drop n commits))) c).1 (record {
      claim = h.claim;
      of_one = h.of_change;
      of_other = there-is h.claim (claims_of_all def (on_table name (changes_of (drop n commits)))) (of-commits def name h.claim (drop n commits) ∙ sym (last-of def name h.claim n commits) ∙ over n (last_commit def name commits h.claim) h.later);
    })
