-- Changes share a claim exactly where their lists have one in common.
use Rattle.std.proofs.Common.{◌≡◌, ◌⊎◌, Bool, true, true≢false, List, [], ◌∷◌, ◌++◌, ◌↔◌, refl, ap, sym, subst, ◌∙◌, inl, inr}
use Rattle.std.specs.List.{list_any, flat_map}
use Rattle.mr_types.specs.declared.definition.TableDef.{TableDef}
use Rattle.mr_types.specs.declared.row.Change.{Change}
use Rattle.mr_types.specs.declared.row.Change.TheVariants.{Insert, Update, Delete}
use Rattle.mr_spec.specs.Claims.{share_claim, has_claim_in}
use Rattle.mr_spec.specs.Rows.{clashes, rows_of}
use Rattle.mr_key_claims.specs.Claim.{Claim, row_claims, claims_of, claims_of_all, IsClaimOf, HaveCommon}
use Rattle.mr_key_claims.specs.Promises.{ShareByClaims, HeldByClaims}
use Rattle.mr_key_claims.proofs.Claims.{some-of, or-left, or-right, in-left, in-right, in-append, clash-by-claims}

-- ---- lists of lists

abbrev pub IsOf : {A : Type 0} → A → List A → Type 0
IsOf x [] = ⊥
IsOf x (y ∷ ys) = (x ≡ y) ⊎ IsOf x ys

pub any-some : {A : Type 0} (p : A → Bool) (xs : List A) → list_any p xs ≡ true → (x : A) × IsOf x xs × (p x ≡ true)
any-some p [] e = absurd (true≢false (sym e))
any-some p (y ∷ xs) e = elim (some-of (p y) (list_any p xs) e) [ inl h ↦ (y, inl refl, h) | inr h ↦ let k = any-some p xs h in (k.0, inr k.1, k.2) ]

pub some-any : {A : Type 0} (p : A → Bool) (x : A) (xs : List A) → IsOf x xs → p x ≡ true → list_any p xs ≡ true
some-any p x [] h e = absurd h
some-any p x (y ∷ xs) (inl same) e = or-left (p y) (list_any p xs) (ap p (sym same) ∙ e)
some-any p x (y ∷ xs) (inr h) e = or-right (p y) (list_any p xs) (some-any p x xs h e)

flat-in : {A : Type 0} (f : A → List Claim) (k : Claim) (x : A) (xs : List A) → IsOf x xs → IsClaimOf k (f x) → IsClaimOf k (flat_map f xs)
flat-in f k x [] h i = absurd h
flat-in f k x (y ∷ xs) (inl e) i = in-left k (f y) (flat_map f xs) (subst (λ z. IsClaimOf k (f z)) e i)
flat-in f k x (y ∷ xs) (inr h) i = in-right k (f y) (flat_map f xs) (flat-in f k x xs h i)

in-flat : {A : Type 0} (f : A → List Claim) (k : Claim) (xs : List A) → IsClaimOf k (flat_map f xs) → (x : A) × IsOf x xs × IsClaimOf k (f x)
in-flat f k [] h = absurd h
in-flat f k (y ∷ xs) h = elim (in-append k (f y) (flat_map f xs) h) [ inl i ↦ (y, inl refl, i) | inr i ↦ let p = in-flat f k xs i in (p.0, inr p.1, p.2) ]

-- ---- changes

-- the claims of the rows that a change names
abbrev of-rows : TableDef → Change → List Claim
of-rows def c = flat_map (row_claims def) (rows_of c)

ends : (ks : List Claim) → ks ≡ ks ++ []
ends [] = refl
ends (k ∷ ks) = ap (λ l. k ∷ l) (ends ks)

are-of-rows : (def : TableDef) (c : Change) → claims_of def c ≡ of-rows def c
are-of-rows def (Insert table new) = ends (row_claims def new)
are-of-rows def (Update table old new) = ap (λ l. row_claims def old ++ l) (ends (row_claims def new))
are-of-rows def (Delete table old) = ends (row_claims def old)

share-by-rows : (def : TableDef) (c d : Change) → (share_claim def c d ≡ true) ↔ HaveCommon (of-rows def c) (of-rows def d)
share-by-rows def c d = (there, back)
  where
    there : share_claim def c d ≡ true → HaveCommon (of-rows def c) (of-rows def d)
    there e =
        let p = any-some (λ r. list_any (λ s. clashes def r s) (rows_of d)) (rows_of c) e in
        let q = any-some (λ s. clashes def p.0 s) (rows_of d) p.2 in
        let h : HaveCommon (row_claims def p.0) (row_claims def q.0) = (clash-by-claims def p.0 q.0).0 q.2 in
        record {
          claim = h.claim;
          of_one = flat-in (row_claims def) h.claim p.0 (rows_of c) p.1 h.of_one;
          of_other = flat-in (row_claims def) h.claim q.0 (rows_of d) q.1 h.of_other;
        }

    back : HaveCommon (of-rows def c) (of-rows def d) → share_claim def c d ≡ true
    back h =
        let p = in-flat (row_claims def) h.claim (rows_of c) h.of_one in
        let q = in-flat (row_claims def) h.claim (rows_of d) h.of_other in
        some-any (λ r. list_any (λ s. clashes def r s) (rows_of d)) p.0 (rows_of c) p.1 (some-any (λ s. clashes def p.0 s) q.0 (rows_of d) q.1 ((clash-by-claims def p.0 q.0).1 (record { claim = h.claim; of_one = p.2; of_other = q.2 })))

pub share-by-claims : (def : TableDef) (c d : Change) → ShareByClaims def c d
share-by-claims def c d =
    subst (λ ks. (share_claim def c d ≡ true) ↔ HaveCommon ks (claims_of def d)) (sym (are-of-rows def c))
    (subst (λ ls. (share_claim def c d ≡ true) ↔ HaveCommon (of-rows def c) ls) (sym (are-of-rows def d)) (share-by-rows def c d))

pub held-by-claims : (def : TableDef) (others : List Change) (c : Change) → HeldByClaims def others c
held-by-claims def others c = (there, back)
  where
    there : has_claim_in def others c ≡ true → HaveCommon (claims_of def c) (claims_of_all def others)
    there e =
        let p = any-some (share_claim def c) others e in
        let h : HaveCommon (claims_of def c) (claims_of def p.0) = (share-by-claims def c p.0).0 p.2 in
        record { claim = h.claim; of_one = h.of_one; of_other = flat-in (claims_of def) h.claim p.0 others p.1 h.of_other }

    back : HaveCommon (claims_of def c) (claims_of_all def others) → has_claim_in def others c ≡ true
    back h =
        let p = in-flat (claims_of def) h.claim others h.of_other in
        some-any (share_claim def c) p.0 others p.1 ((share-by-claims def c p.0).1 (record { claim = h.claim; of_one = h.of_one; of_other = p.2 }))
