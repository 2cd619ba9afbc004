-- Claims are equal exactly where the keys are the same.
use Rattle.std.proofs.Common.{◌≡◌, ◌⊎◌, ℕ, suc, ◌≤◌, Bool, true, false, true≢false, List, [], ◌∷◌, ◌++◌, Option, Some, None, unwrap_or, refl, ap, ap₂, sym, subst, ◌∙◌, inl, inr, nat_eq, arith}
use Rattle.std.specs.Prelude.{◌↔◌, ◌&&◌, ◌||◌, not, ◌==◌, if◌then◌else◌, ℤ, pos, negsuc}
use Rattle.std.specs.List.{list_any}
use Rattle.std.specs.Option.{option_eq}
use Rattle.std.specs.Ordering.{is_eq, nat_cmp}
use Rattle.std.specs.declared.cmp.Ordering.{Ordering}
use Rattle.std.specs.declared.cmp.Ordering.TheVariants.{Less, Equal, Greater}
use Rattle.std.proofs.lemmas.Bool.Decides.{nat_tests}
use Rattle.mr_pieces.proofs.Compare.{cmp_same, cmp_equal}
use Rattle.mr_types.specs.declared.definition.IndexDef.{IndexDef}
use Rattle.mr_types.specs.declared.definition.TableDef.{TableDef}
use Rattle.mr_types.specs.declared.row.Row.{Row}
use Rattle.mr_types.specs.declared.value.Value.{Value}
use Rattle.mr_types.specs.declared.value.Value.TheVariants.{Null, Number, Text, Bytes}
use Rattle.mr_types.specs.Order.{value_cmp}
use Rattle.mr_types.specs.Values.{is_null, is_equal, same_bytes}
use Rattle.mr_spec.specs.Rows.{kind_at, value_at, columns_cmp, primary_cmp, same_primary, has_null, same_unique, clashes}
use Rattle.mr_key_claims.specs.Claim.{in_one_form, key_values, Claim, primary_claim, claim_at, has_claim_on, unique_claims, row_claims, same_values, same_claim, IsClaimOf, HaveCommon}
use Rattle.mr_key_claims.specs.Promises.{PrimaryByClaim, ClashByClaims}
use Rattle.mr_key_claims.proofs.Forms.{both-equal, forms-are-one}

-- ---- tests

pub both : (a b : Bool) → (a && b) ≡ true → (a ≡ true) × (b ≡ true)
both true b e = (refl, e)
both false b e = absurd (true≢false (sym e))

pub joined : (a b : Bool) → a ≡ true → b ≡ true → (a && b) ≡ true
joined a b e f = rw (e, f) refl

pub some-of : (a b : Bool) → (a || b) ≡ true → (a ≡ true) ⊎ (b ≡ true)
some-of true b e = inl refl
some-of false b e = inr e

pub or-left : (a b : Bool) → a ≡ true → (a || b) ≡ true
or-left a b e = rw e refl

pub or-right : (a b : Bool) → b ≡ true → (a || b) ≡ true
or-right true b e = refl
or-right false b e = e

equal : (o : Ordering) → is_eq o ≡ true → o ≡ Equal
equal Less e = absurd (true≢false (sym e))
equal Equal e = refl
equal Greater e = absurd (true≢false (sym e))

-- ---- equal claims

same-number : (m n : ℕ) → nat_eq m n ≡ true → m ≡ n
same-number m n e = grind arith

number-same : (m : ℕ) → nat_eq m m ≡ true
number-same m = grind arith

same-list : (s t : List ℕ) → same_bytes s t ≡ true → s ≡ t
same-list [] [] e = refl
same-list [] (y ∷ t) e = absurd (true≢false (sym e))
same-list (x ∷ s) [] e = absurd (true≢false (sym e))
same-list (x ∷ s) (y ∷ t) e = let p = both (nat_eq x y) (same_bytes s t) e in ap₂ (λ a b. a ∷ b) (same-number x y p.0) (same-list s t p.1)

list-same : (s : List ℕ) → same_bytes s s ≡ true
list-same [] = refl
list-same (x ∷ s) = joined (nat_eq x x) (same_bytes s s) (number-same x) (list-same s)

same-int : (m n : ℤ) → is_equal (Number m) (Number n) ≡ true → m ≡ n
same-int (pos m) (pos n) e = let same : m ≡ n = grind (arith, nat_tests) in ap (λ k. pos k) same
same-int (pos m) (negsuc n) e = absurd cc
same-int (negsuc m) (pos n) e = absurd cc
same-int (negsuc m) (negsuc n) e = let same : m ≡ n = grind (arith, nat_tests) in ap (λ k. negsuc k) same

int-same : (m : ℤ) → is_equal (Number m) (Number m) ≡ true
int-same (pos m) = grind (arith, nat_tests)
int-same (negsuc m) = grind (arith, nat_tests)

same-value : (v w : Value) → is_equal v w ≡ true → v ≡ w
same-value Null Null e = refl
same-value (Number m) (Number n) e = ap (λ k. Number k) (same-int m n e)
same-value (Text s) (Text t) e = ap (λ k. Text k) (same-list s t e)
same-value (Bytes s) (Bytes t) e = ap (λ k. Bytes k) (same-list s t e)
same-value Null (Number n) e = absurd (true≢false (sym e))
same-value Null (Text n) e = absurd (true≢false (sym e))
same-value Null (Bytes n) e = absurd (true≢false (sym e))
same-value (Number m) Null e = absurd (true≢false (sym e))
same-value (Number m) (Text n) e = absurd (true≢false (sym e))
same-value (Number m) (Bytes n) e = absurd (true≢false (sym e))
same-value (Text m) Null e = absurd (true≢false (sym e))
same-value (Text m) (Number n) e = absurd (true≢false (sym e))
same-value (Text m) (Bytes n) e = absurd (true≢false (sym e))
same-value (Bytes m) Null e = absurd (true≢false (sym e))
same-value (Bytes m) (Number n) e = absurd (true≢false (sym e))
same-value (Bytes m) (Text n) e = absurd (true≢false (sym e))

value-same : (v : Value) → is_equal v v ≡ true
value-same Null = refl
value-same (Number m) = int-same m
value-same (Text s) = list-same s
value-same (Bytes s) = list-same s

values-are : (vs ws : List Value) → same_values vs ws ≡ true → vs ≡ ws
values-are [] [] e = refl
values-are [] (w ∷ ws) e = absurd (true≢false (sym e))
values-are (v ∷ vs) [] e = absurd (true≢false (sym e))
values-are (v ∷ vs) (w ∷ ws) e = let p = both (is_equal v w) (same_values vs ws) e in ap₂ (λ a b. a ∷ b) (same-value v w p.0) (values-are vs ws p.1)

are-values : (vs : List Value) → same_values vs vs ≡ true
are-values [] = refl
are-values (v ∷ vs) = joined (is_equal v v) (same_values vs vs) (value-same v) (are-values vs)

same-place : (m n : Option ℕ) → option_eq nat_eq m n ≡ true → m ≡ n
same-place None None e = refl
same-place None (Some n) e = absurd (true≢false (sym e))
same-place (Some m) None e = absurd (true≢false (sym e))
same-place (Some m) (Some n) e = ap (λ k. Some k) (same-number m n e)

place-same : (m : Option ℕ) → option_eq nat_eq m m ≡ true
place-same None = refl
place-same (Some m) = number-same m

claim-same : (k : Claim) → same_claim k k ≡ true
claim-same k = joined _ _ (place-same k.key) (joined _ _ (are-values k.values) (number-same k.hidden))

pub told-apart : (k l : Claim) → (same_claim k l ≡ true) ↔ (k ≡ l)
told-apart k l = (there, λ e. subst (λ m. same_claim k m ≡ true) e (claim-same k))
  where
    there : same_claim k l ≡ true → k ≡ l
    there e =
        let p = both (option_eq nat_eq k.key l.key) (same_values k.values l.values && k.hidden == l.hidden) e in
        let q = both (same_values k.values l.values) (k.hidden == l.hidden) p.1 in
        λ i. record { key = same-place k.key l.key p.0 i; values = values-are k.values l.values q.0 i; hidden = same-number k.hidden l.hidden q.1 i }

-- ---- the values of a key

one-form : (def : TableDef) (is : List ℕ) (r s : Row) → columns_cmp def is r s ≡ Equal → key_values def is r ≡ key_values def is s
one-form def [] r s e = refl
one-form def (i ∷ is) r s e =
    let p = both-equal (value_cmp (kind_at def i) (value_at r i) (value_at s i)) (columns_cmp def is r s) e in
    ap₂ (λ a b. a ∷ b) ((forms-are-one (kind_at def i) (value_at r i) (value_at s i)).0 p.0) (one-form def is r s p.1)

abbrev first-value : Value → List Value → Value
first-value v [] = v
first-value v (w ∷ ws) = w

abbrev other-values : List Value → List Value
other-values [] = []
other-values (w ∷ ws) = ws

form-one : (def : TableDef) (is : List ℕ) (r s : Row) → key_values def is r ≡ key_values def is s → columns_cmp def is r s ≡ Equal
form-one def [] r s e = refl
form-one def (i ∷ is) r s e = rw ((forms-are-one (kind_at def i) (value_at r i) (value_at s i)).1 (ap (first-value Null) e), form-one def is r s (ap other-values e)) refl

null-form : (kind : Rattle.mr_types.specs.declared.kind.Kind.Kind) (v : Value) → is_null (in_one_form kind v) ≡ is_null v
null-form kind Null = refl
null-form kind (Number n) = refl
null-form kind (Text t) = refl
null-form kind (Bytes b) = refl

nulls : (def : TableDef) (is : List ℕ) (r : Row) → list_any is_null (key_values def is r) ≡ has_null r is
nulls def [] r = refl
nulls def (i ∷ is) r = ap₂ (λ a b. a || b) (null-form (kind_at def i) (value_at r i)) (nulls def is r)

same-nulls : (def : TableDef) (is : List ℕ) (r s : Row) → key_values def is r ≡ key_values def is s → has_null r is ≡ has_null s is
same-nulls def is r s e = sym (nulls def is r) ∙ ap (list_any is_null) e ∙ nulls def is s

-- ---- the primary key

pub primary-by-claim : (def : TableDef) (r s : Row) → PrimaryByClaim def r s
primary-by-claim def r s = (there, back)
  where
    there : same_primary def r s ≡ true → primary_claim def r ≡ primary_claim def s
    there e =
        let p = both-equal (columns_cmp def def.primary.columns r s) (nat_cmp (unwrap_or r.hidden 0) (unwrap_or s.hidden 0)) (equal (primary_cmp def r s) e) in
        λ i. record { key = None; values = one-form def def.primary.columns r s p.0 i; hidden = cmp_equal (unwrap_or r.hidden 0) (unwrap_or s.hidden 0) p.1 i }

    back : primary_claim def r ≡ primary_claim def s → same_primary def r s ≡ true
    back e =
        let values : columns_cmp def def.primary.columns r s ≡ Equal = form-one def def.primary.columns r s (ap (λ (k : Claim). k.values) e) in
        let hidden : unwrap_or r.hidden 0 ≡ unwrap_or s.hidden 0 = ap (λ (k : Claim). k.hidden) e in
        rw (values, hidden) (ap is_eq (cmp_same (unwrap_or s.hidden 0)))

-- ---- unique keys

abbrev pub own-claim : TableDef → Row → ℕ → IndexDef → List Claim
own-claim def row at key = if has_claim_on row key then claim_at def row at key ∷ [] else []

pub in-left : (k : Claim) (ks ls : List Claim) → IsClaimOf k ks → IsClaimOf k (ks ++ ls)
in-left k [] ls h = absurd h
in-left k (l ∷ ks) ls (inl e) = inl e
in-left k (l ∷ ks) ls (inr h) = inr (in-left k ks ls h)

pub in-right : (k : Claim) (ks ls : List Claim) → IsClaimOf k ls → IsClaimOf k (ks ++ ls)
in-right k [] ls h = h
in-right k (l ∷ ks) ls h = inr (in-right k ks ls h)

pub in-append : (k : Claim) (ks ls : List Claim) → IsClaimOf k (ks ++ ls) → IsClaimOf k ks ⊎ IsClaimOf k ls
in-append k [] ls h = inr h
in-append k (l ∷ ks) ls (inl e) = inl (inl e)
in-append k (l ∷ ks) ls (inr h) = elim (in-append k ks ls h) [ inl i ↦ inl (inr i) | inr i ↦ inr i ]

own-is : (def : TableDef) (row : Row) (at : ℕ) (key : IndexDef) (k : Claim) → IsClaimOf k (own-claim def row at key) → (has_claim_on row key ≡ true) × (k ≡ claim_at def row at key)
own-is def row at key k h = (elim (has_claim_on row key) as (λ b. IsClaimOf k (if b then claim_at def row at key ∷ [] else []) → (b ≡ true) × (k ≡ claim_at def row at key)) [
  | true ↦ λ i. elim i [ inl e ↦ (refl, e) | inr j ↦ absurd j ]
  | false ↦ λ i. absurd i
]) h

is-own : (def : TableDef) (row : Row) (at : ℕ) (key : IndexDef) → has_claim_on row key ≡ true → IsClaimOf (claim_at def row at key) (own-claim def row at key)
is-own def row at key e = rw e (inl refl)

-- the claims on later keys are at later places
pub record IsAtPlace (at : ℕ) (k : Claim) : Type 0 where
  pub place : ℕ
  pub is : k.key ≡ Some place
  pub from : at ≤ place

later : (at : ℕ) (k : Claim) → IsAtPlace (suc at) k → IsAtPlace at k
later at k h = let le : suc at ≤ h.place = h.from in record { place = h.place; is = h.is; from = omega arith }

at-place : (def : TableDef) (row : Row) (at : ℕ) (keys : List IndexDef) (k : Claim) → IsClaimOf k (unique_claims def row at keys) → IsAtPlace at k
at-place def row at [] k h = absurd h
at-place def row at (key ∷ keys) k h = elim (in-append k (own-claim def row at key) (unique_claims def row (suc at) keys) h) [
  | inl i ↦ record { place = at; is = ap (λ (l : Claim). l.key) (own-is def row at key k i).1; from = omega arith }
  | inr i ↦ later at k (at-place def row (suc at) keys k i)
]

abbrev place-of : ℕ → Option ℕ → ℕ
place-of n None = n
place-of n (Some m) = m

apart : (at : ℕ) (k : Claim) {A : Type 0} → k.key ≡ Some at → IsAtPlace (suc at) k → A
apart at k e h =
    let same : at ≡ h.place = ap (place-of 0) (sym e ∙ h.is) in
    let le : suc at ≤ h.place = h.from in
    absurd (omega arith)

uniques-there : (def : TableDef) (r s : Row) (at : ℕ) (keys : List IndexDef) → list_any (same_unique def r s) keys ≡ true → HaveCommon (unique_claims def r at keys) (unique_claims def s at keys)
uniques-there def r s at [] e = absurd (true≢false (sym e))
uniques-there def r s at (key ∷ keys) e = elim (some-of (same_unique def r s key) (list_any (same_unique def r s) keys) e) [
  | inl h ↦
      let p = both key.unique (not (has_null r key.columns) && is_eq (columns_cmp def key.columns r s)) h in
      let q = both (not (has_null r key.columns)) (is_eq (columns_cmp def key.columns r s)) p.1 in
      let values : key_values def key.columns r ≡ key_values def key.columns s = one-form def key.columns r s (equal (columns_cmp def key.columns r s) q.1) in
      let one : claim_at def r at key ≡ claim_at def s at key = λ i. record { key = Some at; values = values i; hidden = 0 } in
      let mine : has_claim_on r key ≡ true = joined key.unique (not (has_null r key.columns)) p.0 q.0 in
      let other : has_claim_on s key ≡ true = joined key.unique (not (has_null s key.columns)) p.0 (ap not (sym (same-nulls def key.columns r s values)) ∙ q.0) in
      record {
        claim = claim_at def r at key;
        of_one = in-left (claim_at def r at key) (own-claim def r at key) (unique_claims def r (suc at) keys) (is-own def r at key mine);
        of_other = in-left (claim_at def r at key) (own-claim def s at key) (unique_claims def s (suc at) keys) (subst (λ (k : Claim). IsClaimOf k (own-claim def s at key)) (sym one) (is-own def s at key other));
      }
  | inr h ↦
      let more : HaveCommon (unique_claims def r (suc at) keys) (unique_claims def s (suc at) keys) = uniques-there def r s (suc at) keys h in
      record {
        claim = more.claim;
        of_one = in-right more.claim (own-claim def r at key) (unique_claims def r (suc at) keys) more.of_one;
        of_other = in-right more.claim (own-claim def s at key) (unique_claims def s (suc at) keys) more.of_other;
      }
]

uniques-back : (def : TableDef) (r s : Row) (at : ℕ) (keys : List IndexDef) (k : Claim) → IsClaimOf k (unique_claims def r at keys) → IsClaimOf k (unique_claims def s at keys) → list_any (same_unique def r s) keys ≡ true
uniques-back def r s at [] k h i = absurd h
uniques-back def r s at (key ∷ keys) k h i = by-case (in-append k (own-claim def r at key) (unique_claims def r (suc at) keys) h) (in-append k (own-claim def s at key) (unique_claims def s (suc at) keys) i) (uniques-back def r s (suc at) keys k)
  where
    by-case : IsClaimOf k (own-claim def r at key) ⊎ IsClaimOf k (unique_claims def r (suc at) keys) → IsClaimOf k (own-claim def s at key) ⊎ IsClaimOf k (unique_claims def s (suc at) keys) →
        (IsClaimOf k (unique_claims def r (suc at) keys) → IsClaimOf k (unique_claims def s (suc at) keys) → list_any (same_unique def r s) keys ≡ true) → list_any (same_unique def r s) (key ∷ keys) ≡ true
    by-case (inl x) (inl y) more =
        let p = own-is def r at key k x in
        let q = own-is def s at key k y in
        let parts = both key.unique (not (has_null r key.columns)) p.0 in
        let values : columns_cmp def key.columns r s ≡ Equal = form-one def key.columns r s (ap (λ (l : Claim). l.values) (sym p.1 ∙ q.1)) in
        or-left (same_unique def r s key) (list_any (same_unique def r s) keys) (joined _ _ parts.0 (joined _ _ parts.1 (ap is_eq values)))
    by-case (inl x) (inr y) more = apart at k (ap (λ (l : Claim). l.key) (own-is def r at key k x).1) (at-place def s (suc at) keys k y)
    by-case (inr x) (inl y) more = apart at k (ap (λ (l : Claim). l.key) (own-is def s at key k y).1) (at-place def r (suc at) keys k x)
    by-case (inr x) (inr y) more = or-right (same_unique def r s key) (list_any (same_unique def r s) keys) (more x y)

-- ---- rows

not-primary : (at : ℕ) (k : Claim) {A : Type 0} → k.key ≡ None → IsAtPlace at k → A
not-primary at k e h = absurd (different (sym e ∙ h.is))
  where
    different : None ≡ Some h.place → ⊥
    different f = cc

pub clash-by-claims : (def : TableDef) (r s : Row) → ClashByClaims def r s
clash-by-claims def r s = (there, back)
  where
    there : clashes def r s ≡ true → HaveCommon (row_claims def r) (row_claims def s)
    there e = elim (some-of (same_primary def r s) (list_any (same_unique def r s) def.secondary) e) [
      | inl h ↦ record { claim = primary_claim def r; of_one = inl refl; of_other = inl ((primary-by-claim def r s).0 h) }
      | inr h ↦ let more : HaveCommon (unique_claims def r 0 def.secondary) (unique_claims def s 0 def.secondary) = uniques-there def r s 0 def.secondary h in record { claim = more.claim; of_one = inr more.of_one; of_other = inr more.of_other }
    ]

    by-case : (k : Claim) → (k ≡ primary_claim def r) ⊎ IsClaimOf k (unique_claims def r 0 def.secondary) → (k ≡ primary_claim def s) ⊎ IsClaimOf k (unique_claims def s 0 def.secondary) → clashes def r s ≡ true
    by-case k (inl x) (inl y) = or-left (same_primary def r s) (list_any (same_unique def r s) def.secondary) ((primary-by-claim def r s).1 (sym x ∙ y))
    by-case k (inl x) (inr y) = not-primary 0 k (ap (λ (l : Claim). l.key) x) (at-place def s 0 def.secondary k y)
    by-case k (inr x) (inl y) = not-primary 0 k (ap (λ (l : Claim). l.key) y) (at-place def r 0 def.secondary k x)
    by-case k (inr x) (inr y) = or-right (same_primary def r s) (list_any (same_unique def r s) def.secondary) (uniques-back def r s 0 def.secondary k x y)

    back : HaveCommon (row_claims def r) (row_claims def s) → clashes def r s ≡ true
    back h = by-case h.claim h.of_one h.of_other
