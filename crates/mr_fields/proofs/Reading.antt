-- What is read and what was written, field by field.
use Rattle.std.proofs.Common.{◌≡◌, ℕ, suc, ◌<◌, nat_eq, subst, List, ◌∷◌, ◌++◌, length, refl, ap, sym, ◌∙◌, Bool, true, false, cond, inl, inr, append_assoc, Result, Ok, Err, IfOk}
use Rattle.std.specs.List.{list_all}
use Rattle.std.proofs.lemmas.Bool.{cases_eq, eq-eqb, ne_eqb, lt-ltb}
use Rattle.mr_types.specs.Refusals.{◌>>=◌}
use Rattle.mr_fields.specs.Fields.{Read, is_byte, byte_in}

-- ---- only what is written is read

-- what stands in front, and the bytes behind it
pub record IsRead (bytes front rest : List ℕ) : Type 0 where
  pub whole : bytes ≡ front ++ rest
  pub rest_bytes : list_all is_byte rest ≡ true

-- what was read is what stands in front
abbrev pub Front : {X : Type 0} → (X → List ℕ) → List ℕ → X × List ℕ → Type 0
Front write s p = IsRead s (write p.0) p.1

-- one behind the other
pub both : (s a r b t : List ℕ) → IsRead s a r → IsRead r b t → IsRead s (a ++ b) t
both s a r b t x y = record { whole = x.whole ∙ ap (λ (z : List ℕ). a ++ z) y.whole ∙ sym (append_assoc a b t); rest_bytes = y.rest_bytes }

pub same_front : (s a b r : List ℕ) → a ≡ b → IsRead s a r → IsRead s b r
same_front s a b r e x = record { whole = x.whole ∙ ap (λ (z : List ℕ). z ++ r) e; rest_bytes = x.rest_bytes }

pub then_read : {X Y : Type 0} (P : X × List ℕ → Type 0) (Q : Y → Type 0) (r : Read X) (f : X × List ℕ → Result Y ℕ) → IfOk r P → ((p : X × List ℕ) → P p → IfOk (f p) Q) → IfOk (r >>= f) Q
then_read P Q (Ok p) f h go = go p h
then_read P Q (Err left) f h go = tt

pub weaker : {Y : Type 0} (P Q : Y → Type 0) (r : Result Y ℕ) → IfOk r P → ((y : Y) → P y → Q y) → IfOk r Q
weaker P Q (Ok y) h go = go y h
weaker P Q (Err left) h go = tt

pub where_true : {Y : Type 0} (Q : Y → Type 0) (b : Bool) (y : Y) (left : ℕ) → (b ≡ true → Q y) → IfOk (cond b (Ok y) (Err left)) Q
where_true Q true y left h = h refl
where_true Q false y left h = tt

pub where_false : {Y : Type 0} (Q : Y → Type 0) (b : Bool) (y : Y) (left : ℕ) → (b ≡ false → Q y) → IfOk (cond b (Err left) (Ok y)) Q
where_false Q true y left h = tt
where_false Q false y left h = h refl

-- by a mark
pub by_mark : {Y : Type 0} (Q : Y → Type 0) (b k : ℕ) (x y : Result Y ℕ) → (b ≡ k → IfOk x Q) → IfOk y Q → IfOk (cond (nat_eq b k) x y) Q
by_mark Q b k x y same other = elim (cases_eq b k) [
  | inl e ↦ rw (eq-eqb b k e) (same e)
  | inr d ↦ rw (ne_eqb b k d) other
]

-- a reading that is Ok
pub of_ok : {Y : Type 0} (Q : Y → Type 0) (r : Result Y ℕ) (y : Y) → IfOk r Q → r ≡ Ok y → Q y
of_ok Q r y h e = subst (λ (x : Result _ ℕ). IfOk x Q) e h

-- ---- what is written is read

pub mid : {X Y : Type 0} (read : List ℕ → Read X) (a b rest : List ℕ) (x : X) (f : X × List ℕ → Result Y ℕ) (y : Result Y ℕ)
    → ((t : List ℕ) → read (a ++ t) ≡ Ok (x, t)) → f (x, b ++ rest) ≡ y → (read ((a ++ b) ++ rest) >>= f) ≡ y
mid read a b rest x f y is go = ap (λ (t : List ℕ). read t >>= f) (append_assoc a b rest) ∙ ap (λ (r : Read _). r >>= f) (is (b ++ rest)) ∙ go

pub last : {X Y : Type 0} (read : List ℕ → Read X) (a rest : List ℕ) (x : X) (f : X × List ℕ → Result Y ℕ) (y : Result Y ℕ)
    → ((t : List ℕ) → read (a ++ t) ≡ Ok (x, t)) → f (x, rest) ≡ y → (read (a ++ rest) >>= f) ≡ y
last read a rest x f y is go = ap (λ (r : Read _). r >>= f) (is rest) ∙ go

pub byte_back : (n b : ℕ) (t : List ℕ) → b < n → byte_in n (b ∷ t) ≡ Ok (b, t)
byte_back n b t lt = ap (λ (h : Bool). cond h (Ok (b, t)) (Err (suc (length t)))) (lt-ltb b n lt)

pub front_byte : {Y : Type 0} (n b : ℕ) (t : List ℕ) (f : ℕ × List ℕ → Result Y ℕ) (y : Result Y ℕ) → b < n → f (b, t) ≡ y → (byte_in n (b ∷ t) >>= f) ≡ y
front_byte n b t f y lt go = ap (λ (r : Read ℕ). r >>= f) (byte_back n b t lt) ∙ go
