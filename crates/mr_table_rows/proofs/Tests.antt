-- What the tests of a lawful row say.
use Rattle.std.proofs.Common.{◌≡◌, ℕ, ◌<◌, Bool, true, false, true≢false, List, [], ◌∷◌, Option, Some, None, Result, Ok, Err, refl, ap, ap₂, sym, subst, ◌∙◌, nat_eq, nat_lt, arith}
use Rattle.std.specs.Prelude.{◌&&◌, ◌^◌, ℤ, pos, negsuc, is_some}
use Rattle.std.specs.List.{list_all, AllByRecursion}
use Rattle.std.proofs.lemmas.Bool.Decides.{nat_tests}
use Rattle.mr_types.specs.declared.value.Value.{Value}
use Rattle.mr_types.specs.declared.value.Value.TheVariants.{Null, Number, Text, Bytes}
use Rattle.mr_types.specs.Rows.{IsValue, IsWanted}
use Rattle.mr_types.specs.Values.{is_equal, same_bytes}
use Rattle.mr_spec.specs.Lawful.{is_value, is_assigned, same_number, same_test}

pub both : (a b : Bool) → (a && b) ≡ true → (a ≡ true) × (b ≡ true)
both true b e = (refl, e)
both false b e = absurd (true≢false (sym e))

pub joined : (a b : Bool) → a ≡ true → b ≡ true → (a && b) ≡ true
joined a b e f = rw (e, f) refl

pub number-is : (m n : ℕ) → nat_eq m n ≡ true → m ≡ n
number-is m n e = grind arith

pub is-number : (m : ℕ) → nat_eq m m ≡ true
is-number m = grind arith

pub below : (m n : ℕ) → nat_lt m n ≡ true → m < n
below m n e = grind (arith, nat_tests)

pub is-below : (m n : ℕ) → m < n → nat_lt m n ≡ true
is-below m n h = grind (arith, nat_tests)

-- ---- byte for byte the same

list-is : (s t : List ℕ) → same_bytes s t ≡ true → s ≡ t
list-is [] [] e = refl
list-is [] (y ∷ t) e = absurd (true≢false (sym e))
list-is (x ∷ s) [] e = absurd (true≢false (sym e))
list-is (x ∷ s) (y ∷ t) e = let p = both (nat_eq x y) (same_bytes s t) e in ap₂ (λ a b. a ∷ b) (number-is x y p.0) (list-is s t p.1)

is-list : (s : List ℕ) → same_bytes s s ≡ true
is-list [] = refl
is-list (x ∷ s) = joined (nat_eq x x) (same_bytes s s) (is-number x) (is-list s)

int-is : (m n : ℤ) → is_equal (Number m) (Number n) ≡ true → m ≡ n
int-is (pos m) (pos n) e = let same : m ≡ n = grind (arith, nat_tests) in ap (λ k. pos k) same
int-is (pos m) (negsuc n) e = absurd cc
int-is (negsuc m) (pos n) e = absurd cc
int-is (negsuc m) (negsuc n) e = let same : m ≡ n = grind (arith, nat_tests) in ap (λ k. negsuc k) same

is-int : (m : ℤ) → is_equal (Number m) (Number m) ≡ true
is-int (pos m) = grind (arith, nat_tests)
is-int (negsuc m) = grind (arith, nat_tests)

value-is : (v w : Value) → is_equal v w ≡ true → v ≡ w
value-is Null Null e = refl
value-is (Number m) (Number n) e = ap (λ k. Number k) (int-is m n e)
value-is (Text s) (Text t) e = ap (λ k. Text k) (list-is s t e)
value-is (Bytes s) (Bytes t) e = ap (λ k. Bytes k) (list-is s t e)
value-is Null (Number n) e = absurd (true≢false (sym e))
value-is Null (Text n) e = absurd (true≢false (sym e))
value-is Null (Bytes n) e = absurd (true≢false (sym e))
value-is (Number m) Null e = absurd (true≢false (sym e))
value-is (Number m) (Text n) e = absurd (true≢false (sym e))
value-is (Number m) (Bytes n) e = absurd (true≢false (sym e))
value-is (Text m) Null e = absurd (true≢false (sym e))
value-is (Text m) (Number n) e = absurd (true≢false (sym e))
value-is (Text m) (Bytes n) e = absurd (true≢false (sym e))
value-is (Bytes m) Null e = absurd (true≢false (sym e))
value-is (Bytes m) (Number n) e = absurd (true≢false (sym e))
value-is (Bytes m) (Text n) e = absurd (true≢false (sym e))

is-same : (v : Value) → is_equal v v ≡ true
is-same Null = refl
is-same (Number m) = is-int m
is-same (Text s) = is-list s
is-same (Bytes s) = is-list s

pub assigned-is : (r : Result Value ℕ) (w : Value) → is_assigned r w ≡ true → r ≡ Ok w
assigned-is (Ok v) w e = ap (λ k. Ok k) (value-is v w e)
assigned-is (Err code) w e = absurd (true≢false (sym e))

pub is-assigned : (r : Result Value ℕ) (w : Value) → r ≡ Ok w → is_assigned r w ≡ true
is-assigned r w e = ap (λ s. is_assigned s w) e ∙ is-same w

-- ---- values

all-below : (n : ℕ) (bs : List ℕ) → list_all (λ b. nat_lt b n) bs ≡ true → AllByRecursion (λ b. b < n) bs
all-below n [] e = tt
all-below n (b ∷ bs) e = let p = both (nat_lt b n) (list_all (λ b. nat_lt b n) bs) e in (below b n p.0, all-below n bs p.1)

are-below : (n : ℕ) (bs : List ℕ) → AllByRecursion (λ b. b < n) bs → list_all (λ b. nat_lt b n) bs ≡ true
are-below n [] h = refl
are-below n (b ∷ bs) h = joined (nat_lt b n) (list_all (λ b. nat_lt b n) bs) (is-below b n h.0) (are-below n bs h.1)

pub value-of : (v : Value) → is_value v ≡ true → IsValue v
value-of Null e = tt
value-of (Number n) e = tt
value-of (Text text) e = all-below 128 text e
value-of (Bytes bytes) e = all-below 256 bytes e

pub of-value : (v : Value) → IsValue v → is_value v ≡ true
of-value Null h = refl
of-value (Number n) h = refl
of-value (Text text) h = are-below 128 text h
of-value (Bytes bytes) h = are-below 256 bytes h

-- ---- numbers that are there or not

pub same-is : (m n : Option ℕ) → same_number m n ≡ true → m ≡ n
same-is None None e = refl
same-is None (Some n) e = absurd (true≢false (sym e))
same-is (Some m) None e = absurd (true≢false (sym e))
same-is (Some m) (Some n) e = ap (λ k. Some k) (number-is m n e)

pub is-same-number : (m : Option ℕ) → same_number m m ≡ true
is-same-number None = refl
is-same-number (Some m) = is-number m

pub wanted : (b : Bool) (o : Option ℕ) → same_test (is_some o) b ≡ true → ((n : ℕ) → o ≡ Some n → n < 2 ^ 64) → IsWanted b o
wanted true None e h = absurd (true≢false (sym e))
wanted true (Some n) e h = h n refl
wanted false None e h = tt
wanted false (Some n) e h = absurd (true≢false (sym e))

pub is-wanted : (b : Bool) (o : Option ℕ) → IsWanted b o → same_test (is_some o) b ≡ true
is-wanted true None h = absurd h
is-wanted true (Some n) h = refl
is-wanted false None h = refl
is-wanted false (Some n) h = absurd h

pub has-64-bits : (b : Bool) (o : Option ℕ) → IsWanted b o → (n : ℕ) → o ≡ Some n → n < 2 ^ 64
has-64-bits true None h n e = absurd h
has-64-bits true (Some m) h n e = let same : m ≡ n = cc in subst (λ k. k < 2 ^ 64) same h
has-64-bits false None h n e = absurd cc
has-64-bits false (Some m) h n e = absurd h
