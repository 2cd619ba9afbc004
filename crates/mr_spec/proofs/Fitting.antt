-- Phrases whose values are in order and say no more than the bytes that they stand in.
use Rattle.std.proofs.Common.{◌≡◌, ℕ, zero, suc, ◌+◌, ◌≤◌, List, [], ◌∷◌, ◌++◌, length, Bool, true, false, true≢false, if◌then◌else◌, ◌&&◌, Some, None, arith, refl, sym, nat_lt}
use Rattle.std.specs.List.{list_all}
use Rattle.mr_lex.specs.Reading.{Lexeme}
use Rattle.mr_spec.specs.Phrases.{Outcome, Phrase, and_then, ◌>>=◌, pure, refuse, check, eat, eat_sign, maybe, maybe_sign, expect, expect_sign, sees, sees_sign, after, after_sign, behind, separated, separated_from, listed, in_parentheses}
use Rattle.mr_spec.specs.TablePhrases.{demand}
use Rattle.mr_types.specs.Grammatical.{some_all}
use Rattle.mr_types.specs.Sizes.{summed}

abbrev pub weight : List Lexeme → ℕ
weight [] = 0
weight (t ∷ ts) = length t.bytes + weight ts

-- each token has a byte, and bytes alone
abbrev pub AreTokens : List Lexeme → Type 0
AreTokens [] = Unit {0}
AreTokens (t ∷ ts) = (1 ≤ length t.bytes) × (list_all (λ b. nat_lt b 256) t.bytes ≡ true) × AreTokens ts

abbrev pub Good : {A : Type 0} → (A → Bool) → (A → ℕ) → ℕ → Outcome A → Type 0
Good ok size n None = Unit {0}
Good ok size n (Some p) = (ok p.0 ≡ true) × (size p.0 + weight p.1 ≤ n) × AreTokens p.1

-- the phrase's value is in order, and its size is at most that of the phrase's tokens and `before`
pub record From {A : Type 0} (ok : A → Bool) (size : A → ℕ) (before : ℕ) (p : Phrase A) : Type 0 where
  pub good : (ts : List Lexeme) → AreTokens ts → Good ok size (before + weight ts) (p ts)

wider : {A : Type 0} (ok : A → Bool) (size : A → ℕ) (m n : ℕ) (o : Outcome A) → m ≤ n → Good ok size m o → Good ok size n o
wider ok size m n None le g = tt
wider ok size m n (Some p) le g = (g.0, omega (arith, g.1, le), g.2)

pub wide : {A : Type 0} {ok : A → Bool} {size : A → ℕ} {m n : ℕ} {p : Phrase A} → m ≤ n → From ok size m p → From ok size n p
wide {A} {ok} {size} {m} {n} {p} le g = record { good = λ ts h. wider ok size (m + weight ts) (n + weight ts) (p ts) (omega (arith, le)) (g.good ts h) }

step : {A B : Type 0} (okA : A → Bool) (sizeA : A → ℕ) (ok : B → Bool) (size : B → ℕ) (n : ℕ) (before m : ℕ) (o : Outcome A) (f : A → Phrase B)
    → Good okA sizeA m o → before + m ≤ n → ((a : A) → okA a ≡ true → From ok size (before + sizeA a) (f a)) → Good ok size n (and_then o f)
step okA sizeA ok size n before m None f g le k = tt
step okA sizeA ok size n before m (Some p) f g le k = wider ok size ((before + sizeA p.0) + weight p.1) n (f p.0 p.1) (omega (arith, g.1, le)) ((k p.0 g.0).good p.1 g.2)

pub bind : {A B : Type 0} {okA : A → Bool} {sizeA : A → ℕ} {ok : B → Bool} {size : B → ℕ} {before : ℕ} {p : Phrase A} {f : A → Phrase B}
    → From okA sizeA 0 p → ((a : A) → okA a ≡ true → From ok size (before + sizeA a) (f a)) → From ok size before (p >>= f)
bind {A} {B} {okA} {sizeA} {ok} {size} {before} {p} {f} g k = record { good = λ ts h. step okA sizeA ok size (before + weight ts) before (0 + weight ts) (p ts) f (g.good ts h) (omega arith) k }

-- where the phrase's own value has the size of what stands before it
pub pass : {A B : Type 0} {okA : A → Bool} {sizeA : A → ℕ} {ok : B → Bool} {size : B → ℕ} {m before : ℕ} {p : Phrase A} {f : A → Phrase B}
    → From okA sizeA m p → m ≤ before → ((a : A) → okA a ≡ true → From ok size (sizeA a) (f a)) → From ok size before (p >>= f)
pass {A} {B} {okA} {sizeA} {ok} {size} {m} {before} {p} {f} g le k = record { good = λ ts h. step okA sizeA ok size (before + weight ts) 0 (m + weight ts) (p ts) f (g.good ts h) (omega (arith, le)) (λ a e. wide (omega arith) (k a e)) }

pub given : {A : Type 0} {ok : A → Bool} {size : A → ℕ} {before : ℕ} (x : A) → ok x ≡ true → size x ≤ before → From ok size before (pure x)
given {A} {ok} {size} {before} x e le = record { good = λ ts h. (e, omega (arith, le), h) }

pub none : {A : Type 0} {ok : A → Bool} {size : A → ℕ} {before : ℕ} → From ok size before refuse
none = record { good = λ ts h. tt }

-- ---- tests

pub both : {a b : Bool} → a ≡ true → b ≡ true → (a && b) ≡ true
both {a} {b} e f = rw (e, f) refl

pub first_holds : (a b : Bool) → (a && b) ≡ true → a ≡ true
first_holds true b e = refl
first_holds false b e = e

pub second_holds : (a b : Bool) → (a && b) ≡ true → b ≡ true
second_holds true b e = e
second_holds false b e = absurd (true≢false (sym e))

pub either : {A : Type 0} {ok : A → Bool} {size : A → ℕ} {before : ℕ} {p q : Phrase A} (b : Bool) → From ok size before p → From ok size before q → From ok size before (if b then p else q)
either true g h = g
either false g h = h

pub by_sight : {A : Type 0} {ok : A → Bool} {size : A → ℕ} {before : ℕ} {p q : Phrase A} (test : List Lexeme → Bool) → From ok size before p → From ok size before q → From ok size before (λ ts. if test ts then p ts else q ts)
by_sight {A} {ok} {size} {before} {p} {q} test g h = record { good = λ ts t. chosen ok size (before + weight ts) (test ts) (p ts) (q ts) (g.good ts t) (h.good ts t) }
  where
    chosen : {A : Type 0} (ok : A → Bool) (size : A → ℕ) (n : ℕ) (b : Bool) (x y : Outcome A) → Good ok size n x → Good ok size n y → Good ok size n (if b then x else y)
    chosen ok size n true x y g h = g
    chosen ok size n false x y g h = h

-- ---- keywords and signs

behind-lighter : (ts : List Lexeme) → AreTokens ts → AreTokens (behind ts)
unfolding behind
behind-lighter [] h = tt
behind-lighter (t ∷ ts) h = h.2

behind-not_heavier : (ts : List Lexeme) → 0 + weight (behind ts) ≤ 0 + weight ts
unfolding behind
behind-not_heavier [] = omega arith
behind-not_heavier (t ∷ ts) = omega arith

seen-lighter : (word : List ℕ) (ts : List Lexeme) → AreTokens ts → sees word ts ≡ true → 1 + weight (behind ts) ≤ weight ts
unfolding sees behind
seen-lighter word [] h e = absurd (true≢false (sym e))
seen-lighter word (t ∷ ts) h e = omega (arith, h.0)

seen_sign-lighter : (sign : List ℕ) (ts : List Lexeme) → AreTokens ts → sees_sign sign ts ≡ true → 1 + weight (behind ts) ≤ weight ts
unfolding sees_sign behind
seen_sign-lighter sign [] h e = absurd (true≢false (sym e))
seen_sign-lighter sign (t ∷ ts) h e = omega (arith, h.0)

wanted : {B : Type 0} (ok : B → Bool) (size : B → ℕ) (before : ℕ) (f : Unit {0} → Phrase B) (ts : List Lexeme) (b : Bool) → AreTokens ts → (b ≡ true → 1 + weight (behind ts) ≤ weight ts)
    → From ok size (before + 1) (f tt) → Good ok size (before + weight ts) (and_then (if b then Some (tt, behind ts) else None) f)
wanted ok size before f ts true h less g = wider ok size ((before + 1) + weight (behind ts)) (before + weight ts) (f tt (behind ts)) (omega (arith, less refl)) (g.good (behind ts) (behind-lighter ts h))
wanted ok size before f ts false h less g = tt

module _ {B : Type 0} {ok : B → Bool} {size : B → ℕ} {before : ℕ} where
  took : (f : Bool → Phrase B) (ts : List Lexeme) (b : Bool) → AreTokens ts → (b ≡ true → 1 + weight (behind ts) ≤ weight ts)
      → From ok size (before + 1) (f true) → From ok size before (f false) → Good ok size (before + weight ts) (f b (if b then behind ts else ts))
  took f ts true h less g k = wider ok size ((before + 1) + weight (behind ts)) (before + weight ts) (f true (behind ts)) (omega (arith, less refl)) (g.good (behind ts) (behind-lighter ts h))
  took f ts false h less g k = k.good ts h

  pub eaten_by : (word : List ℕ) (f : Bool → Phrase B) → From ok size (before + 1) (f true) → From ok size before (f false) → From ok size before (eat word >>= f)
  unfolding after
  eaten_by word f g k = record { good = λ ts h. took f ts (sees word ts) h (seen-lighter word ts h) g k }

  pub eaten_sign_by : (sign : List ℕ) (f : Bool → Phrase B) → From ok size (before + 1) (f true) → From ok size before (f false) → From ok size before (eat_sign sign >>= f)
  unfolding after_sign
  eaten_sign_by sign f g k = record { good = λ ts h. took f ts (sees_sign sign ts) h (seen_sign-lighter sign ts h) g k }

  pub eaten : (word : List ℕ) {x y : Phrase B} → From ok size (before + 1) x → From ok size before y → From ok size before (eat word >>= (λ b. if b then x else y))
  eaten word {x} {y} g k = eaten_by word (λ b. if b then x else y) g k

  pub eaten_sign : (sign : List ℕ) {x y : Phrase B} → From ok size (before + 1) x → From ok size before y → From ok size before (eat_sign sign >>= (λ b. if b then x else y))
  eaten_sign sign {x} {y} g k = eaten_sign_by sign (λ b. if b then x else y) g k

  pub expected : (word : List ℕ) (f : Unit {0} → Phrase B) → From ok size (before + 1) (f tt) → From ok size before (expect word >>= f)
  unfolding expect
  expected word f g = record { good = λ ts h. wanted ok size before f ts (sees word ts) h (seen-lighter word ts h) g }

  pub expected_sign : (sign : List ℕ) (f : Unit {0} → Phrase B) → From ok size (before + 1) (f tt) → From ok size before (expect_sign sign >>= f)
  unfolding expect_sign
  expected_sign sign f g = record { good = λ ts h. wanted ok size before f ts (sees_sign sign ts) h (seen_sign-lighter sign ts h) g }

  tested : (f : Unit {0} → Phrase B) (ts : List Lexeme) (b : Bool) → AreTokens ts → (b ≡ true → From ok size before (f tt)) → Good ok size (before + weight ts) (and_then (if b then Some (tt, ts) else None) f)
  tested f ts true h g = (g refl).good ts h
  tested f ts false h g = tt

  pub checked : (b : Bool) (f : Unit {0} → Phrase B) → (b ≡ true → From ok size before (f tt)) → From ok size before (check b >>= f)
  unfolding check
  checked b f g = record { good = λ ts h. tested f ts b h g }

-- a phrase that says nothing
abbrev pub always : {A : Type 0} → A → Bool
always x = true

abbrev pub nothing : {A : Type 0} → A → ℕ
nothing x = 0

ended-by : (ts : List Lexeme) (b : Bool) → AreTokens ts → (b ≡ true → 1 + weight (behind ts) ≤ weight ts) → Good (always {A = Unit {0}}) nothing (0 + weight ts) (if b then Some (tt, behind ts) else None)
ended-by ts true h less = (refl, omega (arith, less refl), behind-lighter ts h)
ended-by ts false h less = tt

pub last_keyword : (word : List ℕ) → From always nothing 0 (expect word)
unfolding expect
last_keyword word = record { good = λ ts h. ended-by ts (sees word ts) h (seen-lighter word ts h) }

pub last_sign : (sign : List ℕ) → From always nothing 0 (expect_sign sign)
unfolding expect_sign
last_sign sign = record { good = λ ts h. ended-by ts (sees_sign sign ts) h (seen_sign-lighter sign ts h) }

-- what is more, or says less
as_well-good : {A : Type 0} (okA : A → Bool) (sizeA : A → ℕ) (ok : A → Bool) (size : A → ℕ) (n : ℕ) (o : Outcome A) → ((a : A) → okA a ≡ true → ok a ≡ true) → ((a : A) → size a ≤ sizeA a) → Good okA sizeA n o → Good ok size n o
as_well-good okA sizeA ok size n None f le g = tt
as_well-good okA sizeA ok size n (Some p) f le g = (f p.0 g.0, omega (arith, g.1, le p.0), g.2)

pub as_well : {A : Type 0} {okA : A → Bool} {sizeA : A → ℕ} {ok : A → Bool} {size : A → ℕ} {before : ℕ} {p : Phrase A} → ((a : A) → okA a ≡ true → ok a ≡ true) → ((a : A) → size a ≤ sizeA a) → From okA sizeA before p → From ok size before p
as_well {A} {okA} {sizeA} {ok} {size} {before} {p} f le g = record { good = λ ts h. as_well-good okA sizeA ok size (before + weight ts) (p ts) f le (g.good ts h) }

-- with the first token left out where the test holds
skipping-good : {A : Type 0} (ok : A → Bool) (size : A → ℕ) (p : Phrase A) (ts : List Lexeme) (b : Bool) → From ok size 0 p → AreTokens ts → Good ok size (0 + weight ts) (if b then p (behind ts) else p ts)
skipping-good ok size p ts true f h = wider ok size (0 + weight (behind ts)) (0 + weight ts) (p (behind ts)) (behind-not_heavier ts) (f.good (behind ts) (behind-lighter ts h))
skipping-good ok size p ts false f h = f.good ts h

pub skipping : {A : Type 0} {ok : A → Bool} {size : A → ℕ} {p : Phrase A} (test : List Lexeme → Bool) → From ok size 0 p → From ok size 0 (λ ts. if test ts then p (behind ts) else p ts)
skipping {A} {ok} {size} {p} test f = record { good = λ ts h. skipping-good ok size p ts (test ts) f h }

-- an option that has to come
demanded-good : {A : Type 0} (ok : A × Bool → Bool) (size : A × Bool → ℕ) (n : ℕ) (next : A × Bool) (ts : List Lexeme) (b : Bool) → ok next ≡ true → size next + weight ts ≤ n → AreTokens ts → Good ok size n (if b then Some (next, ts) else None)
demanded-good ok size n next ts true e le h = (e, le, h)
demanded-good ok size n next ts false e le h = tt

pub demanded : {A : Type 0} {ok : A × Bool → Bool} {size : A × Bool → ℕ} (next : A × Bool) → ok next ≡ true → From ok size (size next) (demand next)
unfolding demand
demanded {A} {ok} {size} next e = record { good = λ ts h. demanded-good ok size (size next + weight ts) next ts next.1 e (omega arith) h }

-- ---- lists

pub keyword_mark : (word : List ℕ) → From always nothing 0 (eat word)
keyword_mark word = eaten_by word pure (given true refl (omega arith)) (given false refl (omega arith))

pub sign_mark : (sign : List ℕ) → From always nothing 0 (eat_sign sign)
sign_mark sign = eaten_sign_by sign pure (given true refl (omega arith)) (given false refl (omega arith))

pub maybe-fits : (word : List ℕ) → From always nothing 0 (maybe word)
unfolding maybe
maybe-fits word = keyword_mark word

pub maybe_sign-fits : (sign : List ℕ) → From always nothing 0 (maybe_sign sign)
unfolding maybe_sign
maybe_sign-fits sign = sign_mark sign

module _ {A : Type 0} (ok : A → Bool) (size : A → ℕ) where
  pub all-more : (xs : List A) (x : A) → list_all ok xs ≡ true → ok x ≡ true → list_all ok (xs ++ x ∷ []) ≡ true
  all-more [] x h e = both e refl
  all-more (y ∷ ys) x h e = both (first_holds (ok y) (list_all ok ys) h) (all-more ys x (second_holds (ok y) (list_all ok ys) h) e)

  pub some-more : (xs : List A) (x : A) → list_all ok xs ≡ true → ok x ≡ true → some_all ok (xs ++ x ∷ []) ≡ true
  some-more [] x h e = both e refl
  some-more (y ∷ ys) x h e = all-more (y ∷ ys) x h e

  pub size-more : (xs : List A) (x : A) → summed size (xs ++ x ∷ []) ≡ summed size xs + size x
  size-more [] x = omega arith
  size-more (y ∷ ys) x = omega (arith, size-more ys x)

  separated-from : {mark : Phrase Bool} {item : Phrase A} → From always nothing 0 mark → From ok size 0 item → (n : ℕ) (found : List A) (before : ℕ)
      → list_all ok found ≡ true → summed size found ≤ before → From (some_all ok) (summed size) before (separated_from mark item n found)
  unfolding separated_from
  separated-from m i zero found before h le = none
  separated-from m i (suc n) found before h le = bind i (λ x e. bind m (λ more t. either more
      (separated-from m i n (found ++ x ∷ []) ((before + size x) + 0) (all-more found x h e) (omega (arith, size-more found x, le)))
      (given (found ++ x ∷ []) (some-more found x h e) (omega (arith, size-more found x, le)))))

  pub separated-fits : {mark : Phrase Bool} {item : Phrase A} → From always nothing 0 mark → From ok size 0 item → From (some_all ok) (summed size) 0 (separated mark item)
  separated-fits m i = record { good = λ ts h. (separated-from m i (length ts) [] 0 refl (omega arith)).good ts h }

  pub listed-fits : {item : Phrase A} → From ok size 0 item → From (some_all ok) (summed size) 0 (listed item)
  listed-fits i = separated-fits (sign_mark _) i

  pub in_parentheses-fits : {item : Phrase A} → From ok size 0 item → From ok size 0 (in_parentheses item)
  unfolding in_parentheses
  in_parentheses-fits i = expected_sign _ _ (bind i (λ x e. expected_sign _ _ (given x e (omega arith))))
