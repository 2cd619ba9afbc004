-- What the grammar spells nests as little as the grammar allows.
use Rattle.std.proofs.Common.{◌≡◌, ℕ, zero, suc, ◌+◌, ◌≤◌, List, [], ◌∷◌, ◌++◌, true, false, Bool, ◌&&◌, ◌||◌, length, map, codes, arith, refl, ap, sym, ◌∙◌, Option, Some, None, if◌then◌else◌}
use Rattle.std.proofs.lemmas.Bool.{le-leb}
use Rattle.mr_lex.specs.Reading.{Lexeme}
use Rattle.mr_types.specs.Nesting.{Form, Ranged, Single, All, Any, Nested, in_or, in_and, negated, deepest, layer_nesting, nested, nesting, is_shallow}
use Rattle.mr_types.specs.declared.value.Value.{Value}
use Rattle.mr_types.specs.declared.expr.Cmp.{Cmp}
use Rattle.mr_types.specs.declared.expr.Expr.{Expr}
use Rattle.mr_types.specs.declared.expr.Expr.TheFolds.{fold-Expr, fold-roll-Expr}
use Rattle.mr_types.specs.declared.expr.Expr.TheVariants.{rolls-Compare, rolls-IsNull, rolls-Between, rolls-OneOf, rolls-Not, rolls-And, rolls-Or}
use Rattle.mr_types.specs.declared.expr.Expr.TheVariants as e
use Rattle.mr_types.specs.declared.expr.Expr.TheOpen.{Compare, IsNull, Between, OneOf, Not, And, Or}
use Rattle.mr_spec.specs.Phrases.{Outcome, Phrase, and_then, ◌>>=◌, pure, sees, eat, eat_sign, maybe, expect, expect_sign, name, listed, in_parentheses, separated, separated_from}
use Rattle.mr_spec.specs.Literals.{literal}
use Rattle.mr_spec.specs.ConditionPhrases.{comparison, turned, turned_test, null_test, between, one_of, range_test, comparison_test, plain_test, column_test, test, all_of, any_of, conj_by, cond_by, nested as nested_by, neg, condition}
use Rattle.mr_spec.proofs.Fitting.{From, Good, weight, both}

-- ---- phrases whose values have a property

abbrev Holds : {A : Type 0} → (A → Type 0) → Outcome A → Type 0
Holds P None = Unit {0}
Holds P (Some p) = P p.0

record Gives {A : Type 0} (P : A → Type 0) (p : Phrase A) : Type 0 where
  pub holds : (ts : List Lexeme) → Holds P (p ts)

abbrev Anything : {A : Type 0} → A → Type 0
Anything x = Unit {0}

gives-step : {A B : Type 0} (P : A → Type 0) (Q : B → Type 0) (o : Outcome A) (f : A → Phrase B) → Holds P o → ((a : A) → P a → Gives Q (f a)) → Holds Q (and_then o f)
gives-step P Q None f h k = tt
gives-step P Q (Some p) f h k = (k p.0 h).holds p.1

chain : {A B : Type 0} {P : A → Type 0} {Q : B → Type 0} {p : Phrase A} {f : A → Phrase B} → Gives P p → ((a : A) → P a → Gives Q (f a)) → Gives Q (p >>= f)
chain {A} {B} {P} {Q} {p} {f} g k = record { holds = λ ts. gives-step P Q (p ts) f (g.holds ts) k }

something : {A : Type 0} (o : Outcome A) → Holds Anything o
something None = tt
something (Some p) = tt

anything : {A : Type 0} (p : Phrase A) → Gives Anything p
anything p = record { holds = λ ts. something (p ts) }

-- whatever is read first
behind_it : {A B : Type 0} {Q : B → Type 0} (p : Phrase A) {f : A → Phrase B} → ((a : A) → Gives Q (f a)) → Gives Q (p >>= f)
behind_it {A} {B} {Q} p {f} k = chain (anything p) (λ a t. k a)

value : {A : Type 0} {P : A → Type 0} (x : A) → P x → Gives P (pure x)
value x h = record { holds = λ ts. h }

choice : {A : Type 0} {P : A → Type 0} {p q : Phrase A} (b : Bool) → Gives P p → Gives P q → Gives P (if b then p else q)
choice true g h = g
choice false g h = h

eats : {A : Type 0} {P : A → Type 0} (o : Phrase Bool) {p q : Phrase A} → Gives P p → Gives P q → Gives P (o >>= (λ b. if b then p else q))
eats o g h = behind_it o (λ b. choice b g h)

sight : {A : Type 0} {P : A → Type 0} {p q : Phrase A} (look : List Lexeme → Bool) → Gives P p → Gives P q → Gives P (λ ts. if look ts then p ts else q ts)
sight {A} {P} {p} {q} look g h = record { holds = λ ts. chosen P (look ts) (p ts) (q ts) (g.holds ts) (h.holds ts) }
  where
    chosen : {A : Type 0} (P : A → Type 0) (b : Bool) (x y : Outcome A) → Holds P x → Holds P y → Holds P (if b then x else y)
    chosen P true x y g h = g
    chosen P false x y g h = h

-- ---- lists

abbrev Each : {A : Type 0} → (A → Type 0) → List A → Type 0
Each P [] = Unit {0}
Each P (x ∷ xs) = P x × Each P xs

each-more : {A : Type 0} (P : A → Type 0) (xs : List A) (x : A) → Each P xs → P x → Each P (xs ++ x ∷ [])
each-more P [] x h k = (k, tt)
each-more P (y ∷ ys) x h k = (h.0, each-more P ys x h.1 k)

each_from : {A : Type 0} (P : A → Type 0) (mark : Phrase Bool) {item : Phrase A} → Gives P item → (n : ℕ) (found : List A) → Each P found → Gives (Each P) (separated_from mark item n found)
unfolding separated_from
each_from P mark g zero found h = record { holds = λ ts. tt }
each_from P mark g (suc n) found h = chain g (λ x a. behind_it mark (λ more. choice more (each_from P mark g n (found ++ x ∷ []) (each-more P found x h a)) (value (found ++ x ∷ []) (each-more P found x h a))))

each : {A : Type 0} (P : A → Type 0) (mark : Phrase Bool) {item : Phrase A} → Gives P item → Gives (Each P) (separated mark item)
each P mark g = record { holds = λ ts. (each_from P mark g (length ts) [] tt).holds ts }

-- ---- what the fold says of each form

of-compare : (n : List ℕ) (c : Cmp) (v : Value) → nested (e.Compare n c v) ≡ record { form = Single; depth = 0 }
of-compare n c v = ap (fold-Expr Nested layer_nesting) (sym (rolls-Compare n c v)) ∙ fold-roll-Expr Nested layer_nesting (Compare n c v)

of-null : (n : List ℕ) → nested (e.IsNull n) ≡ record { form = Ranged; depth = 0 }
of-null n = ap (fold-Expr Nested layer_nesting) (sym (rolls-IsNull n)) ∙ fold-roll-Expr Nested layer_nesting (IsNull n)

of-between : (n : List ℕ) (a b : Value) → nested (e.Between n a b) ≡ record { form = Ranged; depth = 0 }
of-between n a b = ap (fold-Expr Nested layer_nesting) (sym (rolls-Between n a b)) ∙ fold-roll-Expr Nested layer_nesting (Between n a b)

of-one_of : (n : List ℕ) (vs : List Value) → nested (e.OneOf n vs) ≡ record { form = Ranged; depth = 0 }
of-one_of n vs = ap (fold-Expr Nested layer_nesting) (sym (rolls-OneOf n vs)) ∙ fold-roll-Expr Nested layer_nesting (OneOf n vs)

of-not : (x : Expr) → nested (e.Not x) ≡ record { form = Single; depth = negated (nested x) }
of-not x = ap (fold-Expr Nested layer_nesting) (sym (rolls-Not x)) ∙ fold-roll-Expr Nested layer_nesting (Not x)

of-and : (xs : List Expr) → nested (e.And xs) ≡ record { form = All; depth = deepest (map in_and (map nested xs)) }
of-and xs = ap (fold-Expr Nested layer_nesting) (sym (rolls-And xs)) ∙ fold-roll-Expr Nested layer_nesting (And xs)

of-or : (xs : List Expr) → nested (e.Or xs) ≡ record { form = Any; depth = deepest (map in_or (map nested xs)) }
of-or xs = ap (fold-Expr Nested layer_nesting) (sym (rolls-Or xs)) ∙ fold-roll-Expr Nested layer_nesting (Or xs)

-- ---- a form in its places

or-and : (form : Form) (depth : ℕ) → in_or (record { form = form; depth = depth }) ≤ in_and (record { form = form; depth = depth })
or-and Ranged depth = omega arith
or-and Single depth = omega arith
or-and All depth = omega arith
or-and Any depth = omega arith

alone-or : (form : Form) (depth : ℕ) → depth ≤ in_or (record { form = form; depth = depth })
alone-or Ranged depth = omega arith
alone-or Single depth = omega arith
alone-or All depth = omega arith
alone-or Any depth = omega arith

and-alone : (form : Form) (depth : ℕ) → in_and (record { form = form; depth = depth }) ≤ suc depth
and-alone Ranged depth = omega arith
and-alone Single depth = omega arith
and-alone All depth = omega arith
and-alone Any depth = omega arith

not-and : (form : Form) (depth : ℕ) → negated (record { form = form; depth = depth }) ≤ suc (in_and (record { form = form; depth = depth }))
not-and Ranged depth = omega arith
not-and Single depth = omega arith
not-and All depth = omega arith
not-and Any depth = omega arith

-- ---- conditions in their places

abbrev WithinAnd : ℕ → Expr → Type 0
WithinAnd d x = in_and (nested x) ≤ d

abbrev WithinOr : ℕ → Expr → Type 0
WithinOr d x = in_or (nested x) ≤ d

abbrev WithinAlone : ℕ → Expr → Type 0
WithinAlone d x = nesting x ≤ d

-- behind its own NOT too
abbrev IsFlat : Expr → Type 0
IsFlat x = (in_and (nested x) ≡ 0) × (negated (nested x) ≡ 0)

abbrev IsTest : Expr → Type 0
IsTest x = in_and (nested x) ≡ 0

flat : (x : Expr) → nested x ≡ record { form = Ranged; depth = 0 } → IsFlat x
flat x h = (ap in_and h, ap negated h)

test-compare : (n : List ℕ) (c : Cmp) (v : Value) → IsTest (e.Compare n c v)
test-compare n c v = ap in_and (of-compare n c v)

test-not : (x : Expr) → IsFlat x → IsTest (e.Not x)
test-not x h = ap in_and (of-not x) ∙ h.1

turned_test-flat : Gives IsTest turned_test
unfolding turned_test
turned_test-flat = behind_it literal (λ v. behind_it comparison (λ how. behind_it name (λ n. value (e.Compare n (turned how) v) (test-compare n (turned how) v))))

null_test-flat : (n : List ℕ) → Gives IsTest (null_test n)
unfolding null_test
null_test-flat n = behind_it (maybe (codes "not")) (λ negative. behind_it (expect (codes "null")) (λ u. null_or negative))
  where
    null_or : (b : Bool) → Gives IsTest (pure (if b then e.Not (e.IsNull n) else e.IsNull n))
    null_or true = value (e.Not (e.IsNull n)) (test-not (e.IsNull n) (flat (e.IsNull n) (of-null n)))
    null_or false = value (e.IsNull n) (ap in_and (of-null n))

between-flat : (n : List ℕ) → Gives IsFlat (between n)
unfolding between
between-flat n = behind_it literal (λ low. behind_it (expect (codes "and")) (λ u. behind_it literal (λ high. value (e.Between n low high) (flat (e.Between n low high) (of-between n low high)))))

one_of-flat : (n : List ℕ) → Gives IsFlat (one_of n)
unfolding one_of
one_of-flat n = behind_it (in_parentheses (listed literal)) (λ vs. value (e.OneOf n vs) (flat (e.OneOf n vs) (of-one_of n vs)))

range_test-flat : (n : List ℕ) → Gives IsFlat (range_test n)
unfolding range_test
range_test-flat n = eats (eat (codes "between")) (between-flat n) (behind_it (expect (codes "in")) (λ u. one_of-flat n))

comparison_test-flat : (n : List ℕ) → Gives IsTest (comparison_test n)
unfolding comparison_test
comparison_test-flat n = behind_it comparison (λ how. behind_it literal (λ v. value (e.Compare n how v) (test-compare n how v)))

plainly : {P Q : Expr → Type 0} (p : Phrase Expr) → ((x : Expr) → P x → Q x) → Gives P p → Gives Q p
plainly {P} {Q} p f g = record { holds = λ ts. weaker (p ts) (g.holds ts) }
  where
    weaker : (o : Outcome Expr) → Holds P o → Holds Q o
    weaker None h = tt
    weaker (Some p) h = f p.0 h

plain_test-flat : (n : List ℕ) → Gives IsTest (plain_test n)
unfolding plain_test
plain_test-flat n = sight (λ ts. sees (codes "between") ts || sees (codes "in") ts) (plainly (range_test n) (λ x h. h.0) (range_test-flat n)) (comparison_test-flat n)

column_test-flat : Gives IsTest column_test
unfolding column_test
column_test-flat = behind_it name (λ n. eats (eat (codes "is")) (null_test-flat n) (eats (eat (codes "not")) (chain (range_test-flat n) (λ x h. value (e.Not x) (test-not x h))) (plain_test-flat n)))

test-flat : Gives IsTest test
unfolding test
test-flat = sight _ column_test-flat turned_test-flat

-- ---- parts

deepest-and : (d : ℕ) (xs : List Expr) → Each (WithinAnd d) xs → deepest (map in_and (map nested xs)) ≤ d
deepest-and d [] h = omega arith
deepest-and d (x ∷ xs) h = omega (arith, h.0, deepest-and d xs h.1)

deepest-or : (d : ℕ) (xs : List Expr) → Each (WithinOr d) xs → deepest (map in_or (map nested xs)) ≤ d
deepest-or d [] h = omega arith
deepest-or d (x ∷ xs) h = omega (arith, h.0, deepest-or d xs h.1)

all_of-within : (d : ℕ) (xs : List Expr) → Each (WithinAnd d) xs → WithinOr d (all_of xs)
all_of-within d [] h = omega (arith, ap in_or (of-and []))
all_of-within d (x ∷ []) h = omega (arith, h.0, or-and (nested x).form (nested x).depth)
all_of-within d (x ∷ y ∷ xs) h = omega (arith, ap in_or (of-and (x ∷ y ∷ xs)), deepest-and d (x ∷ y ∷ xs) h)

any_of-within : (d : ℕ) (xs : List Expr) → Each (WithinOr d) xs → WithinAlone d (any_of xs)
any_of-within d [] h = omega (arith, ap (λ n. n.depth) (of-or []))
any_of-within d (x ∷ []) h = omega (arith, h.0, alone-or (nested x).form (nested x).depth)
any_of-within d (x ∷ y ∷ xs) h = omega (arith, ap (λ n. n.depth) (of-or (x ∷ y ∷ xs)), deepest-or d (x ∷ y ∷ xs) h)

conj-within : (d : ℕ) {p : Phrase Expr} → Gives (WithinAnd d) p → Gives (WithinOr d) (conj_by p)
unfolding conj_by
conj-within d g = chain (each (WithinAnd d) (eat (codes "and")) g) (λ xs h. value (all_of xs) (all_of-within d xs h))

cond-within : (d : ℕ) {p : Phrase Expr} → Gives (WithinAnd d) p → Gives (WithinAlone d) (cond_by p)
unfolding cond_by
cond-within d g = chain (each (WithinOr d) (eat (codes "or")) (conj-within d g)) (λ xs h. value (any_of xs) (any_of-within d xs h))

not-within : (d : ℕ) (x : Expr) → WithinAnd d x → WithinAnd (suc d) (e.Not x)
not-within d x h = omega (arith, ap in_and (of-not x), h, not-and (nested x).form (nested x).depth)

enclosed-within : (d : ℕ) (x : Expr) → WithinAlone d x → WithinAnd (suc d) x
enclosed-within d x h = omega (arith, h, and-alone (nested x).form (nested x).depth)

neg-within : (d : ℕ) → Gives (WithinAnd d) (neg d)
unfolding neg nested_by
neg-within zero = plainly test (λ x h. omega (arith, h)) test-flat
neg-within (suc d) = eats (eat (codes "not")) (chain (neg-within d) (λ x h. value (e.Not x) (not-within d x h)))
    (eats (eat_sign (codes "(")) (chain (cond-within d (neg-within d)) (λ x h. behind_it (expect_sign (codes ")")) (λ u. value x (enclosed-within d x h)))) (plainly test (λ x h. omega (arith, h)) test-flat))

condition-within : Gives (λ o. is_shallow o ≡ true) condition
condition-within = eats (eat (codes "where")) (chain (cond-within 64 (neg-within 64)) (λ x h. value (Some x) (le-leb (nesting x) 64 h))) (value None refl)

-- ---- beside another property

joined-good : {A : Type 0} (first ok : A → Bool) (size : A → ℕ) (n : ℕ) (o : Outcome A) → Holds (λ x. first x ≡ true) o → Good ok size n o → Good (λ x. first x && ok x) size n o
joined-good first ok size n None h g = tt
joined-good first ok size n (Some p) h g = (both h g.0, g.1, g.2)

pub condition-nests : {ok : Option Expr → Bool} {size : Option Expr → ℕ} {before : ℕ} → From ok size before condition → From (λ o. is_shallow o && ok o) size before condition
condition-nests {ok} {size} {before} g = record { good = λ ts h. joined-good is_shallow ok size (before + weight ts) (condition ts) (condition-within.holds ts) (g.good ts h) }
