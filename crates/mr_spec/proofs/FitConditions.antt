-- Conditions fit.
use Rattle.std.proofs.Common.{◌≡◌, ℕ, zero, suc, ◌+◌, ◌≤◌, List, [], ◌∷◌, true, false, true≢false, Bool, ◌&&◌, ◌||◌, length, map, codes, arith, refl, ap, sym, ◌∙◌, Some, None, if◌then◌else◌}
use Rattle.std.specs.List.{list_all}
use Rattle.std.proofs.lemmas.Bool.{le-leb}
use Rattle.mr_types.specs.Grammatical.{is_name, is_literal, is_condition, layer_is_grammatical, two_or_more, some_all, where_given}
use Rattle.mr_types.specs.Sizes.{literal_size, condition_size, layer_size, if_given, summed}
use Rattle.mr_types.specs.declared.value.Value.{Value}
use Rattle.mr_types.specs.declared.expr.Cmp.{Cmp}
use Rattle.mr_types.specs.declared.expr.Cmp.TheVariants as cmp
use Rattle.mr_types.specs.declared.expr.Expr.{Expr}
use Rattle.mr_types.specs.declared.expr.Expr.TheFolds.{fold-Expr, fold-roll-Expr}
use Rattle.mr_types.specs.declared.expr.Expr.TheVariants.{rolls-Compare, rolls-IsNull, rolls-Between, rolls-OneOf, rolls-Not, rolls-And, rolls-Or}
use Rattle.mr_types.specs.declared.expr.Expr.TheVariants as e
use Rattle.mr_types.specs.declared.expr.Expr.TheOpen.{Compare, IsNull, Between, OneOf, Not, And, Or}
use Rattle.mr_spec.specs.Phrases.{Phrase, pure, sees}
use Rattle.mr_spec.specs.ConditionPhrases.{comparison, turned, turned_test, null_test, between, one_of, range_test, comparison_test, plain_test, column_test, test, all_of, any_of, conj_by, cond_by, nested, neg, condition}
use Rattle.mr_spec.proofs.Fitting.{From, bind, pass, given, eaten, eaten_sign, maybe-fits, expected, expected_sign, listed-fits, separated-fits, keyword_mark, in_parentheses-fits, by_sight, wide, both, first_holds, second_holds, always, nothing}
use Rattle.mr_spec.proofs.FitTokens.{name-fits, literal-fits}

-- ---- what the folds say of each form

ok-compare : (n : List ℕ) (c : Cmp) (v : Value) → is_condition (e.Compare n c v) ≡ (is_name n && is_literal v)
ok-compare n c v = ap (fold-Expr Bool layer_is_grammatical) (sym (rolls-Compare n c v)) ∙ fold-roll-Expr Bool layer_is_grammatical (Compare n c v)

size-compare : (n : List ℕ) (c : Cmp) (v : Value) → condition_size (e.Compare n c v) ≡ length n + literal_size v
size-compare n c v = ap (fold-Expr ℕ layer_size) (sym (rolls-Compare n c v)) ∙ fold-roll-Expr ℕ layer_size (Compare n c v)

ok-null : (n : List ℕ) → is_condition (e.IsNull n) ≡ is_name n
ok-null n = ap (fold-Expr Bool layer_is_grammatical) (sym (rolls-IsNull n)) ∙ fold-roll-Expr Bool layer_is_grammatical (IsNull n)

size-null : (n : List ℕ) → condition_size (e.IsNull n) ≡ length n
size-null n = ap (fold-Expr ℕ layer_size) (sym (rolls-IsNull n)) ∙ fold-roll-Expr ℕ layer_size (IsNull n)

ok-between : (n : List ℕ) (a b : Value) → is_condition (e.Between n a b) ≡ (is_name n && (is_literal a && is_literal b))
ok-between n a b = ap (fold-Expr Bool layer_is_grammatical) (sym (rolls-Between n a b)) ∙ fold-roll-Expr Bool layer_is_grammatical (Between n a b)

size-between : (n : List ℕ) (a b : Value) → condition_size (e.Between n a b) ≡ length n + literal_size a + literal_size b
size-between n a b = ap (fold-Expr ℕ layer_size) (sym (rolls-Between n a b)) ∙ fold-roll-Expr ℕ layer_size (Between n a b)

ok-one_of : (n : List ℕ) (vs : List Value) → is_condition (e.OneOf n vs) ≡ (is_name n && some_all is_literal vs)
ok-one_of n vs = ap (fold-Expr Bool layer_is_grammatical) (sym (rolls-OneOf n vs)) ∙ fold-roll-Expr Bool layer_is_grammatical (OneOf n vs)

size-one_of : (n : List ℕ) (vs : List Value) → condition_size (e.OneOf n vs) ≡ length n + summed literal_size vs
size-one_of n vs = ap (fold-Expr ℕ layer_size) (sym (rolls-OneOf n vs)) ∙ fold-roll-Expr ℕ layer_size (OneOf n vs)

ok-not : (x : Expr) → is_condition (e.Not x) ≡ is_condition x
ok-not x = ap (fold-Expr Bool layer_is_grammatical) (sym (rolls-Not x)) ∙ fold-roll-Expr Bool layer_is_grammatical (Not x)

size-not : (x : Expr) → condition_size (e.Not x) ≡ condition_size x
size-not x = ap (fold-Expr ℕ layer_size) (sym (rolls-Not x)) ∙ fold-roll-Expr ℕ layer_size (Not x)

ok-and : (xs : List Expr) → is_condition (e.And xs) ≡ two_or_more (map is_condition xs)
ok-and xs = ap (fold-Expr Bool layer_is_grammatical) (sym (rolls-And xs)) ∙ fold-roll-Expr Bool layer_is_grammatical (And xs)

size-and : (xs : List Expr) → condition_size (e.And xs) ≡ summed (λ n. n) (map condition_size xs)
size-and xs = ap (fold-Expr ℕ layer_size) (sym (rolls-And xs)) ∙ fold-roll-Expr ℕ layer_size (And xs)

ok-or : (xs : List Expr) → is_condition (e.Or xs) ≡ two_or_more (map is_condition xs)
ok-or xs = ap (fold-Expr Bool layer_is_grammatical) (sym (rolls-Or xs)) ∙ fold-roll-Expr Bool layer_is_grammatical (Or xs)

size-or : (xs : List Expr) → condition_size (e.Or xs) ≡ summed (λ n. n) (map condition_size xs)
size-or xs = ap (fold-Expr ℕ layer_size) (sym (rolls-Or xs)) ∙ fold-roll-Expr ℕ layer_size (Or xs)

-- ---- tests

comparison-fits : From always nothing 0 comparison
unfolding comparison
comparison-fits = eaten_sign _ (given cmp.Eq refl (omega arith)) (eaten_sign _ (given cmp.Ne refl (omega arith)) (eaten_sign _ (given cmp.Ne refl (omega arith)) (eaten_sign _ (given cmp.Lt refl (omega arith))
    (eaten_sign _ (given cmp.Le refl (omega arith)) (eaten_sign _ (given cmp.Gt refl (omega arith)) (expected_sign _ _ (given cmp.Ge refl (omega arith))))))))

-- a condition that is in order and fits
held : {n : ℕ} (x : Expr) → is_condition x ≡ true → condition_size x ≤ n → From is_condition condition_size n (pure x)
held x h le = given x h le

turned_test-fits : From is_condition condition_size 0 turned_test
unfolding turned_test
turned_test-fits = bind literal-fits (λ v a. bind comparison-fits (λ how t. bind name-fits (λ n b. held (e.Compare n (turned how) v) (ok-compare n (turned how) v ∙ both b a) (omega (arith, size-compare n (turned how) v)))))

not_held : {n : ℕ} (b : Bool) (x : Expr) → is_condition x ≡ true → condition_size x ≤ n → From is_condition condition_size n (pure (if b then e.Not x else x))
not_held true x h le = held (e.Not x) (ok-not x ∙ h) (omega (arith, size-not x, le))
not_held false x h le = held x h le

null_test-fits : (n : List ℕ) → is_name n ≡ true → From is_condition condition_size (length n) (null_test n)
unfolding null_test
null_test-fits n h = bind (maybe-fits _) (λ negative t. expected _ _ (not_held negative (e.IsNull n) (ok-null n ∙ h) (omega (arith, size-null n))))

between-fits : (n : List ℕ) → is_name n ≡ true → From is_condition condition_size (length n) (between n)
unfolding between
between-fits n h = bind literal-fits (λ low a. expected _ _ (bind literal-fits (λ high b. held (e.Between n low high) (ok-between n low high ∙ both h (both a b)) (omega (arith, size-between n low high)))))

one_of-fits : (n : List ℕ) → is_name n ≡ true → From is_condition condition_size (length n) (one_of n)
unfolding one_of
one_of-fits n h = bind (in_parentheses-fits _ _ (listed-fits _ _ literal-fits)) (λ vs a. held (e.OneOf n vs) (ok-one_of n vs ∙ both h a) (omega (arith, size-one_of n vs)))

range_test-fits : (n : List ℕ) → is_name n ≡ true → From is_condition condition_size (length n) (range_test n)
unfolding range_test
range_test-fits n h = eaten _ (wide (omega arith) (between-fits n h)) (expected _ _ (wide (omega arith) (one_of-fits n h)))

comparison_test-fits : (n : List ℕ) → is_name n ≡ true → From is_condition condition_size (length n) (comparison_test n)
unfolding comparison_test
comparison_test-fits n h = bind comparison-fits (λ how t. bind literal-fits (λ v a. held (e.Compare n how v) (ok-compare n how v ∙ both h a) (omega (arith, size-compare n how v))))

plain_test-fits : (n : List ℕ) → is_name n ≡ true → From is_condition condition_size (length n) (plain_test n)
unfolding plain_test
plain_test-fits n h = by_sight (λ ts. sees (codes "between") ts || sees (codes "in") ts) (range_test-fits n h) (comparison_test-fits n h)

column_test-fits : From is_condition condition_size 0 column_test
unfolding column_test
column_test-fits = bind name-fits (λ n h. eaten _ (wide (omega arith) (null_test-fits n h)) (eaten _
    (pass (range_test-fits n h) (omega arith) (λ x a. held (e.Not x) (ok-not x ∙ a) (omega (arith, size-not x)))) (wide (omega arith) (plain_test-fits n h))))

test-fits : From is_condition condition_size 0 test
unfolding test
test-fits = by_sight _ column_test-fits turned_test-fits

-- ---- parts

all-parts : (xs : List Expr) → list_all is_condition xs ≡ true → list_all (λ b. b) (map is_condition xs) ≡ true
all-parts [] h = refl
all-parts (x ∷ xs) h = both (first_holds (is_condition x) (list_all is_condition xs) h) (all-parts xs (second_holds (is_condition x) (list_all is_condition xs) h))

size-parts : (xs : List Expr) → summed (λ n. n) (map condition_size xs) ≡ summed condition_size xs
size-parts [] = refl
size-parts (x ∷ xs) = ap (λ n. condition_size x + n) (size-parts xs)

long-parts : (xs : List Expr) → length (map is_condition xs) ≡ length xs
long-parts [] = refl
long-parts (x ∷ xs) = ap suc (long-parts xs)

two-parts : (x y : Expr) (xs : List Expr) → list_all is_condition (x ∷ y ∷ xs) ≡ true → two_or_more (map is_condition (x ∷ y ∷ xs)) ≡ true
two-parts x y xs h = both (le-leb 2 (length (map is_condition (x ∷ y ∷ xs))) (omega arith)) (all-parts (x ∷ y ∷ xs) h)

all_of-held : {n : ℕ} (xs : List Expr) → some_all is_condition xs ≡ true → summed condition_size xs ≤ n → From is_condition condition_size n (pure (all_of xs))
all_of-held [] h le = absurd (true≢false (sym h))
all_of-held (x ∷ []) h le = held x (first_holds (is_condition x) true h) (omega (arith, le))
all_of-held (x ∷ y ∷ xs) h le = held (e.And (x ∷ y ∷ xs)) (ok-and (x ∷ y ∷ xs) ∙ two-parts x y xs h) (omega (arith, size-and (x ∷ y ∷ xs), size-parts (x ∷ y ∷ xs), le))

any_of-held : {n : ℕ} (xs : List Expr) → some_all is_condition xs ≡ true → summed condition_size xs ≤ n → From is_condition condition_size n (pure (any_of xs))
any_of-held [] h le = absurd (true≢false (sym h))
any_of-held (x ∷ []) h le = held x (first_holds (is_condition x) true h) (omega (arith, le))
any_of-held (x ∷ y ∷ xs) h le = held (e.Or (x ∷ y ∷ xs)) (ok-or (x ∷ y ∷ xs) ∙ two-parts x y xs h) (omega (arith, size-or (x ∷ y ∷ xs), size-parts (x ∷ y ∷ xs), le))

conj-fits : {p : Phrase Expr} → From is_condition condition_size 0 p → From is_condition condition_size 0 (conj_by p)
unfolding conj_by
conj-fits g = bind (separated-fits _ _ (keyword_mark _) g) (λ xs h. all_of-held xs h (omega arith))

cond-fits : {p : Phrase Expr} → From is_condition condition_size 0 p → From is_condition condition_size 0 (cond_by p)
unfolding cond_by
cond-fits g = bind (separated-fits _ _ (keyword_mark _) (conj-fits g)) (λ xs h. any_of-held xs h (omega arith))

nested-fits : {p : Phrase Expr} → From is_condition condition_size 0 p → From is_condition condition_size 0 (nested p)
unfolding nested
nested-fits g = eaten _ (bind g (λ x a. held (e.Not x) (ok-not x ∙ a) (omega (arith, size-not x))))
    (eaten_sign _ (bind (cond-fits g) (λ x a. expected_sign _ _ (held x a (omega arith)))) test-fits)

neg-fits : (depth : ℕ) → From is_condition condition_size 0 (neg depth)
unfolding neg
neg-fits zero = test-fits
neg-fits (suc depth) = nested-fits (neg-fits depth)

pub condition-fits : From (where_given is_condition) (if_given condition_size) 0 condition
condition-fits = eaten _ (bind (cond-fits (neg-fits 64)) (λ x a. given (Some x) a (omega arith))) (given None refl (omega arith))
