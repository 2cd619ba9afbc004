-- Conditions are read.
use Rattle.std.proofs.Common.{◌≡◌, ℕ, zero, suc, ◌≤◌, List, [], ◌∷◌, length, map, Bool, true, false, true≢false, ◌&&◌, ◌||◌, Option, Some, None, codes, arith, refl, ap, sym, subst, ◌∙◌, nat_le}
use Rattle.std.specs.List.{list_all}
use Rattle.mr_lex.specs.Reading.{Lexeme}
use Rattle.mr_types.specs.Grammatical.{is_name, is_literal, is_condition, layer_is_grammatical, two_or_more, some_all, where_given}
use Rattle.mr_types.specs.declared.value.Value.{Value}
use Rattle.std.proofs.lemmas.Bool.{leb-true}
use Rattle.mr_types.specs.declared.expr.Cmp.{Cmp}
use Rattle.mr_types.specs.declared.expr.Cmp.TheVariants as cmp
use Rattle.mr_types.specs.declared.expr.Expr.{Expr, roll-Expr, map-Expr}
use Rattle.mr_types.specs.declared.expr.Expr.TheFolds.{fold-roll-Expr, ind-Expr}
use Rattle.mr_types.specs.declared.expr.Expr.TheVariants.{rolls-Compare, rolls-IsNull, rolls-Between, rolls-OneOf, rolls-Not, rolls-And, rolls-Or}
use Rattle.mr_types.specs.declared.expr.Expr.TheVariants as e
use Rattle.mr_types.specs.declared.expr.Expr.TheOpen.{Expr-F, Compare, IsNull, Between, OneOf, Not, And, Or}
use Rattle.mr_spec.specs.Phrases.{Phrase, sees, begins_name, eat, separated}
use Rattle.mr_spec.specs.Literals.{literal}
use Rattle.mr_spec.specs.ConditionPhrases.{comparison, null_test, between, one_of, range_test, comparison_test, plain_test, column_test, test, conj_by, cond_by, nested, neg, cond, condition}
use Rattle.mr_spelling.specs.Parts.{Part, Keyword, Mark, Name, Spell}
use Rattle.mr_spelling.specs.Spelling.{spelled_by, spelled_list, spelled_literal}
use Rattle.mr_spelling.specs.Conditions.{comparison_sign, Way, Ways, flat, under_not, enclosed, anywhere, deepest, joined, spelled_between, spelled_in, compared, all_joined, any_joined, layer_ways, ways, spelled_condition, nesting, spelled_where}
use Rattle.mr_spelling.proofs.Reading.{Reads, go, done, lacks, yes, no, yes_sign, no_sign, want, want_sign, named, looks, looks_past, seen, unseen, name-begins, yes_last, no_last, maybe_yes, maybe_no}
use Rattle.mr_spelling.proofs.Lists.{IsItem, Each, any_rest, some_each-of, first_of_both, second_of_both, listed-reads, separated-reads, list-grows, in_parentheses-reads, clause-reads, clause-absent}
use Rattle.mr_spelling.proofs.Literals.{literal-reads, literal-item, literal-grows}

-- ---- one test

comparison-reads : (c : Cmp) (more : List Part) → Reads comparison (Mark (comparison_sign c) ∷ more) c more
unfolding comparison
comparison-reads cmp.Eq more = yes_sign _ done
comparison-reads cmp.Ne more = no_sign _ _ refl (yes_sign _ done)
comparison-reads cmp.Lt more = no_sign _ _ refl (no_sign _ _ refl (no_sign _ _ refl (yes_sign _ done)))
comparison-reads cmp.Le more = no_sign _ _ refl (no_sign _ _ refl (no_sign _ _ refl (no_sign _ _ refl (yes_sign _ done))))
comparison-reads cmp.Gt more = no_sign _ _ refl (no_sign _ _ refl (no_sign _ _ refl (no_sign _ _ refl (no_sign _ _ refl (yes_sign _ done)))))
comparison-reads cmp.Ge more = no_sign _ _ refl (no_sign _ _ refl (no_sign _ _ refl (no_sign _ _ refl (no_sign _ _ refl (no_sign _ _ refl (want_sign _ done))))))

neither : (a b : Bool) → a ≡ false → b ≡ false → (a || b) ≡ false
neither a b h k = rw (h, k) refl

compare-reads : (n : List ℕ) (c : Cmp) (v : Value) (more : List Part) → is_literal v ≡ true → Reads column_test (Name n ∷ Mark (comparison_sign c) ∷ spelled_literal v more) (e.Compare n c v) more
unfolding column_test plain_test comparison_test
compare-reads n c v more h = named _ (no _ _ refl (no _ _ refl (looks_past _ (λ ts. sees (codes "between") ts || sees (codes "in") ts)
    (λ ts s. neither (sees (codes "between") ts) (sees (codes "in") ts) (unseen (codes "between") ts _ s refl) (unseen (codes "in") ts _ s refl))
    (go _ (comparison-reads c _) (go _ (literal-reads v more h) done)))))

null-reads : (n : List ℕ) (more : List Part) → Reads column_test (Name n ∷ Keyword (codes "is") ∷ Keyword (codes "null") ∷ more) (e.IsNull n) more
unfolding column_test null_test
null-reads n more = named _ (yes _ (go _ (maybe_no _ refl) (want _ done)))

not_null-reads : (n : List ℕ) (more : List Part) → Reads column_test (Name n ∷ Keyword (codes "is") ∷ Keyword (codes "not") ∷ Keyword (codes "null") ∷ more) (e.Not (e.IsNull n)) more
unfolding column_test null_test
not_null-reads n more = named _ (yes _ (go _ maybe_yes (want _ done)))

between-range : (n : List ℕ) (a b : Value) (more : List Part) → is_literal a ≡ true → is_literal b ≡ true → Reads (range_test n) (spelled_between a b more) (e.Between n a b) more
unfolding range_test between
between-range n a b more h k = yes _ (go _ (literal-reads a _ h) (want _ (go _ (literal-reads b more k) done)))

in-range : (n : List ℕ) (vs : List Value) (more : List Part) → some_all is_literal vs ≡ true → Reads (range_test n) (spelled_in vs more) (e.OneOf n vs) more
unfolding range_test one_of
in-range n vs more h = no _ _ refl (want _ (go _ (in_parentheses-reads (listed-reads literal spelled_literal any_rest vs _ (λ all. refl) (some_each-of (IsItem literal spelled_literal any_rest) is_literal literal-item vs h) refl refl)) done))

-- a range without and with NOT in front
first-true : (a b : Bool) → a ≡ true → (a || b) ≡ true
first-true a b h = rw h refl

second-true : (a b : Bool) → b ≡ true → (a || b) ≡ true
second-true true b h = refl
second-true false b h = h

range-reads : (n w : List ℕ) (all more : List Part) (x : Expr) → lacks (codes "is") (Keyword w ∷ all) ≡ true → lacks (codes "not") (Keyword w ∷ all) ≡ true
    → ((ts : List Lexeme) → Spell ts (Keyword w ∷ all) → (sees (codes "between") ts || sees (codes "in") ts) ≡ true)
    → Reads (range_test n) (Keyword w ∷ all) x more → Reads column_test (Name n ∷ Keyword w ∷ all) x more
unfolding column_test plain_test
range-reads n w all more x h k l r = named _ (no _ _ h (no _ _ k (looks _ (λ ts. sees (codes "between") ts || sees (codes "in") ts) l r)))

not_range-reads : (n : List ℕ) (all more : List Part) (x : Expr) → Reads (range_test n) all x more → Reads column_test (Name n ∷ Keyword (codes "not") ∷ all) (e.Not x) more
unfolding column_test
not_range-reads n all more x r = named _ (no _ _ refl (yes _ (go _ r done)))

test-reads : (n : List ℕ) (all more : List Part) (x : Expr) → Reads column_test (Name n ∷ all) x more → Reads test (Name n ∷ all) x more
unfolding test
test-reads n all more x r = looks _ begins_name (λ ts s. name-begins n all ts s) r

-- a test stands at any depth
test-neg : (depth : ℕ) (n : List ℕ) (all more : List Part) (x : Expr) → Reads test (Name n ∷ all) x more → Reads (neg depth) (Name n ∷ all) x more
unfolding neg nested
test-neg zero n all more x r = r
test-neg (suc depth) n all more x r = no _ _ refl (no_sign _ _ refl r)

-- ---- ways

-- the way is read where the depth is at least its nesting
pub record IsWay (phrase : ℕ → Phrase Expr) (calm : List Part → Bool) (w : Way) (x : Expr) : Type 0 where
  pub grows : (more : List Part) → suc (length more) ≤ length (w.parts more)
  pub reads : (depth : ℕ) → w.nesting ≤ depth → (more : List Part) → calm more ≡ true → Reads (phrase depth) (w.parts more) x more

abbrev conj_to : ℕ → Phrase Expr
conj_to depth = conj_by (neg depth)

abbrev cond_to : ℕ → Phrase Expr
cond_to depth = cond_by (neg depth)

abbrev ends_and : List Part → Bool
ends_and more = lacks (codes "and") more

abbrev pub ends_or : List Part → Bool
ends_or more = lacks (codes "and") more && lacks (codes "or") more

pub record AreWays (ws : Ways) (x : Expr) : Type 0 where
  pub in_and : IsWay neg any_rest ws.in_and x
  pub in_or : IsWay conj_to ends_and ws.in_or x
  pub alone : IsWay cond_to ends_or ws.alone x
  pub negated : IsWay neg any_rest ws.negated (e.Not x)

-- one part alone
single : (word : List ℕ) (item : Phrase Expr) (calm : List Part → Bool) (parts : List Part → List Part) (x : Expr) (more : List Part)
    → ((all : List Part) → calm (Keyword word ∷ all) ≡ true) → IsItem item (λ y. parts) calm x → lacks word more ≡ true → calm more ≡ true
    → Reads (separated (eat word) item) (parts more) (x ∷ []) more
single word item calm parts x more calms i l c = separated-reads (Keyword word) (eat word) item (λ y. parts) calm (λ all. yes_last) calms (x ∷ []) more (i, tt) (no_last word l) c

as-conj : (w : Way) (x : Expr) → IsWay neg any_rest w x → IsWay conj_to ends_and w x
unfolding conj_by
as-conj w x i = record {
  grows = i.grows;
  reads = λ depth le more c. go _ (single (codes "and") (neg depth) any_rest w.parts x more (λ all. refl) (record { grows = i.grows; reads = i.reads depth le }) c refl) done;
}

as-cond : (w : Way) (x : Expr) → IsWay conj_to ends_and w x → IsWay cond_to ends_or w x
unfolding cond_by
as-cond w x i = record {
  grows = i.grows;
  reads = λ depth le more c. go _ (single (codes "or") (conj_by (neg depth)) ends_and w.parts x more (λ all. refl) (record { grows = i.grows; reads = i.reads depth le })
      (second_of_both (lacks (codes "and") more) (lacks (codes "or") more) c) (first_of_both (lacks (codes "and") more) (lacks (codes "or") more) c)) done;
}

not-deep : (depth n : ℕ) → suc n ≤ depth → (P : ℕ → Type 0) → ((d : ℕ) → n ≤ d → P (suc d)) → P depth
not-deep zero n le P f = absurd (omega arith)
not-deep (suc d) n le P f = f d (omega (arith, le))

not-reads : (depth : ℕ) (all more : List Part) (x : Expr) → Reads (neg depth) all x more → Reads (neg (suc depth)) (Keyword (codes "not") ∷ all) (e.Not x) more
unfolding neg nested
not-reads depth all more x r = yes _ (go _ r done)

under-not : (w : Way) (x : Expr) → IsWay neg any_rest w x → IsWay neg any_rest (under_not w) (e.Not x)
under-not w x i = record {
  grows = λ more. omega (arith, i.grows more);
  reads = λ depth le more c. not-deep depth w.nesting le (λ d. Reads (neg d) (Keyword (codes "not") ∷ w.parts more) (e.Not x) more) (λ d k. not-reads d (w.parts more) more x (i.reads d k more refl));
}

enclosed-reads : (depth : ℕ) (all more : List Part) (x : Expr) → Reads (cond_by (neg depth)) all x (Mark (codes ")") ∷ more) → Reads (neg (suc depth)) (Mark (codes "(") ∷ all) x more
unfolding neg nested
enclosed-reads depth all more x r = no _ _ refl (yes_sign _ (go _ r (want_sign _ done)))

in-parentheses : (w : Way) (x : Expr) → IsWay cond_to ends_or w x → IsWay neg any_rest (enclosed w) x
in-parentheses w x i = record {
  grows = λ more. omega (arith, i.grows (Mark (codes ")") ∷ more));
  reads = λ depth le more c. not-deep depth w.nesting le (λ d. Reads (neg d) (Mark (codes "(") ∷ w.parts (Mark (codes ")") ∷ more)) x more)
      (λ d k. enclosed-reads d (w.parts (Mark (codes ")") ∷ more)) more x (i.reads d k (Mark (codes ")") ∷ more) refl));
}

are-anywhere : (w v : Way) (x : Expr) → IsWay neg any_rest w x → IsWay neg any_rest v (e.Not x) → AreWays (anywhere w v) x
are-anywhere w v x i j = record { in_and = i; in_or = as-conj w x i; alone = as-cond w x (as-conj w x i); negated = j }

test-way : (n : List ℕ) (behind : List Part → List Part) (x : Expr) → ((more : List Part) → length more ≤ length (behind more)) → ((more : List Part) → Reads column_test (Name n ∷ behind more) x more)
    → IsWay neg any_rest (flat (λ more. Name n ∷ behind more)) x
test-way n behind x g r = record { grows = λ more. omega (arith, g more); reads = λ depth le more c. test-neg depth n (behind more) more x (test-reads n (behind more) more x (r more)) }

-- ---- parts

module _ (phrase : ℕ → Phrase Expr) (calm : List Part → Bool) (way_of : Ways → Way) where
  -- the list of parts is spelled as the list of their ways
  same-parts : (between : Part) (xs : List Expr) (more : List Part) → spelled_by between (λ x. (way_of (ways x)).parts) xs more ≡ spelled_by between (λ w rest. w.parts rest) (map way_of (map ways xs)) more
  same-parts between [] more = refl
  same-parts between (x ∷ []) more = refl
  same-parts between (x ∷ y ∷ ys) more = ap (λ z. (way_of (ways x)).parts (between ∷ z)) (same-parts between (y ∷ ys) more)

  abbrev IsPart_of : Expr → Type 0
  IsPart_of x = IsWay phrase calm (way_of (ways x)) x

  each-at : (depth : ℕ) (xs : List Expr) → Each IsPart_of xs → deepest (map way_of (map ways xs)) ≤ depth → Each (IsItem (phrase depth) (λ x. (way_of (ways x)).parts) calm) xs
  each-at depth [] i le = tt
  each-at depth (x ∷ xs) i le = (record { grows = i.0.grows; reads = i.0.reads depth (omega (arith, le)) }, each-at depth xs i.1 (omega (arith, le)))

  parts-read : (word : List ℕ) (depth : ℕ) (x : Expr) (xs : List Expr) (more : List Part) → ((all : List Part) → calm (Keyword word ∷ all) ≡ true) → Each IsPart_of (x ∷ xs) → deepest (map way_of (map ways (x ∷ xs))) ≤ depth
      → lacks word more ≡ true → calm more ≡ true → Reads (separated (eat word) (phrase depth)) ((joined word (map way_of (map ways (x ∷ xs)))).parts more) (x ∷ xs) more
  parts-read word depth x xs more calms i le l c = subst (λ ps. Reads (separated (eat word) (phrase depth)) ps (x ∷ xs) more) (same-parts (Keyword word) (x ∷ xs) more)
      (separated-reads (Keyword word) (eat word) (phrase depth) (λ y. (way_of (ways y)).parts) calm (λ all. yes_last) calms (x ∷ xs) more (each-at depth (x ∷ xs) i le) (no_last word l) c)

  parts-grow : (word : List ℕ) (x : Expr) (xs : List Expr) (more : List Part) → Each IsPart_of (x ∷ xs) → suc (length more) ≤ length ((joined word (map way_of (map ways (x ∷ xs)))).parts more)
  parts-grow word x xs more i = omega (arith, ap length (same-parts (Keyword word) (x ∷ xs) more), list-grows (Keyword word) (eat word) (phrase (deepest (map way_of (map ways (x ∷ xs))))) (λ y. (way_of (ways y)).parts) calm (x ∷ xs) more (each-at (deepest (map way_of (map ways (x ∷ xs)))) (x ∷ xs) i (omega arith)))

abbrev AreRead : Expr → Type 0
AreRead x = AreWays (ways x) x

each-in_and : (xs : List Expr) → Each AreRead xs → Each (λ x. IsWay neg any_rest (ways x).in_and x) xs
each-in_and [] i = tt
each-in_and (x ∷ xs) i = (i.0.in_and, each-in_and xs i.1)

each-in_or : (xs : List Expr) → Each AreRead xs → Each (λ x. IsWay conj_to ends_and (ways x).in_or x) xs
each-in_or [] i = tt
each-in_or (x ∷ xs) i = (i.0.in_or, each-in_or xs i.1)

and-read : (x y : Expr) (zs : List Expr) → Each AreRead (x ∷ y ∷ zs) → IsWay conj_to ends_and (joined (codes "and") (map (λ w. w.in_and) (map ways (x ∷ y ∷ zs)))) (e.And (x ∷ y ∷ zs))
unfolding conj_by
and-read x y zs i = record {
  grows = λ more. parts-grow neg any_rest (λ w. w.in_and) (codes "and") x (y ∷ zs) more (each-in_and (x ∷ y ∷ zs) i);
  reads = λ depth le more c. go _ (parts-read neg any_rest (λ w. w.in_and) (codes "and") depth x (y ∷ zs) more (λ all. refl) (each-in_and (x ∷ y ∷ zs) i) le c refl) done;
}

or-read : (x y : Expr) (zs : List Expr) → Each AreRead (x ∷ y ∷ zs) → IsWay cond_to ends_or (joined (codes "or") (map (λ w. w.in_or) (map ways (x ∷ y ∷ zs)))) (e.Or (x ∷ y ∷ zs))
unfolding cond_by
or-read x y zs i = record {
  grows = λ more. parts-grow conj_to ends_and (λ w. w.in_or) (codes "or") x (y ∷ zs) more (each-in_or (x ∷ y ∷ zs) i);
  reads = λ depth le more c. go _ (parts-read conj_to ends_and (λ w. w.in_or) (codes "or") depth x (y ∷ zs) more (λ all. refl) (each-in_or (x ∷ y ∷ zs) i) le
      (second_of_both (lacks (codes "and") more) (lacks (codes "or") more) c) (first_of_both (lacks (codes "and") more) (lacks (codes "or") more) c)) done;
}

and-ways : (ws : List Way) (x : Expr) → IsWay conj_to ends_and (joined (codes "and") ws) x → AreWays (all_joined ws) x
and-ways ws x i =
    let alone = as-cond (joined (codes "and") ws) x i in
    let inside = in-parentheses (joined (codes "and") ws) x alone in
    record { in_and = inside; in_or = i; alone = alone; negated = under-not (enclosed (joined (codes "and") ws)) x inside }

or-ways : (ws : List Way) (x : Expr) → IsWay cond_to ends_or (joined (codes "or") ws) x → AreWays (any_joined ws) x
or-ways ws x i =
    let inside = in-parentheses (joined (codes "or") ws) x i in
    record { in_and = inside; in_or = as-conj (enclosed (joined (codes "or") ws)) x inside; alone = i; negated = under-not (enclosed (joined (codes "or") ws)) x inside }

-- ---- each form

abbrev Goes : Expr → Type 0
Goes x = is_condition x ≡ true → AreRead x

each-literal : (vs : List Value) → some_all is_literal vs ≡ true → Each (IsItem literal spelled_literal any_rest) vs
each-literal [] h = tt
each-literal (v ∷ vs) h = some_each-of (IsItem literal spelled_literal any_rest) is_literal literal-item (v ∷ vs) h

-- what the folds say of a form
ok-form : (x : Expr-F Expr) → is_condition (roll-Expr x) ≡ layer_is_grammatical (map-Expr Expr Bool is_condition x)
ok-form x = fold-roll-Expr Bool layer_is_grammatical x

ways-form : (x : Expr-F Expr) → ways (roll-Expr x) ≡ layer_ways (map-Expr Expr Ways ways x)
ways-form x = fold-roll-Expr Ways layer_ways x

-- a layer, whose form is known
formed : (x : Expr-F Expr) (y : Expr) → roll-Expr x ≡ y → (layer_is_grammatical (map-Expr Expr Bool is_condition x) ≡ true → AreWays (layer_ways (map-Expr Expr Ways ways x)) y) → Goes (roll-Expr x)
formed x y r f h = subst (λ z. AreWays z (roll-Expr x)) (sym (ways-form x)) (subst (λ z. AreWays (layer_ways (map-Expr Expr Ways ways x)) z) (sym r) (f (sym (ok-form x) ∙ h)))

compare-goes : (n : List ℕ) (c : Cmp) (v : Value) → (is_name n && is_literal v) ≡ true → AreWays (layer_ways (Compare n c v)) (e.Compare n c v)
compare-goes n c v h =
    let i = test-way n (λ more. Mark (comparison_sign c) ∷ spelled_literal v more) (e.Compare n c v) (λ more. omega (arith, literal-grows v more))
    (λ more. compare-reads n c v more (second_of_both (is_name n) (is_literal v) h)) in
    are-anywhere (compared n c v) (under_not (compared n c v)) (e.Compare n c v) i (under-not (compared n c v) (e.Compare n c v) i)

null-goes : (n : List ℕ) → AreWays (layer_ways (IsNull n)) (e.IsNull n)
null-goes n = are-anywhere _ _ (e.IsNull n)
    (test-way n (λ more. Keyword (codes "is") ∷ Keyword (codes "null") ∷ more) (e.IsNull n) (λ more. omega arith) (λ more. null-reads n more))
    (test-way n (λ more. Keyword (codes "is") ∷ Keyword (codes "not") ∷ Keyword (codes "null") ∷ more) (e.Not (e.IsNull n)) (λ more. omega arith) (λ more. not_null-reads n more))

range-goes : (n w : List ℕ) (behind : List Part → List Part) (x : Expr) → ((more : List Part) → length more ≤ length (behind more)) → ((more : List Part) → Reads (range_test n) (Keyword w ∷ behind more) x more)
    → ((all : List Part) → lacks (codes "is") (Keyword w ∷ all) ≡ true) → ((all : List Part) → lacks (codes "not") (Keyword w ∷ all) ≡ true)
    → ((all : List Part) (ts : List Lexeme) → Spell ts (Keyword w ∷ all) → (sees (codes "between") ts || sees (codes "in") ts) ≡ true)
    → AreWays (anywhere (flat (λ more. Name n ∷ Keyword w ∷ behind more)) (flat (λ more. Name n ∷ Keyword (codes "not") ∷ Keyword w ∷ behind more))) x
range-goes n w behind x g r h k l = are-anywhere _ _ x
    (test-way n (λ more. Keyword w ∷ behind more) x (λ more. omega (arith, g more)) (λ more. range-reads n w (behind more) more x (h (behind more)) (k (behind more)) (l (behind more)) (r more)))
    (test-way n (λ more. Keyword (codes "not") ∷ Keyword w ∷ behind more) (e.Not x) (λ more. omega (arith, g more)) (λ more. not_range-reads n (Keyword w ∷ behind more) more x (r more)))

seen-first : (w : List ℕ) (all : List Part) (ts : List Lexeme) → Spell ts (Keyword w ∷ all) → sees w ts ≡ true
seen-first w all [] s = absurd s
seen-first w all (t ∷ ts) s = seen w t ts s.0

between-goes : (n : List ℕ) (a b : Value) → (is_name n && (is_literal a && is_literal b)) ≡ true → AreWays (layer_ways (Between n a b)) (e.Between n a b)
between-goes n a b h =
    let k = second_of_both (is_name n) (is_literal a && is_literal b) h in
    range-goes n (codes "between") (λ more. spelled_literal a (Keyword (codes "and") ∷ spelled_literal b more)) (e.Between n a b)
    (λ more. omega (arith, literal-grows a (Keyword (codes "and") ∷ spelled_literal b more), literal-grows b more))
    (λ more. between-range n a b more (first_of_both (is_literal a) (is_literal b) k) (second_of_both (is_literal a) (is_literal b) k)) (λ all. refl) (λ all. refl)
    (λ all ts s. first-true (sees (codes "between") ts) (sees (codes "in") ts) (seen-first (codes "between") all ts s))

in-goes : (n : List ℕ) (vs : List Value) → (is_name n && some_all is_literal vs) ≡ true → AreWays (layer_ways (OneOf n vs)) (e.OneOf n vs)
in-goes n vs h =
    let k = second_of_both (is_name n) (some_all is_literal vs) h in
    range-goes n (codes "in") (λ more. Mark (codes "(") ∷ spelled_list spelled_literal vs (Mark (codes ")") ∷ more)) (e.OneOf n vs)
    (λ more. omega (arith, list-grows (Mark (codes ",")) (eat (codes ",")) literal spelled_literal any_rest vs (Mark (codes ")") ∷ more) (each-literal vs k)))
    (λ more. in-range n vs more k) (λ all. refl) (λ all. refl)
    (λ all ts s. second-true (sees (codes "between") ts) (sees (codes "in") ts) (seen-first (codes "in") all ts s))

not-goes : (x : Expr) → AreRead x → AreWays (layer_ways (Not (ways x))) (e.Not x)
not-goes x i = are-anywhere (ways x).negated (under_not (ways x).negated) (e.Not x) i.negated (under-not (ways x).negated (e.Not x) i.negated)

-- parts that are in order, with what goes for each
abbrev firsts : List ((x : Expr) × Goes x) → List Expr
firsts xs = map (λ p. p.0) xs

all-go : (xs : List ((x : Expr) × Goes x)) → list_all (λ b. b) (map is_condition (firsts xs)) ≡ true → Each AreRead (firsts xs)
all-go [] h = tt
all-go (p ∷ ps) h = (p.1 (first_of_both (is_condition p.0) (list_all (λ b. b) (map is_condition (firsts ps))) h), all-go ps (second_of_both (is_condition p.0) (list_all (λ b. b) (map is_condition (firsts ps))) h))

and-goes : (xs : List ((x : Expr) × Goes x)) → two_or_more (map is_condition (firsts xs)) ≡ true → AreWays (layer_ways (And (map ways (firsts xs)))) (e.And (firsts xs))
and-goes [] h = absurd (true≢false (sym h))
and-goes (p ∷ []) h = absurd (true≢false (sym h))
and-goes (p ∷ q ∷ qs) h = and-ways (map (λ w. w.in_and) (map ways (firsts (p ∷ q ∷ qs)))) (e.And (firsts (p ∷ q ∷ qs)))
    (and-read p.0 q.0 (firsts qs) (all-go (p ∷ q ∷ qs) (second_of_both (nat_le 2 (length (map is_condition (firsts (p ∷ q ∷ qs))))) (list_all (λ b. b) (map is_condition (firsts (p ∷ q ∷ qs)))) h)))

or-goes : (xs : List ((x : Expr) × Goes x)) → two_or_more (map is_condition (firsts xs)) ≡ true → AreWays (layer_ways (Or (map ways (firsts xs)))) (e.Or (firsts xs))
or-goes [] h = absurd (true≢false (sym h))
or-goes (p ∷ []) h = absurd (true≢false (sym h))
or-goes (p ∷ q ∷ qs) h = or-ways (map (λ w. w.in_or) (map ways (firsts (p ∷ q ∷ qs)))) (e.Or (firsts (p ∷ q ∷ qs)))
    (or-read p.0 q.0 (firsts qs) (all-go (p ∷ q ∷ qs) (second_of_both (nat_le 2 (length (map is_condition (firsts (p ∷ q ∷ qs))))) (list_all (λ b. b) (map is_condition (firsts (p ∷ q ∷ qs)))) h)))

layer-goes : (y : Expr-F ((x : Expr) × Goes x)) → Goes (roll-Expr (map-Expr ((x : Expr) × Goes x) Expr (λ p. p.0) y))
layer-goes (Compare n c v) = formed (Compare n c v) (e.Compare n c v) (rolls-Compare n c v) (compare-goes n c v)
layer-goes (IsNull n) = formed (IsNull n) (e.IsNull n) (rolls-IsNull n) (λ h. null-goes n)
layer-goes (Between n a b) = formed (Between n a b) (e.Between n a b) (rolls-Between n a b) (between-goes n a b)
layer-goes (OneOf n vs) = formed (OneOf n vs) (e.OneOf n vs) (rolls-OneOf n vs) (in-goes n vs)
layer-goes (Not p) = formed (Not p.0) (e.Not p.0) (rolls-Not p.0) (λ h. not-goes p.0 (p.1 h))
layer-goes (And ps) = formed (And (firsts ps)) (e.And (firsts ps)) (rolls-And (firsts ps)) (and-goes ps)
layer-goes (Or ps) = formed (Or (firsts ps)) (e.Or (firsts ps)) (rolls-Or (firsts ps)) (or-goes ps)

pub all-ways : (x : Expr) → is_condition x ≡ true → AreWays (ways x) x
all-ways = ind-Expr Goes (λ x y is. subst (λ z. Goes (roll-Expr z)) is (layer-goes y))

-- ---- behind WHERE

-- the condition can be spelled in the grammar, which nests 64 deep
abbrev pub is_where : Option Expr → Bool
is_where o = where_given (λ x. is_condition x && nat_le (nesting x) 64) o

where-reads : (x : Expr) (more : List Part) → (is_condition x && nat_le (nesting x) 64) ≡ true → ends_or more ≡ true → Reads cond (spelled_condition x more) x more
where-reads x more h c = (all-ways x (first_of_both (is_condition x) (nat_le (nesting x) 64) h)).alone.reads 64 (leb-true (nesting x) 64 (second_of_both (is_condition x) (nat_le (nesting x) 64) h)) more c

pub condition-reads : (o : Option Expr) (more : List Part) → is_where o ≡ true → lacks (codes "where") more ≡ true → ends_or more ≡ true → Reads condition (spelled_where o more) o more
condition-reads None more h l c = clause-absent cond (codes "where") more l
condition-reads (Some x) more h l c = clause-reads (where-reads x more h c)
