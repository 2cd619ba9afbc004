-- Steps of loops over the parts of a condition.
use Rattle.std.proofs.Common.{◌≡◌, ℕ, zero, suc, ◌+◌, ◌≤◌, ◌<◌, Bool, true, false, List, [], ◌∷◌, ◌++◌, Result, Ok, Err, IfOk, refl, sym, ap, subst, ◌∙◌, length, map, drop, arith, get_or, add-one}
use Rattle.std.specs.Prelude.{◌&&◌, ◌||◌, ◌==◌, if◌then◌else◌}
use Rattle.std.specs.List.{list_any, list_all}
use Rattle.std.proofs.Math.Seq.{drop-cons}
use Rattle.mr_types.specs.declared.kind.ColumnType.{ColumnType}
use Rattle.mr_types.specs.declared.value.Value.{Value}
use Rattle.mr_types.specs.declared.expr.Cmp.{Cmp}
use Rattle.mr_types.specs.declared.expr.Cmp.TheVariants.{Ge, Le}
use Rattle.mr_spec.specs.declared.bound.Bound.{Bound}
use Rattle.mr_spec.specs.declared.bound.Bound.TheVariants as bound
use Rattle.mr_spec.specs.declared.bound.Bound.TheVariants.{rolls-Between, rolls-And, rolls-Or}
use Rattle.mr_spec.specs.declared.bound.Bound.TheFolds.{fold-roll-Bound}
use Rattle.mr_spec.specs.declared.bound.Bound.TheOpen.{Between, And, Or}
use Rattle.std.proofs.lemmas.List.Folds.{list_any-append}
use Rattle.mr_ranges.specs.declared.range.Range.{Range}
use Rattle.mr_ranges.specs.Ranges.{is_in, in_some, AreApart}
use Rattle.mr_plan.specs.Tests.{test_ranges, whole, says_layer, says_of}
use Rattle.mr_plan.proofs.Apart.{test-apart}

and-more : (a b c : Bool) → ((a && b) && c) ≡ (a && (b && c))
and-more true b c = refl
and-more false b c = refl

or-more : (a b c : Bool) → ((a || b) || c) ≡ (a || (b || c))
or-more true b c = refl
or-more false b c = refl

or-none : (b : Bool) → (b || false) ≡ b
or-none true = refl
or-none false = refl

and-all : (b : Bool) → (b && true) ≡ b
and-all true = refl
and-all false = refl

-- one part more that leaves fewer keys
pub part-met : (new old its part rest all : Bool) → new ≡ (old && its) → its ≡ part → (old && (part && rest)) ≡ all → (new && rest) ≡ all
part-met new old its part rest all h k e = ap (λ (b : Bool). b && rest) (h ∙ ap (λ (b : Bool). old && b) k) ∙ and-more old part rest ∙ e

-- one part more that adds keys
pub part-joined : (key : List ℕ) (some its : List Range) (part rest all : Bool) → in_some key its ≡ part → (in_some key some || (part || rest)) ≡ all → (in_some key (some ++ its) || rest) ≡ all
part-joined key some its part rest all k e = ap (λ (b : Bool). b || rest) (list_any-append (is_in key) some its ∙ ap (λ (b : Bool). in_some key some || b) k) ∙ or-more (in_some key some) part rest ∙ e

pub all-met : (left all : Bool) → (left && true) ≡ all → left ≡ all
all-met left all e = sym (and-all left) ∙ e

pub all-joined : (some all : Bool) → (some || false) ≡ all → some ≡ all
all-joined some all e = sym (or-none some) ∙ e

pub if-ok : {A E : Type 0} (r : Result A E) (P Q : A → Type 0) → ((x : A) → P x → Q x) → IfOk r P → IfOk r Q
if-ok (Ok x) P Q so h = so x h
if-ok (Err e) P Q so h = h

gone : {A : Type 0} (i : ℕ) (xs : List A) → length xs ≤ i → drop i xs ≡ []
gone zero [] h = refl
gone zero (x ∷ xs) h = absurd (omega arith)
gone (suc i) [] h = refl
gone (suc i) (x ∷ xs) h = gone i xs (omega arith)

module _ (front : List ℕ) (column : ColumnType) (p : ℕ) where
  between-said : (key : List ℕ) (i : ℕ) (a b : Value) (e : Bound) → e ≡ bound.Between i a b → (i == p) ≡ true → (in_some key (test_ranges front column Ge a) && in_some key (test_ranges front column Le b)) ≡ says_of front column p key e
  between-said key i a b e is same =
      sym (ap (λ (t : Bool). if t then in_some key (test_ranges front column Ge a) && in_some key (test_ranges front column Le b) else in_some key (whole front)) same)
      ∙ sym (fold-roll-Bound Bool (says_layer front column p key) (Between i a b))
      ∙ ap (says_of front column p key) (rolls-Between i a b ∙ sym is)

  pub between-all : {E : Type 0} (result : Result (List Range) E) (i : ℕ) (a b : Value) (e : Bound) → e ≡ bound.Between i a b → (i == p) ≡ true
      → IfOk result (λ ranges. (key : List ℕ) → in_some key ranges ≡ (in_some key (test_ranges front column Ge a) && in_some key (test_ranges front column Le b)))
      → IfOk result (λ ranges. (key : List ℕ) → in_some key ranges ≡ says_of front column p key e)
  between-all result i a b e is same h = if-ok result (λ ranges. (key : List ℕ) → in_some key ranges ≡ (in_some key (test_ranges front column Ge a) && in_some key (test_ranges front column Le b))) (λ ranges. (key : List ℕ) → in_some key ranges ≡ says_of front column p key e) (λ ranges so key. so key ∙ between-said key i a b e is same) h

  pub tests-apart : {E : Type 0} (result : Result (List Range) E) (cmp : Cmp) (v : Value) → IfOk result (λ ranges. ranges ≡ test_ranges front column cmp v) → IfOk result (λ ranges. AreApart ranges)
  tests-apart result cmp v h = if-ok result (λ ranges. ranges ≡ test_ranges front column cmp v) (λ ranges. AreApart ranges) (λ ranges is. subst AreApart (sym is) (test-apart front column cmp v)) h

  pub and-end : (key : List ℕ) (left : List Range) (items : List Bound) (i : ℕ) (e : Bound) → e ≡ bound.And items → length items ≤ i
      → (in_some key left && list_all (λ b. b) (map (says_of front column p key) (drop i items))) ≡ (in_some key (whole front) && list_all (λ b. b) (map (says_of front column p key) items))
      → in_some key left ≡ says_of front column p key e
  and-end key left items i e is h same =
      all-met (in_some key left) (in_some key (whole front) && list_all (λ b. b) (map (says_of front column p key) items)) (ap (λ (l : List Bound). in_some key left && list_all (λ b. b) (map (says_of front column p key) l)) (sym (gone i items h)) ∙ same)
      ∙ sym (fold-roll-Bound Bool (says_layer front column p key) (And items))
      ∙ ap (says_of front column p key) (rolls-And items ∙ sym is)

  or-end : (key : List ℕ) (some : List Range) (items : List Bound) (i : ℕ) (e : Bound) → e ≡ bound.Or items → length items ≤ i
      → (in_some key some || list_any (λ b. b) (map (says_of front column p key) (drop i items))) ≡ list_any (λ b. b) (map (says_of front column p key) items)
      → in_some key some ≡ says_of front column p key e
  or-end key some items i e is h same =
      all-joined (in_some key some) (list_any (λ b. b) (map (says_of front column p key) items)) (ap (λ (l : List Bound). in_some key some || list_any (λ b. b) (map (says_of front column p key) l)) (sym (gone i items h)) ∙ same)
      ∙ sym (fold-roll-Bound Bool (says_layer front column p key) (Or items))
      ∙ ap (says_of front column p key) (rolls-Or items ∙ sym is)

  pub or-all : {E : Type 0} (result : Result (List Range) E) (some : List Range) (items : List Bound) (i : ℕ) (e : Bound) → e ≡ bound.Or items → length items ≤ i
      → ((key : List ℕ) → (in_some key some || list_any (λ b. b) (map (says_of front column p key) (drop i items))) ≡ list_any (λ b. b) (map (says_of front column p key) items))
      → IfOk result (λ ranges. (key : List ℕ) → in_some key ranges ≡ in_some key some)
      → IfOk result (λ ranges. (key : List ℕ) → in_some key ranges ≡ says_of front column p key e)
  or-all result some items i e is h same r = if-ok result (λ ranges. (key : List ℕ) → in_some key ranges ≡ in_some key some) (λ ranges. (key : List ℕ) → in_some key ranges ≡ says_of front column p key e) (λ ranges so key. so key ∙ or-end key some items i e is h (same key)) r

  pub and-step : (key : List ℕ) (left its more : List Range) (items : List Bound) (i : ℕ) (part : Bound) → i < length items → part ≡ get_or items i part
      → in_some key more ≡ (in_some key left && in_some key its) → in_some key its ≡ says_of front column p key part
      → (in_some key left && list_all (λ b. b) (map (says_of front column p key) (drop i items))) ≡ (in_some key (whole front) && list_all (λ b. b) (map (says_of front column p key) items))
      → (in_some key more && list_all (λ b. b) (map (says_of front column p key) (drop (i + 1) items))) ≡ (in_some key (whole front) && list_all (λ b. b) (map (says_of front column p key) items))
  and-step key left its more items i part h is met so same =
      let next : drop i items ≡ part ∷ drop (i + 1) items = rw add-one (drop-cons items i part h ∙ ap (λ (x : Bound). x ∷ drop (suc i) items) (sym is)) in
      part-met (in_some key more) (in_some key left) (in_some key its) (says_of front column p key part) (list_all (λ b. b) (map (says_of front column p key) (drop (i + 1) items))) (in_some key (whole front) && list_all (λ b. b) (map (says_of front column p key) items)) met so
      (ap (λ (l : List Bound). in_some key left && list_all (λ b. b) (map (says_of front column p key) l)) (sym next) ∙ same)
