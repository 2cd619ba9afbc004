-- INSERT, REPLACE, and the assignments of UPDATE are read.
use Rattle.std.proofs.Common.{◌≡◌, ℕ, zero, suc, pos, negsuc, ◌+◌, ◌≤◌, List, [], ◌∷◌, ◌++◌, length, Bool, true, false, true≢false, not, ◌&&◌, Option, Some, None, codes, arith, refl, sym, subst, append_assoc}
use Rattle.std.specs.List.{list_all}
use Rattle.mr_lex.specs.Reading.{Lexeme}
use Rattle.mr_types.specs.Grammatical.{is_name, is_item, is_insert, is_factor, is_term, is_set_to, is_set, some_all, where_given}
use Rattle.mr_types.specs.declared.value.Value.{Value}
use Rattle.mr_types.specs.declared.value.Value.TheVariants as values
use Rattle.mr_types.specs.declared.statement.ItemValue.{ItemValue}
use Rattle.mr_types.specs.declared.statement.ItemValue.TheVariants as items
use Rattle.mr_types.specs.declared.statement.Factor.{Factor}
use Rattle.mr_types.specs.declared.statement.Factor.TheVariants as factors
use Rattle.mr_types.specs.declared.statement.Term.{Term}
use Rattle.mr_types.specs.declared.statement.SetTo.{SetTo}
use Rattle.mr_types.specs.declared.statement.SetTo.TheVariants as sets
use Rattle.mr_types.specs.declared.statement.SetItem.{SetItem}
use Rattle.mr_types.specs.declared.statement.Insert.{Insert}
use Rattle.mr_spec.specs.Phrases.{sees_sign, begins_name, eat_sign, listed}
use Rattle.mr_spec.specs.RowPhrases.{item_value, tuple, column_names, values_word, insert, factor, product, plus_or_minus, sum_from, sum, set_to, set_item}
use Rattle.mr_spelling.specs.Parts.{Part, Keyword, Mark, Spell}
use Rattle.mr_spelling.specs.Spelling.{spelled_list, spelled_if, spelled_names, spelled_literal}
use Rattle.mr_spelling.specs.Rows.{spelled_item, spelled_tuple, spelled_insert, spelled_factor, spelled_product, sign_of, spelled_sum, spelled_to, spelled_set, is_plain_first, is_plain_to}
use Rattle.mr_spelling.proofs.Reading.{Reads, go, done, lacks, lacks_sign, yes, no, yes_sign, no_sign, want_sign, named, looks, looks_past, maybe_yes, name-begins, nameless-begins, is_nameless, unseen-sign, seen-sign, yes_sign_last, no_sign_last, with_turns}
use Rattle.mr_spelling.proofs.Lists.{IsItem, Each, Some_each, any_rest, each-of, some_each-of, first_of_both, second_of_both, listed-reads, list-grows, separated-reads, in_parentheses-reads, names_in-reads}
use Rattle.mr_spelling.proofs.Literals.{literal-reads, literal-item}

-- ---- INSERT and REPLACE

no-default : (v : Value) (more : List Part) → lacks (codes "default") (spelled_literal v more) ≡ true
no-default values.Null more = refl
no-default (values.Number (pos n)) more = refl
no-default (values.Number (negsuc n)) more = refl
no-default (values.Text x) more = refl
no-default (values.Bytes x) more = refl

item-reads : (i : ItemValue) (more : List Part) → is_item i ≡ true → Reads item_value (spelled_item i more) i more
unfolding item_value
item-reads items.Default more h = yes _ done
item-reads (items.Literal v) more h = no _ _ (no-default v more) (go _ (literal-reads v more h) done)

item-grows : (i : ItemValue) (more : List Part) → is_item i ≡ true → suc (length more) ≤ length (spelled_item i more)
item-grows items.Default more h = omega arith
item-grows (items.Literal v) more h = (literal-item v h).grows more

item-item : (i : ItemValue) → is_item i ≡ true → IsItem item_value spelled_item any_rest i
item-item i h = record { grows = λ more. item-grows i more h; reads = λ more c. item-reads i more h }

all-items : (xs : List ItemValue) → some_all is_item xs ≡ true → Some_each (IsItem item_value spelled_item any_rest) xs
all-items xs h = some_each-of (IsItem item_value spelled_item any_rest) is_item item-item xs h

each-item : (xs : List ItemValue) → some_all is_item xs ≡ true → Each (IsItem item_value spelled_item any_rest) xs
each-item [] h = tt
each-item (x ∷ xs) h = each-of (IsItem item_value spelled_item any_rest) is_item item-item (x ∷ xs) h

tuple-item : (xs : List ItemValue) → some_all is_item xs ≡ true → IsItem tuple spelled_tuple any_rest xs
tuple-item xs h = record {
  grows = λ more. omega (arith, list-grows (Mark (codes ",")) (eat_sign (codes ",")) item_value spelled_item any_rest xs (Mark (codes ")") ∷ more) (each-item xs h));
  reads = λ more c. in_parentheses-reads (listed-reads item_value spelled_item any_rest xs (Mark (codes ")") ∷ more) (λ all. refl) (all-items xs h) refl refl);
}

opens : (ts : List Lexeme) (all : List Part) → Spell ts (Mark (codes "(") ∷ all) → sees_sign (codes "(") ts ≡ true
opens [] all s = absurd s
opens (t ∷ ts) all s = seen-sign (codes "(") t ts s.0

column_names-read : (o : Option (List (List ℕ))) (more : List Part) → where_given (some_all is_name) o ≡ true → Reads column_names (spelled_if spelled_names o (Keyword (codes "values") ∷ more)) o (Keyword (codes "values") ∷ more)
unfolding column_names
column_names-read None more h = looks_past _ _ (λ ts s. unseen-sign (codes "(") ts (Keyword (codes "values") ∷ more) s refl) done
column_names-read (Some ns) more h = looks _ _ (λ ts s. opens ts _ s) (go _ (names_in-reads is_name ns _ h) done)

values-read : (more : List Part) → Reads values_word (Keyword (codes "values") ∷ more) tt more
unfolding values_word
values-read more = yes _ done

pub insert-reads : (i : Insert) → is_insert i ≡ true → Reads insert (spelled_insert i) i []
unfolding insert
insert-reads i h =
    let h1 = second_of_both (is_name i.table) (where_given (some_all is_name) i.columns && some_all (some_all is_item) i.rows) h in
    let columns = first_of_both (where_given (some_all is_name) i.columns) (some_all (some_all is_item) i.rows) h1 in
    let rows = second_of_both (where_given (some_all is_name) i.columns) (some_all (some_all is_item) i.rows) h1 in
    go _ maybe_yes (named _ (go _ (column_names-read i.columns _ columns) (go _ (values-read _)
    (go _ (listed-reads tuple spelled_tuple any_rest i.rows [] (λ all. refl) (some_each-of (IsItem tuple spelled_tuple any_rest) (some_all is_item) tuple-item i.rows rows) refl refl) done))))

-- ---- sums

literal-nameless : (v : Value) (more : List Part) → is_nameless (spelled_literal v more) ≡ true
literal-nameless values.Null more = refl
literal-nameless (values.Number (pos n)) more = refl
literal-nameless (values.Number (negsuc n)) more = refl
literal-nameless (values.Text x) more = refl
literal-nameless (values.Bytes x) more = refl

factor-reads : (f : Factor) (more : List Part) → is_factor f ≡ true → Reads factor (spelled_factor f more) f more
unfolding factor
factor-reads (factors.Column n) more h = looks _ begins_name (λ ts s. name-begins n more ts s) (named _ done)
factor-reads (factors.Literal v) more h = looks_past _ begins_name (λ ts s. nameless-begins (spelled_literal v more) ts s (literal-nameless v more)) (go _ (literal-reads v more h) done)

factor-grows : (f : Factor) (more : List Part) → is_factor f ≡ true → suc (length more) ≤ length (spelled_factor f more)
factor-grows (factors.Column n) more h = omega arith
factor-grows (factors.Literal v) more h = (literal-item v h).grows more

factor-item : (f : Factor) → is_factor f ≡ true → IsItem factor spelled_factor any_rest f
factor-item f h = record { grows = λ more. factor-grows f more h; reads = λ more c. factor-reads f more h }

product-reads : (fs : List Factor) (more : List Part) → some_all is_factor fs ≡ true → lacks_sign (codes "*") more ≡ true → Reads product (spelled_product fs more) fs more
product-reads fs more h l = separated-reads (Mark (codes "*")) (eat_sign (codes "*")) factor spelled_factor any_rest (λ all. yes_sign_last) (λ all. refl) fs more
    (some_each-of (IsItem factor spelled_factor any_rest) is_factor factor-item fs h) (no_sign_last (codes "*") l) refl

each-factor : (fs : List Factor) → some_all is_factor fs ≡ true → Each (IsItem factor spelled_factor any_rest) fs
each-factor [] h = tt
each-factor (f ∷ fs) h = each-of (IsItem factor spelled_factor any_rest) is_factor factor-item (f ∷ fs) h

product-grows : (fs : List Factor) (more : List Part) → some_all is_factor fs ≡ true → suc (length more) ≤ length (spelled_product fs more)
product-grows [] more h = absurd (true≢false (sym h))
product-grows (f ∷ fs) more h = omega (arith, list-grows (Mark (codes "*")) (eat_sign (codes "*")) factor spelled_factor any_rest (f ∷ fs) more (each-factor (f ∷ fs) h))

sign-reads : (minus : Bool) (more : List Part) → Reads plus_or_minus (Mark (sign_of minus) ∷ more) (Some minus) more
unfolding plus_or_minus
sign-reads true more = no_sign _ _ refl (yes_sign _ done)
sign-reads false more = yes_sign _ done

no-sign-reads : (more : List Part) → lacks_sign (codes "+") more ≡ true → lacks_sign (codes "-") more ≡ true → Reads plus_or_minus more None more
unfolding plus_or_minus
no-sign-reads more h k = no_sign _ _ h (no_sign _ _ k done)

no-star : (minus : Bool) (more : List Part) → lacks_sign (codes "*") (Mark (sign_of minus) ∷ more) ≡ true
no-star true more = refl
no-star false more = refl

-- nothing stands here that a sum would go on with
pub record EndsSum (more : List Part) : Type 0 where
  pub star : lacks_sign (codes "*") more ≡ true
  pub plus : lacks_sign (codes "+") more ≡ true
  pub minus : lacks_sign (codes "-") more ≡ true

sum-from : (n : ℕ) (found : List Term) (t : Term) (us : List Term) (more : List Part) → length (t ∷ us) ≤ n → list_all is_term (t ∷ us) ≡ true → EndsSum more
    → Reads (sum_from n t.minus found) (spelled_sum (t ∷ us) more) (found ++ t ∷ us) more
unfolding sum_from
sum-from zero found t us more le h ends = absurd (omega arith)
sum-from (suc n) found t [] more le h ends = go _ (product-reads t.factors more (first_of_both (is_term t) true h) ends.star) (go _ (no-sign-reads more ends.plus ends.minus) done)
sum-from (suc n) found t (u ∷ us) more le h ends =
    go _ (product-reads t.factors _ (first_of_both (is_term t) (list_all is_term (u ∷ us)) h) (no-star u.minus (spelled_sum (u ∷ us) more))) (go _ (sign-reads u.minus _)
    (subst (λ (zs : List Term). Reads (sum_from n u.minus (found ++ t ∷ [])) (spelled_sum (u ∷ us) more) zs more) (append_assoc found (t ∷ []) (u ∷ us))
    (sum-from n (found ++ t ∷ []) u us more (omega (arith, le)) (second_of_both (is_term t) (list_all is_term (u ∷ us)) h) ends)))

sum-grows : (ts : List Term) (more : List Part) → list_all is_term ts ≡ true → length ts + length more ≤ length (spelled_sum ts more)
sum-grows [] more h = omega arith
sum-grows (t ∷ []) more h = omega (arith, product-grows t.factors more (first_of_both (is_term t) true h))
sum-grows (t ∷ u ∷ us) more h =
    omega (
      arith,
      product-grows t.factors (Mark (sign_of u.minus) ∷ spelled_sum (u ∷ us) more) (first_of_both (is_term t) (list_all is_term (u ∷ us)) h),
      sum-grows (u ∷ us) more (second_of_both (is_term t) (list_all is_term (u ∷ us)) h),
    )

not-minus : (b : Bool) → not b ≡ true → b ≡ false
not-minus true e = sym e
not-minus false e = refl

sum-reads : (ts : List Term) (more : List Part) → some_all is_term ts ≡ true → is_plain_first ts ≡ true → EndsSum more → Reads sum (spelled_sum ts more) ts more
sum-reads [] more h f ends = absurd (true≢false (sym h))
sum-reads (t ∷ us) more h f ends = with_turns (λ n. sum_from n false [])
    (λ n le. subst (λ b. Reads (sum_from n b []) (spelled_sum (t ∷ us) more) (t ∷ us) more) (not-minus t.minus f) (sum-from n [] t us more (omega (arith, le, sum-grows (t ∷ us) more h)) h ends))

-- ---- assignments

no-default-factor : (f : Factor) (more : List Part) → lacks (codes "default") (spelled_factor f more) ≡ true
no-default-factor (factors.Column n) more = refl
no-default-factor (factors.Literal v) more = no-default v more

no-default-product : (fs : List Factor) (more : List Part) → some_all is_factor fs ≡ true → lacks (codes "default") (spelled_product fs more) ≡ true
no-default-product [] more h = absurd (true≢false (sym h))
no-default-product (f ∷ []) more h = no-default-factor f more
no-default-product (f ∷ g ∷ fs) more h = no-default-factor f (Mark (codes "*") ∷ spelled_product (g ∷ fs) more)

no-default-sum : (ts : List Term) (more : List Part) → some_all is_term ts ≡ true → lacks (codes "default") (spelled_sum ts more) ≡ true
no-default-sum [] more h = absurd (true≢false (sym h))
no-default-sum (t ∷ []) more h = no-default-product t.factors more (first_of_both (is_term t) true h)
no-default-sum (t ∷ u ∷ us) more h = no-default-product t.factors _ (first_of_both (is_term t) (list_all is_term (u ∷ us)) h)

to-reads : (to : SetTo) (more : List Part) → is_set_to to ≡ true → is_plain_to to ≡ true → EndsSum more → Reads set_to (spelled_to to more) to more
unfolding set_to
to-reads sets.Default more h f ends = yes _ done
to-reads (sets.Sum terms) more h f ends = no _ _ (no-default-sum terms more h) (go _ (sum-reads terms more h f ends) done)

to-grows : (to : SetTo) (more : List Part) → is_set_to to ≡ true → length more ≤ length (spelled_to to more)
to-grows sets.Default more h = omega arith
to-grows (sets.Sum []) more h = omega arith
to-grows (sets.Sum (t ∷ ts)) more h = omega (arith, sum-grows (t ∷ ts) more h)

-- an assignment that can be spelled
abbrev pub is_set_spelled : SetItem → Bool
is_set_spelled s = is_set s && is_plain_to s.to

-- what may stand behind an assignment
abbrev pub ends_set : List Part → Bool
ends_set more = lacks_sign (codes "*") more && (lacks_sign (codes "+") more && lacks_sign (codes "-") more)

ends-of : (more : List Part) → ends_set more ≡ true → EndsSum more
ends-of more h =
    let h1 = second_of_both (lacks_sign (codes "*") more) (lacks_sign (codes "+") more && lacks_sign (codes "-") more) h in
    record {
      star = first_of_both (lacks_sign (codes "*") more) (lacks_sign (codes "+") more && lacks_sign (codes "-") more) h;
      plus = first_of_both (lacks_sign (codes "+") more) (lacks_sign (codes "-") more) h1;
      minus = second_of_both (lacks_sign (codes "+") more) (lacks_sign (codes "-") more) h1;
    }

set-item : (s : SetItem) → is_set_spelled s ≡ true → IsItem set_item spelled_set ends_set s
unfolding set_item
set-item s h =
    let to = second_of_both (is_name s.column) (is_set_to s.to) (first_of_both (is_set s) (is_plain_to s.to) h) in
    record {
      grows = λ more. omega (arith, to-grows s.to more to);
      reads = λ more c. named _ (want_sign _ (go _ (to-reads s.to more to (second_of_both (is_set s) (is_plain_to s.to) h) (ends-of more c)) done));
    }

pub sets-read : (xs : List SetItem) (more : List Part) → some_all is_set_spelled xs ≡ true → lacks_sign (codes ",") more ≡ true → ends_set more ≡ true → Reads (listed set_item) (spelled_list spelled_set xs more) xs more
sets-read xs more h l c = listed-reads set_item spelled_set ends_set xs more (λ all. refl) (some_each-of (IsItem set_item spelled_set ends_set) is_set_spelled set-item xs h) l c
