-- INSERT, UPDATE and DELETE fit.
use Rattle.std.proofs.Common.{◌≡◌, ℕ, zero, suc, ◌+◌, ◌≤◌, List, [], ◌∷◌, ◌++◌, true, false, Bool, ◌&&◌, length, arith, refl, Option, Some, None}
use Rattle.std.specs.List.{list_all}
use Rattle.mr_types.specs.Grammatical.{is_name, is_item, is_insert, is_factor, is_term, is_set_to, is_set, is_grammatical, is_condition, some_all, where_given}
use Rattle.mr_types.specs.Nesting.{is_shallow}
use Rattle.mr_types.specs.declared.expr.Expr.{Expr}
use Rattle.mr_types.specs.Sizes.{item_size, insert_size, names_size, factor_size, term_size, set_to_size, set_size, statement_size, if_given, summed}
use Rattle.mr_types.specs.declared.statement.ItemValue.TheVariants as items
use Rattle.mr_types.specs.declared.statement.Factor.TheVariants as factors
use Rattle.mr_types.specs.declared.statement.Term.{Term}
use Rattle.mr_types.specs.declared.statement.SetTo.TheVariants as sets
use Rattle.mr_types.specs.declared.statement.Statement.TheVariants as statements
use Rattle.mr_spec.specs.Phrases.{Phrase, names_in, go_on}
use Rattle.mr_spec.specs.RowPhrases.{item_value, column_names, values_word, tuple, insert, factor, product, term, plus_or_minus, sum_from, sum, set_to, set_item, update, delete}
use Rattle.mr_spec.proofs.Fitting.{From, bind, given, none, eaten, eaten_sign, maybe-fits, expected, expected_sign, listed-fits, separated-fits, sign_mark, in_parentheses-fits, by_sight, last_keyword, both, first_holds, second_holds, always, nothing, all-more, some-more, size-more}
use Rattle.mr_spec.proofs.FitTokens.{name-fits, literal-fits}
use Rattle.mr_spec.proofs.FitConditions.{condition-fits}
use Rattle.mr_spec.proofs.FitNesting.{condition-nests}

pub names_in-fits : From (some_all is_name) names_size 0 names_in
names_in-fits = in_parentheses-fits _ _ (listed-fits _ _ name-fits)

item_value-fits : From is_item item_size 0 item_value
unfolding item_value
item_value-fits = eaten _ (given items.Default refl (omega arith)) (bind literal-fits (λ v e. given (items.Literal v) e (omega arith)))

tuple-fits : From (some_all is_item) (summed item_size) 0 tuple
tuple-fits = in_parentheses-fits _ _ (listed-fits _ _ item_value-fits)

column_names-fits : From (where_given (some_all is_name)) (if_given names_size) 0 column_names
unfolding column_names
column_names-fits = by_sight _ (bind names_in-fits (λ x e. given (Some x) e (omega arith))) (given None refl (omega arith))

values_word-fits : From always nothing 0 values_word
unfolding values_word
values_word-fits = eaten _ (given tt refl (omega arith)) (last_keyword _)

pub insert-fits : From is_insert insert_size 0 insert
unfolding insert
insert-fits = bind (maybe-fits _) (λ into t. bind name-fits (λ table a. bind column_names-fits (λ columns b. bind values_word-fits (λ u v. bind (listed-fits _ _ tuple-fits) (λ rows c.
    given (record { table = table; columns = columns; rows = rows }) (both a (both b c)) (omega arith))))))

factor-fits : From is_factor factor_size 0 factor
unfolding factor
factor-fits = by_sight _ (bind name-fits (λ n e. given (factors.Column n) e (omega arith))) (bind literal-fits (λ v e. given (factors.Literal v) e (omega arith)))

product-fits : From (some_all is_factor) (summed factor_size) 0 product
product-fits = separated-fits _ _ (sign_mark _) factor-fits

plus_or_minus-fits : From always nothing 0 plus_or_minus
unfolding plus_or_minus
plus_or_minus-fits = eaten_sign _ (given (Some false) refl (omega arith)) (eaten_sign _ (given (Some true) refl (omega arith)) (given None refl (omega arith)))

going : {A B : Type 0} {ok : B → Bool} {size : B → ℕ} {before : ℕ} {f : A → Phrase B} {last : Phrase B} (o : Option A) → ((a : A) → From ok size before (f a)) → From ok size before last → From ok size before (go_on o f last)
going (Some a) g h = g a
going None g h = h

sum_from-fits : (n : ℕ) (minus : Bool) (found : List Term) (before : ℕ) → list_all is_term found ≡ true → summed term_size found ≤ before → From (some_all is_term) (summed term_size) before (sum_from n minus found)
unfolding sum_from
sum_from-fits zero minus found before h le = none
sum_from-fits (suc n) minus found before h le = bind product-fits (λ factors e. bind plus_or_minus-fits (λ sign t. going sign
    (λ next. sum_from-fits n next (found ++ term minus factors ∷ []) ((before + summed factor_size factors) + 0) (all-more is_term term_size found (term minus factors) h e) (omega (arith, size-more is_term term_size found (term minus factors), le)))
    (given (found ++ term minus factors ∷ []) (some-more is_term term_size found (term minus factors) h e) (omega (arith, size-more is_term term_size found (term minus factors), le)))))

sum-fits : From (some_all is_term) (summed term_size) 0 sum
sum-fits = record { good = λ ts h. (sum_from-fits (length ts) false [] 0 refl (omega arith)).good ts h }

set_to-fits : From is_set_to set_to_size 0 set_to
unfolding set_to
set_to-fits = eaten _ (given sets.Default refl (omega arith)) (bind sum-fits (λ terms e. given (sets.Sum terms) e (omega arith)))

set_item-fits : From is_set set_size 0 set_item
unfolding set_item
set_item-fits = bind name-fits (λ column a. expected_sign _ _ (bind set_to-fits (λ to b. given (record { column = column; to = to }) (both a b) (omega arith))))

shallow : (test : Option Expr) → (is_shallow test && where_given is_condition test) ≡ true → is_shallow test ≡ true
shallow test h = first_holds (is_shallow test) (where_given is_condition test) h

pub update-fits : From is_grammatical statement_size 0 update
unfolding update
update-fits = bind name-fits (λ table a. expected _ _ (bind (listed-fits _ _ set_item-fits) (λ set b. bind (condition-nests condition-fits) (λ test c. given (statements.Update table set test) (both (shallow test c) (both a (both b (second_holds (is_shallow test) (where_given is_condition test) c)))) (omega arith)))))

pub delete-fits : From is_grammatical statement_size 0 delete
unfolding delete
delete-fits = expected _ _ (bind name-fits (λ table a. bind (condition-nests condition-fits) (λ test b. given (statements.Delete table test) (both (shallow test b) (both a (second_holds (is_shallow test) (where_given is_condition test) b))) (omega arith))))
