-- SELECT fits.
use Rattle.std.proofs.Common.{◌≡◌, ℕ, ◌-◌, ◌^◌, List, [], ◌∷◌, true, false, true≢false, Bool, ◌&&◌, ◌||◌, length, arith, refl, sym, Option, Some, None, is_none, if◌then◌else◌, ◌==◌}
use Rattle.std.specs.List.{list_all}
use Rattle.mr_types.specs.Grammatical.{is_name, is_aggregate, is_list, is_index_name, is_ordered_well, is_select, is_condition, is_empty, some_all, where_given}
use Rattle.mr_types.specs.Nesting.{is_shallow}
use Rattle.mr_types.specs.Sizes.{aggregate_size, columns_size, index_size, select_size, if_given, summed}
use Rattle.mr_types.specs.declared.expr.Expr.{Expr}
use Rattle.mr_types.specs.declared.statement.Aggregate.TheVariants as aggregates
use Rattle.mr_types.specs.declared.statement.Columns.{Columns}
use Rattle.mr_types.specs.declared.statement.Columns.TheVariants as columns
use Rattle.mr_types.specs.declared.statement.OrderItem.{OrderItem}
use Rattle.mr_types.specs.declared.statement.IndexName.{IndexName}
use Rattle.mr_types.specs.declared.statement.IndexName.TheVariants as indexes
use Rattle.mr_types.specs.declared.statement.Select.{Select}
use Rattle.mr_spec.specs.declared.drafts.Limit.{Limit}
use Rattle.mr_spec.specs.SelectPhrase.{begins_aggregate, aggregate, select_list, index_name, forced_index, descending, order_item, order, limited, row_count, limit_numbers, limit, may_be_ordered, select}
use Rattle.mr_spec.proofs.Fitting.{From, bind, given, eaten, eaten_sign, expected, checked, listed-fits, keyword_mark, in_parentheses-fits, by_sight, wide, as_well, both, first_holds, second_holds, always, nothing, last_sign}
use Rattle.mr_spec.proofs.FitTokens.{name-fits, number-fits}
use Rattle.mr_spec.proofs.FitConditions.{condition-fits}
use Rattle.mr_spec.proofs.FitNesting.{condition-nests}

aggregate-fits : From is_aggregate aggregate_size 0 aggregate
unfolding aggregate
aggregate-fits = eaten _ (bind (in_parentheses-fits _ _ (last_sign _)) (λ u t. given aggregates.Count refl (omega arith)))
    (eaten _ (bind (in_parentheses-fits _ _ name-fits) (λ n e. given (aggregates.Min n) e (omega arith)))
    (expected _ _ (bind (in_parentheses-fits _ _ name-fits) (λ n e. given (aggregates.Max n) e (omega arith)))))

select_list-fits : From is_list columns_size 0 select_list
unfolding select_list
select_list-fits = eaten_sign _ (given columns.All refl (omega arith))
    (by_sight begins_aggregate (bind (listed-fits _ _ aggregate-fits) (λ xs e. given (columns.Aggregates xs) e (omega arith))) (bind (listed-fits _ _ name-fits) (λ xs e. given (columns.Names xs) e (omega arith))))

index_name-fits : From is_index_name index_size 0 index_name
unfolding index_name
index_name-fits = eaten _ (given indexes.Primary refl (omega arith)) (bind name-fits (λ n e. given (indexes.Name n) e (omega arith)))

forced_index-fits : From (where_given is_index_name) (if_given index_size) 0 forced_index
unfolding forced_index
forced_index-fits = eaten _ (expected _ _ (bind (in_parentheses-fits _ _ index_name-fits) (λ x e. given (Some x) e (omega arith)))) (given None refl (omega arith))

descending-fits : From always nothing 0 descending
unfolding descending
descending-fits = eaten _ (given false refl (omega arith)) (keyword_mark _)

abbrev is_order : OrderItem → Bool
is_order o = is_name o.column

abbrev order_size : OrderItem → ℕ
order_size o = length o.column

order_item-fits : From is_order order_size 0 order_item
unfolding order_item
order_item-fits = bind name-fits (λ column e. bind descending-fits (λ falls t. given (record { column = column; descending = falls }) e (omega arith)))

all_some : (xs : List OrderItem) → some_all is_order xs ≡ true → list_all is_order xs ≡ true
all_some [] h = refl
all_some (x ∷ xs) h = h

order-fits : From (list_all is_order) (summed order_size) 0 order
unfolding order
order-fits = eaten _ (expected _ _ (wide (omega arith) (as_well all_some (λ xs. omega arith) (listed-fits _ _ order_item-fits)))) (given [] refl (omega arith))

row_count-fits : From always nothing 0 row_count
row_count-fits = as_well (λ n e. refl) (λ n. omega arith) (number-fits 0 (2 ^ 64 - 1))

-- without a number of rows none is left out
abbrev is_limit : Limit → Bool
is_limit l = if is_none l.most then l.skip == 0 else true

limit_numbers-fits : From is_limit nothing 0 limit_numbers
unfolding limit_numbers
limit_numbers-fits = bind row_count-fits (λ first t. eaten _ (bind row_count-fits (λ skip u. given (limited skip first) refl (omega arith)))
    (eaten_sign _ (bind row_count-fits (λ most u. given (limited first most) refl (omega arith))) (given (limited 0 first) refl (omega arith))))

limit-fits : From is_limit nothing 0 limit
unfolding limit
limit-fits = eaten _ (wide (omega arith) limit_numbers-fits) (given (record { skip = 0; most = None }) refl (omega arith))

then_holds : (b c : Bool) → (if b then c else true) ≡ true → b ≡ true → c ≡ true
then_holds true c h e = h
then_holds false c h e = absurd (true≢false (sym e))

abbrev select_of : Columns → List ℕ → Option IndexName → Option Expr → List OrderItem → Limit → Select
select_of list table forced test rows count = record { columns = list; table = table; forced = forced; condition = test; order = rows; skip = count.skip; most = count.most }

ordered_well : (list : Columns) (table : List ℕ) (forced : Option IndexName) (test : Option Expr) (rows : List OrderItem) (count : Limit) → list_all is_order rows ≡ true → is_limit count ≡ true
    → (may_be_ordered list || (is_empty rows && is_none count.most)) ≡ true → is_ordered_well list (select_of list table forced test rows count) ≡ true
ordered_well columns.All table forced test rows count h l e = h
ordered_well (columns.Names xs) table forced test rows count h l e = h
ordered_well (columns.Aggregates xs) table forced test rows count h l e =
    let n = second_holds (is_empty rows) (is_none count.most) e in
    both (first_holds (is_empty rows) (is_none count.most) e) (both n (then_holds (is_none count.most) (count.skip == 0) l n))

-- in order, and its condition nests little
abbrev pub is_select_within : Select → Bool
is_select_within s = is_shallow s.condition && is_select s

pub select-fits : From is_select_within select_size 0 select
unfolding select
select-fits = bind select_list-fits (λ list a. expected _ _ (bind name-fits (λ table b. bind forced_index-fits (λ forced c. bind (condition-nests condition-fits) (λ test d. bind order-fits (λ rows f. bind limit-fits (λ count g.
    checked _ _ (λ e. given (select_of list table forced test rows count) (both (first_holds (is_shallow test) (where_given is_condition test) d) (both a (both b (both c (both (second_holds (is_shallow test) (where_given is_condition test) d) (ordered_well list table forced test rows count f g e)))))) (omega arith)))))))))
