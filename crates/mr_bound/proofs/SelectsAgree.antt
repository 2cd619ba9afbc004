-- A bound SELECT gives what the one that was written gives.
use Rattle.std.proofs.Common.{◌≡◌, ℕ, List, [], ◌∷◌, map, filter, Bool, Option, Some, None, Result, Ok, Err, refl, sym, ap, ◌∙◌}
use Rattle.std.proofs.Math.Path.{fun_ext}
use Rattle.std.specs.Prelude.{⊤, if◌then◌else◌}
use Rattle.std.specs.List.{list_any}
use Rattle.std.specs.Option.{option_map_or}
use Rattle.std.specs.Ordering.{ordering_then, ordering_reverse}
use Rattle.std.specs.declared.cmp.Ordering.{Ordering}
use Rattle.mr_types.specs.declared.value.Value.{Value}
use Rattle.mr_types.specs.declared.definition.TableDef.{TableDef}
use Rattle.mr_types.specs.declared.row.Row.{Row}
use Rattle.mr_types.specs.declared.expr.Expr.{Expr}
use Rattle.mr_types.specs.declared.statement.Select.{Select}
use Rattle.mr_types.specs.declared.statement.OrderItem.{OrderItem}
use Rattle.mr_types.specs.declared.statement.Columns.{Columns}
use Rattle.mr_types.specs.declared.statement.Columns.TheVariants.{All, Names, Aggregates}
use Rattle.mr_types.specs.declared.statement.Aggregate.{Aggregate}
use Rattle.mr_types.specs.declared.statement.Aggregate.TheVariants.{Count, Min, Max}
use Rattle.mr_types.specs.Refusals.{◌>>=◌, ◌>>◌, refuse_where}
use Rattle.mr_types.specs.Order.{value_cmp}
use Rattle.mr_spec.specs.Rows.{kind_at, value_at, place_of}
use Rattle.mr_spec.specs.Truth.{where_of, is_true, is_unknown, known_columns, right_literals}
use Rattle.mr_spec.specs.Select.{order_cmp, sorted, limited, shown, selected, select_tests, is_missing_key, has_unknown}
use Rattle.mr_spec.specs.Select as written
use Rattle.mr_spec.proofs.Binds.{truth-bound}
use Rattle.mr_orders.specs.Orders.{selected_of}
use Rattle.mr_bound.specs.declared.bound.BoundSelect.{BoundSelect}
use Rattle.mr_bound.specs.BoundRefusals.{behind_forced, refusal_of}
use Rattle.mr_bound.specs.BoundSelects.{aggregate_at, columns_at, order_at, condition_at, bind_select, keeps, order_by, aggregate_of, shown_at, by_key, selected_at}

-- ---- what is listed and how it is ordered

aggregates_are : (def : TableDef) (kept : List Row) (list : List Aggregate) → map (aggregate_of def kept) (map (aggregate_at def) list) ≡ map (written.aggregate_of def kept) list
aggregates_are def kept [] = refl
aggregates_are def kept (Count ∷ list) = ap (λ (vs : List Value). written.aggregate_of def kept Count ∷ vs) (aggregates_are def kept list)
aggregates_are def kept (Min name ∷ list) = ap (λ (vs : List Value). written.aggregate_of def kept (Min name) ∷ vs) (aggregates_are def kept list)
aggregates_are def kept (Max name ∷ list) = ap (λ (vs : List Value). written.aggregate_of def kept (Max name) ∷ vs) (aggregates_are def kept list)

shown_is : (def : TableDef) (columns : Columns) (kept rows : List Row) → shown_at def (columns_at def columns) kept rows ≡ shown def columns kept rows
shown_is def All kept rows = refl
shown_is def (Names names) kept rows = refl
shown_is def (Aggregates list) kept rows = ap (λ (vs : List Value). vs ∷ []) (aggregates_are def kept list)

order_is : (def : TableDef) (order : List OrderItem) (r s : Row) → order_by def (map (order_at def) order) r s ≡ order_cmp def order r s
order_is def [] r s = refl
order_is def (o ∷ os) r s =
    let found = value_cmp (kind_at def (option_map_or (λ n. n) (place_of def o.column) 0)) (value_at r (option_map_or (λ n. n) (place_of def o.column) 0)) (value_at s (option_map_or (λ n. n) (place_of def o.column) 0)) in
    ap (ordering_then (if o.descending then ordering_reverse found else found)) (order_is def os r s)

orders_are : (def : TableDef) (order : List OrderItem) → order_by def (map (order_at def) order) ≡ order_cmp def order
orders_are def order = fun_ext (λ r. fun_ext (λ s. order_is def order r s))

-- ---- which rows are kept

pub keeps_is : (def : TableDef) (c : Option Expr) (row : Row) → keeps def (condition_at def c) row ≡ (where_of c).keeps def row
keeps_is def None row = refl
keeps_is def (Some e) row = ap is_true (sym (truth-bound def row e))

-- ---- the whole

-- the bound statement, where nothing is refused
abbrev select_at : TableDef → Select → BoundSelect
select_at def s = record { columns = columns_at def s.columns; condition = condition_at def s.condition; order = map (order_at def) s.order; skip = s.skip; most = s.most }

selected_is : (def : TableDef) (s : Select) (rows : List Row) → selected_at def (select_at def s) rows ≡ selected_of def s (where_of s.condition) rows
selected_is def s rows =
    let keep : keeps def (condition_at def s.condition) ≡ (where_of s.condition).keeps def = fun_ext (keeps_is def s.condition) in
    let kept : List Row = filter ((where_of s.condition).keeps def) (by_key def rows) in
    ap (λ (p : Row → Bool). shown_at def (columns_at def s.columns) (filter p (by_key def rows)) (limited s.skip s.most (sorted (order_by def (map (order_at def) s.order)) (filter p (by_key def rows))))) keep
    ∙ (ap (λ (cmp : Row → Row → Ordering). shown_at def (columns_at def s.columns) kept (limited s.skip s.most (sorted cmp kept))) (orders_are def s.order)
    ∙ shown_is def s.columns kept (limited s.skip s.most (sorted (order_cmp def s.order) kept)))

-- what four tests and a value give, where it is an answer
answer_is : {A B : Type 0} (q r t u : Result ⊤ ℕ) (x : A) (f : A → B) (b : B) → (q >> (r >> (t >> ((u >> Ok x) >>= (λ y. Ok (f y)))))) ≡ Ok b → f x ≡ b
answer_is (Ok _) (Ok _) (Ok _) (Ok _) x f b e = cc
answer_is (Ok _) (Ok _) (Ok _) (Err k) x f b e = absurd cc
answer_is (Ok _) (Ok _) (Err k) u x f b e = absurd cc
answer_is (Ok _) (Err k) t u x f b e = absurd cc
answer_is (Err k) r t u x f b e = absurd cc

bound_is : (def : TableDef) (s : Select) (b : BoundSelect) → bind_select def s ≡ Ok b → select_at def s ≡ b
bound_is def s b e =
    answer_is (refuse_where 1054 (has_unknown def s.columns)) (known_columns def (where_of s.condition)) (refuse_where 1054 (list_any (λ o. is_unknown def o.column) s.order)) (right_literals def (where_of s.condition)) (condition_at def s.condition)
    (λ condition. record { columns = columns_at def s.columns; condition = condition; order = map (order_at def) s.order; skip = s.skip; most = s.most }) b e

pub selections_agree : (def : TableDef) (s : Select) (b : BoundSelect) (rows : List Row) → bind_select def s ≡ Ok b → selected_at def b rows ≡ selected_of def s (where_of s.condition) rows
selections_agree def s b rows e = ap (λ (bound : BoundSelect). selected_at def bound rows) (sym (bound_is def s b e)) ∙ selected_is def s rows

-- ---- the refusals

-- four tests, of which the fourth comes before a value
tests_are : {A B : Type 0} (q r t u : Result ⊤ ℕ) (x : A) (f : A → B) → (q >> (r >> (t >> u))) ≡ ((q >> (r >> (t >> ((u >> Ok x) >>= (λ y. Ok (f y)))))) >> Ok tt)
tests_are (Ok _) (Ok _) (Ok _) (Ok _) x f = refl
tests_are (Ok _) (Ok _) (Ok _) (Err k) x f = refl
tests_are (Ok _) (Ok _) (Err k) u x f = refl
tests_are (Ok _) (Err k) t u x f = refl
tests_are (Err k) r t u x f = refl

pub refusals_agree : (def : TableDef) (s : Select) → select_tests def s (where_of s.condition) ≡ behind_forced def s (refusal_of (bind_select def s))
refusals_agree def s =
    ap (behind_forced def s)
    (tests_are (refuse_where 1054 (has_unknown def s.columns)) (known_columns def (where_of s.condition)) (refuse_where 1054 (list_any (λ o. is_unknown def o.column) s.order)) (right_literals def (where_of s.condition)) (condition_at def s.condition)
    (λ condition. record { columns = columns_at def s.columns; condition = condition; order = map (order_at def) s.order; skip = s.skip; most = s.most }))
